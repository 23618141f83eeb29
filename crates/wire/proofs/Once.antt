-- Two results that satisfy a contract are equal.
use Rattle.std.proofs.Common.{◌≡◌, ℕ, Option}
use Rattle.laws.proofs.Tests.{once}
use Rattle.wire.specs.Causes.{reason_of, cause_of}

-- An octet has one reason, and a reason one octet.
pub reason_once : (octet : ℕ) (a b : Option ℕ) → a ≡ reason_of octet → b ≡ reason_of octet → a ≡ b
reason_once octet a b = once (reason_of octet) a b

pub cause_once : (reason : ℕ) (a b : Option ℕ) → a ≡ cause_of reason → b ≡ cause_of reason → a ≡ b
cause_once reason a b = once (cause_of reason) a b
