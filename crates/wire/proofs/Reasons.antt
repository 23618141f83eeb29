-- Every Cause has a reason of its own, and every reason that has a Cause one of its own.
use Rattle.std.proofs.Common.{◌≡◌, ℕ, ◌<◌, Bool, true, false, ◌&&◌, Option, Some, None, length, refl, ap, eqb, ltb}
use Rattle.std.specs.Option.{option_map_or}
use borrow.Author.Tests.{eqb-true, ltb-true}
use Rattle.laws.proofs.Tests.{both_true, every, below, below_at, clash}
use Rattle.wire.specs.Causes.{causes, octet_of, reason_in, reason_of, cause_of}

-- whether it is this number
abbrev gives : ℕ → Option ℕ → Bool
gives n o = option_map_or (λ m. eqb m n) o false

given : (n : ℕ) (o : Option ℕ) → gives n o ≡ true → o ≡ Some n
given n None t = clash (cc t)
given n (Some m) t = ap Some (eqb-true m n t)

-- the table is one to one: an octet's reason has that octet, and a reason's octet that reason; both are bytes
abbrev there : ℕ → Bool
there n = option_map_or (λ reason. gives n (cause_of reason) && ltb reason 256) (reason_of n) true

abbrev back : ℕ → Bool
back n = option_map_or (λ octet. gives n (reason_of octet) && ltb octet 256) (cause_of n) true

abbrev one_to_one : ℕ → Bool
one_to_one n = there n && back n

each_byte : below 256 one_to_one ≡ true
unfolding reason_of cause_of
each_byte = refl

module _ (n : ℕ) (byte : n < 256) where
  parts : (there n ≡ true) × (back n ≡ true)
  parts = both_true (there n) (back n) (below_at 256 one_to_one n each_byte byte)

  module _ (reason : ℕ) (is : reason_of n ≡ Some reason) where
    found : (gives n (cause_of reason) ≡ true) × (ltb reason 256 ≡ true)
    found = both_true (gives n (cause_of reason)) (ltb reason 256) (rw is at parts.0)

    -- A Cause is the one of its reason.
    pub cause_back : cause_of reason ≡ Some n
    cause_back = given n (cause_of reason) found.0

    pub reason_byte : reason < 256
    reason_byte = ltb-true reason 256 found.1

  module _ (octet : ℕ) (is : cause_of n ≡ Some octet) where
    told : (gives n (reason_of octet) ≡ true) × (ltb octet 256 ≡ true)
    told = both_true (gives n (reason_of octet)) (ltb octet 256) (rw is at parts.1)

    -- A reason that has a Cause is that Cause's.
    pub reason_back : reason_of octet ≡ Some n
    reason_back = given n (reason_of octet) told.0

    pub cause_byte : octet < 256
    cause_byte = ltb-true octet 256 told.1

-- Reason 0 has no Cause.
pub no_reason : cause_of 0 ≡ None
unfolding cause_of
no_reason = refl

-- Each of the 30 Causes of 9.2.6 has the reason that its row gives.
pub thirty : length causes ≡ 30
thirty = refl

pub each_cause : every (λ i cause. gives (reason_in cause) (reason_of (octet_of cause)) && gives (octet_of cause) (cause_of (reason_in cause))) causes ≡ true
unfolding reason_of cause_of
each_cause = refl
