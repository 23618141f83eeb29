-- Two results that satisfy a contract are equal: what each public entry gives is settled by its arguments.
use Rattle.std.proofs.Common.{◌≡◌, ℕ, Option, Result, List}
use Rattle.laws.proofs.Tests.{once}
use Rattle.records.specs.declared.Record.{Record}
use Rattle.wire.specs.declared.Refusal.{Refusal}
use Rattle.reading.specs.Reading.{read_of, value_of}

-- Of the same message from the same neighbour there is one reading.
pub read_once : (m : List ℕ) (neighbour : ℕ) (a b : Result Record Refusal) → a ≡ read_of m neighbour → b ≡ read_of m neighbour → a ≡ b
read_once m neighbour a b = once (read_of m neighbour) a b

-- Of the same message and id there is one part.
pub ie_once : (m : List ℕ) (id : ℕ) (a b : Option (List ℕ)) → a ≡ value_of m id → b ≡ value_of m id → a ≡ b
ie_once m id a b = once (value_of m id) a b
