-- Two results that satisfy a contract are equal: what each public entry gives is settled by its arguments.
use Prim.Native.Nat.{ℕ}
use mathlib.Core.Path.{◌≡◌, sym, ◌∙◌}
use mathlib.Core.Bool.{Bool}
use mathlib.Core.List.{List}
use Rattle.std.specs.Prelude.{Option}
use Rattle.records.specs.declared.Record.{Record}
use Rattle.words.specs.Values.{is_set, values_of, record_from}
use Rattle.words.specs.Words.{place_of}

-- A text has one place among the words, or none.
pub place_once : (text : List ℕ) (a b : Option ℕ) → a ≡ place_of text → b ≡ place_of text → a ≡ b
place_once text a b p q = p ∙ sym q

-- Whether a field is a set has one answer.
pub is_set_once : (field : ℕ) (a b : Bool) → a ≡ is_set field → b ≡ is_set field → a ≡ b
is_set_once field a b p q = p ∙ sym q

-- A record has one list of fields, and the fields one record.
pub values_once : (r : Record) (a b : List ℕ) → a ≡ values_of r → b ≡ values_of r → a ≡ b
values_once r a b p q = p ∙ sym q

pub record_once : (values : List ℕ) (a b : Record) → a ≡ record_from values → b ≡ record_from values → a ≡ b
record_once values a b p q = p ∙ sym q
