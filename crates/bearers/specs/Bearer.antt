-- A bearer of a request, and the record that holds it.
use Rattle.std.specs.Prelude.{ℕ, zero, suc, Bool, true, cond, ◌&&◌, List, [], ◌∷◌, map, eqb, take, drop, Option, Some, None}
use Rattle.records.specs.declared.Record.{Record}
use Rattle.records.specs.Record.{record_of}
pub use Rattle.fields.specs.Fields.{is_bearer}
use Rattle.bearers.specs.declared.Bearer.{Bearer}

-- what a bearer's record says of it
abbrev pub bearer_of : Record → Bearer
bearer_of r = record { id = r.erab; units = r.number; qci = r.qci; priority = r.priority; gbr = eqb r.flags 1 }

abbrev pub parsed : Record → Option Bearer
parsed r = cond (is_bearer r) (Some (bearer_of r)) None

-- so many records, one after the other
unfoldable pub records_in : ℕ → List ℕ → List Record
records_in zero bytes = []
records_in (suc n) bytes = record_of (take 32 bytes) ∷ records_in n (drop 32 bytes)

-- the bearers that records hold
abbrev pub bearers_in : ℕ → List ℕ → List Bearer
bearers_in n bytes = map bearer_of (records_in n bytes)

-- whether every one of them is a bearer's record
unfoldable pub all_bearers : List Record → Bool
all_bearers [] = true
all_bearers (r ∷ rs) = is_bearer r && all_bearers rs
