-- A reset ends the outgoing and held records of its neighbour, and no others.
use mathlib.Core.Path.{◌≡◌, refl}
use mathlib.Core.Bool.{Bool, true, not, ◌&&◌, ◌||◌}
use Prim.Native.Nat.{ℕ}
use native.Mathlib.Omega.{arith}
use Rattle.std.proofs.lemmas.Bool.Decides.{nat_tests}
use lib.Dec.{leb, eqb}
use Rattle.laws.proofs.Tests.{below, below_at}
use Rattle.records.specs.declared.Record.{Record}
use Rattle.fields.specs.declared.Sort.TheVariants.{AllOfNeighbour}
use Rattle.fields.specs.Fields.{sort_of}
use Rattle.fields.proofs.Sorts.{every_of_sort}
use Rattle.handover.specs.declared.Action.TheVariants.{Reset}
use Rattle.handover.specs.declared.Entry.{Entry}
use Rattle.handover.specs.Events.{key, action_of, same_action, resets}

-- By one test of the tables of keys and actions: a reset looks at outgoing and held records, compares the neighbour alone, and ends
-- each of them.
abbrev reset_row : ℕ → Bool
reset_row k =
    eqb (key k 0) 1 && eqb (key k 1) 3 && not (eqb (key k 2) 0) && eqb (key k 3) 0 && eqb (key k 4) 0
    && below 4 (λ st. not (leb 1 st) || same_action (action_of k st) Reset)

-- So it ends the outgoing and held records of its neighbour.
pub reset_ends : (e : Record) (r : Entry) → sort_of e.kind ≡ AllOfNeighbour → resets e r ≡ (leb 1 r.state && leb r.state 3 && eqb r.neighbour e.neighbour)
reset_ends e r reset =
    let row : reset_row e.kind ≡ true = every_of_sort AllOfNeighbour reset_row refl refl e.kind reset in
    let cell : (leb 1 r.state && leb r.state 3) ≡ true → same_action (action_of e.kind r.state) Reset ≡ true =
    λ t. grind (arith, nat_tests, below_at 4 (λ st. not (leb 1 st) || same_action (action_of e.kind st) Reset) r.state) in
    grind (arith, nat_tests, row, cell)
