-- What is found in a table, and what stands at each place once one record is replaced.
use Rattle.std.specs.Prelude.{Some}
use Prim.Native.Nat.{ℕ, ◌<◌}
use mathlib.Core.Path.{◌≡◌}
use mathlib.Core.Bool.{Bool, true}
use mathlib.Core.List.{List}
use borrow.Author.Tests.{eqb-true, eqb-false}
use lib.Dec.{eqb}
use lib.ListN.{length, get_or, set}
use lib.Seq.{get_or-set_same, get_or-set_other}
use Rattle.laws.proofs.Tests.{by_cases}
use Rattle.handover.specs.declared.Entry.{Entry}
use Rattle.table.specs.declared.Station.{Station}
use Rattle.handover.specs.Numbers.{blank}
use Rattle.places.proofs.Finding.{found_at}
use Rattle.table.specs.Table.{find}

-- ---- what is found

-- A place that is found is one of the table's, and the test holds there.
pub found_here : (test : Entry → Bool) (s : Station) (k : ℕ) → find test s ≡ Some k → (k < length s.entries) × (test (get_or s.entries k blank) ≡ true)
found_here test s k found =
    let there = found_at test s.entries k found in
    (there.0, there.1)

-- ---- one record is replaced

-- What holds of the new record at its place, and of every other where it stands, holds at each place.
pub set_each : (P : ℕ → Entry → Type 0) (rs : List Entry) (i : ℕ) (r : Entry) → i < length rs → P i r → ((j : ℕ) → (j ≡ i → ⊥) → P j (get_or rs j blank)) → (j : ℕ) → P j (get_or (set rs i r) j blank)
set_each P rs i r h new others j =
    by_cases (eqb j i)
    (λ t. rw (eqb-true j i t, get_or-set_same rs i r blank h) new)
    (λ t. rw (get_or-set_other rs i j r blank (eqb-false j i t)) (others j (eqb-false j i t)))
