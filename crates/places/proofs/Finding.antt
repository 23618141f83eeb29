-- What is found in a table.
use Prim.Native.Nat.{ℕ, ◌+◌, ◌<◌}
use mathlib.Core.Path.{◌≡◌, refl}
use mathlib.Core.Bool.{Bool, true, false, ◌&&◌}
use mathlib.Core.List.{List, [], ◌∷◌}
use native.Mathlib.Omega.{arith}
use Rattle.std.proofs.lemmas.Grind.{common_steps}
use Rattle.std.proofs.lemmas.List.Quantifiers.{position-Some}
use lib.ListN.{length, get_or}
use Rattle.laws.proofs.Tests.{by_cases}
use Rattle.records.specs.declared.Record.{Record}
use Rattle.handover.specs.declared.Entry.{Entry}
use Rattle.handover.specs.Events.{key, due_by}
use Rattle.handover.specs.Numbers.{blank}
use Rattle.places.specs.declared.Best.{Best}
use Rattle.places.specs.Places.{beats, better_by, due_from}
use Rattle.std.specs.List.{list_any, position}
use Rattle.std.specs.Prelude.{Option, Some, None}

-- A fact by what is found.
pub by_found : {G : Type 0} (found : Option ℕ) → (found ≡ None → G) → ((k : ℕ) → found ≡ Some k → G) → G
by_found None none at = none refl
by_found (Some k) none at = at k refl

-- A place that is found is one of the table's, and the test holds there and at none before it.
pub found_at : (test : Entry → Bool) (rs : List Entry) (k : ℕ) → position test rs ≡ Some k → (k < length rs) × (test (get_or rs k blank) ≡ true) × ((j : ℕ) → j < k → test (get_or rs j blank) ≡ false)
found_at test rs k found = position-Some test rs k blank found

-- Where no place is found, the test holds of no record.
pub found_none : {A : Type 0} (test : A → Bool) (rs : List A) → position test rs ≡ None → list_any test rs ≡ false
found_none test [] none = refl
found_none test (r ∷ rs) none =
    by_cases (test r) (λ t. absurd (grind (arith, common_steps))) (λ t. rw t (found_none test rs (grind (arith, common_steps))))

-- The soonest record that is due stands in the table.
pub due_at : (e : Record) (rs : List Entry) (best : Option Best) (i k : ℕ) → ((b : Best) → best ≡ Some b → b.place < i) → due_from e best i rs ≡ Some k → k < i + length rs
unfolding due_from
due_at e [] None i k placed found = absurd cc
due_at e [] (Some b) i k placed found =
    let same : b.place ≡ k = cc in
    omega (arith, placed b refl)
due_at e (r ∷ rs) best i k placed found =
    omega (arith, due_at e rs (better_by (key e.kind) e i r best) (i + 1) k next found)
  where
    next : (b : Best) → better_by (key e.kind) e i r best ≡ Some b → b.place < i + 1
    next b is =
        by_cases (due_by (key e.kind) e r && beats r best)
        (λ t. let here : Some (record { place = i; entry = r }) ≡ Some b = rw t at is in let same : i ≡ b.place = cc in omega arith)
        (λ t. omega (arith, placed b (rw t at is)))
