-- The law of walks over the 64 records of a table: what a walk makes of those from a place on is what it makes of all.
use Prim.Native.Nat.{ℕ, ◌+◌, ◌≤◌, ◌<◌}
use mathlib.Core.Path.{◌≡◌, sym, ap, ◌∙◌}
use mathlib.Core.List.{List, [], ◌∷◌}
use native.Mathlib.Numerals.{add-one}
use native.Mathlib.Omega.{arith}
use lib.ListN.{length, get_or, drop, drop_of_length-le}
use lib.Seq.{drop-cons}
use Rattle.handover.specs.declared.Entry.{Entry}
use Rattle.handover.specs.Numbers.{blank}

module _ (rs : List Entry) (places : length rs ≡ 64) (i : ℕ) where
  -- What is left begins with the record here, and after the last place nothing is left.
  pub left_here : i < 64 → drop i rs ≡ get_or rs i blank ∷ drop (i + 1) rs
  left_here h = rw (add-one i) (drop-cons rs i blank (omega (arith, places)))

  left_none : 64 ≤ i → drop i rs ≡ []
  left_none h = drop_of_length-le rs {i = i} (omega (arith, places))

  -- So a walk goes on with the record here, and ends after the last.
  module _ {A : Type 0} (makes : List Entry → A) (all : A) (left : makes (drop i rs) ≡ all) where
    pub walk_on : i < 64 → makes (get_or rs i blank ∷ drop (i + 1) rs) ≡ all
    walk_on h = sym (ap makes (left_here h)) ∙ left

    pub walk_end : 64 ≤ i → makes [] ≡ all
    walk_end h = sym (ap makes (left_none h)) ∙ left
