-- The verdicts and the refused set, while they are written one by one.
use Prim.Native.Nat.{ℕ, zero, suc, ◌≤◌, ◌<◌}
use mathlib.Core.Path.{◌≡◌, refl, ◌∙◌, sym, ap, ap₂}
use mathlib.Core.Bool.{cond, not}
use mathlib.Core.List.{List, [], ◌∷◌, ◌++◌, map}
use borrow.Author.Tests.{eqb-true, eqb-false}
use native.Mathlib.Omega.{arith}
use lib.Dec.{eqb}
use lib.ListN.{length, get_or, set, drop, length-set}
use lib.Seq.{drop-set-lt, get_or-set_same, get_or-set_other}
use mathlib.Core.Logic.{◌⊎◌, inl, inr}
use Rattle.laws.proofs.Tests.{by_cases}
use Rattle.bearers.specs.declared.Bearer.{Bearer}
use Rattle.bearers.specs.Admission.{those, ids_of}
use Rattle.sets.specs.Sets.{add, union, set_of}
use Rattle.bearers.specs.Working.{written}
use Rattle.sets.proofs.Membership.{union_slide}

-- the IDs of the bearers that have a verdict other than 0
abbrev ids_refused : (Bearer → ℕ) → List Bearer → ℕ
ids_refused verdict bs = ids_of (those (λ b. not (eqb (verdict b) 0)) bs)

-- And its ID, if it is refused.
refused_cons : (verdict : Bearer → ℕ) (b : Bearer) (left : List Bearer) (refused all : ℕ) → union refused (ids_refused verdict (b ∷ left)) ≡ all → union (cond (eqb (verdict b) 0) refused (add refused b.id)) (ids_refused verdict left) ≡ all
unfolding those set_of
refused_cons verdict b left refused all e =
    by_cases (eqb (verdict b) 0)
    (λ t. rw t (rw t at e))
    (λ t. rw t (sym (union_slide refused (ids_refused verdict left) b.id) ∙ rw t at e))

-- With the first of those that are left, one verdict more is written; the places of the others are inside the buffer too.
module _ (verdict : Bearer → ℕ) (firsts left : List Bearer) (places others : List ℕ) (b : Bearer) (p : ℕ) (first : firsts ≡ b ∷ left) (place : places ≡ p ∷ others) where
  pub written_more : (buffer : List ℕ) → written verdict places firsts buffer ≡ written verdict others left (set buffer p (verdict b))
  unfolding written
  written_more buffer = rw (first, place)

  pub refused_more : (refused all : ℕ) → union refused (ids_refused verdict firsts) ≡ all → union (cond (eqb (verdict b) 0) refused (add refused b.id)) (ids_refused verdict left) ≡ all
  refused_more refused all e = refused_cons verdict b left refused all (rw first at e)

  pub enough_more : length firsts ≤ length places → length left ≤ length others
  enough_more h = omega (arith, ap length first, ap length place, h)

  pub inside_more : (room : ℕ) → ((j : ℕ) → j < length firsts → get_or places j 0 < room) → (j : ℕ) → j < length left → get_or others j 0 < room
  inside_more room inside j h = rw place at inside (suc j) (omega (arith, ap length first, h))

-- None of the bearers is left once they or their places are through.
pub none_left : (firsts : List Bearer) (places : List ℕ) → length firsts ≤ length places → (firsts ≡ []) ⊎ (places ≡ []) → firsts ≡ []
none_left firsts places enough (inl e) = e
none_left [] places enough (inr e) = refl
none_left (b ∷ firsts) places enough (inr e) = absurd (omega (arith, enough, ap length e))

-- A buffer that begins with the verdict of each bearer.
front : (verdict : Bearer → ℕ) (bs : List Bearer) (buffer : List ℕ) → length bs ≤ length buffer → ((i : ℕ) (d : Bearer) → i < length bs → get_or buffer i 0 ≡ verdict (get_or bs i d)) → buffer ≡ map verdict bs ++ drop (length bs) buffer
front verdict [] buffer room same = refl
front verdict (b ∷ bs) [] room same = absurd (omega arith)
front verdict (b ∷ bs) (x ∷ buffer) room same = ap₂ ◌∷◌ (same 0 b (omega arith)) (front verdict bs buffer (omega arith) (λ i d h. same (suc i) d (omega arith)))

-- Where some bearers stand at their places, and at each other place the buffer has the verdict already, all verdicts are there
-- once those are written.
pub written_all : (verdict : Bearer → ℕ) (bs : List Bearer) (places : List ℕ) (firsts : List Bearer) (buffer : List ℕ) → length bs ≤ length buffer → length firsts ≤ length places → ((j : ℕ) (d : Bearer) → j < length firsts → (get_or places j 0 < length bs) × (get_or firsts j d ≡ get_or bs (get_or places j 0) d)) → ((i : ℕ) (d : Bearer) → i < length bs → ((j : ℕ) → j < length firsts → get_or places j 0 ≡ i → ⊥) → get_or buffer i 0 ≡ verdict (get_or bs i d)) → written verdict places firsts buffer ≡ map verdict bs ++ drop (length bs) buffer
unfolding written
written_all verdict bs places [] buffer room enough at others = front verdict bs buffer room (λ i d h. others i d h (λ j inner. absurd (omega arith)))
written_all verdict bs [] (b ∷ firsts) buffer room enough at others = absurd (omega arith)
written_all verdict bs (p ∷ places) (b ∷ firsts) buffer room enough at others =
    written_all verdict bs places firsts (set buffer p (verdict b)) (simp length-set room) (omega arith) (λ j d h. at (suc j) d (omega arith)) next
    ∙ ap (λ (l : List ℕ). map verdict bs ++ l) (drop-set-lt (length bs) buffer p (verdict b) (at 0 b (omega arith)).0)
  where
    next : (i : ℕ) (d : Bearer) → i < length bs → ((j : ℕ) → j < length firsts → get_or places j 0 ≡ i → ⊥) → get_or (set buffer p (verdict b)) i 0 ≡ verdict (get_or bs i d)
    next i d h none =
        by_cases (eqb i p)
        (λ t. let here : i ≡ p = eqb-true i p t in
        rw (here, get_or-set_same buffer p (verdict b) 0 (omega arith), ← (at 0 d (omega arith)).1))
        (λ t. let other : i ≡ p → ⊥ = eqb-false i p t in
        get_or-set_other buffer p i (verdict b) 0 other ∙ others i d h (away other))
      where
        away : (i ≡ p → ⊥) → (j : ℕ) → j < suc (length firsts) → get_or (p ∷ places) j 0 ≡ i → ⊥
        away other zero inner e = other (sym e)
        away other (suc j) inner e = none j (omega arith) e
