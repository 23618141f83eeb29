-- Who gets units when the turns are taken one after the other: those that fit at their turn.
use Prim.Native.Nat.{ℕ, ◌-◌, ◌≤◌, ◌<◌}
use mathlib.Core.Path.{◌≡◌, refl, ◌∙◌, sym, ap}
use mathlib.Core.Bool.{Bool, true, false, cond, ◌&&◌, true≢false}
use mathlib.Core.List.{List, [], ◌∷◌}
use borrow.Author.Tests.{ne_eqb, eqb-false, le-leb, lt-ltb, leb-true, ltb-true, ltb-false}
use store.Seg.{eqb_same}
use native.Mathlib.Omega.{arith}
use lib.Bits.{or_zero_r}
use lib.Dec.{leb, ltb, eqb}
use Rattle.laws.specs.Sums.{total}
use Rattle.laws.proofs.Tests.{by_cases, both_true, refuted}
use Rattle.bearers.specs.declared.Bearer.{Bearer}
use Rattle.bearers.specs.declared.Grants.{Grants}
use Rattle.bearers.specs.Admission.{those, occurs, has_turn, turns, after, free_at, verdict, admitted, ids_of}
use Rattle.sets.specs.Sets.{add, union, set_of}
use Rattle.bearers.specs.Working.{run}
use Rattle.bearers.proofs.Listing.{Formed}
use Rattle.sets.proofs.Membership.{union_slide}
use Rattle.bearers.proofs.Sums.{Each, total_same, total_those, those_le, those_same, once, once_own, occurs_those, total_turns, within}

-- ---- the walk

-- the bearers that get units, in the order of their turns
unfoldable pub granted : List Bearer → ℕ → List Bearer
granted [] free = []
granted (t ∷ ts) free = cond (leb t.units free) (t ∷ granted ts (free - t.units)) (granted ts free)

abbrev pub units : Bearer → ℕ
units b = b.units

-- They get no more than is free.
pub granted_le : (ts : List Bearer) (free : ℕ) → total units (granted ts free) ≤ free
unfolding granted total
granted_le [] free = omega arith
granted_le (t ∷ ts) free =
    by_cases (leb t.units free)
    (λ e. rw e (omega (arith, leb-true t.units free e, granted_le ts (free - t.units))))
    (λ e. rw e (granted_le ts free))

-- The code's turns leave the IDs of those, and the units that they did not get.
abbrev pub grants : ℕ → ℕ → Grants
grants set free = record { admitted = set; free = free }

same_grants : {a b x y : ℕ} → a ≡ b → x ≡ y → grants a x ≡ grants b y
same_grants p q = λ i. record { admitted = p i; free = q i }

pub run_granted : (ts : List Bearer) (set free : ℕ) → run ts (grants set free) ≡ grants (union set (ids_of (granted ts free))) (free - total units (granted ts free))
unfolding run granted total set_of
run_granted [] set free = same_grants (sym (or_zero_r set)) (omega arith)
run_granted (t ∷ ts) set free =
    by_cases (leb t.units free)
    (λ e.
    let rest = granted ts (free - t.units) in
    rw e
    (run_granted ts (add set t.id) (free - t.units)
    ∙ same_grants (sym (union_slide set (ids_of rest) t.id)) (omega (arith, leb-true t.units free e, granted_le ts (free - t.units)))))
    (λ e. rw e (run_granted ts set free))

-- ---- those that fit at their turn

-- A list in which no ID occurs twice.
abbrev pub Distinct : List Bearer → Type 0
Distinct bs = (k : ℕ) → occurs k bs ≤ 1

-- Its others have other IDs than its first, and are such a list themselves.
pub distinct_first : (b : Bearer) (bs : List Bearer) → Distinct (b ∷ bs) → occurs b.id bs ≡ 0
unfolding total
distinct_first b bs distinct = omega (arith, once_own b, distinct b.id)

pub distinct_rest : (b : Bearer) (bs : List Bearer) → Distinct (b ∷ bs) → Distinct bs
unfolding total
distinct_rest b bs distinct k = omega (arith, distinct k)

abbrev pub fits : List Bearer → ℕ → Bearer → Bool
fits ts free b = leb b.units (free_at ts b.id free)

-- At the turns after the first, what is free is what the first has left.
fits_after : (t : Bearer) (ts : List Bearer) (free : ℕ) → Distinct (t ∷ ts) → those (fits (t ∷ ts) free) ts ≡ those (fits ts (after free t)) ts
unfolding free_at
fits_after t ts free distinct =
    those_same (fits (t ∷ ts) free) (fits ts (after free t)) ts
    (λ b some. rw (ne_eqb t.id b.id (λ e. let none : occurs b.id ts ≡ 0 = rw e at (distinct_first t ts distinct) in omega arith)))

granted_those : (ts : List Bearer) (free : ℕ) → Distinct ts → granted ts free ≡ those (fits ts free) ts
unfolding granted those free_at
granted_those [] free distinct = refl
granted_those (t ∷ ts) free distinct =
    let next : (left : ℕ) → after free t ≡ left → granted ts left ≡ those (fits (t ∷ ts) free) ts =
    λ left e. granted_those ts left (distinct_rest t ts distinct) ∙ sym (fits_after t ts free distinct ∙ ap (λ (n : ℕ). those (fits ts n) ts) e) in
    rw (eqb_same t.id)
    (by_cases (leb t.units free)
    (λ e. rw e (ap (λ (l : List Bearer). t ∷ l) (next (free - t.units) (rw e))))
    (λ e. rw e (next free (rw e))))

-- ---- of the turns of a request, those are the bearers with verdict 0

module _ (gbr : ℕ → Bool) (bs : List Bearer) where
  -- A bearer whose ID occurs more than once has no turn.
  pub no_turn : (b : Bearer) → 1 < occurs b.id bs → has_turn gbr bs b ≡ false
  no_turn b h = rw (lt-ltb 1 (occurs b.id bs) h)

  -- A bearer that has a turn occurs once, and has a priority.
  pub turn_once : (b : Bearer) → has_turn gbr bs b ≡ true → (occurs b.id bs ≤ 1) × (1 ≤ b.priority)
  turn_once b t =
      by_cases (ltb 1 (occurs b.id bs))
      (λ u. absurd (true≢false (sym t ∙ rw u)))
      (λ u.
      by_cases (eqb b.priority 0)
      (λ v. absurd (true≢false (sym t ∙ rw (u, v))))
      (λ v. (ltb-false 1 (occurs b.id bs) u, omega (arith, eqb-false b.priority 0 v))))

  module _ (test : Bearer → Bool) (turn : (b : Bearer) → test b ≡ true → has_turn gbr bs b ≡ true) where
    -- Of bearers that have a turn none has an ID that occurs more than once in the request.
    pub those_repeated : (k : ℕ) → 1 < occurs k bs → occurs k (those test bs) ≡ 0
    those_repeated k h =
        occurs_those k test false bs
        (λ b id. refuted (test b) (λ t. true≢false (sym (turn b t) ∙ no_turn b (rw id h))))

    -- So no two of them have one ID.
    pub those_distinct : Distinct (those test bs)
    those_distinct k =
        by_cases (ltb 1 (occurs k bs))
        (λ t. omega (arith, those_repeated k (ltb-true 1 (occurs k bs) t)))
        (λ t. omega (arith, ltb-false 1 (occurs k bs) t, those_le (once k) test bs))

  -- No ID has two turns.
  pub turns_distinct : Distinct (turns gbr bs)
  turns_distinct k =
      let all = those (has_turn gbr bs) bs in
      omega (arith, total_turns (once k) 15 1 all, total_those (once k) (within 1 15) all, those_le (once k) (within 1 15) all, those_distinct (has_turn gbr bs) (λ b t. t) k)

module _ (gbr : ℕ → Bool) (free : ℕ) (bs : List Bearer) where
  -- Verdict 0 is a turn at which the units fit.
  pub zero_means : (b : Bearer) → eqb (verdict gbr free bs b) 0 ≡ (has_turn gbr bs b && fits (turns gbr bs) free b)
  unfolding verdict
  zero_means b =
      by_cases (has_turn gbr bs b)
      (λ t. rw t (by_cases (leb b.units (free_at (turns gbr bs) b.id free)) (λ u. rw u) (λ u. rw u)))
      (λ t. rw t t)

  pub zero_turn : (b : Bearer) → eqb (verdict gbr free bs b) 0 ≡ true → has_turn gbr bs b ≡ true
  zero_turn b t = (both_true (has_turn gbr bs b) (fits (turns gbr bs) free b) (sym (zero_means b) ∙ t)).0

  -- A number summed over who got units is that number summed over who has verdict 0.
  pub granted_total : Each Formed bs → (f : Bearer → ℕ) → total f (granted (turns gbr bs) free) ≡ total f (admitted gbr free bs)
  granted_total each f =
      let ts = turns gbr bs in
      let got : Bearer → ℕ = λ b. cond (fits ts free b) (f b) 0 in
      ap (total f) (granted_those ts free (turns_distinct gbr bs))
      ∙ total_those f (fits ts free) ts
      ∙ total_turns got 15 1 (those (has_turn gbr bs) bs)
      ∙ total_those (λ b. cond (within 1 15 b) (got b) 0) (has_turn gbr bs) bs
      ∙ total_same _ _ bs each same
      ∙ sym (total_those f (λ b. eqb (verdict gbr free bs b) 0) bs)
    where
      same : (b : Bearer) → Formed b → cond (has_turn gbr bs b) (cond (within 1 15 b) (cond (fits (turns gbr bs) free b) (f b) 0) 0) 0 ≡ cond (eqb (verdict gbr free bs b) 0) (f b) 0
      same b formed =
          rw (zero_means b)
          (by_cases (has_turn gbr bs b)
          (λ t. rw (t, le-leb 1 b.priority (turn_once gbr bs b t).1, lt-ltb b.priority 16 (omega arith)))
          (λ t. rw t))
