-- A request without one of its bearers: where that one had a turn and did not fit, the others' turns are as before.
use Prim.Native.Nat.{ℕ, zero, suc, ◌+◌, ◌≤◌, ◌<◌}
use mathlib.Core.Path.{◌≡◌, refl, ap, ap₂}
use mathlib.Core.Bool.{Bool, true, false}
use mathlib.Core.List.{List, [], ◌∷◌, ◌++◌}
use borrow.Author.Tests.{ne_eqb, eqb-true, eqb-false, lt-leb}
use store.Seg.{eqb_same}
use native.Mathlib.Omega.{arith}
use lib.Dec.{eqb}
use Rattle.laws.specs.Sums.{total}
use Rattle.laws.proofs.Tests.{by_cases}
use Rattle.bearers.specs.declared.Bearer.{Bearer}
use Rattle.bearers.specs.Admission.{those, occurs, standing, has_turn, turns_from, turns, after, free_at, verdict}
use Rattle.bearers.proofs.Granted.{Distinct, distinct_first, distinct_rest, turn_once, turns_distinct}
use Rattle.bearers.proofs.Sums.{once, once_own, once_other, those_same}

-- the second list is the first without a bearer at one of its places
pub data Without (b : Bearer) : List Bearer → List Bearer → Type 0 where
  here : {xs : List Bearer} → Without b (b ∷ xs) xs
  there : {x : Bearer} {xs ys : List Bearer} → Without b xs ys → Without b (x ∷ xs) (x ∷ ys)

-- ---- lists

-- A list split at a bearer, and without it.
pub without_split : (b : Bearer) (before later : List Bearer) → Without b (before ++ b ∷ later) (before ++ later)
without_split b [] later = here
without_split b (x ∷ before) later = there (without_split b before later)

-- What stands before or after both lists changes nothing.
before_both : {b : Bearer} {xs ys : List Bearer} (zs : List Bearer) → Without b xs ys → Without b (zs ++ xs) (zs ++ ys)
before_both [] w = w
before_both (z ∷ zs) w = there (before_both zs w)

after_both : {b : Bearer} {xs ys : List Bearer} (zs : List Bearer) → Without b xs ys → Without b (xs ++ zs) (ys ++ zs)
after_both zs here = here
after_both zs (there w) = there (after_both zs w)

-- Each ID occurs as often as in the list without it, and once more if it is its own.
pub occurs_without : {b : Bearer} {xs ys : List Bearer} (k : ℕ) → Without b xs ys → occurs k xs ≡ once k b + occurs k ys
unfolding total
occurs_without k here = refl
occurs_without {b} k (there {x} w) = omega (arith, occurs_without k w)

-- Its own occurs once less.
occurs_own : {b : Bearer} {xs ys : List Bearer} → Without b xs ys → occurs b.id xs ≡ 1 + occurs b.id ys
occurs_own {b} w = omega (arith, once_own b, occurs_without b.id w)

-- Of those that pass a test only that bearer is missing, if it passes.
those_without : {b : Bearer} {xs ys : List Bearer} (test : Bearer → Bool) → test b ≡ true → Without b xs ys → Without b (those test xs) (those test ys)
unfolding those
those_without test t here = rw t here
those_without test t (there {x} w) = by_cases (test x) (λ u. rw u (there (those_without test t w))) (λ u. rw u (those_without test t w))

those_unchanged : {b : Bearer} {xs ys : List Bearer} (test : Bearer → Bool) → test b ≡ false → Without b xs ys → those test xs ≡ those test ys
unfolding those
those_unchanged test t here = rw t
those_unchanged test t (there {x} w) = rw (those_unchanged test t w)

-- ---- turns

-- The turns from a number above its priority on are unchanged; from one up to its priority, only its own is missing.
pub turns_unchanged : {b : Bearer} {xs ys : List Bearer} (n p : ℕ) → b.priority < p → Without b xs ys → turns_from n p xs ≡ turns_from n p ys
unfolding turns_from
turns_unchanged zero p h w = refl
turns_unchanged {b} (suc n) p h w =
    ap₂ ◌++◌ (those_unchanged (λ x. eqb x.priority p) (ne_eqb b.priority p (λ e. omega arith)) w) (turns_unchanged n (p + 1) (omega arith) w)

turns_without : {b : Bearer} {xs ys : List Bearer} (n p : ℕ) → p ≤ b.priority → b.priority < p + n → Without b xs ys → Without b (turns_from n p xs) (turns_from n p ys)
unfolding turns_from
turns_without zero p low high w = absurd (omega arith)
turns_without {b} {xs} {ys} (suc n) p low high w =
    by_cases (eqb b.priority p)
    (λ t.
    let same : b.priority ≡ p = eqb-true b.priority p t in
    rw (turns_unchanged n (p + 1) (omega arith) w) (after_both (turns_from n (p + 1) ys) (those_without (λ x. eqb x.priority p) t w)))
    (λ t.
    let other : b.priority ≡ p → ⊥ = eqb-false b.priority p t in
    rw (those_unchanged (λ x. eqb x.priority p) t w)
    (before_both (those (λ x. eqb x.priority p) ys) (turns_without n (p + 1) (omega arith) (omega arith) w)))

-- A turn that does not fit can be left out: what is free at the other turns is the same.
free_without : {b : Bearer} {xs ys : List Bearer} (k free : ℕ) → Without b xs ys → Distinct xs → (b.id ≡ k → ⊥) → free_at xs b.id free < b.units → free_at xs k free ≡ free_at ys k free
unfolding free_at
free_without {b} k free (here {xs}) distinct other more =
    let left : free < b.units = rw (eqb_same b.id) at more in
    rw (ne_eqb b.id k other, lt-leb b.units free left)
free_without {b} k free (there {x} {xs} w) distinct other more =
    let own : x.id ≡ b.id → ⊥ = λ e. let none : occurs b.id xs ≡ 0 = rw e at (distinct_first x xs distinct) in omega (arith, occurs_own w) in
    let next : free_at xs b.id (after free x) < b.units = rw (ne_eqb x.id b.id own) at more in
    by_cases (eqb x.id k) (λ t. rw t) (λ t. rw t (free_without k (after free x) w (distinct_rest x xs distinct) other next))

-- ---- a request

module _ (gbr : ℕ → Bool) (b : Bearer) (bs rest : List Bearer) (w : Without b bs rest) where
  -- Whether another bearer has a turn, and which verdict it has if not, is as before.
  standing_without : (c : Bearer) → (b.id ≡ c.id → ⊥) → standing gbr (occurs c.id rest) c ≡ standing gbr (occurs c.id bs) c
  standing_without c other =
      let same : occurs c.id rest ≡ occurs c.id bs = omega (arith, occurs_without c.id w, once_other c.id b other) in
      rw same

  module _ (turn : has_turn gbr bs b ≡ true) where
    -- The bearers that are left have other IDs.
    pub others : (c : Bearer) → 0 < occurs c.id rest → b.id ≡ c.id → ⊥
    others c h e = let some : 0 < occurs b.id rest = rw e h in omega (arith, occurs_own w, (turn_once gbr bs b turn).0)

    -- Of the turns of the request only its own is missing.
    turns_request : b.priority ≤ 15 → Without b (turns gbr bs) (turns gbr rest)
    turns_request h =
        let same : those (has_turn gbr rest) rest ≡ those (has_turn gbr bs) rest = those_same _ _ rest (λ c some. ap (λ (v : ℕ). eqb v 0) (standing_without c (others c some))) in
        rw same (turns_without 15 1 (turn_once gbr bs b turn).1 (omega arith) (those_without (has_turn gbr bs) turn w))

    -- So each other has the verdict that it had, where that bearer did not fit.
    pub verdict_without : (free : ℕ) → b.priority ≤ 15 → free_at (turns gbr bs) b.id free < b.units → (c : Bearer) → (b.id ≡ c.id → ⊥) → verdict gbr free rest c ≡ verdict gbr free bs c
    unfolding verdict
    verdict_without free h more c other =
        rw (standing_without c other, free_without c.id free (turns_request h) (turns_distinct gbr bs) other more)
