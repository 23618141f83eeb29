-- The own IDs in a ring: how far one is ahead of another. One step up from c brings every own ID nearer by one, but the one stepped on,
-- which is then the farthest; so of the entries ahead of another, only the one stepped on is lost.
use Prim.Native.Nat.{ℕ, ◌+◌, ◌-◌, ◌≤◌, ◌<◌}
use mathlib.Core.Path.{◌≡◌, refl, sym, ap, ◌∙◌}
use mathlib.Core.Bool.{Bool, cond}
use mathlib.Core.List.{List, [], ◌∷◌}
use borrow.Author.Tests.{eqb-true, eqb-false, leb-false, ltb-true, ltb-false, lt-ltb, le-ltb}
use native.Mathlib.Omega.{arith}
use lib.Dec.{leb, ltb, eqb}
use lib.ListN.{length}
use Rattle.laws.proofs.Tests.{by_cases}
use Rattle.handover.specs.Numbers.{next_after}
use Rattle.promises.specs.Views.{count, times}
use Rattle.handover.proofs.Issuing.{next_small}

-- so many steps up from c to i: 1 to 4,096, and 4,096 from one to itself
abbrev pub distance : ℕ → ℕ → ℕ
distance c i = cond (ltb c i) (i - c) (i + 4096 - c)

-- how many of a list stand strictly between c and i, going up from c
abbrev pub ahead : ℕ → ℕ → List ℕ → ℕ
ahead c i xs = count (λ x. ltb (distance c x) (distance c i)) xs

-- ---- distances

up : (c i : ℕ) → c < i → distance c i ≡ i - c
up c i above = rw (lt-ltb c i above)

round : (c i : ℕ) → i ≤ c → distance c i ≡ i + 4096 - c
round c i under = rw (le-ltb c i under)

pub distance_self : (c : ℕ) → distance c c ≡ 4096
distance_self c = let r = round c c (omega arith) in omega arith

pub distance_range : (c i : ℕ) → c < 4096 → i < 4096 → (1 ≤ distance c i) × (distance c i ≤ 4096)
distance_range c i low small =
    by_cases (ltb c i)
    (λ t. let above = ltb-true c i t in let u = up c i above in (omega arith, omega arith))
    (λ t. let under = ltb-false c i t in let r = round c i under in (omega arith, omega arith))

pub distance_next : (c : ℕ) → c < 4096 → distance c (next_after c) ≡ 1
distance_next c low =
    by_cases (eqb c 4095)
    (λ t. let top = eqb-true c 4095 t in rw t (let r = round c 0 (omega arith) in omega arith))
    (λ t. rw t (let u = up c (c + 1) (omega arith) in omega arith))

-- One step brings every other own ID nearer by one.
pub distance_step : (c x : ℕ) → c < 4096 → x < 4096 → (x ≡ next_after c → ⊥) → distance c x ≡ distance (next_after c) x + 1
distance_step c x low small =
    by_cases (eqb c 4095)
    (λ t. rw t (λ apart.
    let top = eqb-true c 4095 t in
    let r = round c x (omega arith) in
    let u = up 0 x (omega arith) in omega arith))
    (λ t. rw t (λ apart.
    let below = eqb-false c 4095 t in
    by_cases (ltb c x)
    (λ v.
    let above = ltb-true c x v in
    let u = up c x above in
    let u' = up (c + 1) x (omega arith) in omega arith)
    (λ v.
    let under = ltb-false c x v in
    let r = round c x under in
    let r' = round (c + 1) x (omega arith) in omega arith)))

-- ---- entries ahead

-- No more entries pass a test than there are.
pub count_length : (test : ℕ → Bool) (xs : List ℕ) → count test xs ≤ length xs
unfolding count
count_length test [] = omega arith
count_length test (x ∷ xs) =
    let rest = count_length test xs in
    by_cases (test x) (λ t. rw t (omega arith)) (λ t. rw t (omega arith))

-- A test that each entry passes as often as two others passes as often in all.
count_sum : (test one two : ℕ → Bool) (xs : List ℕ) → ((x : ℕ) → x < 4096 → cond (test x) 1 0 ≡ cond (one x) 1 0 + cond (two x) 1 0)
    → count (leb 4096) xs ≡ 0 → count test xs ≡ count one xs + count two xs
unfolding count
count_sum test one two [] each small = refl
count_sum test one two (x ∷ xs) each small =
    by_cases (leb 4096 x)
    (λ t. absurd (let bad = rw t at small in omega arith))
    (λ t.
    let rest = count_sum test one two xs each (let less = rw t at small in omega arith) in
    let here = each x (leb-false 4096 x t) in
    omega arith)

-- One step loses the entries stepped on, and no other.
pub ahead_step : (c i : ℕ) → c < 4096 → i < 4096 → (i ≡ next_after c → ⊥) → (xs : List ℕ) → count (leb 4096) xs ≡ 0
    → ahead c i xs ≡ ahead (next_after c) i xs + times (next_after c) xs
ahead_step c i low small apart xs =
    let nearer = distance_step c i low small apart in
    let range = distance_range (next_after c) i (next_small c low) small in
    count_sum (λ x. ltb (distance c x) (distance c i)) (λ x. ltb (distance (next_after c) x) (distance (next_after c) i)) (eqb (next_after c)) xs
    (λ x fits. one_entry (distance c x) (distance c i) (distance (next_after c) x) (distance (next_after c) i) (next_after c) x nearer
    (λ same. omega (arith, ap (distance c) (sym same) ∙ distance_next c low))
    (λ same. omega (arith, ap (distance (next_after c)) (sym same) ∙ distance_self (next_after c)))
    (λ other. distance_step c x low fits other))
  where
    one_entry : (was limit is limit' n x : ℕ) → limit ≡ limit' + 1 → (n ≡ x → was < limit) → (n ≡ x → limit' ≤ is) → ((x ≡ n → ⊥) → was ≡ is + 1)
        → cond (ltb was limit) 1 0 ≡ cond (ltb is limit') 1 0 + cond (eqb n x) 1 0
    one_entry was limit is limit' n x nearer before after others =
        by_cases (eqb n x)
        (λ t. let same = eqb-true n x t in rw (t, lt-ltb was limit (before same), le-ltb is limit' (after same)))
        (λ t.
        let step = others (λ same. eqb-false n x t (sym same)) in
        by_cases (ltb is limit')
        (λ u. rw (t, u, lt-ltb was limit (let lt = ltb-true is limit' u in omega arith)))
        (λ u. rw (t, u, le-ltb was limit (let ge = ltb-false is limit' u in omega arith))))
