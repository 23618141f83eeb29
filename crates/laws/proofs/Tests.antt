-- Tests as facts, where the kit has them one way only; and tests of every entry of a constant table.
use mathlib.Core.Path.{◌≡◌, refl, ◌∙◌, sym}
use mathlib.Core.Bool.{Bool, true, false, cond, ◌&&◌, ◌||◌, false≢true, true≢false}
use mathlib.Core.List.{List, [], ◌∷◌, map}
use mathlib.Core.Logic.{◌⊎◌, inl, inr}
use Prim.Native.Nat.{ℕ, zero, suc, ◌≤◌, ◌<◌}
use native.Mathlib.Omega.{arith}
use borrow.Author.Tests.{leb-true, leb-false, le-leb, lt-leb, eqb-true, eqb-false, eq-eqb, ne_eqb}
use lib.Dec.{leb, eqb}
use lib.ListN.{get_or, get_or-map}

-- A fact by the two ways in which a test comes out.
pub by_cases : {G : Type 0} (b : Bool) → (b ≡ true → G) → (b ≡ false → G) → G
by_cases true held failed = held refl
by_cases false held failed = failed refl

-- A choice whose test is known.
pub on_true : {A : Type 0} (b : Bool) (x y : A) → b ≡ true → cond b x y ≡ x
on_true b x y t = rw t

pub on_false : {A : Type 0} (b : Bool) (x y : A) → b ≡ false → cond b x y ≡ y
on_false b x y t = rw t

-- A choice between the same is that, whatever the test.
pub on_either : {A : Type 0} (b : Bool) (x : A) → cond b x x ≡ x
on_either true x = refl
on_either false x = refl

-- Two tests are equal where each order follows from the other.
pub same_leb : (a b c d : ℕ) → (a ≤ b → c ≤ d) → (c ≤ d → a ≤ b) → leb a b ≡ leb c d
same_leb a b c d there back =
    by_cases (leb a b)
    (λ t. t ∙ sym (le-leb c d (there (leb-true a b t))))
    (λ t. by_cases (leb c d)
    (λ u. t ∙ sym (lt-leb a b (leb-false a b t)) ∙ le-leb a b (back (leb-true c d u)) ∙ sym u)
    (λ u. t ∙ sym u))

-- Two tests that hold together hold each.
pub both_true : (a b : Bool) → (a && b) ≡ true → (a ≡ true) × (b ≡ true)
both_true true b t = (refl, t)
both_true false b t = absurd (false≢true t)

-- A number between two.
pub between : (a b n : ℕ) → (leb a n && leb n b) ≡ true → (a ≤ n) × (n ≤ b)
between a b n t = (leb-true a n (both_true (leb a n) (leb n b) t).0, leb-true n b (both_true (leb a n) (leb n b) t).1)

-- One of two tests holds where either does.
pub either_true : (a b : Bool) → (a || b) ≡ true → (a ≡ true) ⊎ (b ≡ true)
either_true true b t = inl refl
either_true false b t = inr t

-- Where one of two tests does not hold, neither does.
pub neither : (a b : Bool) → (a || b) ≡ false → (a ≡ false) × (b ≡ false)
neither false b t = (refl, t)
neither true b t = absurd (true≢false t)

-- A test that cannot hold fails.
pub refuted : (b : Bool) → (b ≡ true → ⊥) → b ≡ false
refuted b never = by_cases b (λ t. absurd (never t)) (λ t. t)

-- Where two constructors would be equal, 0 would be 1: anything follows.
pub clash : {G : Type 0} → ◌≡◌ {A = ℕ} 0 1 → G
clash bad = absurd (omega arith)

-- Equality goes either way.
pub eqb_sym : (a b : ℕ) → eqb a b ≡ eqb b a
eqb_sym a b =
    by_cases (eqb a b)
    (λ t. t ∙ sym (eq-eqb b a (sym (eqb-true a b t))))
    (λ t. t ∙ sym (ne_eqb b a (λ same. eqb-false a b t (sym same))))

-- Two results that a contract sets equal to the same are equal.
pub once : {A : Type 0} (x a b : A) → a ≡ x → b ≡ x → a ≡ b
once x a b p q = p ∙ sym q

-- ---- every entry of a table

-- whether a test holds of each element of a list and its place
abbrev pub every : {A : Type 0} → (ℕ → A → Bool) → List A → Bool
every test [] = true
every test (x ∷ xs) = test 0 x && every (λ i. test (suc i)) xs

-- Then it holds of what is read at any place, if it holds of what is read beyond the end.
pub every_at : {A : Type 0} (test : ℕ → A → Bool) (xs : List A) (d : A) (i : ℕ) → every test xs ≡ true → ((j : ℕ) → test j d ≡ true) → test i (get_or xs i d) ≡ true
every_at test [] d i t beyond = beyond i
every_at test (x ∷ xs) d zero t beyond = (both_true (test 0 x) (every (λ i. test (suc i)) xs) t).0
every_at test (x ∷ xs) d (suc i) t beyond =
    every_at (λ j. test (suc j)) xs d i (both_true (test 0 x) (every (λ j. test (suc j)) xs) t).1 (λ j. beyond (suc j))

-- whether a test holds of each number below a bound
abbrev pub below : ℕ → (ℕ → Bool) → Bool
below zero test = true
below (suc n) test = test n && below n test

-- Then it holds of any such number.
pub below_at : (n : ℕ) (test : ℕ → Bool) (i : ℕ) → below n test ≡ true → i < n → test i ≡ true
below_at zero test i t h = absurd (omega arith)
below_at (suc n) test i t h =
    let both = both_true (test n) (below n test) t in
    by_cases (eqb i n)
    (λ u. rw (eqb-true i n u) both.0)
    (λ u. below_at n test i both.1 (omega (arith, eqb-false i n u)))

-- What agrees along a list and beyond it agrees at each place.
pub same_at : {A B : Type 0} (f g : A → B) (xs : List A) (d : A) (n : ℕ) → map f xs ≡ map g xs → f d ≡ g d → f (get_or xs n d) ≡ g (get_or xs n d)
same_at f g xs d n same beyond = rw (← get_or-map f xs n d, ← get_or-map g xs n d, same, beyond)
