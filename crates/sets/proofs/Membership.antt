-- What the numbers of `Sets` mean as sets. Each law is shown bit by bit, and two numbers with the same bits are one.
use Prim.Native.Nat.{ℕ, zero, suc, ◌/◌, ◌%◌, ◌^◌, ◌<◌, ◌≤◌, min, max}
use mathlib.Core.Path.{◌≡◌, refl, sym, ap, ◌∙◌, subst}
use mathlib.Core.Bool.{Bool, true, false, cond, ◌&&◌, ◌||◌, and-false, or_assoc, or_comm as either_order}
use mathlib.Core.List.{List, [], ◌∷◌}
use mathlib.Core.Logic.{◌↔◌}
use borrow.Author.Tests.{lt-ltb, ltb-true, eq-eqb, eqb-true, eqb-false}
use native.Mathlib.Nat.{div-eq_of_lt, div-one, lt_of_lt_of_le, pow-suc}
use native.Mathlib.Numerals.{one-add}
use native.Mathlib.Omega.{arith}
use lib.Arith.{bin_ind}
use lib.Bits.{bit_and, bit_or, or_step, and_step, or_shr, and_shr, or_comm, or_lt, or_zero_r}
use lib.Count.{ones, ones_step}
use store.Seg.{eqb_same}
use lib.Dec.{ltb, eqb, eqb-suc-zero, eqb-zero-suc, eqb-suc-suc}
use lib.Pow.{pow_pos, pow-lt, pow_mono, shr-shr}
use Rattle.laws.proofs.Tests.{by_cases}
use Rattle.sets.specs.Sets.{member, add, union, disjoint, within, set_of, among}

-- ---- one bit

-- What holds of 0 and of 1 holds of a lowest digit.
digit : (P : ℕ → Type 0) → P 0 → P 1 → (n : ℕ) → P (n % 2)
digit P unset is_set n =
    by_cases (eqb (n % 2) 1)
    (λ t. subst P (sym (eqb-true (n % 2) 1 t)) is_set)
    (λ t. let e : 0 ≡ n % 2 = omega (arith, eqb-false (n % 2) 1 t) in subst P e unset)

-- A bit above all of a number's digits is not set.
pub member_above : (s k : ℕ) → s < 2 ^ k → member s k ≡ false
unfolding member
member_above s k h = rw (div-eq_of_lt h)

-- Bit `k + 1` is bit `k` of the half.
member_half : (s k : ℕ) → member s (suc k) ≡ member (s / 2) k
unfolding member
member_half s k = rw (shr-shr s 1 k, one-add k)

-- Bit 0 is the lowest digit.
member_lowest : (s : ℕ) → member s 0 ≡ eqb (s % 2) 1
unfolding member
member_lowest s = rw (div-one s)

-- A power of two is even, and its half is the power below.
power_even : (k : ℕ) → 2 ^ suc k % 2 ≡ 0
power_even k = omega (arith, pow-suc 2 k)

power_half : (k : ℕ) → 2 ^ suc k / 2 ≡ 2 ^ k
power_half k = omega (arith, pow-suc 2 k)

-- The only bit of `2 ^ k` that is set is bit `k`.
member_power : (k j : ℕ) → member (2 ^ k) j ≡ eqb j k
member_power zero zero = member_lowest 1
member_power zero (suc j) = member_above 1 (suc j) (pow-lt {i = 0} {j = suc j} (omega arith)) ∙ sym (eqb-suc-zero j)
member_power (suc k) zero = member_lowest (2 ^ suc k) ∙ rw (power_even k) (sym (eqb-zero-suc k))
member_power (suc k) (suc j) = member_half (2 ^ suc k) j ∙ rw (power_half k) (member_power k j ∙ sym (eqb-suc-suc j k))

-- ---- the operations, bit by bit

-- The lowest digits of a union and of an intersection.
or_lowest : (a b : ℕ) → bit_or a b % 2 ≡ max (a % 2) (b % 2)
or_lowest a b = omega (arith, or_step a b)

and_lowest : (a b : ℕ) → bit_and a b % 2 ≡ min (a % 2) (b % 2)
and_lowest a b = omega (arith, and_step a b)

-- What is in a union is in one set or the other.
pub member_union : (a b k : ℕ) → member (union a b) k ≡ (member a k || member b k)
unfolding member
member_union a b k =
    let x = a / 2 ^ k in
    let y = b / 2 ^ k in
    rw (or_shr a b k, or_lowest x y)
    (digit (λ d. eqb (max d (y % 2)) 1 ≡ (eqb d 1 || eqb (y % 2) 1))
    (digit (λ e. eqb (max 0 e) 1 ≡ eqb e 1) refl refl y)
    (digit (λ e. eqb (max 1 e) 1 ≡ true) refl refl y)
    x)

-- What is in both sets is in their intersection.
member_both : (a b k : ℕ) → member (bit_and a b) k ≡ (member a k && member b k)
unfolding member
member_both a b k =
    let x = a / 2 ^ k in
    let y = b / 2 ^ k in
    rw (and_shr a b k, and_lowest x y)
    (digit (λ d. eqb (min d (y % 2)) 1 ≡ (eqb d 1 && eqb (y % 2) 1))
    (digit (λ e. eqb (min 0 e) 1 ≡ false) refl refl y)
    (digit (λ e. eqb (min 1 e) 1 ≡ eqb e 1) refl refl y)
    x)

-- What is in a set with an ID more: that ID, where it is no more than 15, and what was in it.
pub member_added : (s k j : ℕ) → member (add s k) j ≡ (ltb k 16 && eqb j k || member s j)
unfolding add
member_added s k j =
    by_cases (ltb k 16) (λ t. rw t (rw (or_comm s (2 ^ k), member_union (2 ^ k) s j, member_power k j))) (λ t. rw t)

-- The same of an ID that is no more than 15.
pub member_add : (s k j : ℕ) → k < 16 → member (add s k) j ≡ (eqb j k || member s j)
member_add s k j h = rw (lt-ltb k 16 h) at (member_added s k j)

-- Nothing is in the empty set.
pub member_none : (k : ℕ) → member 0 k ≡ false
member_none k = member_above 0 k (pow_pos k)

-- No ID above 15 is in a set.
pub member_beyond : (s k : ℕ) → s < 2 ^ 16 → 16 ≤ k → member s k ≡ false
member_beyond s k h over = member_above s k (lt_of_lt_of_le h (pow_mono over))

-- ---- equal sets

-- Numbers with the same half and the same bit 0 are the same.
joined : (a b : ℕ) → a / 2 ≡ b / 2 → member a 0 ≡ member b 0 → a ≡ b
joined a b half low =
    let told : (s : ℕ) → s % 2 ≡ cond (eqb (s % 2) 1) 1 0 = digit (λ x. x ≡ cond (eqb x 1) 1 0) refl refl in
    let tests : eqb (a % 2) 1 ≡ eqb (b % 2) 1 = sym (member_lowest a) ∙ low ∙ member_lowest b in
    let same : a % 2 ≡ b % 2 = told a ∙ ap (λ t. cond t 1 0) tests ∙ sym (told b) in
    omega arith

-- Where two numbers have the same members, so have their halves.
halved : (a b : ℕ) → ((k : ℕ) → member a k ≡ member b k) → (k : ℕ) → member (a / 2) k ≡ member (b / 2) k
halved a b h k = sym (member_half a k) ∙ h (suc k) ∙ member_half b k

-- Two sets with the same members are the same number.
pub same_members : (a b : ℕ) → ((k : ℕ) → member a k ≡ member b k) → a ≡ b
same_members a b =
    bin_ind (λ (m : ℕ). (n : ℕ) → ((k : ℕ) → member m k ≡ member n k) → m ≡ n)
    (bin_ind (λ (n : ℕ). ((k : ℕ) → member 0 k ≡ member n k) → 0 ≡ n)
    (λ h. refl)
    (λ n ih h. joined 0 n (ih (halved 0 n h)) (h 0)))
    (λ m ih n h. joined m n (ih (n / 2) (halved m n h)) (h 0))
    a
    b

-- Of one ID's bit a set has all or nothing.
pub bit_in : (s k : ℕ) → bit_and s (2 ^ k) ≡ cond (member s k) (2 ^ k) 0
bit_in s k = same_members (bit_and s (2 ^ k)) (cond (member s k) (2 ^ k) 0) each
  where
    each : (j : ℕ) → member (bit_and s (2 ^ k)) j ≡ member (cond (member s k) (2 ^ k) 0) j
    each j =
        rw (member_both s (2 ^ k) j, member_power k j)
        (by_cases (eqb j k)
        (λ t. rw (t, eqb-true j k t) (by_cases (member s k) (λ u. rw u (sym (member_power k k ∙ eqb_same k))) (λ u. rw u (sym (member_none k)))))
        (λ t. rw (t, and-false (member s j)) (by_cases (member s k) (λ u. rw u (sym (member_power k j ∙ t))) (λ u. rw u (sym (member_none j))))))

-- An ID may be added to the one set of a union or to the other.
pub union_slide : (a b k : ℕ) → union a (add b k) ≡ union (add a k) b
union_slide a b k =
    same_members (union a (add b k)) (union (add a k) b)
    (λ j.
    let added : Bool = ltb k 16 && eqb j k in
    rw (member_union a (add b k) j, member_added b k j, member_union (add a k) b j, member_added a k j, either_order added (member a j))
    (sym (or_assoc (member a j) added (member b j))))

-- ---- disjoint sets, and sets within others

-- A number is the intersection of two exactly if its members are those that are in both.
both_means : (a b s : ℕ) → (eqb (bit_and a b) s ≡ true) ↔ ((k : ℕ) → (member a k && member b k) ≡ member s k)
both_means a b s = (
  λ t k. sym (member_both a b k) ∙ ap (λ n. member n k) (eqb-true (bit_and a b) s t),
  λ h. eq-eqb (bit_and a b) s (same_members (bit_and a b) s (λ k. member_both a b k ∙ h k)),
)

-- Two sets are disjoint exactly if no member of the one is a member of the other.
pub disjoint_means : (a b : ℕ) → (disjoint a b ≡ true) ↔ ((k : ℕ) → member a k ≡ true → member b k ≡ false)
disjoint_means a b = (
  λ t k m. rw m at ((both_means a b 0).0 t k ∙ member_none k),
  λ h. (both_means a b 0).1 (λ k. rw (member_none k) (by_cases (member a k) (λ t. rw t (h k t)) (λ t. rw t))),
)

-- A set is within another exactly if each member of the one is a member of the other.
pub within_means : (a b : ℕ) → (within a b ≡ true) ↔ ((k : ℕ) → member a k ≡ true → member b k ≡ true)
within_means a b = (
  λ t k m. rw m at ((both_means a b a).0 t k),
  λ h. (both_means a b a).1 (λ k. by_cases (member a k) (λ t. rw t (h k t)) (λ t. rw t)),
)

-- ---- sets are 16-bit numbers

-- A set with an ID more is a 16-bit number.
pub add_fits : (s k : ℕ) → s < 2 ^ 16 → add s k < 2 ^ 16
unfolding add
add_fits s k h = by_cases (ltb k 16) (λ t. rw t (or_lt 16 s (2 ^ k) h (pow-lt (ltb-true k 16 t)))) (λ t. rw t h)

-- ---- how many members a set has

-- The empty set has none.
pub ones_none : ones 0 ≡ 0
unfolding ones
ones_none = refl

-- One bit more that was not set makes one more.
ones_or : (k s : ℕ) → member s k ≡ false → ones (bit_or s (2 ^ k)) ≡ suc (ones s)
ones_or zero s h =
    let even : s % 2 ≡ 0 = omega (arith, eqb-false (s % 2) 1 (sym (member_lowest s) ∙ h)) in
    let low : bit_or s 1 % 2 ≡ 1 = omega (arith, or_lowest s 1) in
    rw (ones_step (bit_or s 1), ones_step s, low, or_shr s 1 1, or_zero_r (s / 2)) (omega arith)
ones_or (suc k) s h =
    rw (ones_step (bit_or s (2 ^ suc k)), ones_step s, or_shr s (2 ^ suc k) 1, power_half k, ones_or k (s / 2) (sym (member_half s k) ∙ h))
    (omega (arith, or_lowest s (2 ^ suc k), power_even k))

-- A set with an ID more that was not in it has one member more.
pub ones_add : (s k : ℕ) → k < 16 → member s k ≡ false → ones (add s k) ≡ suc (ones s)
unfolding add
ones_add s k h new = rw (lt-ltb k 16 h) (ones_or k s new)

-- ---- the set of a list

-- The set of a list is a 16-bit number.
pub set_of_fits : (ks : List ℕ) → set_of ks < 2 ^ 16
unfolding set_of
set_of_fits [] = omega arith
set_of_fits (k ∷ ks) = add_fits (set_of ks) k (set_of_fits ks)

-- Where the ID looked for is the one at hand, their bounds are one test.
bounds : (p q e rest : Bool) → (e ≡ true → p ≡ q) → (p && e || (q && rest)) ≡ (q && (e || rest))
bounds p true true rest same = rw (same refl)
bounds p false true rest same = rw (same refl)
bounds true q false rest same = refl
bounds false q false rest same = refl

-- The members of the set of a list are those of the list that are no more than 15.
pub member_set_of : (ks : List ℕ) (k : ℕ) → member (set_of ks) k ≡ (ltb k 16 && among k ks)
unfolding set_of among
member_set_of [] k = member_none k ∙ sym (and-false (ltb k 16))
member_set_of (x ∷ ks) k =
    member_added (set_of ks) x k
    ∙ rw (member_set_of ks k) (bounds (ltb x 16) (ltb k 16) (eqb k x) (among k ks) (λ t. rw (eqb-true k x t)))
