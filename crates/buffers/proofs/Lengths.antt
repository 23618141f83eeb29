-- How many digits a number has, and how long the texts of numbers are.
use Prim.Native.Nat.{ℕ, zero, suc, ◌+◌, ◌*◌, ◌/◌, ◌%◌, ◌^◌, ◌≤◌, ◌<◌}
use mathlib.Core.Path.{◌≡◌, refl, ap, ◌∙◌}
use mathlib.Core.List.{List, [], ◌∷◌}
use borrow.Author.Tests.{le-leb, lt-leb}
use native.Mathlib.Nat.{one-le-pow}
use native.Mathlib.Omega.{arith}
use lib.Dec.{leb}
use lib.ListN.{length, length-append}
use lib.Seq.{sets}
use Rattle.laws.proofs.Tests.{by_cases}
use Rattle.buffers.specs.Buffers.{Writes, fitting}
use Rattle.buffers.specs.Digits.{size_in, size, digits, cell_room, cell, spaced}

-- A number below ten has one digit.
pub one_digit : (most n : ℕ) → n < 10 → size_in most n ≡ 1
unfolding size_in
one_digit zero n h = refl
one_digit (suc most) n h = rw (lt-leb 10 n h)

-- Another has one more than its tenth.
pub more_digits : (most n : ℕ) → 10 ≤ n → size_in (suc most) n ≡ suc (size_in most (n / 10))
unfolding size_in
more_digits most n h = rw (le-leb 10 n h)

-- A number has a digit at least, and no more than are allowed.
pub some_digit : (most n : ℕ) → 1 ≤ size_in most n
unfolding size_in
some_digit zero n = omega arith
some_digit (suc most) n = by_cases (leb 10 n) (λ t. rw t (omega arith)) (λ t. rw t (omega arith))

pub size_most : (most n : ℕ) → size_in most n ≤ suc most
unfolding size_in
size_most zero n = omega arith
size_most (suc most) n = by_cases (leb 10 n) (λ t. rw t (omega (arith, size_most most (n / 10)))) (λ t. rw t (omega arith))

pub length_digits : (k n : ℕ) → length (digits k n) ≡ k
unfolding digits
length_digits zero n = refl
length_digits (suc k) n = length-append (digits k (n / 10)) _ ∙ rw (length_digits k (n / 10)) (omega arith)

-- All digits of a number, stored from a place on.
pub spelled : {before after : List ℕ} (at n k : ℕ) → k ≡ size n → at + k ≤ length before → after ≡ sets before at (fitting (at + k) before (digits k n))
    → Writes before after at (digits (size n) n) (at + k)
spelled {before} at n k e room f = record { next = rw (e, length_digits (size n) n); bytes = rw (le-leb (at + k) (length before) room, e) at f }

-- A number below ten is written as its digit.
pub short_cell : (n after : ℕ) → n < 10 → cell n after ≡ (48 + n) ∷ after ∷ []
unfolding digits
short_cell n after h =
    let small : n % 10 ≡ n = omega arith in
    rw (one_digit 19 n h, small)

-- A number and the byte after it have room in as many bytes as are said to be enough.
pub cell_most : (n after : ℕ) → length (cell n after) ≤ cell_room
cell_most n after = rw (length-append (digits (size n) n) (after ∷ []), length_digits (size n) n) (omega (arith, size_most 19 n))

pub spaced_most : (ns : List ℕ) → length (spaced ns) ≤ cell_room * length ns
unfolding spaced
spaced_most [] = omega arith
spaced_most (n ∷ ns) = rw (length-append (cell n 32) (spaced ns)) (omega (arith, cell_most n 32, spaced_most ns))

-- A number has one digit more than the greatest power of ten up to it has noughts.
pub size_by_power : (most last n : ℕ) → last ≤ most → 10 ^ last ≤ n → n < 10 * 10 ^ last → size_in most n ≡ suc last
size_by_power most zero n h low high = one_digit most n (omega arith)
size_by_power zero (suc last) n h low high = absurd (omega arith)
size_by_power (suc most) (suc last) n h low high =
    let some : 1 ≤ 10 ^ last = one-le-pow last 10 (omega arith) in
    more_digits most n (omega arith) ∙ ap suc (size_by_power most last (n / 10) (omega arith) (omega arith) (omega arith))
