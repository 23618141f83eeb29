-- Laws of little-endian numbers.
use Prim.Native.Nat.{ℕ, zero, suc, ◌+◌, ◌*◌, ◌/◌, ◌%◌, ◌^◌, ◌<◌}
use mathlib.Core.Path.{◌≡◌, refl, sym, ◌∙◌, ap}
use mathlib.Core.List.{List, [], ◌∷◌}
use native.Mathlib.Omega.{arith}
use native.Mathlib.Nat.{mul-suc}
use lib.Arith.{digits_lt}
use lib.ListN.{length, get_or, take, drop}
use lib.Pow.{pow-add, pow_pos, shr_lt}
use Rattle.std.specs.Int.{byte_worth, bytes_low_first, sum_through}
use Rattle.std.proofs.Math.Nat.{div-div-eq-div-mul, pow-suc}
use Rattle.std.proofs.lemmas.List.{take-take}
use Rattle.records.specs.Record.{little, little_of, field_at, AreBytes}

-- Another byte below a number of so many bytes makes one of one byte more.
pub shift_in : (width : ℕ) {value byte : ℕ} → value < 2 ^ (8 * width) → byte < 256 → value * 256 + byte < 2 ^ (8 * suc width)
shift_in width v b = rw (mul-suc 8 width, pow-add 2 (8 * width) 8) (digits_lt v b)

-- A field of one byte is that byte.
pub byte_read : (bytes : List ℕ) (at : ℕ) → get_or bytes at 0 ≡ field_at bytes at 1
unfolding little
byte_read [] zero = refl
byte_read [] (suc at) = refl
byte_read (b ∷ bytes) zero = omega arith
byte_read (b ∷ bytes) (suc at) = byte_read bytes at

-- one byte more counts as often as its place says
one_more : (k : ℕ) (bytes : List ℕ) → little (take (suc k) bytes) ≡ little (take k bytes) + byte_worth k (get_or bytes k 0)
unfolding little
one_more zero [] = refl
one_more (suc k) [] = omega arith
one_more zero (b ∷ bytes) = omega arith
one_more (suc zero) (b ∷ bytes) = rw (one_more zero bytes) (omega arith)
one_more (suc (suc k)) (b ∷ bytes) = rw (one_more (suc k) bytes, pow-suc 256 (suc k)) (omega arith)

-- so the number that the library reads from bytes is the one that they stand for
from_bytes : (k : ℕ) (bytes : List ℕ) → sum_through (λ i. byte_worth i (get_or bytes i 0)) k ≡ little (take (suc k) bytes)
unfolding little
from_bytes zero bytes = byte_read bytes 0
from_bytes (suc k) bytes = rw (from_bytes k bytes) (sym (one_more (suc k) bytes))

-- A number that is read from a field's bytes is the field.
pub field_read : (k : ℕ) {value : ℕ} {part : List ℕ} (bytes : List ℕ) (at : ℕ)
    → part ≡ take (suc k) (drop at bytes)
    → value ≡ sum_through (λ i. byte_worth i (get_or part i 0)) k
    → value ≡ field_at bytes at (suc k)
field_read k {part = part} bytes at e v =
    v ∙ from_bytes k part ∙ ap (λ (xs : List ℕ). little (take (suc k) xs)) e ∙ ap little (take-take (suc k) (suc k) (drop at bytes) (omega arith))

-- the bytes of a number, those from a place on
from_byte : (i k n : ℕ) → bytes_low_first i k n ≡ little_of k (n / 256 ^ i)
from_byte i zero n = refl
from_byte zero (suc k) n = let same : n / 256 ^ 0 ≡ n = omega arith in rw (same, from_byte 1 k n)
from_byte (suc i) (suc k) n = rw (from_byte (suc (suc i)) k n, div-div-eq-div-mul n (256 ^ suc i) 256, ← pow-suc 256 (suc i))

-- The bytes that the library writes for a number are those that stand for it.
pub to_bytes : (k n : ℕ) → bytes_low_first 0 k n ≡ little_of k n
to_bytes k n = let same : n / 256 ^ 0 ≡ n = omega arith in rw same at (from_byte 0 k n)

-- A number is read back from its bytes, where there are enough of them.
pub back : (width n : ℕ) → n < 2 ^ (8 * width) → little (little_of width n) ≡ n
unfolding little
back zero n h = omega arith
back (suc width) n h =
    let high : n / 256 < 2 ^ (8 * width) = shr_lt (8 * width) 8 (rw mul-suc at h) in
    rw (back width (n / 256) high) (omega arith)

-- Bytes are read back from their number.
pub forth : (bytes : List ℕ) → AreBytes bytes → little_of (length bytes) (little bytes) ≡ bytes
unfolding little
forth [] h = refl
forth (b ∷ bytes) h =
    let byte : b < 2 ^ 8 = h 0 in
    let low : (b + 256 * little bytes) % 256 ≡ b = omega arith in
    let high : (b + 256 * little bytes) / 256 ≡ little bytes = omega arith in
    rw (low, high, forth bytes (λ i. h (suc i)))

-- A field of bytes fits its width.
pub fits : (width : ℕ) (bytes : List ℕ) → AreBytes bytes → little (take width bytes) < 2 ^ (8 * width)
unfolding little
fits zero bytes h = omega arith
fits (suc width) [] h = pow_pos (8 * suc width)
fits (suc width) (b ∷ bytes) h = omega (arith, shift_in width (fits width bytes (λ i. h (suc i))) (h 0))
