-- The text of a number reads back: a reader of decimal digits gets the number, and the text has no leading zero.
use Prim.Native.Nat.{ℕ, zero, suc, ◌+◌, ◌*◌, ◌-◌, ◌/◌, ◌%◌, ◌^◌, ◌≤◌, ◌<◌}
use mathlib.Core.Path.{◌≡◌, refl, sym, ap, ◌∙◌}
use mathlib.Core.List.{List, [], ◌∷◌, ◌++◌}
use borrow.Author.Tests.{eqb-true, eqb-false, leb-true, leb-false}
use native.Mathlib.Omega.{arith}
use lib.Dec.{leb, eqb}
use lib.ListN.{get_or, get_or-append}
use lib.Seq.{get_or_at}
use Rattle.laws.proofs.Tests.{by_cases}
use Rattle.buffers.specs.Digits.{size_in, size, digits}
use Rattle.buffers.proofs.Lengths.{one_digit, more_digits, some_digit, length_digits}

-- the number that digits in ASCII stand for, after so much was read
unfoldable pub value : ℕ → List ℕ → ℕ
value read [] = read
value read (d ∷ ds) = value (read * 10 + (d - 48)) ds

-- The last digit is read last.
value_last : (read : ℕ) (ds : List ℕ) (d : ℕ) → value read (ds ++ (d ∷ [])) ≡ value read ds * 10 + (d - 48)
unfolding value
value_last read [] d = refl
value_last read (x ∷ ds) d = value_last (read * 10 + (x - 48)) ds d

last_digit : (k n : ℕ) → value 0 (digits (suc k) n) ≡ value 0 (digits k (n / 10)) * 10 + n % 10
unfolding digits
last_digit k n = value_last 0 (digits k (n / 10)) (48 + n % 10) ∙ omega arith

nothing_read : (n : ℕ) → value 0 (digits 0 n) ≡ 0
unfolding digits value
nothing_read n = refl

one_read : (n : ℕ) → n < 10 → value 0 (digits 1 n) ≡ n
one_read n few = last_digit 0 n ∙ rw (nothing_read (n / 10)) (omega arith)

reads : (most n : ℕ) → n < 10 ^ suc most → value 0 (digits (size_in most n) n) ≡ n
reads zero n small = rw (one_digit zero n (omega arith)) (one_read n (omega arith))
reads (suc most) n small =
    by_cases (leb 10 n)
    (λ t. rw (more_digits most n (leb-true 10 n t)) (last_digit (size_in most (n / 10)) n ∙ rw (reads most (n / 10) (omega arith)) (omega arith)))
    (λ t. rw (one_digit (suc most) n (leb-false 10 n t)) (one_read n (leb-false 10 n t)))

-- The text of a number of 64 bits reads back to it.
pub reads_back : (n : ℕ) → n < 2 ^ 64 → value 0 (digits (size n) n) ≡ n
reads_back n small = reads 19 n (omega arith)

-- So two numbers of one text are one.
pub text_once : (m n : ℕ) → m < 2 ^ 64 → n < 2 ^ 64 → digits (size m) m ≡ digits (size n) n → m ≡ n
text_once m n ms ns same = sym (reads_back m ms) ∙ ap (λ (ds : List ℕ). value 0 ds) same ∙ reads_back n ns

-- Each byte of it is a digit.
pub digit_at : (k n i : ℕ) → i < k → (48 ≤ get_or (digits k n) i 0) × (get_or (digits k n) i 0 ≤ 57)
unfolding digits
digit_at zero n i h = absurd (omega arith)
digit_at (suc k) n i h =
    by_cases (eqb i k)
    (λ t. rw (get_or_at (digits k (n / 10)) (48 + n % 10) [] 0 i (length_digits k (n / 10) ∙ sym (eqb-true i k t))) (omega arith, omega arith))
    (λ t.
    let before : i < k = omega (arith, eqb-false i k t) in
    rw (get_or-append (digits k (n / 10)) ((48 + n % 10) ∷ []) 0 i (omega (arith, length_digits k (n / 10)))) (digit_at k (n / 10) i before))

-- The first digit of a number that is not 0 is not 0.
first_digit : (k n : ℕ) → 1 ≤ k → get_or (digits (suc k) n) 0 0 ≡ get_or (digits k (n / 10)) 0 0
unfolding digits
first_digit k n some = get_or-append (digits k (n / 10)) ((48 + n % 10) ∷ []) 0 0 (omega (arith, length_digits k (n / 10)))

one_first : (n : ℕ) → 1 ≤ n → n < 10 → 49 ≤ get_or (digits 1 n) 0 0
unfolding digits
one_first n some few = omega arith

leads : (most n : ℕ) → 1 ≤ n → n < 10 ^ suc most → 49 ≤ get_or (digits (size_in most n) n) 0 0
leads zero n some small = rw (one_digit zero n (omega arith)) (one_first n some (omega arith))
leads (suc most) n some small =
    by_cases (leb 10 n)
    (λ t. rw (more_digits most n (leb-true 10 n t), first_digit (size_in most (n / 10)) n (some_digit most (n / 10))) (leads most (n / 10) (omega (arith, leb-true 10 n t)) (omega arith)))
    (λ t. rw (one_digit (suc most) n (leb-false 10 n t)) (one_first n some (leb-false 10 n t)))

pub no_leading_zero : (n : ℕ) → 1 ≤ n → n < 2 ^ 64 → 49 ≤ get_or (digits (size n) n) 0 0
no_leading_zero n some small = leads 19 n some (omega arith)

-- and 0 is one digit
pub zero_once : size 0 ≡ 1
zero_once = one_digit 19 0 (omega arith)
