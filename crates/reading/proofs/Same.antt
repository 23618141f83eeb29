-- What may stand at a place depends on the octets up to it alone.
use Prim.Native.Nat.{ℕ, zero, suc, ◌+◌, ◌≤◌, ◌<◌}
use mathlib.Core.Path.{◌≡◌, refl, sym, ap, ◌∙◌}
use mathlib.Core.Bool.{Bool, true, false, cond}
use mathlib.Core.List.{List}
use native.Mathlib.Omega.{arith}
use borrow.Author.Tests.{leb-true, leb-false, lt-ltb, ne_eqb}
use lib.Dec.{leb, eqb}
use lib.ListN.{get_or}
use lib.Seq.{get_or-take}
use Rattle.laws.proofs.Tests.{by_cases}
use Rattle.wire.specs.Parts.{none, row_of, list_end, is_complete}
use Rattle.reading.specs.Reading.{shape_of, count_of, layout_of, rule_in}
use Rattle.reading.specs.declared.Layout.{Layout}
use Rattle.wire.specs.declared.Shape.{Shape}
use Rattle.wire.specs.declared.Shape.TheVariants.{Release, Cancel, ShortCancel}

-- ---- by the procedure code alone

-- a message by its number, its count and its length
abbrev laid : Shape → ℕ → ℕ → Layout
laid shape count size = record { shape = shape; list = list_end shape count; value = 4 + size; complete = is_complete shape count }

-- the message, as long as a cancel's second IE is not known
abbrev first_shape : List ℕ → Shape
first_shape m = cond (eqb (get_or m 1 0) 5) Release Cancel

abbrev early : List ℕ → Layout
early m = laid (first_shape m) (count_of m) (get_or m 3 0)

-- any list goes on after the header
pub seven : (shape : Shape) (count : ℕ) → 7 ≤ list_end shape count
seven shape count = omega arith

-- the two cancels are the same up to the id of the second IE
same_row : (k : ℕ) → k < 14 → get_or (row_of ShortCancel) k (none 19) ≡ get_or (row_of Cancel) k (none 19)
same_row k h = sym (get_or-take 14 (row_of ShortCancel) k (none 19) h) ∙ get_or-take 14 (row_of Cancel) k (none 19) h

-- inside the list
inside : (l : Layout) (k : ℕ) → k < l.list → rule_in l k ≡ cond (eqb k l.value) (none 17) (get_or (row_of l.shape) k (none 19))
inside l k h = by_cases (eqb k l.value) (λ t. rw (t, lt-ltb k l.list h)) (λ t. rw (t, lt-ltb k l.list h))

same_cancel : (count size k : ℕ) → k < 14 → rule_in (laid ShortCancel count size) k ≡ rule_in (laid Cancel count size) k
same_cancel zero size k h = rw (same_row k h)
same_cancel (suc zero) size k h = rw (same_row k h)
same_cancel (suc (suc count)) size k h =
    let two : k < list_end ShortCancel (suc (suc count)) = omega arith in
    let one : k < list_end Cancel (suc (suc count)) = omega arith in
    inside (laid ShortCancel (suc (suc count)) size) k two ∙ rw (same_row k h) (sym (inside (laid Cancel (suc (suc count)) size) k one))

of_shape : (m : List ℕ) (k : ℕ) {s t : Shape} → s ≡ t → rule_in (laid s (count_of m) (get_or m 3 0)) k ≡ rule_in (laid t (count_of m) (get_or m 3 0)) k
of_shape m k e = ap (λ (s : Shape). rule_in (laid s (count_of m) (get_or m 3 0)) k) e

early_rule : (m : List ℕ) (k : ℕ) → k < 14 → rule_in (layout_of m) k ≡ rule_in (early m) k
early_rule m k h =
    by_cases (eqb (get_or m 1 0) 5)
    (λ t. of_shape m k {s = shape_of m} {t = first_shape m} (rw t))
    (λ t. by_cases (eqb (get_or m 14 0) 9)
    (λ u. of_shape m k {s = shape_of m} {t = first_shape m} (rw (t, u)))
    (λ u. of_shape m k {s = shape_of m} {t = ShortCancel} (rw (t, u)) ∙ same_cancel (count_of m) (get_or m 3 0) k h ∙ of_shape m k {s = Cancel} {t = first_shape m} (rw t)))

-- in the header
header_rule : (m : List ℕ) (k : ℕ) → k < 7 → rule_in (layout_of m) k ≡ cond (eqb k (4 + get_or m 3 0)) (none 17) (get_or (row_of (first_shape m)) k (none 19))
header_rule m k h = early_rule m k (omega arith) ∙ inside (early m) k (omega (arith, seven (first_shape m) (count_of m)))

-- before the length
start_rule : (m : List ℕ) (k : ℕ) → k < 4 → rule_in (layout_of m) k ≡ get_or (row_of (first_shape m)) k (none 19)
start_rule m k h = header_rule m k (omega arith) ∙ rw (ne_eqb k (4 + get_or m 3 0) (λ e. omega arith))

first_row : (b : Bool) → get_or (row_of (cond b Release Cancel)) 0 (none 19) ≡ get_or (row_of Release) 0 (none 19)
first_row true = refl
first_row false = refl

-- ---- by the octets up to a place

-- two messages of the same number, count and length
same_laid : {s t : Shape} {c d x y : ℕ} → s ≡ t → c ≡ d → x ≡ y → laid s c x ≡ laid t d y
same_laid p q r = λ i. laid (p i) (q i) (r i)

-- before the length the procedure code decides, and nothing at the very start
module _ (m n : List ℕ) where
  at_start : (k : ℕ) → k < 4 → ((j : ℕ) → j ≤ k → get_or m j 0 ≡ get_or n j 0) → get_or (row_of (first_shape m)) k (none 19) ≡ get_or (row_of (first_shape n)) k (none 19)
  at_start zero h agree = first_row (eqb (get_or m 1 0) 5) ∙ sym (first_row (eqb (get_or n 1 0) 5))
  at_start (suc k) h agree = ap (λ (x : ℕ). get_or (row_of (cond (eqb x 5) Release Cancel)) (suc k) (none 19)) (agree 1 (omega arith))

module _ (m n : List ℕ) (k : ℕ) (agree : (j : ℕ) → j ≤ k → get_or m j 0 ≡ get_or n j 0) where
  same_count : 6 ≤ k → count_of m ≡ count_of n
  same_count h = omega (arith, agree 5 (omega arith), agree 6 (omega arith))

  same_first : 1 ≤ k → first_shape m ≡ first_shape n
  same_first h = ap (λ (x : ℕ). cond (eqb x 5) Release Cancel) (agree 1 h)

  -- Where two messages have the same octets up to the second id, they are laid out the same.
  pub same_layout : 14 ≤ k → layout_of m ≡ layout_of n
  same_layout h =
      let code = agree 1 (omega arith) in
      let second = agree 14 h in
      let same : shape_of m ≡ shape_of n = λ i. cond (eqb (code i) 5) Release (cond (eqb (second i) 9) Cancel ShortCancel) in
      same_laid same (same_count (omega arith)) (agree 3 (omega arith))

  same_early : 6 ≤ k → early m ≡ early n
  same_early h = same_laid (same_first (omega arith)) (same_count h) (agree 3 (omega arith))

  by_header : 1 ≤ k → cond (eqb k (4 + get_or m 3 0)) (none 17) (get_or (row_of (first_shape m)) k (none 19)) ≡ cond (eqb k (4 + get_or m 3 0)) (none 17) (get_or (row_of (first_shape n)) k (none 19))
  by_header h = ap (λ (s : Shape). cond (eqb k (4 + get_or m 3 0)) (none 17) (get_or (row_of s) k (none 19))) (same_first h)

  -- Where two messages have the same octets up to a place, the same may stand there.
  pub same_rule : rule_in (layout_of m) k ≡ rule_in (layout_of n) k
  same_rule =
      by_cases (leb 14 k)
      (λ t. ap (λ (l : Layout). rule_in l k) (same_layout (leb-true 14 k t)))
      (λ t.
      let near : k < 14 = leb-false 14 k t in
      by_cases (leb 7 k)
      (λ u. early_rule m k near ∙ ap (λ (l : Layout). rule_in l k) (same_early (omega (arith, leb-true 7 k u))) ∙ sym (early_rule n k near))
      (λ u.
      let header : k < 7 = leb-false 7 k u in
      by_cases (leb 4 k)
      (λ v.
      header_rule m k header ∙ by_header (omega (arith, leb-true 4 k v))
      ∙ ap (λ (x : ℕ). cond (eqb k (4 + x)) (none 17) (get_or (row_of (first_shape n)) k (none 19))) (agree 3 (omega (arith, leb-true 4 k v)))
      ∙ sym (header_rule n k header))
      (λ v.
      let start : k < 4 = leb-false 4 k v in
      start_rule m k start ∙ at_start m n k start agree ∙ sym (start_rule n k start))))
