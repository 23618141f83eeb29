-- Records: the words of a record read back to its fields.
use Prim.Native.Nat.{ℕ, zero, suc, ◌+◌, ◌%◌, ◌^◌, ◌≤◌, ◌<◌}
use mathlib.Core.Path.{◌≡◌, refl, sym, ◌∙◌}
use mathlib.Core.Bool.{true, cond, ◌&&◌}
use mathlib.Core.List.{List, [], ◌∷◌, ◌++◌, append_assoc}
use native.Mathlib.Omega.{arith}
use borrow.Author.Tests.{ltb-true, eqb-true}
use lib.Dec.{ltb, eqb}
use lib.ListN.{length, get_or, drop, replicate, length-append}
use lib.Seq.{set_at}
use Rattle.laws.proofs.Tests.{both_true, by_cases, below_at}
use Rattle.buffers.specs.Digits.{size, digits}
use Rattle.records.specs.Record.{InRange}
use Rattle.records.specs.declared.Record.{Record}
use Rattle.composing.specs.declared.Word.{Word}
use Rattle.words.specs.Values.{values_of, is_set}
use Rattle.words.specs.Words.{word_at}
use Rattle.showing.specs.Shown.{spaced_word, field_word, value_text, field_text, fields_text, words_text}
use Rattle.composing.specs.Composed.{limits, fields, next_field, may_begin, Made, stage}
use Rattle.files.proofs.Leading.{at, resting, Reads}
use Rattle.files.proofs.Typing.{Adds, adds_none, adds_on, adds_word, kind_read, field_read, number_read}
use Rattle.files.proofs.Members.{ids_read}

-- ---- the tables

-- A word of the table that names a field by its place names that field.
names : (f : ℕ) → 1 ≤ f → f ≤ 14 → get_or fields (17 + f) 0 ≡ f
names zero h k = absurd (omega arith)
names (suc f) h k = eqb-true (get_or fields (17 + suc f) 0) (suc f) (below_at 14 (λ i. eqb (get_or fields (17 + suc i) 0) (suc i)) f refl (omega arith))

-- So does the word that a field is shown with, a count and units too.
word_names : (kind f : ℕ) → 1 ≤ f → f ≤ 14 → (17 < field_word kind f) × (field_word kind f ≤ 34) × (get_or fields (field_word kind f) 0 ≡ f)
word_names kind f h k =
    by_cases (eqb f 8 && eqb kind 1)
    (λ t. let here = eqb-true f 8 (both_true (eqb f 8) (eqb kind 1) t).0 in rw t (omega arith, omega arith, sym here))
    (λ t. by_cases (eqb f 8 && eqb kind 16)
    (λ u. let here = eqb-true f 8 (both_true (eqb f 8) (eqb kind 16) u).0 in rw (t, u) (omega arith, omega arith, sym here))
    (λ u. rw (t, u) (omega arith, omega arith, names f h k)))

-- A number that may stand in a field has 64 bits.
limit_fits : (f : ℕ) → f ≤ 14 → get_or limits f 0 < 2 ^ 64
limit_fits f h = ltb-true (get_or limits f 0) (2 ^ 64) (below_at 15 (λ i. ltb (get_or limits i 0) (2 ^ 64)) f refl (omega arith))

-- ---- fields

-- the most that a field holds: a set, or a number
abbrev most : ℕ → ℕ
most f = cond (is_set f) 65535 (get_or limits f 0)

-- fields from one on, each within what it holds
unfoldable Within : ℕ → List ℕ → Type 0
Within f [] = Unit {0}
Within f (v ∷ vs) = (v ≤ most f) × Within (suc f) vs

-- a record that is being filled
module _ (kind staged : ℕ) (out : List ℕ) where
  abbrev filled : List ℕ → ℕ → Made
  filled values field = resting values field 1 staged out

  -- A value goes to the field that its word named.
  value_read : (done rest : List ℕ) (f v : ℕ) → length done ≡ f → f ≤ 14 → v ≤ most f → Adds (value_text f v) (filled (done ++ 0 ∷ rest) f) (filled (done ++ v ∷ rest) (next_field f))
  value_read done rest f v here h fits =
      by_cases (is_set f)
      (λ t.
      let small : v ≤ 65535 = rw t at fits in
      let whole : v % 65536 ≡ v = omega arith in
      rw (t, whole) (ids_read done rest 1 staged out (omega arith) f here t v (omega arith)))
      (λ t.
      let small : v ≤ get_or limits f 0 = rw t at fits in
      rw t
      (adds_word (digits (size v) v) (filled (done ++ 0 ∷ rest) f) (filled (done ++ v ∷ rest) 15) refl
      (rw (t, set_at done 0 rest v f here) at (number_read (done ++ 0 ∷ rest) f 1 staged out (omega arith) v (omega (arith, limit_fits f h)) h small))))

  -- A field's text makes its value of 0.
  one_field : (done rest : List ℕ) (f v g : ℕ) → length done ≡ f → 1 ≤ f → f ≤ 14 → v ≤ most f
      → (next : ℕ) × Adds (field_text kind f v) (filled (done ++ 0 ∷ rest) g) (filled (done ++ v ∷ rest) next)
  unfolding field_text
  one_field done rest f v g here some h fits =
      by_cases (eqb v 0)
      (λ t. (g, rw (t, eqb-true v 0 t) (adds_none (filled (done ++ 0 ∷ rest) g))))
      (λ t.
      let word = word_names kind f some h in (
        next_field f,
        rw t
            (adds_on (spaced_word (field_word kind f)) (value_text f v) (filled (done ++ 0 ∷ rest) g) (filled (done ++ 0 ∷ rest) f) (filled (done ++ v ∷ rest) (next_field f))
            (adds_word (word_at (field_word kind f)) (filled (done ++ 0 ∷ rest) g) (filled (done ++ 0 ∷ rest) f) refl
            (rw word.2 at (field_read (done ++ 0 ∷ rest) g staged out (field_word kind f) word.0 word.1)))
            (value_read done rest f v here h fits)),
      ))

  -- A field and those after it.
  field_first : (done zeros vs : List ℕ) (v g : ℕ) (one more : List ℕ)
      → (next : ℕ) × Adds one (filled (done ++ 0 ∷ zeros) g) (filled (done ++ v ∷ zeros) next)
      → ((next : ℕ) → (last : ℕ) × Adds more (filled ((done ++ (v ∷ [])) ++ zeros) next) (filled ((done ++ (v ∷ [])) ++ vs) last))
      → (last : ℕ) × Adds (one ++ more) (filled (done ++ 0 ∷ zeros) g) (filled (done ++ v ∷ vs) last)
  field_first done zeros vs v g one more first others =
      let rest = rw (append_assoc done (v ∷ []) zeros, append_assoc done (v ∷ []) vs) at (others first.0) in
      (rest.0, adds_on one more (filled (done ++ 0 ∷ zeros) g) (filled (done ++ v ∷ zeros) first.0) (filled (done ++ v ∷ vs) rest.0) first.1 rest.1)

  -- The fields from one on make their values of as many zeros.
  all_fields : (vs done : List ℕ) (f g : ℕ) → length done ≡ f → 1 ≤ f → f + length vs ≡ 15 → Within f vs
      → (last : ℕ) × Adds (fields_text kind f vs) (filled (done ++ replicate (length vs) 0) g) (filled (done ++ vs) last)
  unfolding fields_text Within
  all_fields [] done f g here some whole fits = (g, adds_none (filled (done ++ []) g))
  all_fields (v ∷ vs) done f g here some whole fits =
      field_first done (replicate (length vs) 0) vs v g (field_text kind f v) (fields_text kind (suc f) vs)
      (one_field done (replicate (length vs) 0) f v g here some (omega arith) fits.0)
      (λ next. all_fields vs (done ++ (v ∷ [])) (suc f) next (length-append done (v ∷ []) ∙ omega arith) (omega arith) (omega arith) fits.1)

-- The fields of a record are within what they hold.
in_range_lem : (r : Record) → InRange r → Within 1 (drop 1 (values_of r))
unfolding Within
in_range_lem r range = (omega arith, (omega arith, (omega arith, (omega arith, (omega arith, (omega arith, (omega arith, (omega arith, (omega arith, (omega arith, (omega arith, (omega arith, (omega arith, (omega arith, tt))))))))))))))

-- The words of a record make its fields where it may begin, once what was filled before is written.
pub record_read : (r : Record) → InRange r → r.kind ≤ 17
    → (values : List ℕ) (field mode staged after : ℕ) (out then : List ℕ) → mode ≤ 1
    → may_begin (resting values field mode staged out).draft r.kind ≡ true
    → ((w : Word) → stage (at values field mode staged w out) ≡ at values field mode after w then)
    → (g : ℕ) × Reads (words_text r) (resting values field mode staged out) (resting (values_of r) g 1 after then)
record_read r range known values field mode staged after out then words may stages =
    let kind = kind_read values field mode staged out words r.kind after then known may stages in
    let rest = all_fields r.kind after then (drop 1 (values_of r)) (r.kind ∷ []) 1 (get_or fields r.kind 0) refl (omega arith) refl (in_range_lem r range) in
    (rest.0, rest.1 (word_at r.kind) (resting values field mode staged out) kind)
