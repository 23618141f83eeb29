-- Words and numbers: what a line is after their bytes, and once they end.
use Prim.Native.Nat.{ℕ, zero, suc, ◌+◌, ◌/◌, ◌%◌, ◌^◌, ◌≤◌, ◌<◌}
use mathlib.Core.Path.{◌≡◌, refl, sym, ap, ◌∙◌}
use mathlib.Core.Bool.{Bool, true, false, not, ◌&&◌, false≢true}
use mathlib.Core.List.{List, [], ◌∷◌, ◌++◌, append-nil, append_assoc}
use native.Mathlib.Omega.{arith}
use borrow.Author.Tests.{le-leb, eq-eqb, ne_eqb, leb-false, ltb-false, eqb-true, eqb-false, not-true}
use lib.Dec.{leb, ltb, eqb}
use lib.ListN.{get_or, set}
use Rattle.std.specs.Prelude.{Option, Some, None}
use Rattle.laws.proofs.Tests.{both_true, by_cases, on_true, below, below_at}
use Rattle.buffers.specs.Digits.{size_in, size, digits}
use Rattle.composing.specs.declared.Word.{Word}
use Rattle.words.specs.Words.{last_kind, last_field, raw_word, place_of, trimmed, word_at}
use Rattle.composing.specs.Composed.{is_gap, tenth, takes_digit, longer, empty_word, pushed, blank_values, limits, fields, added, next_field, put, begun, chosen, may_begin, Made, stage, understood, settle, step}
use Rattle.composing.proofs.Machine.{a_kind, a_field, settle_number, settle_word, typed_on, step_gap, step_typed}
use Rattle.files.proofs.Leading.{at, resting, Leads, leads_on, leads_to, no_gap, Reads}

-- ---- one text after another

-- a text that goes on from where the last word of another has ended
abbrev pub Adds : List ℕ → Made → Made → Type 0
Adds text n o = (before : List ℕ) (m : Made) → Reads before m n → Reads (before ++ text) m o

-- No text goes on to the same.
pub adds_none : (n : Made) → Adds [] n n
adds_none n before m r = rw (append-nil before) r

-- Two such texts.
pub adds_on : (a b : List ℕ) (n o p : Made) → Adds a n o → Adds b o p → Adds (a ++ b) n p
adds_on a b n o p first then before m r = rw (append_assoc before a b) at (then (before ++ a) m (first before m r))

-- A space ends the last word, and one more is read.
pub adds_word : (text : List ℕ) (n o : Made) → n.draft.ended ≡ false → Reads text n o → Adds (32 ∷ text) n o
adds_word text n o still word before m r =
    let gap : Leads (32 ∷ []) r.end n = leads_to r.end n 32 (step_gap r.end 32 n (λ e. omega arith) r.reading (λ e. omega arith) refl (sym r.settled)) still in
    record {
      end = word.end;
      leads = leads_on before (32 ∷ text) m r.end word.end r.leads (leads_on (32 ∷ []) text r.end n word.end gap word.leads);
      settled = word.settled;
      reading = word.reading;
    }

-- ---- bytes of a word

-- a byte that ends neither a word nor a line
abbrev is_plain : ℕ → Bool
is_plain b = not (eqb b 10) && not (eqb b 35) && not (is_gap b)

-- and a text of such bytes
unfoldable all_plain : List ℕ → Bool
all_plain [] = true
all_plain (b ∷ bs) = is_plain b && all_plain bs

-- a word with some bytes more
unfoldable pub typed_all : Word → List ℕ → Word
typed_all w [] = w
typed_all w (b ∷ bs) = typed_all (pushed w b) bs

-- ---- words of the table

-- what is typed of a word of the table
abbrev pub word_of : ℕ → Word
word_of k = typed_all empty_word (word_at k)

-- whether a place is another
abbrev is_at : ℕ → Option ℕ → Bool
is_at k None = false
is_at k (Some place) = eqb k place

at_place : (k : ℕ) (place : Option ℕ) → is_at k place ≡ true → Some k ≡ place
at_place k None t = absurd (false≢true t)
at_place k (Some place) t = ap Some (eqb-true k place t)

-- whether a word of the table reads back to its place
abbrev is_read : ℕ → Bool
is_read k = all_plain (word_at k) && not (eqb (word_of k).size 0) && not (word_of k).number && is_at k (place_of (word_of k).text)

-- Every one does: the table is computed.
all_read : below 37 is_read ≡ true
unfolding all_plain typed_all word_at trimmed place_of
all_read = refl

-- ---- numbers

-- a word that is a number
record Spells (w : Word) (n : ℕ) : Type 0 where
  number : w.number ≡ true
  value : w.value ≡ n
  some : 1 ≤ w.size

-- The last digit of a number of 64 bits has room.
takes_last : (n : ℕ) → n < 2 ^ 64 → takes_digit (n / 10) (48 + n % 10) ≡ true
takes_last n small =
    rw (le-leb 48 (48 + n % 10) (omega arith), le-leb (48 + n % 10) 57 (omega arith))
    (by_cases (ltb (n / 10) tenth)
    (λ t. rw t)
    (λ t.
    let over = ltb-false (n / 10) tenth t in
    rw (t, eq-eqb (n / 10) tenth (omega arith), le-leb (48 + n % 10) 53 (omega arith))))

-- A word with a byte more is not empty.
longer_some : (n : ℕ) → 1 ≤ longer n
longer_some n = by_cases (leb n 16) (λ t. rw t (omega arith)) (λ t. rw t (omega arith))

-- A digit goes to the number whose tenth was typed.
one_typed : (w : Word) (n : ℕ) → n < 2 ^ 64 → w.number ≡ true → w.value ≡ n / 10 → Spells (pushed w (48 + n % 10)) n
one_typed w n small number value =
    let takes : takes_digit w.value (48 + n % 10) ≡ true = rw value (takes_last n small) in
    record {
      number = rw (number, takes);
      value = on_true (takes_digit w.value (48 + n % 10)) _ _ takes ∙ rw value (omega arith);
      some = longer_some w.size;
    }

-- The last byte is typed last.
typed_last : (w : Word) (ds : List ℕ) (d : ℕ) → typed_all w (ds ++ (d ∷ [])) ≡ pushed (typed_all w ds) d
unfolding typed_all
typed_last w [] d = refl
typed_last w (x ∷ ds) d = typed_last (pushed w x) ds d

-- A number of one digit, and a digit after its tenth.
module _ (n : ℕ) where
  first_digit : n < 10 → Spells (typed_all empty_word (digits 1 n)) n
  unfolding digits typed_all
  first_digit few = one_typed empty_word n (omega arith) refl (omega arith)

  next_digit : (k : ℕ) → n < 2 ^ 64 → Spells (typed_all empty_word (digits k (n / 10))) (n / 10) → Spells (typed_all empty_word (digits (suc k) n)) n
  unfolding digits
  next_digit k small s = rw (typed_last empty_word (digits k (n / 10)) (48 + n % 10)) (one_typed (typed_all empty_word (digits k (n / 10))) n small s.number s.value)

-- So a number is typed digit by digit.
spells : (most n : ℕ) → n < 10 ^ suc most → n < 2 ^ 64 → Spells (typed_all empty_word (digits (size_in most n) n)) n
unfolding size_in
spells zero n h small = first_digit n (omega arith)
spells (suc most) n h small =
    by_cases (leb 10 n)
    (λ t. rw t (next_digit n (size_in most (n / 10)) small (spells most (n / 10) (omega arith) (omega arith))))
    (λ t. rw t (first_digit n (leb-false 10 n t)))

-- A digit ends neither a word nor a line.
digit_plain : (n : ℕ) → is_plain (48 + n % 10) ≡ true
digit_plain n =
    rw (ne_eqb (48 + n % 10) 10 (λ e. omega arith), ne_eqb (48 + n % 10) 35 (λ e. omega arith), no_gap (48 + n % 10) (omega arith))

-- One such byte more.
plain_last : (ds : List ℕ) (d : ℕ) → all_plain ds ≡ true → is_plain d ≡ true → all_plain (ds ++ (d ∷ [])) ≡ true
unfolding all_plain
plain_last [] d t u = rw u
plain_last (x ∷ ds) d t u = let both = both_true (is_plain x) (all_plain ds) t in rw both.0 (plain_last ds d both.1 u)

-- No digit of a number ends it.
digits_plain : (k n : ℕ) → all_plain (digits k n) ≡ true
unfolding digits all_plain
digits_plain zero n = refl
digits_plain (suc k) n = plain_last (digits k (n / 10)) (48 + n % 10) (digits_plain k (n / 10)) (digit_plain n)

-- ---- a line that reads them

-- a line, by the word that is being read
module _ (values : List ℕ) (field mode staged : ℕ) (out : List ℕ) where
  abbrev line : Word → Made
  line w = at values field mode staged w out

  module _ (words : mode ≤ 1) where
    -- A byte that ends nothing goes to the word, where words are read and no bytes.
    types : (w : Word) (b : ℕ) → is_plain b ≡ true → line (pushed w b) ≡ step (line w) b
    types w b t =
        let one = both_true (not (eqb b 10) && not (eqb b 35)) (not (is_gap b)) t in
        let two = both_true (not (eqb b 10)) (not (eqb b 35)) one.0 in
        step_typed (line w) b (line (pushed w b))
        (eqb-false b 10 (not-true (eqb b 10) two.0))
        (omega arith)
        (eqb-false b 35 (not-true (eqb b 35) two.1))
        (not-true (is_gap b) one.1)
        (typed_on (line w) b (line (pushed w b)).draft refl (rw (ne_eqb mode 2 (λ e. omega arith))))

    -- So does a text of such bytes.
    types_all : (text : List ℕ) (w : Word) → all_plain text ≡ true → Leads text (line w) (line (typed_all w text))
    unfolding all_plain typed_all
    types_all [] w t = λ rest. refl
    types_all (b ∷ bs) w t =
        let both = both_true (is_plain b) (all_plain bs) t in
        leads_on (b ∷ []) bs (line w) (line (pushed w b)) (line (typed_all (pushed w b) bs))
        (leads_to (line w) (line (pushed w b)) b (types w b both.0) refl)
        (types_all bs (pushed w b) both.1)

    -- A text of such bytes reads to what its word does once it has ended.
    types_word : (text : List ℕ) (n : Made) → all_plain text ≡ true → n ≡ settle (line (typed_all empty_word text)) → Reads text (line empty_word) n
    types_word text n t e = record { end = line (typed_all empty_word text); leads = types_all text empty_word t; settled = sym e; reading = omega arith }

    -- A word of the table is understood.
    pub word_read : (k : ℕ) → k ≤ raw_word → (n : Made) → n ≡ understood (line (word_of k)) k → Reads (word_at k) (line empty_word) n
    word_read k h n e =
        let w = word_of k in
        let all = both_true (all_plain (word_at k) && not (eqb w.size 0) && not w.number) _ (below_at 37 is_read k all_read (omega arith)) in
        let three = both_true (all_plain (word_at k) && not (eqb w.size 0)) _ all.0 in
        let two = both_true (all_plain (word_at k)) _ three.0 in
        types_word (word_at k) n two.0
        (settle_word (line w) k n
        (eqb-false w.size 0 (not-true (eqb w.size 0) two.1))
        (λ u. omega arith)
        (not-true w.number three.1)
        (at_place k (place_of w.text) all.1)
        e)

    -- A kind's word begins a record where it may, and what was filled before it is written.
    pub kind_read : (k after : ℕ) (left : List ℕ) → k ≤ last_kind → may_begin (line empty_word).draft k ≡ true → ((w : Word) → stage (line w) ≡ at values field mode after w left)
        → Reads (word_at k) (line empty_word) (resting (blank_values k) (get_or fields k 0) 1 after left)
    unfolding begun
    kind_read k after left h may s =
        let next = resting (blank_values k) (get_or fields k 0) 1 after left in
        word_read k (omega arith) next
        (a_kind (line (word_of k)) k (at values field mode after (word_of k) left).draft next.draft left h may (sym (s (word_of k))) (rw (ne_eqb mode 5 (λ e. omega arith))))

    -- A number goes to the field that takes it.
    pub number_read : (n : ℕ) → n < 2 ^ 64 → field ≤ 14 → n ≤ get_or limits field 0
        → Reads (digits (size n) n) (line empty_word) (resting (set values field (added field (get_or values field 0) n)) (next_field field) mode staged out)
    unfolding put
    number_read n small h fits =
        let w = typed_all empty_word (digits (size n) n) in
        let s = spells 19 n (omega arith) small in
        let next = resting (set values field (added field (get_or values field 0) n)) (next_field field) mode staged out in
        types_word (digits (size n) n) next (digits_plain (size n) n)
        (settle_number (line w) next.draft
        (λ e. omega (arith, s.some))
        (λ e. omega arith)
        s.number
        (rw (s.value, le-leb field 14 h, le-leb n (get_or limits field 0) fits)))

-- A field's word names the field that takes the next number.
pub field_read : (values : List ℕ) (field staged : ℕ) (out : List ℕ) (k : ℕ) → last_kind < k → k ≤ last_field
    → Reads (word_at k) (resting values field 1 staged out) (resting values (get_or fields k 0) 1 staged out)
unfolding chosen
field_read values field staged out k g h =
    word_read values field 1 staged out (omega arith) k (omega arith) _
    (a_field (at values field 1 staged (word_of k) out) k _ g h refl)
