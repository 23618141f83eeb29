-- What a text means: a machine that takes one byte after the other.
use Rattle.std.specs.Prelude.{ℕ, suc, ◌+◌, ◌*◌, ◌-◌, ◌/◌, ◌%◌, Bool, true, false, cond, ◌&&◌, ◌||◌, List, [], ◌∷◌, leb, ltb, eqb, length, get_or, set, Option, Some, None}
use Rattle.sets.specs.Sets.{add}
use Rattle.records.specs.Record.{room_at, written_at}
use Rattle.composing.specs.declared.Word.{Word}
use Rattle.composing.specs.declared.Draft.{Draft}
use Rattle.words.specs.Values.{field_count, is_set, record_from}
use Rattle.words.specs.Words.{last_kind, last_field, absent_word, raw_word, word_room, place_of}

-- "A line is words separated by spaces": a space, a tab, a carriage return
abbrev pub is_gap : ℕ → Bool
is_gap b = eqb b 32 || eqb b 9 || eqb b 13

-- a tenth of the greatest number of 64 bits: a smaller one takes any digit, and this one takes 0 to 5
abbrev pub tenth : ℕ
tenth = 1844674407370955161

-- whether a byte is a digit that a number has room for in 64 bits
abbrev pub takes_digit : ℕ → ℕ → Bool
takes_digit v b = leb 48 b && leb b 57 && (ltb v tenth || eqb v tenth && leb b 53)

abbrev pub grown : ℕ → ℕ → ℕ
grown v b = cond (takes_digit v b) (v * 10 + (b - 48)) 0

-- a word's size stops one beyond the longest
abbrev pub longer : ℕ → ℕ
longer n = cond (leb n word_room) (n + 1) (word_room + 1)

abbrev pub empty_word : Word
empty_word =
    record {
      text = 32 ∷ 32 ∷ 32 ∷ 32 ∷ 32 ∷ 32 ∷ 32 ∷ 32 ∷ 32 ∷ 32 ∷ 32 ∷ 32 ∷ 32 ∷ 32 ∷ 32 ∷ 32 ∷ [];
      size = 0;
      value = 0;
      number = true;
    }

-- a word with one byte more
abbrev pub pushed : Word → ℕ → Word
pushed w b =
    record {
      text = set w.text w.size b;
      size = longer w.size;
      value = grown w.value b;
      number = w.number && takes_digit w.value b;
    }

abbrev pub blank_values : ℕ → List ℕ
blank_values kind = kind ∷ 0 ∷ 0 ∷ 0 ∷ 0 ∷ 0 ∷ 0 ∷ 0 ∷ 0 ∷ 0 ∷ 0 ∷ 0 ∷ 0 ∷ 0 ∷ 0 ∷ []

-- what a number in a field may be: for a set, an ID
abbrev pub limits : List ℕ
limits =
    255 ∷ 255 ∷ 65535 ∷ 65535 ∷ 15 ∷ 15 ∷ 255 ∷ 255 ∷ 4294967295 ∷ 18446744073709551615 ∷ 255 ∷ 255 ∷ 255 ∷ 255
    ∷ 4294967295 ∷ []

-- the field that the number after a word goes to: a kind's first field, or the field that the word names
abbrev pub fields : List ℕ
fields =
    0 ∷ 1 ∷ 1 ∷ 1 ∷ 1 ∷ 1 ∷ 1 ∷ 1 ∷ 1 ∷ 1 ∷ 2 ∷ 3 ∷ 2 ∷ 3 ∷ 1 ∷ 9 ∷ 10 ∷ 2
    ∷ 1 ∷ 2 ∷ 3 ∷ 4 ∷ 5 ∷ 6 ∷ 7 ∷ 8 ∷ 9 ∷ 10 ∷ 11 ∷ 12 ∷ 13 ∷ 14 ∷ 8 ∷ 8 ∷ 13 ∷ []

-- what a field holds after a number: that number, or with the ID that it is
abbrev pub added : ℕ → ℕ → ℕ → ℕ
added f v n = cond (is_set f) (add (v % 65536) (n % 256)) n

-- a set takes more numbers, and no field stands for none
abbrev pub next_field : ℕ → ℕ
next_field f = cond (is_set f) f field_count

abbrev pub in_mode : ℕ → Draft → Draft
in_mode mode d = record { values = d.values; field = d.field; mode = mode; staged = d.staged; word = d.word; ended = d.ended }

abbrev pub wrong : Draft → Draft
wrong d = in_mode 4 d

abbrev pub too_long : Draft → Draft
too_long d = in_mode 5 d

-- a number goes into the field that takes it, if it may stand there
unfoldable pub put : Draft → ℕ → Draft
put d n =
    cond (leb d.field 14 && leb n (get_or limits d.field 0))
    record {
      values = set d.values d.field (added d.field (get_or d.values d.field 0) n);
      field = next_field d.field;
      mode = d.mode;
      staged = d.staged;
      word = empty_word;
      ended = d.ended;
    }
    (wrong d)

-- a new record of a kind
unfoldable pub begun : Draft → ℕ → Draft
begun d kind =
    cond (eqb d.mode 5) d
    record {
      values = blank_values kind;
      field = get_or fields kind 0;
      mode = 1;
      staged = d.staged;
      word = empty_word;
      ended = d.ended;
    }

-- a field of the record that is being filled is named
unfoldable pub chosen : Draft → ℕ → Draft
chosen d word =
    cond (eqb d.mode 1)
    record {
      values = d.values;
      field = get_or fields word 0;
      mode = 1;
      staged = d.staged;
      word = empty_word;
      ended = d.ended;
    }
    (wrong d)

-- bytes follow
abbrev pub raw_begun : Draft → Draft
raw_begun d = record { values = d.values; field = field_count; mode = 2; staged = d.staged; word = empty_word; ended = d.ended }

-- what a hexadecimal digit stands for
unfoldable pub nibble : ℕ → Option ℕ
nibble b =
    cond (leb 48 b && leb b 57) (Some (b - 48))
    (cond (leb 97 b && leb b 102) (Some (b - 87)) (cond (leb 65 b && leb b 70) (Some (b - 55)) None))

-- a line as far as it was read, and the buffer in which its records stand
pub record Made : Type 0 where
  pub draft : Draft
  pub out : List ℕ

abbrev pub made : Draft → List ℕ → Made
made d out = record { draft = d; out = out }

-- the record that is being filled is written behind those that stand in the buffer
abbrev pub staged_by : Draft → ℕ → Draft
staged_by d n = record { values = d.values; field = d.field; mode = d.mode; staged = d.staged + n; word = d.word; ended = d.ended }

unfoldable pub stage : Made → Made
stage m =
    let d = m.draft in
    cond (eqb d.mode 1)
    (made
    (cond (room_at m.out d.staged) (staged_by d 32) (too_long d))
    (written_at (record_from d.values) m.out d.staged))
    m

-- the same buffer, with another draft
abbrev pub on_draft : (Draft → Draft) → Made → Made
on_draft f m = made (f m.draft) m.out

abbrev pub with_word : Draft → Word → Draft
with_word d w = record { values = d.values; field = d.field; mode = d.mode; staged = d.staged; word = w; ended = d.ended }

-- the byte of two digits
abbrev pub byte_of : Option ℕ → Option ℕ → Option ℕ
byte_of (Some high) (Some low) = Some (high * 16 + low)
byte_of (Some high) None = None
byte_of None low = None

-- the byte of a word of two hexadecimal digits
unfoldable pub hex_value : Word → Option ℕ
hex_value w = cond (eqb w.size 2) (byte_of (nibble (get_or w.text 0 0)) (nibble (get_or w.text 1 0))) None

abbrev pub appended : Draft → Draft
appended d = with_word (staged_by d 1) empty_word

-- a byte goes behind those that stand in the buffer: "64 hex digits writes any record, a shorter even number of digits a short
-- piece", and one more is not understood
abbrev pub with_byte : Made → Option ℕ → Made
with_byte m None = on_draft wrong m
with_byte m (Some byte) =
    let d = m.draft in
    cond (leb d.staged 31)
    (cond (leb (length m.out) d.staged) (on_draft too_long m) (made (appended d) (set m.out d.staged byte)))
    (on_draft wrong m)

unfoldable pub hex : Made → Made
hex m = with_byte m (hex_value m.draft.word)

-- "a request with its bearers on one line": whether a bearer may follow the record that is being filled, which is a request, or stands
-- behind other records as only a request's bearers do
abbrev pub takes_bearer : Draft → Bool
takes_bearer d = leb 1 d.staged || eqb (get_or d.values 0 0) 1

-- "one event a line": a kind's word begins the line, or a bearer of its request
abbrev pub may_begin : Draft → ℕ → Bool
may_begin d word = eqb d.mode 0 || eqb d.mode 1 && eqb word 16 && takes_bearer d

-- what a word of the table does: a kind begins a record where it may, a field takes the next number, an absent New ID is 65,535, and
-- bytes follow the word `raw` where it is the line's first; any other word is not understood
unfoldable pub understood : Made → ℕ → Made
understood m word =
    let d = m.draft in
    cond (leb word last_kind) (cond (may_begin d word) (on_draft (λ e. begun e word) (stage m)) (on_draft wrong m))
    (cond (leb word last_field) (on_draft (λ e. chosen e word) m)
    (cond (eqb word absent_word) (on_draft (λ e. put e 65535) m)
    (cond (eqb word raw_word && eqb d.mode 0) (on_draft raw_begun m) (on_draft wrong m))))

-- a text that is no word of the table is not understood
abbrev pub looked_up : Made → Option ℕ → Made
looked_up m None = on_draft wrong m
looked_up m (Some word) = understood m word

-- a word has ended
unfoldable pub settle : Made → Made
settle m =
    let w = m.draft.word in
    cond (eqb w.size 0) m
    (cond (eqb m.draft.mode 2) (hex m)
    (cond w.number (on_draft (λ d. put d w.value) m) (looked_up m (place_of w.text))))

-- "request without count gets the number of bearer items of its line"
abbrev pub lacks_count : Draft → List ℕ → Bool
lacks_count d out =
    leb 64 (length out)
    && (eqb d.mode 1 && leb 64 d.staged && eqb (get_or out 0 0) 1 && eqb (get_or out 12 0) 0 && eqb (get_or out 13 0) 0
    && eqb (get_or out 14 0) 0 && eqb (get_or out 15 0) 0)

unfoldable pub counted : Made → Made
counted m =
    let following = m.draft.staged / 32 - 1 in
    cond (lacks_count m.draft m.out)
    (made m.draft (set (set m.out 12 (following % 256)) 13 (following / 256 % 256)))
    m

-- the words of a line have ended
unfoldable pub close : Made → Made
close m = cond (leb m.draft.mode 2) (counted (stage (settle m))) m

abbrev pub commented : Draft → Draft
commented d = cond (leb d.mode 2) (in_mode 3 d) d

abbrev pub finished : Draft → Draft
finished d = record { values = d.values; field = d.field; mode = d.mode; staged = d.staged; word = d.word; ended = true }

-- two digits are a word where bytes are written
abbrev pub is_pair : Draft → Bool
is_pair d = eqb d.mode 2 && eqb d.word.size 2

unfoldable pub typed : Made → ℕ → Made
typed m b =
    let next = on_draft (λ d. with_word d (pushed d.word b)) m in
    cond (is_pair next.draft) (hex next) next

-- a byte that changes nothing: of a line of which no more words are read, or a space where no word has begun
abbrev pub passes : Draft → ℕ → Bool
passes d b = cond (eqb b 10) false (cond (ltb 2 d.mode) true (is_gap b && eqb d.word.size 0))

-- one byte of the text: a line feed ends the line, "# starts a comment", spaces end a word
unfoldable pub step : Made → ℕ → Made
step m b =
    cond (eqb b 10) (on_draft finished (close m))
    (cond (leb m.draft.mode 2)
    (cond (eqb b 35) (on_draft commented (close m)) (cond (is_gap b) (settle m) (typed m b)))
    m)

-- the longest event has so many bytes: a request, and 256 bearers
abbrev pub longest_event : ℕ
longest_event = 8224

-- the beginning of a line
abbrev pub new_draft : Draft
new_draft = record { values = blank_values 0; field = field_count; mode = 0; staged = 0; word = empty_word; ended = false }

-- a line is read to its end
unfoldable pub read_from : List ℕ → Made → Made
read_from [] m = m
read_from (b ∷ bs) m = cond m.draft.ended m (read_from bs (step m b))

-- and of so many bytes
unfoldable pub taken_from : List ℕ → Made → ℕ
taken_from [] m = 0
taken_from (b ∷ bs) m = cond m.draft.ended 0 (suc (taken_from bs (step m b)))
