-- What records are shown as.
use Rattle.std.specs.Prelude.{ℕ, zero, suc, ◌+◌, ◌-◌, ◌/◌, ◌%◌, Bool, true, false, cond, ◌&&◌, List, [], ◌∷◌, ◌++◌, leb, eqb, length, take, drop}
use Rattle.sets.specs.Sets.{member}
use Rattle.buffers.specs.Digits.{size, digits}
use Rattle.records.specs.Record.{record_of}
use Rattle.records.specs.Stream.{takes_bearers}
use Rattle.records.specs.declared.Record.{Record}
use Rattle.showing.specs.Room.{event_room, last_room}
use Rattle.showing.specs.declared.Sheet.{Sheet}
use Rattle.showing.specs.declared.Shown.{Shown}
use Rattle.words.specs.Values.{is_set, values_of}
use Rattle.words.specs.Words.{last_kind, raw_word, word_at}

-- a space and a number, a space and a word
abbrev pub number_text : ℕ → List ℕ
number_text n = 32 ∷ digits (size n) n

abbrev pub spaced_word : ℕ → List ℕ
spaced_word k = 32 ∷ word_at k

-- "sets as lists of IDs"
abbrev pub id_text : ℕ → ℕ → List ℕ
id_text s k = cond (member s k) (number_text k) []

-- so many IDs from one on
unfoldable pub ids_text : ℕ → ℕ → ℕ → List ℕ
ids_text s k zero = []
ids_text s k (suc n) = id_text s k ++ ids_text s (suc k) n

-- whether a kind has a word of its own
abbrev pub has_word : ℕ → Bool
has_word kind = leb 1 kind && leb kind last_kind

-- a field's word: the number of a request is a count, that of a bearer its units
abbrev pub field_word : ℕ → ℕ → ℕ
field_word kind f = cond (eqb f 8 && eqb kind 1) 33 (cond (eqb f 8 && eqb kind 16) 32 (last_kind + f))

abbrev pub value_text : ℕ → ℕ → List ℕ
value_text f v = cond (is_set f) (ids_text (v % 65536) 0 16) (number_text v)

-- "the name and value of each field that is not zero"
unfoldable pub field_text : ℕ → ℕ → ℕ → List ℕ
field_text kind f v = cond (eqb v 0) [] (spaced_word (field_word kind f) ++ value_text f v)

-- the fields from one on
unfoldable pub fields_text : ℕ → ℕ → List ℕ → List ℕ
fields_text kind f [] = []
fields_text kind f (v ∷ vs) = field_text kind f v ++ fields_text kind (suc f) vs

-- a record by its words: its kind, and its fields
abbrev pub words_text : Record → List ℕ
words_text r = word_at r.kind ++ fields_text r.kind 1 (drop 1 (values_of r))

-- bytes as hexadecimal digits, two each
abbrev pub hex_digit : ℕ → ℕ
hex_digit n = cond (leb n 9) (48 + n) (87 + n)

unfoldable pub bytes_text : List ℕ → List ℕ
bytes_text [] = []
bytes_text (b ∷ bs) = hex_digit (b / 16) ∷ hex_digit (b % 16) ∷ bytes_text bs

-- "raw and its hex digits"
abbrev pub raw_text : List ℕ → List ℕ
raw_text bytes = word_at raw_word ++ (32 ∷ bytes_text bytes)

-- the 32 bytes of a record: "odd records come out as raw", those of a kind that has no word
abbrev pub record_text : List ℕ → List ℕ
record_text bytes = let r = record_of bytes in cond (has_word r.kind) (words_text r) (raw_text bytes)

-- whether a record is a bearer of the request on the open line
abbrev pub joins : Sheet → Record → Bool
joins s r = leb 1 s.owed && eqb r.kind 16

-- how many bearers may follow a record on its line
abbrev pub owed_after : Sheet → Record → ℕ
owed_after s r = cond (joins s r) (s.owed - 1) (cond (takes_bearers r) r.number 0)

-- "a request with its bearers on one line": a space before a bearer, a line feed where another line is open
abbrev pub gap_text : Sheet → Record → List ℕ
gap_text s r = cond (joins s r) (32 ∷ []) (cond s.begun (10 ∷ []) [])

abbrev pub event_text : Sheet → List ℕ → List ℕ
event_text s bytes = gap_text s (record_of bytes) ++ record_text bytes

abbrev pub new_sheet : Sheet
new_sheet = record { owed = 0; begun = false }

-- whether a record is shown: it is whole, and any record's text has room
abbrev pub is_shown : ℕ → List ℕ → Bool
is_shown room bytes = leb 32 (length bytes) && leb event_room room

abbrev pub shown_text : ℕ → List ℕ → Sheet → List ℕ
shown_text room bytes s = cond (is_shown room bytes) (event_text s (take 32 bytes)) []

abbrev pub sheet_after : Sheet → Record → Sheet
sheet_after s r = record { owed = owed_after s r; begun = true }

abbrev pub shown_of : ℕ → List ℕ → Sheet → Shown
shown_of room bytes s =
    let r = record_of (take 32 bytes) in
    cond (is_shown room bytes)
    record { sheet = sheet_after s r; taken = 32; written = length (event_text s (take 32 bytes)) }
    record { sheet = s; taken = 0; written = 0 }

-- the open line ends, and what is left of a record is a line of its own: "a short piece as raw and its hex digits"
abbrev pub end_text : Bool → List ℕ
end_text begun = cond begun (10 ∷ []) []

abbrev pub rest_text : List ℕ → List ℕ
rest_text rest = cond (eqb (length rest) 0) [] (raw_text rest ++ (10 ∷ []))

abbrev pub closing_text : List ℕ → Sheet → List ℕ
closing_text rest s = end_text s.begun ++ rest_text rest

abbrev pub last_text : ℕ → List ℕ → Sheet → List ℕ
last_text room rest s = cond (leb (length rest) 31 && leb last_room room) (closing_text rest s) []
