-- In how many bytes a text has room, whatever it is of.
use Rattle.std.specs.Prelude.{ℕ, ◌+◌, ◌*◌}
use Rattle.buffers.specs.Digits.{cell_room}
use Rattle.words.specs.Words.{word_room}

-- a space and a word
abbrev pub spaced_room : ℕ
spaced_room = 1 + word_room

-- what a field holds: at most a set of sixteen IDs
abbrev pub value_room : ℕ
value_room = 16 * cell_room

-- a field, by its word and what it holds
abbrev pub field_room : ℕ
field_room = spaced_room + value_room

-- the fourteen fields after the kind
abbrev pub fields_room : ℕ
fields_room = 14 * field_room

-- a record, which is longest by its words
abbrev pub record_room : ℕ
record_room = word_room + fields_room

-- a record and the byte before it
abbrev pub event_room : ℕ
event_room = 1 + record_room

-- what ends the text: at most two line feeds, a word, a space, and the digits of 31 bytes
abbrev pub last_room : ℕ
last_room = 96
