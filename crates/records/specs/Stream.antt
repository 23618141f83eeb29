-- How a stream of records is cut into events.
use Rattle.std.specs.Prelude.{ℕ, zero, suc, ◌+◌, ◌*◌, ◌-◌, Bool, true, false, cond, ◌&&◌, ◌||◌, List, [], ◌∷◌, leb, eqb, length, take, drop, get_or}
use Rattle.records.specs.Record.{zeros, record_at, room_at}
use Rattle.records.specs.declared.Record.{Record}
use Rattle.records.specs.declared.stream.Piece.{Piece}

-- "A request (kind 1) takes the next records"; "If its count is not 1 to 256 it takes none"
abbrev pub takes_bearers : Record → Bool
takes_bearers r = eqb r.kind 1 && (leb 1 r.number && leb r.number 256)

-- whether a record "of kind 16" stands at the front
abbrev pub bearer_first : List ℕ → Bool
bearer_first rest = leb 32 (length rest) && eqb (get_or rest 0 0) 16

-- how many such records stand at the front, "at most its count"
unfoldable pub bearers_in : ℕ → List ℕ → ℕ
bearers_in zero rest = 0
bearers_in (suc most) rest = cond (bearer_first rest) (suc (bearers_in most (drop 32 rest))) 0

-- a request of so many bytes, at the front of so many: it takes no more, whatever comes after, if it has all its bearers or another
-- record stands after it
abbrev pub request_in : Record → ℕ → ℕ → Piece
request_in r size length = record { head = r; size = size; whole = eqb size (32 + r.number * 32) || leb 32 (length - size) }

-- the event of a whole record at the front of some bytes
abbrev pub event_of : Record → List ℕ → Piece
event_of r bytes =
    cond (takes_bearers r) (request_in r (32 + 32 * bearers_in r.number (drop 32 bytes)) (length bytes))
    (record { head = r; size = 32; whole = true })

-- the event at the front of some bytes: "A piece shorter than 32 bytes at the end is one malformed event", as a record of no kind is
abbrev pub piece_of : List ℕ → Piece
piece_of bytes =
    cond (room_at bytes 0) (event_of (record_at bytes 0) bytes) (record { head = zeros; size = length bytes; whole = false })

-- its bytes
abbrev pub first_of : List ℕ → List ℕ
first_of bytes = take (piece_of bytes).size bytes

-- the bytes of each event, in order, in at most so many steps
unfoldable pub events_in : ℕ → List ℕ → List (List ℕ)
events_in zero bytes = []
events_in (suc steps) bytes =
    cond (leb (length bytes) 0) [] (first_of bytes ∷ events_in steps (drop (piece_of bytes).size bytes))

-- the bytes of each event of a stream, in order: as many steps as bytes are enough
abbrev pub events : List ℕ → List (List ℕ)
events bytes = events_in (length bytes) bytes
