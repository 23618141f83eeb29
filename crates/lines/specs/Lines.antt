-- The lines of the station program, one for each event of a stream.
use Rattle.std.specs.Prelude.{ℕ, zero, suc, ◌+◌, ◌-◌, ◌*◌, ◌%◌, ◌^◌, Bool, cond, ◌&&◌, ◌||◌, List, [], ◌∷◌, ◌++◌, length, drop, nat_le, nat_lt}
use Rattle.buffers.specs.Digits.{cell_room, cell, spaced}
use Rattle.records.specs.Stream.{piece_of, first_of}
use Rattle.records.specs.declared.stream.Piece.{Piece}
use Rattle.table.specs.declared.Answer.{Answer}
use Rattle.answers.specs.declared.Outcome.{Outcome}
use Rattle.table.specs.declared.Settings.{Settings}
use Rattle.table.specs.declared.Station.{Station}
use Rattle.table.specs.Step.{refused, step_of, verdicts_of, born_of}
use Rattle.lines.specs.declared.Run.{Run}
use Rattle.lines.specs.declared.Progress.{Progress}

-- "place from 1, reply, then kind, neighbour, Old, New, first and second set of the message sent (six zeros if none), then ending"; and "the
-- offset of the lowest offending field's first byte", then "the place of the bearer record", which is the last
abbrev pub first_ten : ℕ → Outcome → List ℕ
first_ten place o =
    place
    ∷ o.reply
    ∷ o.message.kind
    ∷ o.message.neighbour
    ∷ o.message.old.0
    ∷ o.message.new.0
    ∷ o.message.first
    ∷ o.message.second
    ∷ o.ending
    ∷ o.offset
    ∷ []

abbrev pub line_of : ℕ → Outcome → List ℕ
line_of place o = spaced (first_ten place o) ++ cell o.place 10

-- the longest line has so many bytes: eleven numbers, and a byte after each
abbrev pub longest : ℕ
longest = 11 * cell_room

-- whether what stands at the front is an event: whatever comes after, or because nothing does
abbrev pub is_whole : Bool → Piece → Bool
is_whole ended p = p.whole || (ended && nat_lt 0 p.size)

-- the station's answer to the bytes of one event: "A request with its bearers is one event"; "14 short piece", one that is shorter than 32
-- bytes, which no entry of the station sees; so many places are lent for verdicts
abbrev pub answer_to : ℕ → Station → List ℕ → Answer
answer_to room s event = cond (nat_lt (length event) 32) (refused 14 s) (step_of s (piece_of event).head (drop 32 event) room)

-- and what it leaves of the buffer
abbrev pub verdicts_to : Station → List ℕ → List ℕ → List ℕ
verdicts_to s event buffer = cond (nat_lt (length event) 32) buffer (verdicts_of s (piece_of event).head (drop 32 event) buffer)

-- a run lends so many places for verdicts, one for each bearer that a request can have
abbrev pub verdict_room : ℕ
verdict_room = 256

-- "place counts events": it wraps after 64 bits
abbrev pub after : Run → List ℕ → Run
after run rest =
    record {
      station = (answer_to verdict_room run.station (first_of rest)).station;
      place = (run.place + 1) % 2 ^ 64;
    }

abbrev pub line_for : Run → List ℕ → List ℕ
line_for run rest = line_of run.place (answer_to verdict_room run.station (first_of rest)).outcome

-- "settings capacity 100, prep 50, overall 2,000, guard 3,000"
abbrev pub settings : Settings
settings = record { capacity = 100; prep = 50; overall = 2000; guard = 3000 }

abbrev pub new_run : Run
new_run = record { station = born_of settings; place = 1 }

-- a run in a block of a stream: how many of its bytes it has taken, and what it has written
pub record Work : Type 0 where
  pub run : Run
  pub taken : ℕ
  pub text : List ℕ

abbrev pub beginning : Run → Work
beginning run = record { run = run; taken = 0; text = [] }

-- it goes on while a whole event stands there and the buffer has room for the longest line
abbrev pub goes_on : Bool → ℕ → List ℕ → Work → Bool
goes_on ended room bytes w =
    is_whole ended (piece_of (drop w.taken bytes)) && nat_le longest (room - length w.text)

-- one event
abbrev pub onward : List ℕ → Work → Work
onward bytes w =
    let rest = drop w.taken bytes in
    record { run = after w.run rest; taken = w.taken + (piece_of rest).size; text = w.text ++ line_for w.run rest }

-- events one after the other, at most so many
unfoldable pub work_on : ℕ → Bool → ℕ → List ℕ → Work → Work
work_on zero ended room bytes w = w
work_on (suc most) ended room bytes w =
    cond (goes_on ended room bytes w) (work_on most ended room bytes (onward bytes w)) w

-- what a run does with a block: no more events than bytes
abbrev pub work_of : Bool → ℕ → List ℕ → Run → Work
work_of ended room bytes run = work_on (length bytes) ended room bytes (beginning run)

abbrev pub progress : Work → Progress
progress w = record { run = w.run; taken = w.taken; written = length w.text }

-- the lines of a whole stream, of at most so many events
unfoldable pub lines_in : ℕ → Run → List ℕ → List ℕ
lines_in zero run rest = []
lines_in (suc most) run rest =
    cond (nat_le (length rest) 0) [] (line_for run rest ++ lines_in most (after run rest) (drop (piece_of rest).size rest))

abbrev pub lines_of : Run → List ℕ → List ℕ
lines_of run stream = lines_in (length stream) run stream
