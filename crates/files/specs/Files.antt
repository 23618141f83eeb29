-- Whole files: what records are shown as, what records a text makes, and what a line makes.
use Rattle.std.specs.Prelude.{ℕ, zero, suc, ◌*◌, ◌/◌, ◌≤◌, ◌<◌, ◌≡◌, cond, List, [], ◌∷◌, ◌++◌, leb, length, get_or, take, drop}
use Rattle.showing.specs.declared.Sheet.{Sheet}
use Rattle.showing.specs.Room.{event_room}
use Rattle.showing.specs.Shown.{new_sheet, shown_of, shown_text, last_text}
use Rattle.composing.specs.Composed.{Made, made, step, new_draft}

-- so many records one after the other, then what is left, each shown in a buffer that has room for any
unfoldable pub shown_from : ℕ → List ℕ → Sheet → List ℕ
shown_from zero bytes s = last_text event_room bytes s
shown_from (suc n) bytes s = shown_text event_room bytes s ++ shown_from n (drop 32 bytes) (shown_of event_room bytes s).sheet

-- what a file of records is shown as
abbrev pub shown_file : List ℕ → List ℕ
shown_file bytes = shown_from (length bytes / 32) bytes new_sheet

-- the records of a line that has ended; none where a word was not understood
abbrev pub line_bytes : Made → List ℕ
line_bytes m = cond (leb m.draft.mode 3) (take m.draft.staged m.out) []

-- the next line is read into the same buffer
abbrev pub next_line : Made → Made
next_line m = made new_draft m.out

-- the records that a text makes from a byte on: its end ends the last line too
unfoldable pub composed_from : List ℕ → Made → List ℕ
composed_from [] m = line_bytes (step m 10)
composed_from (b ∷ bs) m =
    let next = step m b in
    cond next.draft.ended (line_bytes next ++ composed_from bs (next_line next)) (composed_from bs next)

-- the records that a text makes, in a buffer
abbrev pub composed_in : List ℕ → List ℕ → List ℕ
composed_in out text = composed_from text (made new_draft out)

-- so many records, those after the first being bearers, and the first then a request
pub record Records (staged : ℕ) (out : List ℕ) : Type 0 where
  pub count : ℕ
  pub whole : staged ≡ 32 * count
  pub within : staged ≤ length out
  pub request : 2 ≤ count → get_or out 0 0 ≡ 1
  pub bearers : (i : ℕ) → 1 ≤ i → i < count → get_or out (32 * i) 0 ≡ 16

-- "one event a line": words make such records, and bytes a record or a piece of one
pub record OneEvent (m : Made) : Type 0 where
  pub words : m.draft.mode ≤ 1 → Records m.draft.staged m.out
  pub bytes : m.draft.mode ≡ 2 → m.draft.staged ≤ 32
