-- The worked example of the station program: six records, and the four lines that they print.
use Rattle.std.proofs.Common.{◌≡◌, ℕ, List, [], ◌∷◌, refl}
use Rattle.laws.specs.Sums.{total}
use Rattle.records.specs.Record.{little, record_of}
use Rattle.records.specs.Stream as stream
use Rattle.bearers.specs.Bearer.{records_in, all_bearers}
use Rattle.bearers.specs.Flaws.{all_of_kind, flaw_from}
use Rattle.bearers.specs.Admission.{those, turns_from, free_at, verdict}
use Rattle.sets.specs.Sets as sets
use Rattle.handover.specs.Numbers.{issue_from}
use Rattle.places.specs.Places.{due_from}
use Rattle.lines.specs.Lines.{new_run, lines_in, lines_of}
use Rattle.buffers.specs.Digits.{size_in, digits, spaced}

abbrev pub input : List ℕ
input =
    -- the request, Old 7, of two bearers
    1 ∷ 3 ∷ 7 ∷ 0 ∷ 0 ∷ 0 ∷ 0 ∷ 0 ∷ 0 ∷ 0 ∷ 0 ∷ 0 ∷ 2 ∷ 0 ∷ 0 ∷ 0
    ∷ 0 ∷ 0 ∷ 0 ∷ 0 ∷ 0 ∷ 0 ∷ 0 ∷ 0 ∷ 0 ∷ 0 ∷ 0 ∷ 0 ∷ 0 ∷ 0 ∷ 0 ∷ 0
    -- its bearers: ID 5, QCI 9, priority 2, 60 units; and 6, 1, 1, 10
    ∷ 16 ∷ 0 ∷ 0 ∷ 0 ∷ 0 ∷ 0 ∷ 0 ∷ 0 ∷ 0 ∷ 0 ∷ 0 ∷ 0 ∷ 60 ∷ 0 ∷ 0 ∷ 0
    ∷ 0 ∷ 0 ∷ 0 ∷ 0 ∷ 0 ∷ 0 ∷ 0 ∷ 0 ∷ 5 ∷ 9 ∷ 2 ∷ 0 ∷ 0 ∷ 0 ∷ 0 ∷ 0
    ∷ 16 ∷ 0 ∷ 0 ∷ 0 ∷ 0 ∷ 0 ∷ 0 ∷ 0 ∷ 0 ∷ 0 ∷ 0 ∷ 0 ∷ 10 ∷ 0 ∷ 0 ∷ 0
    ∷ 0 ∷ 0 ∷ 0 ∷ 0 ∷ 0 ∷ 0 ∷ 0 ∷ 0 ∷ 6 ∷ 1 ∷ 1 ∷ 0 ∷ 0 ∷ 0 ∷ 0 ∷ 0
    -- the cancel from neighbour 4, Old 7, New 0, and from neighbour 3
    ∷ 6 ∷ 4 ∷ 7 ∷ 0 ∷ 0 ∷ 0 ∷ 0 ∷ 0 ∷ 0 ∷ 0 ∷ 0 ∷ 0 ∷ 0 ∷ 0 ∷ 0 ∷ 0
    ∷ 0 ∷ 0 ∷ 0 ∷ 0 ∷ 0 ∷ 0 ∷ 0 ∷ 0 ∷ 0 ∷ 0 ∷ 0 ∷ 0 ∷ 0 ∷ 0 ∷ 0 ∷ 0
    ∷ 6 ∷ 3 ∷ 7 ∷ 0 ∷ 0 ∷ 0 ∷ 0 ∷ 0 ∷ 0 ∷ 0 ∷ 0 ∷ 0 ∷ 0 ∷ 0 ∷ 0 ∷ 0
    ∷ 0 ∷ 0 ∷ 0 ∷ 0 ∷ 0 ∷ 0 ∷ 0 ∷ 0 ∷ 0 ∷ 0 ∷ 0 ∷ 0 ∷ 0 ∷ 0 ∷ 0 ∷ 0
    -- tick 10
    ∷ 15 ∷ 0 ∷ 0 ∷ 0 ∷ 0 ∷ 0 ∷ 0 ∷ 0 ∷ 0 ∷ 0 ∷ 0 ∷ 0 ∷ 0 ∷ 0 ∷ 0 ∷ 0
    ∷ 10 ∷ 0 ∷ 0 ∷ 0 ∷ 0 ∷ 0 ∷ 0 ∷ 0 ∷ 0 ∷ 0 ∷ 0 ∷ 0 ∷ 0 ∷ 0 ∷ 0 ∷ 0
    ∷ []

abbrev pub output : List ℕ
output =
    -- 1 0 2 3 7 0 32 64 0 0 0
    49 ∷ 32 ∷ 48 ∷ 32 ∷ 50 ∷ 32 ∷ 51 ∷ 32 ∷ 55 ∷ 32 ∷ 48 ∷ 32 ∷ 51 ∷ 50 ∷ 32 ∷ 54 ∷ 52 ∷ 32 ∷ 48 ∷ 32 ∷ 48 ∷ 32 ∷ 48 ∷ 10
    -- 2 2 0 0 0 0 0 0 0 0 0
    ∷ 50 ∷ 32 ∷ 50 ∷ 32 ∷ 48 ∷ 32 ∷ 48 ∷ 32 ∷ 48 ∷ 32 ∷ 48 ∷ 32 ∷ 48 ∷ 32 ∷ 48 ∷ 32 ∷ 48 ∷ 32 ∷ 48 ∷ 32 ∷ 48 ∷ 10
    -- 3 0 0 0 0 0 0 0 7 0 0
    ∷ 51 ∷ 32 ∷ 48 ∷ 32 ∷ 48 ∷ 32 ∷ 48 ∷ 32 ∷ 48 ∷ 32 ∷ 48 ∷ 32 ∷ 48 ∷ 32 ∷ 48 ∷ 32 ∷ 55 ∷ 32 ∷ 48 ∷ 32 ∷ 48 ∷ 10
    -- 4 9 0 0 0 0 0 0 0 0 0
    ∷ 52 ∷ 32 ∷ 57 ∷ 32 ∷ 48 ∷ 32 ∷ 48 ∷ 32 ∷ 48 ∷ 32 ∷ 48 ∷ 32 ∷ 48 ∷ 32 ∷ 48 ∷ 32 ∷ 48 ∷ 32 ∷ 48 ∷ 32 ∷ 48 ∷ 10
    ∷ []

-- By computation.
pub worked_lines : lines_of new_run input ≡ output
unfolding lines_in size_in digits spaced little record_of stream.bearers_in records_in all_bearers all_of_kind flaw_from total those turns_from free_at verdict sets.add sets.set_of issue_from due_from
worked_lines = refl
