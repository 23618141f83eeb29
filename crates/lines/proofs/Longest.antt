-- How long a line is.
use Rattle.std.proofs.Common.{ℕ, ◌≤◌, length, arith, length-append}
use Rattle.buffers.specs.Digits.{cell, spaced}
use Rattle.buffers.proofs.Lengths.{cell_most, spaced_most}
use Rattle.answers.specs.declared.Outcome.{Outcome}
use Rattle.lines.specs.Lines.{first_ten, longest, line_of}

-- No line is longer than the longest.
pub line_most : (place : ℕ) (o : Outcome) → length (line_of place o) ≤ longest
line_most place o =
    rw (length-append (spaced (first_ten place o)) (cell o.place 10))
    (omega (arith, spaced_most (first_ten place o), cell_most o.place 10))
