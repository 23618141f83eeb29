-- The numbers that are left, written after what is there, give the whole.
use Rattle.std.proofs.Common.{◌≡◌, ◌+◌, ◌*◌, ◌≤◌, length, drop}
use Rattle.buffers.specs.Digits.{cell_room, spaced}
use Rattle.buffers.proofs.Writing.{Completes}
use Rattle.lines.proofs.cells.Given as goal

-- so far: each number took at most its room
abbrev pub invariant-loop-n : goal.invariant-loop-n
invariant-loop-n l =
    (length l.out ≡ length l.initial.out)
    × (l.place ≤ l.at + l.n-index * cell_room)
    × Completes l.initial.out l.out l.at (spaced l.numbers) l.place (spaced (drop l.n-index l.numbers))
