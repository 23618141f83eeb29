-- Each turn is one event of the block; the loop ends where the definition does.
use Rattle.std.proofs.Common.{◌≡◌, ◌-◌, length}
use Rattle.lines.specs.Lines.{verdict_room}
use Rattle.lines.proofs.Turning.{Head}
use Rattle.lines.proofs.Run.answer.Given as goal

abbrev pub invariant-loop-out : goal.invariant-loop-out
invariant-loop-out l =
    Head l.bytes l.ended l.initial.out (record { station = l.initial.last.station; place = l.initial.place }) l.out l.last.station l.place l.taken l.written l.piece × (length l.verdicts ≡ verdict_room)

abbrev pub decreases-loop-out : goal.decreases-loop-out
decreases-loop-out l = length l.bytes - l.taken
