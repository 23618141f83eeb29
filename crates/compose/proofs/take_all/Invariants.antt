-- The line that is read on has not ended, so each turn takes a byte at least.
use Rattle.std.proofs.Common.{◌≡◌, false, length}
use Rattle.compose.proofs.take_all.Given as goal

abbrev pub invariant-loop-rest : goal.invariant-loop-rest
invariant-loop-rest l = l.line.draft.ended ≡ false

abbrev pub decreases-loop-rest : goal.decreases-loop-rest
decreases-loop-rest l = length l.rest
