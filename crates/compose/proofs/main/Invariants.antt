-- The line that is read on has not ended.
use Rattle.std.proofs.Common.{◌≡◌, false}
use Rattle.compose.proofs.main.Given as goal

abbrev pub invariant-loop : goal.invariant-loop
invariant-loop l = l.line.draft.ended ≡ false
