-- What is written lies within the buffer, and each turn takes a byte of the text at least.
use Rattle.std.proofs.Common.{◌≤◌, length}
use Rattle.examples.proofs.write_records.Given as goal

abbrev pub invariant-loop-rest : goal.invariant-loop-rest
invariant-loop-rest l = l.written ≤ length l.buffer

abbrev pub decreases-loop-rest : goal.decreases-loop-rest
decreases-loop-rest l = length l.rest
