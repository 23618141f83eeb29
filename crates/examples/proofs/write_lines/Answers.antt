use Rattle.std.proofs.Common.{true}
use Rattle.lines.proofs.Within.{progress_within}
use Rattle.examples.proofs.write_lines.Goals as goal

-- The lines stay within the buffer.
pub returns : goal.returns
returns c =
    let within = progress_within true c.args.buffer.now c.args.events.now c.new.result c.answer.result c.answer.ensures.0 in
    rw c.answer.auto.out within.1
