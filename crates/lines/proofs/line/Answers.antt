-- Ten numbers with a space after each, and the last with a line feed.
use Rattle.std.proofs.Common.{arith}
use Rattle.lines.specs.Lines.{first_ten}
use Rattle.buffers.proofs.Lengths.{spaced_most}
use Rattle.buffers.proofs.Writing.{joined}
use Rattle.lines.proofs.line.Goals as goal

pub cell-requires : goal.cell-requires
cell-requires c =
    let written = c.cells-next in
    omega (arith, spaced_most (first_ten c.args.place c.args.o))

pub returns : goal.returns
returns c = joined c.cells-next.ensures c.cell.ensures
