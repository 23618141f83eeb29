-- A space, and the digits after it.
use mathlib.Core.Path.{◌∙◌}
use native.Mathlib.Omega.{arith}
use Rattle.buffers.proofs.Lengths.{size_most, spelled}
use Rattle.buffers.proofs.Writing.{joined}
use Rattle.showing.proofs.Page.number.Goals as goal

pub overflow_add-self : goal.overflow_add-self
overflow_add-self c = omega (arith, c.size-k.ensures, size_most 19 c.args.n, c.byte.ensures.within, c.requires, c.well_formed)

pub returns : goal.returns
returns c =
    let byte = c.byte.ensures in
    let size = c.size-k.ensures in
    let most = size_most 19 c.args.n in
    record {
      same = byte.same;
      size = c.spell.auto.out ∙ byte.size;
      written = joined byte.written (spelled _ c.args.n _ size (omega (arith, size, most, c.requires, byte.size, byte.within)) c.spell.ensures);
      within = omega (arith, size, most, byte.within);
    }
