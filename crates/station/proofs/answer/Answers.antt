use Rattle.std.proofs.Common.{take, sym, length-take-le}
use Rattle.lines.proofs.Within.{progress_within}
use Rattle.station.proofs.answer.Goals as goal

-- The lines stay within the buffer.
pub slice_bounds-write_all-end : goal.slice_bounds-write_all-end
slice_bounds-write_all-end c =
    let s = c.args.s.now in
    let within = progress_within s.ended c.args.output.now (take s.held c.args.input.now) s.run c.answer-p.result c.answer-p.ensures.0 in
    rw c.answer-p.auto.out within.1

pub slice_bounds-write_all-end-2 : goal.slice_bounds-write_all-end-2
slice_bounds-write_all-end-2 c = sym (length-take-le _ _ (slice_bounds-write_all-end c))
