use Rattle.std.proofs.Common.{◌+◌, ◌≤◌, [], length, sym, refl, ◌∙◌, arith}
use Rattle.buffers.proofs.Writing.{nothing}
use Rattle.lines.proofs.Turning.{size_left, same_length as kept_length, returned, has_room, some, turned}
use Rattle.lines.proofs.Run.answer.Goals.{In-loop-out}
use Rattle.lines.proofs.Run.answer.Goals as goal

pub loop-out-init : goal.loop-out-init
loop-out-init c = (
  record {
    text = [];
    most = length c.args.bytes.now;
    front = c.cut-piece.ensures;
    reached = c.requires;
    within_block = omega arith;
    enough = omega arith;
    within_buffer = omega arith;
    wrote = nothing _ 0;
    goes_on_lem = refl;
  },
  refl,
)

pub overflow_sub-out : goal.overflow_sub-out
overflow_sub-out c = let head = c.loop-out.invariant.0 in omega (arith, kept_length head)

-- the event lies within the block
ahead : (c : In-loop-out)
    → let now = c.loop-out in now.taken + now.piece.size ≤ length c.args.bytes.now
ahead c = let head = c.loop-out.invariant.0 in omega (arith, size_left head)

pub overflow_add-end : goal.overflow_add-end
overflow_add-end c = omega (arith, ahead (goal.at.overflow_add-end c).In-loop-out, c.well_formed)

pub slice_bounds-answered-end : goal.slice_bounds-answered-end
slice_bounds-answered-end c = ahead (goal.at.slice_bounds-answered-end c).In-loop-out

pub slice_bounds-answered-end-in-loop-out : goal.slice_bounds-answered-end-in-loop-out
slice_bounds-answered-end-in-loop-out c = sym c.loop-out.invariant.1

pub answered-last-requires : goal.answered-last-requires
answered-last-requires c = c.loop-out.invariant.0.reached

pub line-written-requires : goal.line-written-requires
line-written-requires c =
    has_room c.loop-out.invariant.0 c.is_whole.ensures c.loop-out-test.true

pub slice_bounds-cut-count : goal.slice_bounds-cut-count
slice_bounds-cut-count c = ahead (goal.at.slice_bounds-cut-count c).In-loop-out

pub slice_bounds-cut-start : goal.slice_bounds-cut-start
slice_bounds-cut-start c = ahead (goal.at.slice_bounds-cut-start c).In-loop-out

pub loop-out-smaller : goal.loop-out-smaller
loop-out-smaller c =
    omega (arith, ahead (goal.at.loop-out-smaller c).In-loop-out, some c.loop-out.invariant.0 c.is_whole.ensures c.loop-out-test.true)

pub loop-out-preserved : goal.loop-out-preserved
loop-out-preserved c =
    let now = c.loop-out in
    let answer = c.answered-last in
    let line = c.line-written in (
      turned now.invariant.0 c.is_whole.ensures c.loop-out-test.true _ _ _ _ _ _
          now.invariant.1
          answer.ensures.0
          answer.ensures.2
          line.ensures
          refl
          c.cut-piece-in-loop-out.ensures,
      answer.auto.verdicts ∙ now.invariant.1,
    )

pub shape_of-out : goal.shape_of-out
shape_of-out c = kept_length c.loop-out.invariant.0

pub returns : goal.returns
returns c = returned c.loop-out.invariant.0 c.is_whole.ensures c.loop-out-test.false
