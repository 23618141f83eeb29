use native.Mathlib.Omega.{arith}
use Rattle.showing.specs.Shown.{fields_text}
use Rattle.showing.proofs.Paging.{none, both}
use Rattle.showing.proofs.Texts.{fields_more}
use Rattle.showing.proofs.Page.fields.Goals as goal

pub loop-before-init : goal.loop-before-init
unfolding fields_text
loop-before-init c = none _ 0

pub loop-before-preserved : goal.loop-before-preserved
loop-before-preserved c =
    let now = c.loop-before in
    rw (fields_more c.args.kind 1 now.before c.args.values.now c.loop-before-test.true) (both _ (omega arith) now.invariant c.field.ensures)
