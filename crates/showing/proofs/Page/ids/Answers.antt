use native.Mathlib.Nat.{zero-add}
use native.Mathlib.Omega.{arith}
use Rattle.showing.specs.Shown.{ids_text}
use Rattle.showing.proofs.Paging.{none, both}
use Rattle.showing.proofs.Texts.{ids_more}
use Rattle.showing.proofs.Page.ids.Goals as goal

pub loop-id-init : goal.loop-id-init
unfolding ids_text
loop-id-init c = none _ 0

pub loop-id-preserved : goal.loop-id-preserved
loop-id-preserved c = rw (ids_more c.args.set 0 c.loop-id.id, zero-add) (both _ (omega arith) c.loop-id.invariant c.id.ensures)
