-- The search stops at a number that no record uses, passes over one that some record uses, and ends.
use Prim.Native.Nat.{suc, ◌+◌, ◌-◌}
use mathlib.Core.Path.{◌≡◌}
use native.Mathlib.Omega.{arith}
use Rattle.std.proofs.lemmas.Grind.{common_steps}
use Rattle.handover.specs.Numbers.{issue_from}
use Rattle.handover.proofs.Issuing.{next_small, issue_free, issue_used}
use Rattle.places.proofs.issue.Goals as goal

pub loop-tried-init : goal.loop-tried-init
loop-tried-init c = λ small. grind (arith, common_steps, next_small, c.next_after-id.ensures small)

pub returns-then-not-uses : goal.returns-then-not-uses
returns-then-not-uses c =
    λ small.
    let here = c.loop-tried.invariant small in
    grind (arith, common_steps, here, issue_free)

pub loop-tried-preserved : goal.loop-tried-preserved
loop-tried-preserved c =
    λ small.
    let here = c.loop-tried.invariant small in
    let left : 64 - c.loop-tried._tried ≡ suc (64 - (c.loop-tried._tried + 1)) = omega arith in
    grind (arith, common_steps, here, left, next_small, issue_used)

pub returns : goal.returns
unfolding issue_from
returns c =
    λ small.
    let here = c.loop-tried.invariant small in
    let none : 64 - c.loop-tried._tried ≡ 0 = omega arith in
    (rw none at here.1, here.0)
