use mathlib.Core.Path.{◌≡◌, sym, ◌∙◌}
use native.Mathlib.Omega.{arith}
use lib.ListN.{length, get_or}
use Rattle.composing.specs.Composed.{made}
use Rattle.composing.proofs.Machine.{step_passed, read_on, read_over, read_out}
use Rattle.composing.proofs.Taken.{taken_some}
use Rattle.composing.proofs.Draft.read.Goals as goal

pub loop-taken-preserved : goal.loop-taken-preserved
loop-taken-preserved c =
    let now = c.loop-taken in
    let on = read_on c.args.bytes.now now.taken (made now.draft now.out) _ c.loop-taken-test.true c.if-draft.false c.step-draft.ensures in
    (c.step-draft.auto.out ∙ now.invariant.0, on.0 ∙ now.invariant.1, on.1 ∙ now.invariant.2)

pub loop-taken-preserved-then-passes : goal.loop-taken-preserved-then-passes
loop-taken-preserved-then-passes c =
    let now = c.loop-taken in
    let m = made now.draft now.out in
    let same = step_passed m (get_or c.args.bytes.now now.taken 0) (sym c.passes.ensures ∙ c.if-passes.true) in
    let on = read_on c.args.bytes.now now.taken m m c.loop-taken-test.true c.if-draft.false same in
    (now.invariant.0, on.0 ∙ now.invariant.1, on.1 ∙ now.invariant.2)

pub returns-then-draft-clause-read : goal.returns-then-draft-clause-read
returns-then-draft-clause-read c =
    let now = c.loop-taken in
    let over = read_over c.args.bytes.now now.taken (made now.draft now.out) c.loop-taken-test.true c.if-draft.true in
    (over.0 ∙ now.invariant.1, over.1 ∙ now.invariant.2)

pub returns-clause-read : goal.returns-clause-read
returns-clause-read c =
    let now = c.loop-taken in
    let over = read_out c.args.bytes.now now.taken (made now.draft now.out) c.loop-taken-test.false in
    let all : length c.args.bytes.now ≡ now.taken = omega arith in
    (over.0 ∙ now.invariant.1, all ∙ over.1 ∙ now.invariant.2)

pub returns-then-draft-clause-onward : goal.returns-then-draft-clause-onward
returns-then-draft-clause-onward c still some =
    rw (returns-then-draft-clause-read c).1 (taken_some c.args.bytes.now (made c.args.self c.args.out.now) some still)
