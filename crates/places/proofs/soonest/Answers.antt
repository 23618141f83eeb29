-- One record more makes the best so far the better of it and the best before; after the last the best is the soonest.
use Prim.Native.Nat.{◌+◌}
use mathlib.Core.Path.{◌≡◌, ◌∙◌, ap}
use native.Mathlib.Omega.{arith}
use Rattle.std.proofs.lemmas.Grind.{common_steps}
use lib.ListN.{get_or, drop}
use Rattle.std.specs.Prelude.{Option, None}
use Rattle.handover.specs.Events.{key}
use Rattle.handover.specs.Numbers.{blank}
use Rattle.places.specs.declared.Best.{Best}
use Rattle.places.specs.Places.{better_by, place_of, due_from}
use Rattle.places.proofs.Walking.{walk_on, walk_end}
use Rattle.places.proofs.soonest.Goals.{then-is_sooner, else-is_sooner}
use Rattle.places.proofs.soonest.Goals as goal

pub loop-i-preserved : goal.loop-i-preserved
unfolding due_from
loop-i-preserved c =
    let a = c.args in
    let l = c.loop-i in
    let r = get_or a.entries.now l.i blank in
    let next : c.if-is_sooner.best ≡ better_by (key a.e.kind) a.e l.i r l.best =
    elim c.if-is_sooner.branch [ then-is_sooner w ↦ grind (arith, common_steps) | else-is_sooner w ↦ grind (arith, common_steps) ] in
    ap (λ (b : Option Best). due_from a.e b (l.i + 1) (drop (l.i + 1) a.entries.now)) next
    ∙ walk_on a.entries.now (omega arith) l.i (λ rs. due_from a.e l.best l.i rs) (due_from a.e None 0 a.entries.now) l.invariant (omega arith)

pub returns : goal.returns
unfolding due_from
returns c =
    let a = c.args in
    let l = c.loop-i in
    let all : place_of l.best ≡ due_from a.e None 0 a.entries.now =
    walk_end a.entries.now (omega arith) l.i (λ rs. due_from a.e l.best l.i rs) (due_from a.e None 0 a.entries.now) l.invariant (omega arith) in
    grind (arith, common_steps, all, c.map.ensures.cases)
