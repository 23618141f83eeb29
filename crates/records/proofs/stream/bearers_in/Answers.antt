-- Where no bearer stands, none may be taken or no whole record is left, all are passed; else one more is.
use borrow.Author.Tests.{eq-eqb, ne_eqb, lt-leb}
use mathlib.Core.Path.{sym, ◌∙◌}
use mathlib.Core.Logic.{inl, inr}
use Prim.Native.Nat.{◌*◌, ◌-◌, ◌<◌}
use native.Mathlib.Omega.{arith}
use lib.ListN.{length, drop, length-drop}
use Rattle.records.proofs.Rest.{bearer_at, pass, stop}
use Rattle.records.proofs.stream.bearers_in.Goals.{then-i-most-via-then-i-most, then-i-most-via-else-i-most+then-record}
use Rattle.records.proofs.stream.bearers_in.Goals as goal

pub returns-then-i-most : goal.returns-then-i-most
returns-then-i-most c =
    let i = c.loop-i.i in
    let left = c.args.most - i in
    let rest = c.args.rest.now in
    let here = bearer_at rest i c.as_chunks.ensures.front (omega arith) in
    elim c.then-i-most.branch [
      | then-i-most-via-then-i-most w ↦ omega (arith, stop left (drop (i * 32) rest) (inl (omega arith)))
      | then-i-most-via-else-i-most+then-record w ↦ omega (arith, stop left (drop (i * 32) rest) (inr (sym here ∙ ne_eqb _ _ w.if-record.true)))
    ]

pub loop-i-preserved : goal.loop-i-preserved
loop-i-preserved c =
    let a = c.args in
    let here = bearer_at a.rest.now c.loop-i.i c.as_chunks.ensures.front (omega arith) in
    (omega arith, pass a.most c.loop-i.i a.rest.now (omega arith) (sym here ∙ eq-eqb _ _ c.if-record.false) ∙ c.loop-i.invariant.1)

pub returns : goal.returns
returns c =
    let i = c.loop-i.i in
    let after = drop (i * 32) c.args.rest.now in
    let short : length after < 32 = rw length-drop (omega arith) in
    omega (arith, stop (c.args.most - i) after (inr (rw (lt-leb 32 (length after) short))))
