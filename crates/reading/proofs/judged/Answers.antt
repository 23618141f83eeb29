-- A message that is in order is told so; else either an octet is refused, or the end.
use Rattle.std.proofs.Common.{sym, ap, ◌∙◌, Err, arith, below_more}
use Rattle.reading.proofs.Told.{whole_judged}
use Rattle.reading.proofs.Walk.{refused_at, ended_at}
use Rattle.reading.proofs.judged.Goals as goal

pub returns-then-is_whole : goal.returns-then-is_whole
returns-then-is_whole c = whole_judged c.args.message.now (λ k. (c.type_inv.message k).fits) (sym c.is_whole.ensures ∙ c.if-is_whole.true)

pub loop-place-preserved : goal.loop-place-preserved
loop-place-preserved c = below_more _ _ c.loop-place.invariant (rw (← c.rule_at-rule.ensures, ← c.allows.ensures) c.if-not-allows.false)

pub returns-then-not-allows : goal.returns-then-not-allows
returns-then-not-allows c =
    ap Err c.refusal_by.ensures
    ∙ refused_at c.args.message.now c.of-layout.result c.of-layout.ensures c.loop-place.place c.loop-place.invariant (omega arith) c.rule_at-rule.result c.rule_at-rule.ensures (sym c.allows.ensures ∙ c.if-not-allows.true)

pub returns : goal.returns
returns c = c.ended.ensures ∙ ended_at c.args.message.now c.of-layout.result c.of-layout.ensures c.loop-place.place c.loop-place.invariant (omega arith)
