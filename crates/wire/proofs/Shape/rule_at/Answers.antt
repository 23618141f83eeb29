-- The Old ID stands at the same place in each message.
use Rattle.std.proofs.Common.{◌∙◌, arith}
use Rattle.wire.proofs.Parts.{old_rule}
use Rattle.wire.proofs.Shape.rule_at.Goals as goal

pub returns-in-7-to-12 : goal.returns-in-7-to-12
returns-in-7-to-12 c = c.of_id.ensures ∙ old_rule c.args.self c.args.place (omega arith) (omega arith)
