-- IE by IE.
use Rattle.std.proofs.Common.{◌∙◌, arith}
use Rattle.wire.proofs.Parts.{release_rule, cancel_rule}
use Rattle.wire.proofs.Shape.rest.Goals as goal

pub returns-in-Release : goal.returns-in-Release
returns-in-Release c = rw c.in-Release.is (c.of_id.ensures ∙ release_rule c.args.at)

pub returns-in-Cancel-2 : goal.returns-in-Cancel-2
returns-in-Cancel-2 c = rw c.in-Cancel.is (c.of_cause.ensures ∙ cancel_rule c.args.at (omega arith))
