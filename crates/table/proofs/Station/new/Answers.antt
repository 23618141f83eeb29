-- What is born is reached.
use Rattle.table.specs.Reached.{born}
use native.Mathlib.Omega.{arith}
use Rattle.std.proofs.lemmas.Grind.{common_steps}
use Rattle.table.proofs.Station.new.Goals as goal

pub returns-then-is_settled : goal.returns-then-is_settled
returns-then-is_settled c = grind (arith, common_steps, born c.args.settings)

pub returns : goal.returns
returns c = grind (arith, common_steps, born c.args.settings)
