-- What holds between two records of a script: the station is one that a fresh one reached, and both places lie within the script.
use Rattle.std.specs.Prelude.{ℕ, ◌≤◌}
use Rattle.table.specs.Reached.{Reached}
use Rattle.cases.specs.declared.Case.{Case}

pub record Sound (size : ℕ) (c : Case) : Type 0 where
  pub reached : Reached c.station
  pub at : c.at ≤ size
  pub first : c.first ≤ size
