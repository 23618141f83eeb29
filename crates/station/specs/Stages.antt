-- What holds between two reads: the station is one that a fresh one reached, and what is held lies within the input buffer.
use Rattle.std.specs.Prelude.{ℕ, ◌≤◌}
use Rattle.table.specs.Reached.{Reached}
use Rattle.station.specs.declared.Stage.{Stage}

pub record Sound (size : ℕ) (s : Stage) : Type 0 where
  pub reached : Reached s.run.station
  pub held : s.held ≤ size
