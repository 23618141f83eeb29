-- "A station is one that a fresh one reached by such steps; the caller holds no other, and need not check it."
use Rattle.std.specs.Prelude.{ℕ, List}
use Rattle.records.specs.declared.Record.{Record}
use Rattle.records.specs.Record.{InRange}
use Rattle.table.specs.declared.Settings.{Settings}
use Rattle.table.specs.declared.Station.{Station}
use Rattle.table.specs.Step.{step_of, born_of}

pub data Reached : Station → Type 0 where
  born : (settings : Settings) → Reached (born_of settings)
  stepped : {s : Station} → Reached s → (e : Record) → InRange e → (bearers : List ℕ) (room : ℕ) → Reached (step_of s e bearers room).station
