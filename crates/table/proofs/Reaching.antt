-- The station of an answer is one that a fresh one reaches.
use Prim.Native.Nat.{ℕ}
use mathlib.Core.Path.{◌≡◌, sym, subst}
use mathlib.Core.List.{List}
use Rattle.records.specs.declared.Record.{Record}
use Rattle.records.specs.Record.{InRange}
use Rattle.table.specs.declared.Answer.{Answer}
use Rattle.table.specs.declared.Station.{Station}
use Rattle.table.specs.Reached.{Reached, stepped}
use Rattle.table.specs.Step.{step_of}

pub still_reached : {s : Station} → Reached s → (e : Record) → InRange e → (bearers : List ℕ) (room : ℕ) (a : Answer) → a ≡ step_of s e bearers room → Reached a.station
still_reached reached e range bearers room a same = subst (λ (x : Answer). Reached x.station) (sym same) (stepped reached e range bearers room)
