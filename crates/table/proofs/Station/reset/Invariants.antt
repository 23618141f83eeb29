-- The records that were passed are reset, and their units are given back.
use Prim.Native.Nat.{◌+◌}
use mathlib.Core.Path.{◌≡◌}
use Rattle.table.proofs.Resetting.{passed, given_back}
use Rattle.table.proofs.Station.reset.Given as goal

abbrev pub invariant-loop-r : goal.invariant-loop-r
invariant-loop-r l =
    (l.r-items ≡ passed l.e l.r-index l.initial.r-items) × (l.used + given_back l.e l.r-index l.initial.r-items ≡ l.initial.used)
