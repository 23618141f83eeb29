-- The soonest of what was looked at, and then of what is left, is the soonest of all.
use mathlib.Core.Path.{◌≡◌}
use lib.ListN.{drop}
use Rattle.std.specs.Prelude.{None}
use Rattle.places.specs.Places.{due_from}
use Rattle.places.proofs.soonest.Given as goal

abbrev pub invariant-loop-i : goal.invariant-loop-i
invariant-loop-i l = due_from l.e l.best l.i (drop l.i l.entries) ≡ due_from l.e None 0 l.entries
