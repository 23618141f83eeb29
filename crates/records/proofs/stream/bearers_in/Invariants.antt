-- What was passed, and what is to be passed of the rest, is all that is to be passed.
use Prim.Native.Nat.{◌+◌, ◌*◌, ◌-◌, ◌≤◌}
use mathlib.Core.Path.{◌≡◌}
use lib.ListN.{drop}
use Rattle.records.specs.Stream.{bearers_in}
use Rattle.records.proofs.stream.bearers_in.Given as goal

abbrev pub invariant-loop-i : goal.invariant-loop-i
invariant-loop-i l = (l.i ≤ l.most) × (l.i + bearers_in (l.most - l.i) (drop (l.i * 32) l.rest) ≡ bearers_in l.most l.rest)
