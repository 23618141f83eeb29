-- What is left of the line, read from here on, gives the whole.
use Prim.Native.Nat.{◌+◌}
use mathlib.Core.Path.{◌≡◌}
use lib.ListN.{length, drop}
use Rattle.composing.specs.Composed.{made, read_from, taken_from}
use Rattle.composing.proofs.Draft.read.Given as goal

abbrev pub invariant-loop-taken : goal.invariant-loop-taken
invariant-loop-taken l =
    (length l.out ≡ length l.initial.out)
    × (read_from (drop l.taken l.bytes) (made l.draft l.out) ≡ read_from l.bytes (made l.initial.draft l.initial.out))
    × (l.taken + taken_from (drop l.taken l.bytes) (made l.draft l.out) ≡ taken_from l.bytes (made l.initial.draft l.initial.out))
