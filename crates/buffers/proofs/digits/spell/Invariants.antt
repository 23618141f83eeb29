-- The digits that are left, stored over what is there, give the whole: each turn stores the last of them.
use mathlib.Core.Path.{◌≡◌}
use lib.ListN.{length}
use lib.Seq.{sets}
use Rattle.buffers.specs.Digits.{digits}
use Rattle.buffers.proofs.digits.spell.Given as goal

abbrev pub invariant-loop-i : goal.invariant-loop-i
invariant-loop-i l = (length l.out ≡ length l.initial.out) × (sets l.out l.at (digits l.i l.rest) ≡ sets l.initial.out l.at (digits l.k l.n))
