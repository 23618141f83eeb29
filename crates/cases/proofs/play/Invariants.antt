-- The case stays sound.
use Rattle.std.proofs.Common.{length}
use Rattle.cases.specs.Scripts.{Sound}
use Rattle.cases.proofs.play.Given as goal

abbrev pub invariant-loop : goal.invariant-loop
invariant-loop l = Sound (length l.script) l.c
