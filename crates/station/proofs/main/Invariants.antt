-- Each turn keeps the stage sound.
use Rattle.station.specs.Stages.{Sound}
use Rattle.station.proofs.main.Given as goal

abbrev pub invariant-loop : goal.invariant-loop
invariant-loop l = Sound 65536 l.s
