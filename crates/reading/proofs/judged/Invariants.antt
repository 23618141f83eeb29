-- Every octet before the place is what may stand there.
use Rattle.std.proofs.Common.{◌≡◌, ℕ, ◌<◌, true, get_or}
use Rattle.wire.specs.Rules.{allows}
use Rattle.reading.specs.Reading.{rule_in}
use Rattle.reading.proofs.judged.Given as goal

abbrev pub invariant-loop-place : goal.invariant-loop-place
invariant-loop-place l = (k : ℕ) → k < l.place → allows (rule_in l.layout k) (get_or l.message k 0) ≡ true
