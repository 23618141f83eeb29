-- Each sort has its arm, and the station of an answer is one that a fresh one reaches.
use mathlib.Core.List.{[]}
use mathlib.Core.Path.{◌≡◌, ◌∙◌, sym}
use borrow.Author.Rules.{rules}
use Rattle.table.specs.declared.Answer.{Answer}
use Rattle.table.specs.Reached.{Reached}
use Rattle.table.specs.Step.{step_of}
use Rattle.table.proofs.Reaching.{still_reached}
use Rattle.table.proofs.Station.step.Goals.{Start}
use Rattle.table.proofs.Station.step.Goals as goal

reaching : (c : Start) {a : Answer} → a ≡ step_of c.args.self c.args.e [] 0 → (a ≡ step_of c.args.self c.args.e [] 0) × Reached a.station
reaching c {a} same = (same, still_reached c.requires c.args.e (search rules) [] 0 a same)

pub returns-in-OneRecord : goal.returns-in-OneRecord
returns-in-OneRecord c =
    reaching (goal.at.returns-in-OneRecord c).Start (rw (sym c.sort_of.ensures ∙ c.in-OneRecord.is) c.about_one.ensures)

pub returns-in-SoonestDue : goal.returns-in-SoonestDue
returns-in-SoonestDue c =
    reaching (goal.at.returns-in-SoonestDue c).Start (rw (sym c.sort_of.ensures ∙ c.in-SoonestDue.is) c.tick.ensures)

pub returns-in-NewRecord : goal.returns-in-NewRecord
returns-in-NewRecord c =
    reaching (goal.at.returns-in-NewRecord c).Start (rw (sym c.sort_of.ensures ∙ c.in-NewRecord.is) c.start.ensures)

pub returns-in-AllOfNeighbour : goal.returns-in-AllOfNeighbour
returns-in-AllOfNeighbour c =
    reaching (goal.at.returns-in-AllOfNeighbour c).Start (rw (sym c.sort_of.ensures ∙ c.in-AllOfNeighbour.is) c.reset_by.ensures)
