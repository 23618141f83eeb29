-- What is decided of the record at the place that is found can be carried out.
use mathlib.Core.Path.{◌∙◌, sym}
use Rattle.handover.specs.Events.{about}
use Rattle.table.proofs.Placing.{found_place, decided_puts}
use Rattle.table.proofs.Station.about_one.Goals as goal

pub carried-requires : goal.carried-requires
carried-requires c =
    let a = c.args in
    let i = c.in-Some.i in
    let place = found_place a.self c.requires (about a.e) i (sym c.find.ensures ∙ c.in-Some.is) in
    decided_puts a.self c.requires a.e i _ a.self.clock _ place c.decide.ensures
