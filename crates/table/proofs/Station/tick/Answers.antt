-- What is decided of the record at the place that is found can be carried out.
use mathlib.Core.Path.{◌∙◌, sym}
use Rattle.table.proofs.Placing.{due_place, decided_puts}
use Rattle.table.proofs.Station.tick.Goals as goal

pub carried-requires : goal.carried-requires
carried-requires c =
    let a = c.args in
    let i = c.in-Some.i in
    decided_puts a.self c.requires a.e i 0 a.e.time _ (due_place a.self c.requires a.e i (sym c.soonest.ensures ∙ c.in-Some.is)) c.decide.ensures
