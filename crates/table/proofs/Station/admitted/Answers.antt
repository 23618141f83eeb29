-- Where a place is free, what was admitted is given to it.
use mathlib.Core.Path.{◌≡◌, ◌∙◌, sym, ap}
use lib.ListN.{length}
use Rattle.std.specs.Prelude.{Some}
use Rattle.bearers.specs.declared.Admission.{Admission}
use Rattle.handover.specs.Numbers.{is_free}
use Rattle.table.specs.Step.{free_units, grant_at}
use Rattle.table.specs.Table.{find}
use Rattle.table.proofs.Placing.{found_place}
use Rattle.table.proofs.Requests.{Given, given}
use Rattle.table.proofs.Station.admitted.Goals.{In-Some, In-Ok}
use Rattle.table.proofs.Station.admitted.Goals as goal

here : (c : In-Some) → find is_free c.args.self ≡ Some c.in-Some.i
here c = sym c.vacant.ensures ∙ c.in-Some.is

its : (c : In-Ok) → let a = c.args in Given a.bearers.now (free_units a.self) (length a.verdicts.now) c.in-Ok.a
its c =
    let a = c.args in
    given a.bearers.now (free_units a.self) (length a.verdicts.now) c.in-Ok.a (sym c.admit.ensures.0 ∙ c.in-Ok.is)

pub grant-requires : goal.grant-requires
grant-requires c =
    let place = found_place c.args.self c.requires is_free c.in-Some.i (here (goal.at.grant-requires c).In-Some) in
    (place, (its (goal.at.grant-requires c).In-Ok).within, c.requires)

pub returns-in-Ok : goal.returns-in-Ok
returns-in-Ok c =
    let a = c.args in
    let given = its (goal.at.returns-in-Ok c).In-Ok in
    let place = here (goal.at.returns-in-Ok c).In-Some in (
      rw (given.flawless, place) (c.grant.ensures ∙ ap (λ (x : Admission). grant_at a.e x c.in-Some.i a.self) (sym given.is)),
      rw (given.judged, place) (c.admit.ensures.1 ∙ rw given.judged),
    )
