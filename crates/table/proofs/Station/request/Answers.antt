-- A request takes its bearers; any other event is a step.
use borrow.Author.Rules.{rules}
use mathlib.Core.Path.{◌≡◌, sym, ◌∙◌}
use mathlib.Core.Bool.{true, false}
use lib.ListN.{length}
use Rattle.laws.proofs.Tests.{by_cases}
use Rattle.records.specs.declared.Record.{Record}
use Rattle.fields.specs.declared.Sort.TheVariants.{Request}
use Rattle.fields.specs.Fields.{same_sort, sort_of_event, well_formed}
use Rattle.fields.proofs.Forms.{number_within}
use Rattle.fields.proofs.Sorts.{sort_true}
use Rattle.table.specs.declared.Answer.{Answer}
use Rattle.table.specs.Reached.{Reached}
use Rattle.table.specs.Step.{step_of}
use Rattle.table.proofs.Requests.{alone_step}
use Rattle.table.proofs.Reaching.{still_reached}
use Rattle.table.proofs.Soundness.{sound}
use Rattle.table.proofs.Station.request.Goals.{Start, Then-eq}
use Rattle.table.proofs.Station.request.Goals as goal

-- an event that has the sort of a request is well formed
formed : (e : Record) → sort_of_event e ≡ Request → well_formed e ≡ true
formed e is = by_cases (well_formed e) (λ t. t) (λ t. absurd (cc (rw t at is)))

-- the answer has a station that a fresh one reaches
reached : (c : Start) (a : Answer) → a ≡ step_of c.args.self c.args.e c.args.bearers.now (length c.args.verdicts.now) → Reached a.station
reached c = still_reached c.requires c.args.e (search rules) c.args.bearers.now (length c.args.verdicts.now)

is_request : (c : Then-eq) → sort_of_event c.args.e ≡ Request
is_request c = sym c.sort_of.ensures ∙ sort_true c.sort_of.result Request (sym c.eq.ensures ∙ c.if-eq.true)

pub requested-requires : goal.requested-requires
requested-requires c =
    let e = c.args.e in
    (number_within e (formed e (is_request (goal.at.requested-requires c).Then-eq)), sound c.requires)

pub returns-then-eq : goal.returns-then-eq
returns-then-eq c =
    let a = c.args in
    let sort = is_request (goal.at.returns-then-eq c).Then-eq in
    let requested = c.requested.ensures in
    let same : c.requested.result ≡ step_of a.self a.e a.bearers.now (length a.verdicts.now) = rw sort requested.0 in
    (same, rw sort requested.1, reached (goal.at.returns-then-eq c).Start c.requested.result same)

pub returns : goal.returns
returns c =
    let a = c.args in
    let other : same_sort (sort_of_event a.e) Request ≡ false = rw (← c.sort_of.ensures) (sym c.eq.ensures ∙ c.if-eq.false) in
    (c.step.ensures.0 ∙ alone_step a.self a.e a.bearers.now (length a.verdicts.now) other, rw other, c.step.ensures.1)
