-- What a request gets that repeats none and finds a place is what its bearers are judged to be.
use Rattle.std.specs.Prelude.{Some, None}
use Prim.Native.Nat.{ℕ, ◌*◌}
use mathlib.Core.Path.{◌≡◌, refl}
use mathlib.Core.Bool.{true}
use mathlib.Core.List.{List}
use borrow.Author.Tests.{eqb-true}
use lib.Count.{ones}
use lib.Dec.{leb, eqb}
use lib.ListN.{length}
use Rattle.laws.proofs.Tests.{by_cases}
use Rattle.records.specs.declared.Record.{Record}
use Rattle.bearers.specs.Admission.{judgeable, judgement_of, reply_of, count_of}
use Rattle.bearers.specs.Flaws.{flaw_of}
use Rattle.bearers.proofs.Flaws.{judgeable_flawless}
use Rattle.table.proofs.Requests.{lacking}
use Rattle.fields.specs.Fields.{well_formed}
use Rattle.handover.specs.Events.{about}
use Rattle.handover.specs.Numbers.{is_free}
use Rattle.table.specs.declared.Station.{Station}
use Rattle.table.specs.Step.{admission, free_units, step_of, taken}
use Rattle.table.specs.Table.{find}
use Rattle.promises.proofs.Rows.{lacking_step, empty_step, grant_step}

module _ (s : Station) (e : Record) (bearers : List ℕ) (room : ℕ) (formed : well_formed e ≡ true) (kind : e.kind ≡ 1)
    (enough : leb (e.number * 32) (length bearers) ≡ true) (new : find (about e) s ≡ None) (i : ℕ) (free : find is_free s ≡ Some i) where
  -- Its reply and its count are those of the judgement.
  pub request_judged : let judged = judgement_of (taken e bearers) (free_units s) room in
      ((step_of s e bearers room).outcome.reply ≡ reply_of judged) × ((step_of s e bearers room).outcome.count ≡ count_of judged)
  unfolding ones
  request_judged =
      by_cases (judgeable (taken e bearers) room)
      (λ t.
      let flawless = judgeable_flawless (taken e bearers) room t in
      by_cases (eqb (admission (taken e bearers) s).admitted 0)
      (λ none. rw (empty_step s e bearers room formed kind (rw (enough, t)) i new free none, flawless, none) (refl, rw (eqb-true (admission (taken e bearers) s).admitted 0 none)))
      (λ some. rw (grant_step s e bearers room formed kind (rw (enough, t)) i new free some, flawless, some) (refl, refl)))
      (λ t.
      let l = lacking e bearers room (rw (enough, t)) in
      let flaw : flaw_of (taken e bearers) room ≡ Some l.flaw = rw enough at l.is in
      rw (lacking_step s e bearers room formed kind l, flaw) (refl, refl))
