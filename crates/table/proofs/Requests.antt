-- What a judgement of a request's bearers says, and that other events have no use for bearers.
use Prim.Native.Nat.{ℕ, ◌*◌, ◌/◌, ◌≤◌}
use mathlib.Core.Path.{◌≡◌, refl, sym, ap, ◌∙◌}
use mathlib.Core.Bool.{true, false, true≢false}
use mathlib.Core.List.{List, []}
use borrow.Author.Tests.{lt-leb}
use native.Mathlib.Omega.{arith}
use lib.Dec.{leb}
use lib.ListN.{length}
use Rattle.std.specs.Prelude.{Some, None, Ok}
use Rattle.laws.proofs.Tests.{by_cases, both_true, on_true, on_false}
use Rattle.records.specs.declared.Record.{Record}
use Rattle.fields.proofs.Forms.{request_counted}
use Rattle.fields.proofs.Sorts.{request_kind}
use Rattle.fields.specs.declared.Sort.{Sort}
use Rattle.fields.specs.declared.Sort.TheVariants.{NoEvent, Request}
use Rattle.fields.specs.Fields.{same_sort, sort_of, sort_of_event, well_formed}
use Rattle.answers.proofs.Flaws.{bearers_missing}
use Rattle.answers.specs.Answers.{flaw_in, missing}
use Rattle.bearers.proofs.Admitted.{admitted_le}
use Rattle.bearers.proofs.Flaws.{judgeable_flawless, flawed, flaw_listed}
use Rattle.bearers.proofs.Judging.{each_formed}
use Rattle.bearers.specs.Admission.{countable, judgeable, judgement_of, admission_of, release8}
use Rattle.bearers.specs.Flaws.{flaw_of}
use Rattle.bearers.specs.Bearer.{records_in, bearers_in, all_bearers}
use Rattle.bearers.specs.declared.Admission.{Admission}
use Rattle.bearers.specs.declared.Flaw.{Flaw}
use Rattle.table.specs.declared.Station.{Station}
use Rattle.table.specs.Step.{malformed, taken, complete, flaw_at, request_of, by_sort, step_of, verdicts_of}

-- The units admitted of bearers that can be judged are free ones.
pub units_free : (bytes : List ℕ) (free room : ℕ) → judgeable bytes room ≡ true → (admission_of release8 free (bearers_in (length bytes / 32) bytes)).units ≤ free
units_free bytes free room t =
    let records = records_in (length bytes / 32) bytes in
    admitted_le release8 free (bearers_in (length bytes / 32) bytes) (each_formed records (both_true (countable (length bytes) room) (all_bearers records) t).1)

-- Where an admission is given nothing is wrong, and it is that of the bearers.
pub record Given (bytes : List ℕ) (free room : ℕ) (a : Admission) : Type 0 where
  pub flawless : flaw_of bytes room ≡ None
  pub judged : judgeable bytes room ≡ true
  pub is : admission_of release8 free (bearers_in (length bytes / 32) bytes) ≡ a
  pub within : a.units ≤ free

pub given : (bytes : List ℕ) (free room : ℕ) (a : Admission) → judgement_of bytes free room ≡ Ok a → Given bytes free room a
given bytes free room a e =
    by_cases (judgeable bytes room)
    (λ t.
    let none = judgeable_flawless bytes room t in
    let same : Ok (admission_of release8 free (bearers_in (length bytes / 32) bytes)) ≡ Ok a = rw none at e in
    let its : admission_of release8 free (bearers_in (length bytes / 32) bytes) ≡ a = cc in
    record { flawless = none; judged = t; is = its; within = rw (← its) (units_free bytes free room t) })
    (λ t. let its = flawed bytes room t in absurd (cc (rw its.1 at e)))

-- a request with something wrong, which has a reply of its own
pub record Lacking (e : Record) (bearers : List ℕ) (room : ℕ) : Type 0 where
  pub flaw : Flaw
  pub is : flaw_at e bearers room ≡ Some flaw
  pub low : 11 ≤ flaw.reply
  pub high : flaw.reply ≤ 15

module _ (e : Record) (bearers : List ℕ) (room : ℕ) where
  -- A request that is complete has nothing wrong, and one that is not has something.
  pub flawless : complete e bearers room ≡ true → flaw_at e bearers room ≡ None
  flawless whole =
      let both = both_true (leb (e.number * 32) (length bearers)) (judgeable (taken e bearers) room) whole in
      rw both.0 (judgeable_flawless (taken e bearers) room both.1)

  pub lacking : complete e bearers room ≡ false → Lacking e bearers room
  lacking less =
      by_cases (leb (e.number * 32) (length bearers))
      (λ enough.
      let its = flawed (taken e bearers) room (rw enough at less) in
      let listed = flaw_listed (taken e bearers) room its.0 its.1 in
      record { flaw = its.0; is = rw enough its.1; low = listed.0; high = listed.1 })
      (λ few. record { flaw = missing; is = rw few; low = omega arith; high = omega arith })

-- A request without its bearers lacks them.
pub bare_request : (s : Station) (e : Record) → sort_of_event e ≡ Request → malformed (flaw_in e) s ≡ request_of e [] 0 s
bare_request s e request =
    by_cases (well_formed e)
    (λ formed.
    let one = request_kind e.kind (sym (on_true (well_formed e) (sort_of e.kind) NoEvent formed) ∙ request) in
    let counted = request_counted e formed one in
    let few : leb (e.number * 32) 0 ≡ false = lt-leb (e.number * 32) 0 (omega (arith, counted)) in
    ap (λ (f : Flaw). malformed f s) (bearers_missing e formed) ∙ rw few)
    (λ malformed.
    let never : NoEvent ≡ Request = sym (on_false (well_formed e) (sort_of e.kind) NoEvent malformed) ∙ request in
    absurd cc)

-- An event that is no request takes nothing of what follows it, and leaves the verdict buffer.
alone : (s : Station) (e : Record) (bearers : List ℕ) (room : ℕ) (sort : Sort) → same_sort sort Request ≡ false → by_sort sort e [] 0 s ≡ by_sort sort e bearers room s
alone s e bearers room Request other = absurd (true≢false other)
alone s e bearers room sort other = refl

pub alone_step : (s : Station) (e : Record) (bearers : List ℕ) (room : ℕ) → same_sort (sort_of_event e) Request ≡ false → step_of s e [] 0 ≡ step_of s e bearers room
alone_step s e bearers room = alone s e bearers room (sort_of_event e)

pub alone_verdicts : (s : Station) (e : Record) (bearers buffer : List ℕ) → same_sort (sort_of_event e) Request ≡ false → verdicts_of s e bearers buffer ≡ buffer
alone_verdicts s e bearers buffer other = rw other
