-- The answers that there are: what a step gives is one of these.
use Rattle.std.specs.Prelude.{Some, None}
use Prim.Native.Nat.{ℕ, ◌≤◌}
use mathlib.Core.Path.{◌≡◌, refl, sym, subst, ◌∙◌}
use mathlib.Core.Bool.{true, false, true≢false}
use mathlib.Core.Logic.{◌⊎◌, inl, inr}
use mathlib.Core.List.{List}
use native.Mathlib.Omega.{arith}
use lib.Dec.{ltb, eqb}
use Rattle.laws.proofs.Tests.{by_cases, on_true, on_false}
use Rattle.records.specs.declared.Record.{Record}
use Rattle.handover.specs.declared.Action.TheVariants.{Started, Held}
use Rattle.table.specs.declared.Answer.{Answer}
use Rattle.table.specs.declared.Station.{Station}
use Rattle.handover.specs.Events.{about, action_of, same_action, silence}
use Rattle.bearers.specs.declared.Flaw.{Flaw}
use Rattle.answers.specs.Answers.{flaw_in}
use Rattle.answers.proofs.Flaws.{flaw_in_listed}
use Rattle.fields.proofs.Agreeing.{no_event_malformed}
use Rattle.fields.specs.declared.Sort.{Sort}
use Rattle.fields.specs.declared.Sort.TheVariants.{NoEvent, OneRecord, AllOfNeighbour, SoonestDue, NewRecord, Request, NoChange}
use Rattle.fields.specs.Fields.{sort_of, well_formed}
use Rattle.fields.proofs.Sorts.{eq_sort, request_kind, start_kind, tick_kind}
use Rattle.handover.specs.Numbers.{is_free}
use Rattle.table.specs.Step.{answer, refused, malformed, about_one, reset_of, starting, start_at, tick_at, tick_of, taken, complete, admission, failure, granted, request_of, by_sort, step_of}
use Rattle.table.specs.Table.{find, soonest, at}
use Rattle.places.proofs.Finding.{by_found}
use Rattle.table.proofs.Requests.{flawless, lacking}

-- what is malformed: an event by itself, or a request whose bearers are missing or cannot be judged
abbrev pub Malformed : Record → List ℕ → ℕ → Type 0
Malformed e bearers room = (well_formed e ≡ false) ⊎ ((well_formed e ≡ true) × (e.kind ≡ 1) × (complete e bearers room ≡ false))

-- a reply that leaves the station as it is: 2 to 8, or 10 to 15 for what is malformed
pub record Refusal (e : Record) (bearers : List ℕ) (room n : ℕ) : Type 0 where
  pub low : 2 ≤ n
  pub high : n ≤ 15
  pub timely : n ≡ 9 → ⊥
  pub why : 10 ≤ n → Malformed e bearers room

pub data Part (s : Station) (e : Record) (bearers : List ℕ) (room : ℕ) : Answer → Type 0 where
  -- the station stays as it is; so it does at a reset's response, which is taken
  as_refusal : (f : Flaw) → Refusal e bearers room f.reply → Part s e bearers room (malformed f s)
  as_response : sort_of e.kind ≡ NoChange → Part s e bearers room (answer 0 0 0 silence s)
  -- requests: a failure, or a held record
  as_failure : (n : ℕ) → 4 ≤ n → n ≤ 5 → e.kind ≡ 1 → Part s e bearers room (failure n e s)
  as_grant : (i : ℕ) → well_formed e ≡ true → e.kind ≡ 1 → complete e bearers room ≡ true → find (about e) s ≡ None → find is_free s ≡ Some i
      → Part s e bearers room (granted e (admission (taken e bearers) s) i s)
  -- starts and resets
  as_start : (i : ℕ) → well_formed e ≡ true → e.kind ≡ 9 → find is_free s ≡ Some i → Part s e bearers room (starting e i s)
  as_reset : sort_of e.kind ≡ AllOfNeighbour → Part s e bearers room (reset_of e s)
  -- ticks not before the clock: none is due, or the soonest is decided
  as_idle : well_formed e ≡ true → e.kind ≡ 15 → Part s e bearers room (refused 9 (at e.time s))
  as_tick : (i : ℕ) → well_formed e ≡ true → e.kind ≡ 15 → soonest e s ≡ Some i → Part s e bearers room (tick_at e (Some i) (at e.time s))
  -- events about one record
  as_event : (i : ℕ) → well_formed e ≡ true → sort_of e.kind ≡ OneRecord → find (about e) s ≡ Some i → Part s e bearers room (about_one e (Some i) s)

module _ (s : Station) (e : Record) (bearers : List ℕ) (room : ℕ) where
  -- a reply of 2 to 8
  refusing : (n : ℕ) → 2 ≤ n → n ≤ 8 → Part s e bearers room (refused n s)
  refusing n low high =
      as_refusal (record { reply = n; offset = 0; place = 0 }) (record { low = low; high = omega arith; timely = λ nine. omega arith; why = λ ten. absurd (omega arith) })

  -- a request whose bearers are missing or cannot be judged
  lacking_part : well_formed e ≡ true → e.kind ≡ 1 → complete e bearers room ≡ false → Part s e bearers room (request_of e bearers room s)
  lacking_part formed one less =
      let l = lacking e bearers room less in
      rw l.is (as_refusal l.flaw (record { low = omega (arith, l.low); high = l.high; timely = λ nine. omega (arith, l.low); why = λ _. inr (formed, one, less) }))

  request_part : well_formed e ≡ true → e.kind ≡ 1 → Part s e bearers room (request_of e bearers room s)
  request_part formed one =
      let held : same_action (action_of e.kind 0) Held ≡ true = rw one in
      by_cases (complete e bearers room)
      (λ whole. rw (flawless e bearers room whole)
      (by_found (find (about e) s)
      (λ new. rw new
      (by_found (find is_free s)
      (λ full. rw full (as_failure 4 (omega arith) (omega arith) one))
      (λ i free. rw free
      (by_cases (eqb (admission (taken e bearers) s).admitted 0)
      (λ t. rw t (as_failure 5 (omega arith) (omega arith) one))
      (λ t. rw (t, held) (as_grant i formed one whole new free))))))
      (λ i found. rw found (refusing 3 (omega arith) (omega arith)))))
      (λ less. lacking_part formed one less)

  tick_part : well_formed e ≡ true → e.kind ≡ 15 → Part s e bearers room (tick_of e s)
  tick_part formed fifteen =
      by_cases (ltb e.time s.clock) (λ early. rw early (refusing 8 (omega arith) (omega arith)))
      (λ late. rw late
      (by_found (soonest e s) (λ none. rw none (as_idle formed fifteen)) (λ i found. rw found (as_tick i formed fifteen found))))

  start_part : well_formed e ≡ true → e.kind ≡ 9 → Part s e bearers room (start_at e (find is_free s) s)
  start_part formed nine =
      let starts : same_action (action_of e.kind 0) Started ≡ true = rw nine in
      by_found (find is_free s)
      (λ full. rw full (refusing 4 (omega arith) (omega arith)))
      (λ i free. rw (free, starts) (as_start i formed nine free))

  event_part : well_formed e ≡ true → sort_of e.kind ≡ OneRecord → Part s e bearers room (about_one e (find (about e) s) s)
  event_part formed one =
      by_found (find (about e) s)
      (λ none. rw none (refusing 2 (omega arith) (omega arith)))
      (λ i found. rw found (as_event i formed one found))

  -- A well-formed event gives one by its sort.
  sort_part : well_formed e ≡ true → (sort : Sort) → sort_of e.kind ≡ sort → Part s e bearers room (by_sort sort e bearers room s)
  sort_part formed OneRecord is = event_part formed is
  sort_part formed SoonestDue is = tick_part formed (tick_kind e.kind is)
  sort_part formed NewRecord is = start_part formed (start_kind e.kind is)
  sort_part formed AllOfNeighbour is = as_reset is
  sort_part formed Request is = request_part formed (request_kind e.kind is)
  sort_part formed NoChange is = as_response is
  sort_part formed NoEvent is = absurd (true≢false (sym formed ∙ no_event_malformed e (eq_sort (sort_of e.kind) NoEvent is)))

  -- Every step gives one of them.
  pub part : Part s e bearers room (step_of s e bearers room)
  part =
      let sorted : Sort → Type 0 = λ sort. Part s e bearers room (by_sort sort e bearers room s) in
      by_cases (well_formed e)
      (λ formed. subst sorted (sym (on_true (well_formed e) (sort_of e.kind) NoEvent formed)) (sort_part formed (sort_of e.kind) refl))
      (λ malformed.
      let listed = flaw_in_listed e in
      subst sorted (sym (on_false (well_formed e) (sort_of e.kind) NoEvent malformed))
      (as_refusal (flaw_in e) (record { low = omega (arith, listed.0); high = omega (arith, listed.1); timely = λ nine. omega (arith, listed.0); why = λ _. inl malformed })))
