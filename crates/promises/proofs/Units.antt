-- A step changes the units in use by what it admitted, or what the records that it ended held, and by nothing else.
use Rattle.std.specs.Prelude.{Option, Some}
use Prim.Native.Nat.{ℕ, ◌+◌, ◌≤◌, ◌<◌}
use mathlib.Core.Path.{◌≡◌, refl, sym, ap, ◌∙◌, subst}
use mathlib.Core.Bool.{Bool, true, false, cond, not, ◌&&◌, ◌||◌, true≢false}
use mathlib.Core.List.{List, [], ◌∷◌}
use borrow.Author.Tests.{eqb-true, eqb-false, leb-true, lt-leb, ne_eqb, not-true}
use native.Mathlib.Omega.{arith}
use lib.Dec.{leb, eqb}
use lib.ListN.{get_or}
use Rattle.laws.proofs.Sums.{total_at, total_le, total_throughout}
use Rattle.laws.specs.Sums.{total}
use Rattle.laws.proofs.Tests.{by_cases, both_true, on_either, same_at, refuted}
use Rattle.records.specs.declared.Record.{Record}
use Rattle.table.specs.declared.Answer.{Answer}
use Rattle.handover.specs.declared.Action.{Action}
use Rattle.handover.specs.declared.Action.TheVariants.{Untaken, Arrived}
use Rattle.handover.specs.declared.Entry.{Entry}
use Rattle.table.specs.declared.Station.{Station}
use Rattle.handover.specs.Events.{about, action_of, number_of, decide}
use Rattle.fields.specs.declared.Sort.{Sort}
use Rattle.fields.specs.declared.Sort.TheVariants.{OneRecord, AllOfNeighbour, SoonestDue, NewRecord, Request, NoChange}
use Rattle.fields.specs.Fields.{same_sort, sort_of, well_formed}
use Rattle.handover.specs.Numbers.{is_held, is_incoming, blank}
use Rattle.fields.proofs.Sorts.{every_of_sort}
use Rattle.table.specs.Sound.{Fit, Sound}
use Rattle.table.specs.Step.{carried, step_of, admission, taken}
use Rattle.table.specs.Table.{find, soonest, at, back_of}
use Rattle.promises.specs.Views.{record_at}
use Rattle.handover.proofs.Resets.{reset_ends}
use Rattle.handover.proofs.Deciding.{every_action, leaves, decide_as}
use Rattle.table.proofs.Parts.{Part, as_refusal, as_response, as_failure, as_grant, as_start, as_reset, as_idle, as_tick, as_event, part}
use Rattle.table.proofs.Placing.{found_place, due_place}
use Rattle.table.proofs.Resetting.{back_le}
use Rattle.promises.proofs.Rows.{step_reset}
use Rattle.promises.proofs.Ticks.{tick_handles, tick_one}

-- ---- what is given out and taken back

-- the units of the record at a place that was found
abbrev pub units_at : Option ℕ → Station → ℕ
units_at found s = (record_at found s).units

-- the units of a held record of the event's neighbour
abbrev pub held_units : Record → Entry → ℕ
held_units e r = cond (is_held r && eqb r.neighbour e.neighbour) r.units 0

-- the kinds that end no record: acknowledge, status, arrival and status to send, a request, what changes nothing, and a start
abbrev keeps : ℕ → Bool
keeps k = eqb k 2 || eqb k 4 || eqb k 11 || eqb k 17

abbrev pub ends_none : ℕ → Bool
ends_none k = same_sort (sort_of k) Request || same_sort (sort_of k) NoChange || same_sort (sort_of k) NewRecord || keeps k

-- what the records hold that an event of a kind ends
abbrev pub freed_by : ℕ → Record → Station → ℕ
freed_by k e s =
    cond (ends_none k) 0
    (cond (same_sort (sort_of k) SoonestDue) (units_at (soonest e s) s)
    (cond (same_sort (sort_of k) AllOfNeighbour) (total (held_units e) s.entries)
    (units_at (find (about e) s) s)))

abbrev pub freed : Record → Station → ℕ
freed e s = freed_by e.kind e s

-- the endings that leave every record
abbrev pub leaves_all : ℕ → Bool
leaves_all z = eqb z 0 || eqb z 8

-- what is taken back
abbrev pub taken_back : Answer → Record → Station → ℕ
taken_back a e s = cond (leaves_all a.outcome.ending) 0 (freed e s)

-- what is given out: what a request admitted that has reply 0
abbrev pub given_out : Answer → Record → List ℕ → Station → ℕ
given_out a e bearers s = cond (eqb a.outcome.reply 0) (cond (eqb e.kind 1) (admission (taken e bearers) s).units 0) 0

-- an answer that accounts for the units, and ends nothing unless its reply is 0
pub record Accounts (a : Answer) (e : Record) (bearers : List ℕ) (s : Station) : Type 0 where
  pub units : a.station.used + taken_back a e s ≡ s.used + given_out a e bearers s
  pub nothing : eqb a.outcome.reply 0 ≡ false → a.outcome.ending ≡ 0

-- ---- decisions

-- Acknowledge, status, arrival and status to send leave the record.
keeps_leaves : (k st : ℕ) → keeps k ≡ true → leaves (action_of k st) ≡ true
keeps_leaves k st t = rw t at (every_action (λ i j a. not (keeps i) || leaves a) refl k st (λ j. rw t))

-- An action that does not is an ending that does not.
leaves_all_lem : (action : Action) → leaves action ≡ false → leaves_all (number_of action) ≡ false
leaves_all_lem Untaken t = absurd (true≢false t)
leaves_all_lem Arrived t = absurd (true≢false t)
leaves_all_lem action t = refl

-- A kind of another sort is no request.
no_request : (k : ℕ) (sort : Sort) → sort_of k ≡ sort → (Request ≡ sort → ⊥) → eqb k 1 ≡ false
no_request k sort is other = ne_eqb k 1 (λ one. other (rw one at is))

-- ---- resets

-- A reset is none of the kinds that leave a record.
keeps_none : (k : ℕ) → sort_of k ≡ AllOfNeighbour → keeps k ≡ false
keeps_none k reset = not-true (keeps k) (every_of_sort AllOfNeighbour (λ j. not (keeps j)) refl refl k reset)

-- Of these only the held ones have units.
reset_held : (e : Record) (r : Entry) → sort_of e.kind ≡ AllOfNeighbour → Fit r → back_of e r ≡ held_units e r
reset_held e r reset fit =
    rw (reset_ends e r reset)
    (by_cases (is_held r)
    (λ t. rw (eqb-true r.state 3 t))
    (λ t. rw t (by_cases (leb 1 r.state && leb r.state 3 && eqb r.neighbour e.neighbour)
    (λ u.
    let both = (both_true (leb 1 r.state && leb r.state 3) (eqb r.neighbour e.neighbour) u).0 in
    let most = leb-true r.state 3 (both_true (leb 1 r.state) (leb r.state 3) both).1 in
    let outgoing : is_incoming r ≡ false = lt-leb 3 r.state (omega (arith, eqb-false r.state 3 t)) in
    rw u (fit.units outgoing))
    (λ u. rw u))))

module _ (s : Station) (sound : Sound s) (e : Record) where
  -- What a reset takes back is what the held records of its neighbour have, and at most what is in use.
  reset_back : sort_of e.kind ≡ AllOfNeighbour → (total (back_of e) s.entries ≡ total (held_units e) s.entries) × (total (back_of e) s.entries ≤ s.used)
  reset_back reset = (
    total_throughout (back_of e) (held_units e) s.entries blank (λ i h. reset_held e (get_or s.entries i blank) reset (sound.fit i (omega (arith, sound.places)))),
    omega (arith, sound.sum, total_le (back_of e) (λ r. r.units) s.entries (back_le e)),
  )

-- ---- one step

module _ (s : Station) (sound : Sound s) (e : Record) (bearers : List ℕ) where
  -- A decision accounts for the units, if what an end frees is what the record holds.
  carried_accounts : (i deadline time : ℕ) → i < 64 → eqb e.kind 1 ≡ false
      → (leaves (action_of e.kind (get_or s.entries i blank).state) ≡ false → freed e s ≡ (get_or s.entries i blank).units)
      → Accounts (carried i (decide e (get_or s.entries i blank) deadline) (at time s)) e bearers s
  carried_accounts i deadline time place other frees =
      let r = get_or s.entries i blank in
      let back = total_at (λ x. x.units) s.entries i blank (omega (arith, sound.places)) in
      let enough : r.units ≤ s.used = omega (arith, sound.sum) in
      decide_as (λ d. Accounts (carried i d (at time s)) e bearers s) e r deadline
      (record { units = omega arith; nothing = λ _. refl })
      (record { units = omega arith; nothing = λ _. refl })
      (λ _ _ _. record { units = rw other (omega arith); nothing = λ _. refl })
      (λ _ _. record { units = rw other (omega arith); nothing = λ _. refl })
      (λ _ _ _. record { units = rw other (omega arith); nothing = λ _. refl })
      (λ _ _. record { units = rw other (omega arith); nothing = λ f. absurd (true≢false f) })
      (λ gone. record { units = rw (leaves_all_lem (action_of e.kind r.state) gone, frees gone, other) (omega arith); nothing = λ f. absurd (true≢false f) })

  -- Every part of a step accounts for the units: a preparing record has none.
  part_accounts : {room : ℕ} {a : Answer} → Part s e bearers room a → Accounts a e bearers s
  part_accounts (as_refusal f refusal) = record { units = rw (ne_eqb f.reply 0 (λ z. omega (arith, refusal.low))) (omega arith); nothing = λ _. refl }
  part_accounts (as_response idle) = record { units = rw (no_request e.kind NoChange idle (λ same. cc)) (omega arith); nothing = λ _. refl }
  part_accounts (as_failure n low _ _) = record { units = rw (ne_eqb n 0 (λ z. omega arith)) (omega arith); nothing = λ _. refl }
  part_accounts (as_grant i _ one _ _ _) = record { units = rw one (omega arith); nothing = λ _. refl }
  part_accounts (as_start i _ nine _) = record { units = rw nine (omega arith); nothing = λ _. refl }
  part_accounts (as_reset reset) =
      record { units = rw (reset, keeps_none e.kind reset, no_request e.kind AllOfNeighbour reset (λ same. cc)) (omega (arith, reset_back s sound e reset)); nothing = λ f. absurd (true≢false f) }
  part_accounts (as_idle _ _) = record { units = omega arith; nothing = λ _. refl }
  part_accounts (as_tick i _ fifteen found) =
      carried_accounts i 0 e.time (due_place s sound e i found) (rw fifteen)
      (λ _. ap (λ (k : ℕ). freed_by k e s) fifteen ∙ ap (λ (f : Option ℕ). units_at f s) found)
  part_accounts (as_event i _ single found) =
      carried_accounts i (s.clock + s.settings.overall) s.clock (found_place s sound (about e) i found) (no_request e.kind OneRecord single (λ same. cc))
      (λ gone.
      let ends : keeps e.kind ≡ false = refuted (keeps e.kind) (λ t. true≢false (sym (keeps_leaves e.kind (get_or s.entries i blank).state t) ∙ gone)) in
      rw (single, ends) (ap (λ (f : Option ℕ). units_at f s) found))

  -- So a step changes the units in use by what it gives out and takes back, and by nothing else.
  pub accounts : (room : ℕ) → Accounts (step_of s e bearers room) e bearers s
  accounts room = part_accounts (part s e bearers room)

-- ---- the laws, of any answer that accounts for the units

module _ (a : Answer) (e : Record) (bearers : List ℕ) (s : Station) (account : Accounts a e bearers s) where
  -- Where the reply is not 0, nothing is given out or taken back.
  refused_account : (a.outcome.reply ≡ 0 → ⊥) → a.station.used ≡ s.used
  refused_account other =
      let t = ne_eqb a.outcome.reply 0 other in
      let none : taken_back a e s ≡ 0 = rw (account.nothing t) in
      let nothing : given_out a e bearers s ≡ 0 = rw t in
      omega (arith, account.units)

  -- A kind that ends no record takes nothing back, and one that is no request gives nothing out.
  pub none_back : ends_none e.kind ≡ true → taken_back a e s ≡ 0
  none_back kind = rw kind (on_either (leaves_all a.outcome.ending) 0)

  pub none_out : eqb e.kind 1 ≡ false → given_out a e bearers s ≡ 0
  none_out other = rw other (on_either (eqb a.outcome.reply 0) 0)

  granted_account : e.kind ≡ 1 → a.outcome.reply ≡ 0 → a.station.used ≡ s.used + (admission (taken e bearers) s).units
  granted_account kind done =
      let given : given_out a e bearers s ≡ (admission (taken e bearers) s).units = rw (done, kind) in
      omega (arith, account.units, none_back (rw kind))

  kept_account : ends_none e.kind ≡ true → eqb e.kind 1 ≡ false → a.station.used ≡ s.used
  kept_account kind other = omega (arith, account.units, none_back kind, none_out other)

  -- Where the ending leaves the records, nothing is taken back; where it does not, exactly what the ended records held is.
  left_account : eqb e.kind 1 ≡ false → leaves_all a.outcome.ending ≡ true → a.station.used ≡ s.used
  left_account other ending =
      let none : taken_back a e s ≡ 0 = rw ending in
      omega (arith, account.units, none_out other)

  ended_account : eqb e.kind 1 ≡ false → leaves_all a.outcome.ending ≡ false → a.station.used + freed e s ≡ s.used
  ended_account other ending =
      let all : taken_back a e s ≡ freed e s = rw ending in
      omega (arith, account.units, none_out other)

-- the kinds of events about one record that end it
abbrev pub ending_kinds : List ℕ
ending_kinds = 3 ∷ 5 ∷ 6 ∷ 10 ∷ 12 ∷ 13 ∷ []

module _ (s : Station) (sound : Sound s) (e : Record) (bearers : List ℕ) (room : ℕ) where
  -- A step whose reply is not 0 keeps the units in use.
  pub units_refused : ((step_of s e bearers room).outcome.reply ≡ 0 → ⊥) → (step_of s e bearers room).station.used ≡ s.used
  units_refused = refused_account (step_of s e bearers room) e bearers s (accounts s sound e bearers room)

  -- A request that is granted adds exactly the units admitted.
  pub units_granted : e.kind ≡ 1 → (step_of s e bearers room).outcome.reply ≡ 0 → (step_of s e bearers room).station.used ≡ s.used + (admission (taken e bearers) s).units
  units_granted = granted_account (step_of s e bearers room) e bearers s (accounts s sound e bearers room)

  -- An acknowledge, a status either way, an arrival, a start and a reset's response keep them.
  pub units_kept : ends_none e.kind ≡ true → (e.kind ≡ 1 → ⊥) → (step_of s e bearers room).station.used ≡ s.used
  units_kept kind other = kept_account (step_of s e bearers room) e bearers s (accounts s sound e bearers room) kind (ne_eqb e.kind 1 other)

  -- So does every event but a request whose ending is 0 or 8.
  pub units_left : (e.kind ≡ 1 → ⊥) → leaves_all (step_of s e bearers room).outcome.ending ≡ true → (step_of s e bearers room).station.used ≡ s.used
  units_left other = left_account (step_of s e bearers room) e bearers s (accounts s sound e bearers room) (ne_eqb e.kind 1 other)

  -- An event about one record that ends it takes back exactly its units.
  pub units_ended : (n i : ℕ) → e.kind ≡ get_or ending_kinds n 3 → find (about e) s ≡ Some i → leaves_all (step_of s e bearers room).outcome.ending ≡ false
      → (step_of s e bearers room).station.used + (get_or s.entries i blank).units ≡ s.used
  units_ended n i kind found ending =
      let other : eqb e.kind 1 ≡ false = rw kind (same_at (λ k. eqb k 1) (λ k. false) ending_kinds 3 n refl refl) in
      let frees : freed e s ≡ units_at (find (about e) s) s = ap (λ (k : ℕ). freed_by k e s) kind ∙ same_at (λ k. freed_by k e s) (λ k. units_at (find (about e) s) s) ending_kinds 3 n refl refl in
      let record_units : freed e s ≡ (get_or s.entries i blank).units = frees ∙ ap (λ (f : Option ℕ). units_at f s) found in
      subst (λ (u : ℕ). (step_of s e bearers room).station.used + u ≡ s.used) record_units
      (ended_account (step_of s e bearers room) e bearers s (accounts s sound e bearers room) other ending)

  -- So does a tick with reply 0.
  pub units_ticked : (i : ℕ) → e.kind ≡ 15 → well_formed e ≡ true → (step_of s e bearers room).outcome.reply ≡ 0 → soonest e s ≡ Some i → (step_of s e bearers room).station.used + (get_or s.entries i blank).units ≡ s.used
  units_ticked i kind formed done found =
      let late = (tick_handles e kind formed s bearers room done).0 in
      let back = total_at (λ x. x.units) s.entries i blank (omega (arith, due_place s sound e i found, sound.places)) in
      subst (λ (t : Station). t.used + (get_or s.entries i blank).units ≡ s.used) (sym (tick_one e kind formed s bearers room late i found).1) (omega (arith, sound.sum))

  -- A reset takes back exactly the units of the held records of that neighbour.
  pub units_reset : well_formed e ≡ true → sort_of e.kind ≡ AllOfNeighbour → (step_of s e bearers room).station.used + total (held_units e) s.entries ≡ s.used
  units_reset formed reset =
      subst (λ (a : Answer). a.station.used + total (held_units e) s.entries ≡ s.used) (sym (step_reset s e bearers room formed reset))
      (omega (arith, reset_back s sound e reset))
