-- Every station that a fresh one reached is sound.
use Rattle.std.specs.Prelude.{Some, None}
use Prim.Native.Nat.{ℕ, ◌+◌, ◌*◌, ◌≤◌, ◌<◌}
use mathlib.Core.Path.{◌≡◌, refl, sym}
use mathlib.Core.Bool.{true, false, cond, ◌&&◌}
use mathlib.Core.List.{List}
use borrow.Author.Tests.{eqb-true, leb-true}
use native.Mathlib.Omega.{arith}
use lib.Dec.{leb, eqb}
use lib.ListN.{length, get_or, length-replicate, get_or-replicate}
use Rattle.laws.proofs.Sums.{total_replicate}
use Rattle.laws.specs.Sums.{total}
use Rattle.laws.proofs.Tests.{by_cases, both_true}
use Rattle.records.specs.declared.Record.{Record}
use Rattle.bearers.specs.Admission.{judgeable}
use Rattle.table.specs.declared.Answer.{Answer}
use Rattle.handover.specs.declared.Entry.{Entry}
use Rattle.table.specs.declared.Settings.{Settings}
use Rattle.table.specs.declared.Station.{Station}
use Rattle.handover.specs.Events.{about, decide}
use Rattle.handover.specs.Numbers.{is_free, own, blank}
use Rattle.table.specs.Reached.{Reached, born, stepped}
use Rattle.table.specs.Sound.{Fit, Settled, Sound, own_times, held_times}
use Rattle.table.specs.Step.{issue, step_of, born_of, fresh, is_timer, settled, least, started, held_for, admission, taken, free_units}
use Rattle.table.specs.Table.{find, at, put, add}
use Rattle.table.proofs.Changes.{sound_at, sound_put, sound_add, sound_reset}
use Rattle.table.proofs.Counting.{issue_small, issue_unused, own_once}
use Rattle.handover.proofs.Deciding.{decide_units}
use Rattle.handover.proofs.Keys.{request_about}
use Rattle.places.proofs.Finding.{found_none}
use Rattle.table.proofs.Finding.{found_here}
use Rattle.table.proofs.Fits.{fit_blank, decided_fits, decided_own, decided_held, started_fits, held_fits}
use Rattle.fields.proofs.Forms.{time_within}
use Rattle.table.proofs.Parts.{Part, as_refusal, as_response, as_failure, as_grant, as_start, as_reset, as_idle, as_tick, as_event, part}
use Rattle.table.proofs.Placing.{found_place, due_place}
use Rattle.table.proofs.Requests.{units_free}
use Rattle.table.proofs.Tally.{total_none_of}

-- ---- one step

-- A request that is not about a record is not one of a held record.
held_about : (e : Record) (r : Entry) → e.kind ≡ 1 → about e r ≡ false → held_times e.neighbour e.old.0 r ≡ 0
held_about e r one other = rw (← request_about e r one, other)

-- A decision about a record leaves the station sound, if the deadline that an acknowledge sets is one.
sound_decided : (s : Station) → Sound s → (e : Record) (i deadline : ℕ) → i < 64 → (e.kind ≡ 2 → 1 ≤ deadline) → deadline ≤ 1000000600000 → Sound (put i (decide e (get_or s.entries i blank) deadline).entry s)
sound_decided s sound e i deadline place low high =
    let r = get_or s.entries i blank in
    sound_put s sound i (decide e r deadline).entry place (decided_fits e r deadline (sound.fit i place) low high)
    (λ k. decided_own k e r deadline) (λ n o. decided_held n o e r deadline) (decide_units e r deadline)

module _ (s : Station) (sound : Sound s) where
  -- A record that fits may be made at a free place, with the own ID that is issued.
  sound_made : (i : ℕ) (r : Entry) → find is_free s ≡ Some i → Fit r → own r ≡ issue s
      → ((n o : ℕ) → total (held_times n o) s.entries + held_times n o r ≤ 1)
      → s.used + r.units ≤ s.settings.capacity → Sound (add i (issue s) r s)
  sound_made i r found fit issued held units =
      sound_add s sound i r (found_place s sound is_free i found) fit (issue s) (issue_small s sound) (found_here is_free s i found).1
      (λ k. own_once s.entries r k (sound.distinct k) (rw issued (issue_unused s sound i found))) held units

  -- Where a request is about no record, none is held for its neighbour and its Old ID but the one that it makes.
  held_once : (e : Record) (bytes : List ℕ) → e.kind ≡ 1 → find (about e) s ≡ None → (n o : ℕ) → total (held_times n o) s.entries + held_times n o (held_for e (admission bytes s) s) ≤ 1
  held_once e bytes one none n o =
      by_cases (eqb e.neighbour n && eqb e.old.0 o)
      (λ t.
      let both = both_true (eqb e.neighbour n) (eqb e.old.0 o) t in
      let other = total_none_of (held_times e.neighbour e.old.0) (about e) s.entries (λ r. held_about e r one) (found_none (about e) s.entries none) in
      rw (t, ← eqb-true e.neighbour n both.0, ← eqb-true e.old.0 o both.1) (omega arith))
      (λ t. rw t (omega (arith, sound.unique n o)))

  -- Every part of a step leaves the station sound: what is admitted is free, no acknowledge is among ticks, and their time is at most
  -- the greatest.
  module _ (e : Record) (bearers : List ℕ) (room : ℕ) where
    sound_part : {a : Answer} → Part s e bearers room a → Sound a.station
    sound_part (as_refusal f _) = sound
    sound_part (as_response _) = sound
    sound_part (as_failure n _ _ _) = sound
    sound_part (as_grant i _ one whole new free) =
        let a = admission (taken e bearers) s in
        let judged = (both_true (leb (e.number * 32) (length bearers)) (judgeable (taken e bearers) room) whole).1 in
        sound_made i (held_for e a s) free (held_fits s sound e a) refl (held_once e (taken e bearers) one new)
        (omega (arith, sound.used, units_free (taken e bearers) (free_units s) room judged))
    sound_part (as_start i _ _ free) =
        sound_made i (started e s) free (started_fits s sound e) refl (λ n o. omega (arith, sound.unique n o)) (omega (arith, sound.used))
    sound_part (as_reset _) = sound_reset s sound e
    sound_part (as_idle formed _) = sound_at s sound e.time (time_within e formed)
    sound_part (as_tick i formed fifteen found) =
        sound_decided (at e.time s) (sound_at s sound e.time (time_within e formed)) e i 0 (due_place s sound e i found) (λ two. absurd (omega arith)) (omega arith)
    sound_part (as_event i _ _ found) =
        sound_decided s sound e i (s.clock + s.settings.overall) (found_place s sound (about e) i found)
        (λ _. omega (arith, sound.settings.overall)) (omega (arith, sound.settings.overall, sound.clock))

-- A step leaves a sound station sound.
pub sound_step : {s : Station} → Sound s → (e : Record) (bearers : List ℕ) (room : ℕ) → Sound (step_of s e bearers room).station
sound_step {s} sound e bearers room = sound_part s sound e bearers room (part s e bearers room)

-- ---- from birth on

-- A fresh station with settings in range is sound.
sound_fresh : (settings : Settings) → Settled settings → Sound (fresh settings)
sound_fresh settings settled =
    record {
      places = length-replicate 64 blank;
      fit = λ i h. rw (get_or-replicate 64 i blank blank h) fit_blank;
      distinct = λ k. omega (arith, total_replicate (own_times k) 64 blank refl);
      unique = λ n o. omega (arith, total_replicate (held_times n o) 64 blank refl);
      sum = sym (total_replicate (λ r. r.units) 64 blank refl);
      used = omega arith;
      clock = omega arith;
      last = omega arith;
      settings = settled;
    }

-- A timer is 1 to 600,000 ms.
timer_means : (t : ℕ) → is_timer t ≡ true → (1 ≤ t) × (t ≤ 600000)
timer_means t h =
    let both = both_true (leb 1 t) (leb t 600000) h in
    (leb-true 1 t both.0, leb-true t 600000 both.1)

-- Settings that pass the test are in range, and so are the least.
settled_means : (x : Settings) → settled x ≡ true → Settled x
settled_means x t =
    let c = both_true (leb x.capacity 1000000000 && is_timer x.prep && is_timer x.overall) (is_timer x.guard) t in
    let b = both_true (leb x.capacity 1000000000 && is_timer x.prep) (is_timer x.overall) c.0 in
    let a = both_true (leb x.capacity 1000000000) (is_timer x.prep) b.0 in
    record {
      capacity = leb-true x.capacity 1000000000 a.0;
      prep = timer_means x.prep a.1;
      overall = timer_means x.overall b.1;
      guard = timer_means x.guard c.1;
    }

-- A station is sound at birth, whatever its settings.
pub sound_born : (settings : Settings) → Sound (born_of settings)
sound_born settings =
    sound_fresh (cond (settled settings) settings least)
    (by_cases (settled settings) (λ t. rw t (settled_means settings t)) (λ t. rw t (settled_means least refl)))

-- So every station that a fresh one reached is sound.
pub sound : {s : Station} → Reached s → Sound s
sound (born settings) = sound_born settings
sound (stepped before e _ bearers room) = sound_step (sound before) e bearers room
