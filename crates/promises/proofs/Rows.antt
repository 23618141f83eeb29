-- What a step answers, kind by kind: the rows of one record carried out, and the rows of starts, requests, resets and ticks.
use Rattle.std.specs.Prelude.{Option, Some, None}
use Prim.Native.Nat.{ℕ, ◌+◌}
use mathlib.Core.Path.{◌≡◌, refl, ap, ◌∙◌}
use mathlib.Core.Bool.{true, false, cond}
use mathlib.Core.List.{List}
use lib.Dec.{ltb, eqb}
use lib.ListN.{get_or}
use Rattle.laws.proofs.Tests.{same_at, on_true, on_false}
use Rattle.records.specs.declared.Record.{Record}
use Rattle.handover.specs.declared.Action.TheVariants.{Started, Held}
use Rattle.handover.specs.declared.Decision.{Decision}
use Rattle.table.specs.declared.Station.{Station}
use Rattle.handover.specs.Events.{about, action_of, same_action, message, silence}
use Rattle.fields.specs.declared.Sort.{Sort}
use Rattle.fields.specs.declared.Sort.TheVariants.{NoEvent, OneRecord, AllOfNeighbour}
use Rattle.fields.specs.Fields.{sort_of, well_formed}
use Rattle.handover.specs.Numbers.{is_free, blank}
use Rattle.table.specs.Sound.{Sound}
use Rattle.answers.specs.Answers.{flaw_in}
use Rattle.table.specs.Step.{answer, refused, malformed, carried, about_one, reset_of, starting, start_at, tick_at, repeat_of, admitted_at, by_sort, step_of, issue, started, failure, granted, admission, taken, complete}
use Rattle.table.specs.Table.{find, soonest, at, add, reset}
use Rattle.handover.proofs.Rows.{rows, last_row, rows_hold, due_row, due_rows, due_rows_hold, row_of}
use Rattle.table.proofs.Finding.{found_here}
use Rattle.table.proofs.Placing.{found_place}
use Rattle.table.proofs.Requests.{Lacking, lacking, flawless}

-- A malformed event is answered by what is wrong with it.
pub malformed_step : (s : Station) (e : Record) (bearers : List ℕ) (room : ℕ) → well_formed e ≡ false → step_of s e bearers room ≡ malformed (flaw_in e) s
malformed_step s e bearers room t = ap (λ (n : Sort). by_sort n e bearers room s) (on_false (well_formed e) (sort_of e.kind) NoEvent t)

module _ (s : Station) (e : Record) (bearers : List ℕ) (room : ℕ) (formed : well_formed e ≡ true) where
  -- A well-formed event does what its sort does.
  pub by_sort_lem : (sort : Sort) → sort_of e.kind ≡ sort → step_of s e bearers room ≡ by_sort sort e bearers room s
  by_sort_lem sort is = ap (λ (n : Sort). by_sort n e bearers room s) (on_true (well_formed e) (sort_of e.kind) NoEvent formed ∙ is)

  by_kind : (k : ℕ) → e.kind ≡ k → step_of s e bearers room ≡ by_sort (sort_of k) e bearers room s
  by_kind k kind = by_sort_lem (sort_of k) (ap sort_of kind)

  -- An event of a row's kind is about one record.
  about_step : (n : ℕ) → e.kind ≡ (get_or rows n last_row).kind → (found : Option ℕ) → find (about e) s ≡ found → step_of s e bearers room ≡ about_one e found s
  about_step n kind found is =
      by_sort_lem OneRecord (ap sort_of kind ∙ same_at (λ x. sort_of x.kind) (λ x. OneRecord) rows last_row n refl refl)
      ∙ ap (λ (f : Option ℕ). about_one e f s) is

  -- An event of a row's kind about a record in the row's state does what the row says, with the deadline clock plus overall.
  pub row_step : (i n : ℕ) → e.kind ≡ (get_or rows n last_row).kind → find (about e) s ≡ Some i → (get_or s.entries i blank).state ≡ (get_or rows n last_row).state
      → step_of s e bearers room ≡ carried i ((get_or rows n last_row).does e (get_or s.entries i blank) (s.clock + s.settings.overall)) s
  row_step i n kind found state =
      about_step n kind (Some i) found
      ∙ ap (λ (d : Decision). carried i d s) (rows_hold e (get_or s.entries i blank) (s.clock + s.settings.overall) n kind state)

  -- One that is about no record is refused with 2.
  pub lost_step : (n : ℕ) → e.kind ≡ (get_or rows n last_row).kind → find (about e) s ≡ None → step_of s e bearers room ≡ refused 2 s
  lost_step n kind found = about_step n kind None found

  -- 15, at a time before the clock: 8; else the clock becomes the time, and the soonest record is looked at.
  pub early_step : e.kind ≡ 15 → ltb e.time s.clock ≡ true → step_of s e bearers room ≡ refused 8 s
  early_step kind early = by_kind 15 kind ∙ rw early

  pub tick_step : e.kind ≡ 15 → ltb e.time s.clock ≡ false → (found : Option ℕ) → soonest e s ≡ found → step_of s e bearers room ≡ tick_at e found (at e.time s)
  tick_step kind late found is = by_kind 15 kind ∙ rw late (ap (λ (f : Option ℕ). tick_at e f (at e.time s)) is)

  -- A tick at a time not before the clock does to the soonest record what its row says, and the clock becomes the time.
  pub due_step : (i n : ℕ) → e.kind ≡ 15 → ltb e.time s.clock ≡ false → soonest e s ≡ Some i → (get_or s.entries i blank).state ≡ (get_or due_rows n due_row).state
      → step_of s e bearers room ≡ carried i ((get_or due_rows n due_row).does e (get_or s.entries i blank) 0) (at e.time s)
  due_step i n kind late found state =
      tick_step kind late (Some i) found
      ∙ ap (λ (d : Decision). carried i d (at e.time s)) (due_rows_hold e (get_or s.entries i blank) 0 n kind state)

  -- 9: where a place is free, a preparing record with the next own ID, which sends 1 with Old and the set.
  pub start_step : (i : ℕ) → e.kind ≡ 9 → find is_free s ≡ Some i → step_of s e bearers room ≡ answer 0 0 0 (message 1 e.neighbour (issue s) 0 e.first 0 0) (add i (issue s) (started e s) s)
  start_step i kind found = by_kind 9 kind ∙ ap (λ (f : Option ℕ). start_at e f s) found ∙ ap (λ (k : ℕ). cond (same_action (action_of k 0) Started) (starting e i s) (refused 6 s)) kind

  -- 9, where no place is free: 4.
  pub full_step : e.kind ≡ 9 → find is_free s ≡ None → step_of s e bearers room ≡ refused 4 s
  full_step kind found = by_kind 9 kind ∙ ap (λ (f : Option ℕ). start_at e f s) found

  -- 7 and 14: a reset.
  pub step_reset : sort_of e.kind ≡ AllOfNeighbour → step_of s e bearers room ≡ reset_of e s
  step_reset reset = by_sort_lem AllOfNeighbour reset

  -- 7: all outgoing and held records of the neighbour end, which sends 8 and has ending 10 even if there was none.
  pub reset_step : e.kind ≡ 7 → step_of s e bearers room ≡ answer 0 10 0 (message 8 e.neighbour 0 0 0 0 0) (reset e s)
  reset_step kind = by_kind 7 kind ∙ ap (λ (k : ℕ). answer 0 10 0 (message (cond (eqb k 7) 8 7) e.neighbour 0 0 0 0 0) (reset e s)) kind

  -- 14: the same, and sends 7.
  pub own_reset_step : e.kind ≡ 14 → step_of s e bearers room ≡ answer 0 10 0 (message 7 e.neighbour 0 0 0 0 0) (reset e s)
  own_reset_step kind = by_kind 14 kind ∙ ap (λ (k : ℕ). answer 0 10 0 (message (cond (eqb k 7) 8 7) e.neighbour 0 0 0 0 0) (reset e s)) kind

  -- 8: taken, and nothing is done.
  pub response_step : e.kind ≡ 8 → step_of s e bearers room ≡ answer 0 0 0 silence s
  response_step kind = by_kind 8 kind

  module _ (kind : e.kind ≡ 1) where
    -- 1, with too few bearers, one that is malformed, or no room for their verdicts: what is wrong.
    pub lacking_step : (l : Lacking e bearers room) → step_of s e bearers room ≡ malformed l.flaw s
    lacking_step l = by_kind 1 kind ∙ rw l.is

    pub incomplete_step : (less : complete e bearers room ≡ false) → step_of s e bearers room ≡ malformed (lacking e bearers room less).flaw s
    incomplete_step less = lacking_step (lacking e bearers room less)

    module _ (whole : complete e bearers room ≡ true) where
      -- 1, where a record is held for its neighbour and its Old ID: 3.
      pub repeat_step : (i : ℕ) → find (about e) s ≡ Some i → step_of s e bearers room ≡ refused 3 s
      repeat_step i found = by_kind 1 kind ∙ rw (flawless e bearers room whole) (ap (λ (f : Option ℕ). repeat_of e (taken e bearers) f s) found)

      new_step : find (about e) s ≡ None → (free : Option ℕ) → find is_free s ≡ free → step_of s e bearers room ≡ admitted_at e (taken e bearers) free s
      new_step new free found =
          by_kind 1 kind
          ∙ rw (flawless e bearers room whole) (ap (λ (f : Option ℕ). repeat_of e (taken e bearers) f s) new ∙ ap (λ (f : Option ℕ). admitted_at e (taken e bearers) f s) found)

      -- 1, where no place is free: 4, and sends 3 with it.
      pub crowded_step : find (about e) s ≡ None → find is_free s ≡ None → step_of s e bearers room ≡ failure 4 e s
      crowded_step new found = new_step new None found

      -- 1, where no bearer is admitted: 5, and sends 3 with it.
      pub empty_step : (i : ℕ) → find (about e) s ≡ None → find is_free s ≡ Some i → eqb (admission (taken e bearers) s).admitted 0 ≡ true → step_of s e bearers room ≡ failure 5 e s
      empty_step i new found none = new_step new (Some i) found ∙ rw none

      -- 1, else: a held record with the next own ID, deadline clock plus guard, which sends 2 with both IDs and both sets.
      pub grant_step : (i : ℕ) → find (about e) s ≡ None → find is_free s ≡ Some i → eqb (admission (taken e bearers) s).admitted 0 ≡ false
          → step_of s e bearers room ≡ granted e (admission (taken e bearers) s) i s
      grant_step i new found some = new_step new (Some i) found ∙ rw some (ap (λ (k : ℕ). cond (same_action (action_of k 0) Held) (granted e (admission (taken e bearers) s) i s) (refused 6 s)) kind)

-- So an event about one record that finds one does what some row says.
pub some_row : (s : Station) → Sound s → (e : Record) → sort_of e.kind ≡ OneRecord → (i : ℕ) → find (about e) s ≡ Some i
    → (n : ℕ) × (e.kind ≡ (get_or rows n last_row).kind) × ((get_or s.entries i blank).state ≡ (get_or rows n last_row).state)
some_row s sound e one i found =
    row_of e (get_or s.entries i blank) one (sound.fit i (found_place s sound (about e) i found)).state (found_here (about e) s i found).1
