-- A cancel that is sent is of an outgoing record, and has its New ID if that is known; a UE that returns sends one; and a cancel that is
-- taken ends the held record that has its IDs, with its units.
use Rattle.std.specs.Prelude.{Some}
use Prim.Native.Nat.{ℕ, ◌+◌, ◌≤◌, ◌<◌}
use mathlib.Core.Path.{◌≡◌, refl, sym, ap, subst, ◌∙◌}
use mathlib.Core.Bool.{true, false, ◌&&◌, true≢false, false≢true}
use mathlib.Core.Logic.{◌⊎◌, inl, inr, ⊎_elim}
use mathlib.Core.List.{List}
use borrow.Author.Tests.{eqb-true, eqb-false, eq-eqb, le-leb}
use native.Mathlib.Omega.{arith}
use lib.Dec.{eqb}
use lib.ListN.{get_or}
use Rattle.laws.proofs.Tests.{by_cases, both_true}
use Rattle.records.specs.declared.Record.{Record}
use Rattle.table.specs.declared.Answer.{Answer}
use Rattle.handover.specs.declared.Entry.{Entry}
use Rattle.table.specs.declared.Station.{Station}
use Rattle.handover.specs.Events.{about, action_of, message, last_word, decide}
use Rattle.fields.specs.Fields.{well_formed}
use Rattle.handover.specs.Numbers.{blank, own, own_is}
use Rattle.table.specs.Reached.{Reached}
use Rattle.table.specs.Sound.{Sound}
use Rattle.table.specs.Step.{step_of}
use Rattle.table.specs.Table.{find, put}
use Rattle.promises.specs.Views.{NotOut, Preparing, Prepared, NotHeld, Held, some_held, held_of, named, out, held, sent, ending}
use Rattle.handover.proofs.Deciding.{leaves, decide_as}
use Rattle.handover.proofs.Keys.{keyed_by, same_old}
use Rattle.fields.proofs.Forms.{used_in_range}
use Rattle.table.proofs.Counting.{own_is_lem}
use Rattle.places.proofs.Finding.{by_found, found_none}
use Rattle.table.proofs.Finding.{found_here}
use Rattle.table.proofs.Parts.{Part, as_refusal, as_response, as_failure, as_grant, as_start, as_reset, as_idle, as_tick, as_event, part}
use Rattle.answers.proofs.Flaws.{flaw_in_listed}
use Rattle.table.proofs.Placing.{found_place, due_place}
use Rattle.table.proofs.Soundness.{sound, sound_step}
use Rattle.table.proofs.Tally.{none_at}
use Rattle.promises.proofs.Answers.{prepared_means, gone}
use Rattle.promises.proofs.Bounds.{bounded}
use Rattle.promises.proofs.Orderless.{about_once}
use Rattle.promises.proofs.Rows.{malformed_step, row_step, lost_step}
use Rattle.promises.proofs.Shown.{shown}
use Rattle.promises.proofs.Ticks.{soonest_due_lem}
use Rattle.promises.proofs.Units.{units_ended}
use Rattle.promises.proofs.Viewing.{named_at, named_is}

-- ---- sent

-- a cancel with a record's neighbour and Old ID, and its New ID if it is prepared, else none
pub data CancelFor (r : Entry) (m : Record) : Type 0 where
  unprepared : r.state ≡ 1 → (reason : ℕ) → m ≡ message 6 r.neighbour r.old.0 65535 0 0 reason → CancelFor r m
  prepared : r.state ≡ 2 → (reason : ℕ) → m ≡ message 6 r.neighbour r.old.0 r.new.0 0 0 reason → CancelFor r m

-- The last word of an outgoing record, if it is a cancel, is one for it.
last_cancel : (e : Record) (r : Entry) → about e r ≡ true → leaves (action_of e.kind r.state) ≡ false → (last_word e r).kind ≡ 6 → CancelFor r (last_word e r)
last_cancel e r mine ends =
    by_cases (eqb e.kind 10)
    (λ t.
    let keys = keyed_by 10 e r (eqb-true e.kind 10 t) mine in
    by_cases (eqb r.state 2)
    (λ u. rw (t, u) (λ six. prepared (eqb-true r.state 2 u) 1 refl))
    (λ u. rw (t, u) (λ six. unprepared (omega (arith, keys.first, keys.last, eqb-false r.state 2 u)) 1 refl)))
    (λ t. by_cases (eqb e.kind 15 && eqb r.state 1)
    (λ u. rw (t, u) (λ six. unprepared (eqb-true r.state 1 (both_true (eqb e.kind 15) (eqb r.state 1) u).1) 2 refl))
    (λ u. by_cases (eqb e.kind 15 && eqb r.state 2) (λ v. rw (t, u, v) (λ six. absurd (omega arith)))
    (λ v. by_cases (eqb e.kind 12) (λ x. rw (t, u, v, x) (λ six. prepared (second (eqb-true e.kind 12 x)) 3 refl)) (λ x. rw (t, u, v, x) (λ six. absurd (omega arith))))))
  where
    -- a preparing record does not end where its UE returns
    second : e.kind ≡ 12 → r.state ≡ 2
    second kind =
        let keys = keyed_by 12 e r kind mine in
        by_cases (eqb r.state 1)
        (λ t. absurd (true≢false (rw (kind, eqb-true r.state 1 t) at ends)))
        (λ t. omega (arith, keys.first, keys.last, eqb-false r.state 1 t))

decided_cancel : (e : Record) (r : Entry) (deadline : ℕ) → about e r ≡ true → (decide e r deadline).message.kind ≡ 6 → CancelFor r (decide e r deadline).message
decided_cancel e r deadline mine =
    decide_as (λ d. d.message.kind ≡ 6 → CancelFor r d.message) e r deadline
    (λ six. absurd (omega arith)) (λ six. absurd (omega arith)) (λ _ _ _ six. absurd (omega arith)) (λ _ _ six. absurd (omega arith))
    (λ _ _ _ six. absurd (omega arith)) (λ _ _ six. absurd (omega arith)) (last_cancel e r mine)

-- a cancel of an outgoing record that is seen, and of what stands in it nothing else
pub record CancelOf (s : Station) (m : Record) : Type 0 where
  pub word : m ≡ message 6 m.neighbour m.old.0 m.new.0 0 0 m.reason
  pub of : ((out s m.neighbour m.old.0 ≡ Preparing) × (m.new.0 ≡ 65535)) ⊎ ((set : ℕ) × (out s m.neighbour m.old.0 ≡ Prepared m.new.0 set))

module _ {s : Station} (reached : Reached s) (e : Record) (bearers : List ℕ) (room : ℕ) where
  seen_cancel : {m : Record} (j : ℕ) → j < 64 → CancelFor (get_or s.entries j blank) m → CancelOf s m
  seen_cancel j h (unprepared one reason is) = rw is (record { word = refl; of = inl ((shown reached j h).preparing one, refl) })
  seen_cancel j h (prepared two reason is) = rw is (record { word = refl; of = inr ((get_or s.entries j blank).admitted, (shown reached j h).prepared two) })

  part_cancel : {a : Answer} → Part s e bearers room a → (sent a).kind ≡ 6 → CancelOf s (sent a)
  part_cancel (as_refusal f _) six = absurd (omega arith)
  part_cancel (as_response _) six = absurd (omega arith)
  part_cancel (as_failure n _ _ _) six = absurd (omega arith)
  part_cancel (as_grant i _ _ _ _ _) six = absurd (omega arith)
  part_cancel (as_start i _ _ _) six = absurd (omega arith)
  part_cancel (as_reset _) six = by_cases (eqb e.kind 7) (λ t. absurd (omega (arith, rw t at six))) (λ t. absurd (omega (arith, rw t at six)))
  part_cancel (as_idle _ _) six = absurd (omega arith)
  part_cancel (as_tick i _ fifteen found) six =
      seen_cancel i (due_place s (sound reached) e i found) (decided_cancel e (get_or s.entries i blank) 0 (soonest_due_lem e fifteen s i found).mine six)
  part_cancel (as_event i _ _ found) six =
      seen_cancel i (found_place s (sound reached) (about e) i found)
      (decided_cancel e (get_or s.entries i blank) (s.clock + s.settings.overall) (found_here (about e) s i found).1 six)

  -- A cancel that a step sends is one of an outgoing record.
  pub cancel_sent : (sent (step_of s e bearers room)).kind ≡ 6 → CancelOf s (sent (step_of s e bearers room))
  cancel_sent = part_cancel (part s e bearers room)

-- a prepared record is gone, with ending 5, and the cancel that is sent has its neighbour, both its IDs and reason 3
pub record Returns (p i number : ℕ) (a : Answer) : Type 0 where
  pub word : sent a ≡ message 6 p i number 0 0 3
  pub returned : ending a ≡ 5
  pub gone : out a.station p i ≡ NotOut

module _ {s : Station} (reached : Reached s) (e : Record) (bearers : List ℕ) (room : ℕ) where
  -- Where the UE of a prepared record returns, and that is done, the neighbour is told.
  pub return_sends : (p number set : ℕ) → e.kind ≡ 12 → (step_of s e bearers room).outcome.reply ≡ 0 → out s p e.old.0 ≡ Prepared number set
      → Returns p e.old.0 number (step_of s e bearers room)
  unfolding out
  return_sends p number set kind done is =
      by_cases (well_formed e)
      (λ formed.
      by_found (find (about e) s)
      (λ none. absurd (omega (arith, rw (lost_step s e bearers room formed 12 kind none) at done)))
      (λ j found.
      let x = get_or s.entries j blank in
      let place = found_place s (sound reached) (about e) j found in
      let about_it = (found_here (about e) s j found).1 in
      let keys = keyed_by 12 e x kind about_it in
      let id = same_old e x about_it 12 kind refl in
      let its : own_is e.old.0 x ≡ true = rw (le-leb 1 x.state keys.first, le-leb x.state 2 keys.last, eq-eqb x.old.0 e.old.0 id) in
      let seen = prepared_means p number set x (rw (named_is s (sound reached) e.old.0 j place its) at is) in
      let step = row_step s e bearers room formed j 12 kind found seen.0 in
      let after : Sound (put j blank s) = rw step at (sound_step (sound reached) e bearers room) in
      rw step (record {
        word = rw (eqb-true x.neighbour p seen.1, id, seen.2);
        returned = refl;
        gone = rw (gone s (sound reached) e.old.0 j place its after);
      })))
      (λ malformed.
      let is = sym (ap (λ (a : Answer). a.outcome.reply) (malformed_step s e bearers room malformed)) ∙ done in
      absurd (omega (arith, is, (flaw_in_listed e).0)))

-- ---- taken

-- What it is for a record to be seen held.
held_means : (p old set : ℕ) (r : Entry) → held_of p r ≡ Held old set → (r.state ≡ 3) × (eqb r.neighbour p ≡ true) × (r.old.0 ≡ old)
held_means p old set r is =
    by_cases (eqb r.state 3 && eqb r.neighbour p)
    (λ t.
    let both = both_true (eqb r.state 3) (eqb r.neighbour p) t in
    let same : Held r.old.0 r.admitted ≡ Held old set = rw t at is in
    (eqb-true r.state 3 both.0, both.1, (cc)))
    (λ t. absurd (false≢true (ap some_held (rw t at is))))

abbrev cancel : ℕ → ℕ → ℕ → ℕ → Record
cancel p old new reason = message 6 p old new 0 0 reason

-- a New ID that is given, or none
abbrev pub GivenOrAbsent : ℕ → ℕ → Type 0
GivenOrAbsent n new = (new ≡ n) ⊎ (new ≡ 65535)

-- The cancel with a held record's neighbour and Old ID, and its New ID or none, is about that record.
module _ (p old n new reason : ℕ) (x : Entry) (three : x.state ≡ 3) (of : eqb x.neighbour p ≡ true) (id : x.old.0 ≡ old) (number : x.new.0 ≡ n)
    (given : GivenOrAbsent n new) where
  mine : about (cancel p old new reason) x ≡ true
  mine =
      let same_old = eq-eqb x.old.0 old id in
      by_cases (eqb x.new.0 new) (λ t. rw (three, of, same_old, t))
      (λ t. ⊎_elim (λ same. absurd (eqb-false x.new.0 new t (number ∙ sym same))) (λ absent. rw (three, of, same_old, t, eq-eqb new 65535 absent)) given)

-- a held record is gone, and has given its units back
pub record Frees (p n : ℕ) (s : Station) (a : Answer) : Type 0 where
  pub done : a.outcome.reply ≡ 0
  pub called_off : ending a ≡ 7
  pub gone : held a.station p n ≡ NotHeld
  pub units : a.station.used + (named n s).units ≡ s.used

module _ {s : Station} (reached : Reached s) (bearers : List ℕ) (room : ℕ) where
  -- A cancel frees the held record that has its neighbour, its Old ID, and its New ID if that is given.
  pub cancel_frees : (p n old set new reason : ℕ) → held s p n ≡ Held old set → GivenOrAbsent n new → reason ≤ 255 → Frees p n s (step_of s (cancel p old new reason) bearers room)
  unfolding held
  cancel_frees p n old set new reason is given byte =
      ⊎_elim
      (λ there.
      let j = there.0 in
      let x = get_or s.entries j blank in
      let e = cancel p old new reason in
      let seen = held_means p old set x (rw there.3 at is) in
      let small = bounded reached j there.1 in
      let its = eqb-true n (own x) (own_is_lem n x there.2) in
      let number : x.new.0 ≡ n = rw seen.0 at (sym its) in
      let about_it = mine p old n new reason x seen.0 seen.1 seen.2 number given in
      let found : find (about e) s ≡ Some j =
      by_found (find (about e) s)
      (λ none. absurd (true≢false (sym about_it ∙ none_at (about e) s.entries j (omega (arith, there.1, (sound reached).places)) (found_none (about e) s.entries none))))
      (λ k at. at ∙ ap Some (about_once e (omega arith) (omega arith) s (sound reached) k j (found_place s (sound reached) (about e) k at) there.1 (found_here (about e) s k at).1 about_it)) in
      let neighbour = used_in_range 31 p (omega (arith, small, eqb-true x.neighbour p seen.1)) in
      let id = used_in_range 4095 old (omega (arith, small, seen.2)) in
      let cause = used_in_range 255 reason byte in
      let formed : well_formed e ≡ true =
      ⊎_elim (λ same. rw (neighbour, id, cause, used_in_range 4095 new (omega (arith, small)))) (λ absent. subst (λ (k : ℕ). well_formed (cancel p old k reason) ≡ true) (sym absent) (rw (neighbour, id, cause))) given in
      let step = row_step s e bearers room formed j 7 refl found seen.0 in
      let after : Sound (put j blank s) = rw step at (sound_step (sound reached) e bearers room) in
      let back = units_ended s (sound reached) e bearers room 2 j refl found (rw step) in
      record {
        done = rw step;
        called_off = rw step;
        gone = rw step (rw (gone s (sound reached) n j there.1 there.2 after));
        units = rw there.3 back;
      })
      (λ free. absurd (false≢true (ap some_held (rw free.1 at is))))
      (named_at s (sound reached) n)
