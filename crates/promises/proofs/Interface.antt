-- The laws of one station's step on which the theorem of two stations rests: it cites these, and opens no definition of the step.
use Prim.Native.Nat.{ℕ, ◌≤◌, ◌<◌}
use mathlib.Core.Path.{◌≡◌, refl, sym, ap, ◌∙◌}
use mathlib.Core.Bool.{true, false, ◌&&◌, true≢false, false≢true}
use mathlib.Core.Logic.{◌⊎◌, inl, inr, ⊎_elim}
use mathlib.Core.List.{List, []}
use Rattle.std.specs.Prelude.{Some, None}
use borrow.Author.Tests.{eqb-true, eq-eqb, ne_eqb, le-leb, lt-leb}
use native.Mathlib.Omega.{arith}
use lib.Dec.{leb, eqb}
use lib.ListN.{get_or}
use Rattle.laws.proofs.Sums.{total_at, total_most, total_each}
use Rattle.laws.proofs.Tests.{by_cases, both_true}
use Rattle.records.specs.declared.Record.{Record}
use Rattle.table.specs.declared.Answer.{Answer}
use Rattle.handover.specs.declared.Entry.{Entry}
use Rattle.table.specs.declared.Settings.{Settings}
use Rattle.table.specs.declared.Station.{Station}
use Rattle.handover.specs.Numbers.{is_free, blank, own}
use Rattle.table.specs.Reached.{Reached}
use Rattle.table.specs.Sound.{Sound, own_times}
use Rattle.table.specs.Step.{step_of, born_of, issue, started, held_for}
use Rattle.promises.specs.Views.{count, times, own_ids, ids, last, some_out, some_held, out_of, held_of, due_of, named, out, held, due, sent, to, issued, Issues, IssuesNone, Source, asks, keeps, Target, grants, holds, Laws, StepLaws}
use Rattle.promises.proofs.Answers.{takes_of, nine_of}
use Rattle.promises.proofs.Making.{made_issues, made, made_same}
use Rattle.promises.proofs.Sides.{nothing_new, turned_issues_none, turned_source, turned_target, turned_due}
use Rattle.table.proofs.Soundness.{sound, sound_step}
use Rattle.promises.proofs.Turns.{Turn, starts, admits, turns, turn}
use Rattle.promises.proofs.Viewing.{passes, count_own, times_own, named_at}

-- A fresh station has no record, and is as if 4,095 had been issued.
pub fresh : (settings : Settings) → (ids (born_of settings) ≡ []) × (last (born_of settings) ≡ 4095)
unfolding ids own_ids last
fresh settings = (refl, refl)

-- ---- the laws of a station

-- An outgoing or held record of a neighbour is a record, and has a deadline.
seen : (p : ℕ) (r : Entry) → (some_out (out_of p r) ≡ true) ⊎ (some_held (held_of p r) ≡ true) → (is_free r ≡ false) × (due_of p r ≡ Some r.deadline)
seen p r there =
    by_cases (eqb r.state 1 && eqb r.neighbour p) (of 1 (omega arith) (omega arith))
    (λ t. by_cases (eqb r.state 2 && eqb r.neighbour p) (of 2 (omega arith) (omega arith))
    (λ u. by_cases (eqb r.state 3 && eqb r.neighbour p) (of 3 (omega arith) (omega arith))
    (λ v. absurd (⊎_elim (λ o. false≢true (rw (t, u) at o)) (λ h. false≢true (rw v at h)) there))))
  where
    of : (k : ℕ) → 1 ≤ k → k ≤ 3 → (eqb r.state k && eqb r.neighbour p) ≡ true → (is_free r ≡ false) × (due_of p r ≡ Some r.deadline)
    of k low high t =
        let both = both_true (eqb r.state k) (eqb r.neighbour p) t in
        let state = eqb-true r.state k both.0 in
        (ne_eqb r.state 0 (λ z. omega arith), rw (le-leb 1 r.state (omega arith), le-leb r.state 3 (omega arith), both.1))

module _ (s : Station) (sound : Sound s) where
  -- What is found by an own ID is one of the records.
  counted : (i : ℕ) → is_free (named i s) ≡ false → 1 ≤ times i (ids s)
  unfolding ids
  counted i used =
      ⊎_elim
      (λ there. omega (arith, times_own i s.entries, rw there.2 at (total_at (own_times i) s.entries there.0 blank (omega (arith, there.1, sound.places)))))
      (λ none. absurd (true≢false (rw none.1 at used)))
      (named_at s sound i)

  -- Own IDs are below 4,096.
  small : count (leb 4096) (ids s) ≡ 0
  unfolding ids
  small =
      let none = total_most (passes (leb 4096)) (λ r. 0) s.entries s.entries blank refl (λ j h. each (get_or s.entries j blank) (sound.fit j (omega (arith, sound.places))).id) in
      omega (arith, count_own (leb 4096) s.entries, total_each 0 s.entries)
    where
      each : (r : Entry) → own r < 4096 → passes (leb 4096) r ≤ 0
      each r h = by_cases (is_free r) (λ t. rw t (omega arith)) (λ t. rw (t, lt-leb 4096 (own r) h) (omega arith))

-- So the laws hold of every station that a fresh one reached.
pub laws : {s : Station} → Reached s → Laws s
unfolding last out held due
laws {s} reached =
    record {
      range = ((sound reached).last, small s (sound reached));
      view = λ p i there. counted s (sound reached) i (seen p (named i s) there).0;
      timed = λ p i there. ((named i s).deadline, (seen p (named i s) there).1);
    }

-- ---- the laws of a step: it makes a record, or turns each

module _ (s : Station) (sound : Sound s) (e : Record) where
  issue_of_lem : {a : Answer} → Turn s e a → (i : ℕ) → issued a ≡ Some i → Issues i s a
  issue_of_lem {a} (starts k found formed nine) i new =
      let same : issue s ≡ i = cc in
      rw (← same) (made_issues s sound k found (started e s) refl refl a refl)
  issue_of_lem {a} (admits k found formed one admission) i new =
      let same : issue s ≡ i = cc in
      rw (← same) (made_issues s sound k found (held_for e admission s) refl refl a refl)
  issue_of_lem (turns t) i new =
      let word = nothing_new t.says in
      absurd (cc (rw (word.0, word.1) at new))

  none_of : {a : Answer} → Turn s e a → Sound a.station → issued a ≡ None → IssuesNone s a
  none_of (starts k found formed nine) after old = absurd cc
  none_of (admits k found formed one admission) after old = absurd cc
  none_of {a} (turns t) after old = turned_issues_none s sound e a after t

  source_of : {a : Answer} → Turn s e a → Sound a.station → (p : ℕ) → Source p s e a
  unfolding out
  source_of (starts k found formed nine) after p =
      let m = made s sound k found (started e s) refl refl after in
      by_cases (eqb e.neighbour p)
      (λ t. asks (record {
        request = rw t;
        kind = nine;
        neighbour = eqb-true e.neighbour p t;
        made = rw (m.here, t);
        others = λ j apart. ap (out_of p) (m.others j apart);
      }))
      (λ t. keeps (record { silent = rw t; each = λ i. inl (made_same m (out_of p) (rw t) i) }))
  source_of (admits k found formed one admission) after p =
      keeps (record { silent = refl; each = λ i. inl (made_same (made s sound k found (held_for e admission s) refl refl after) (out_of p) refl i) })
  source_of {a} (turns t) after p = turned_source s sound e a after t p (rw (nothing_new t.says).0)

  target_of : {a : Answer} → Turn s e a → Sound a.station → (p : ℕ) → Target p s e a
  unfolding held
  target_of (starts k found formed nine) after p =
      let m = made s sound k found (started e s) refl refl after in
      holds (record { no_acknowledge = refl; no_failure = refl; no_release = refl; shrinks = λ j. inl (made_same m (held_of p) refl j) })
  target_of (admits k found formed one admission) after p =
      let m = made s sound k found (held_for e admission s) refl refl after in
      by_cases (eqb e.neighbour p)
      (λ t. grants (record {
        acknowledge = rw t;
        kind = one;
        neighbour = eqb-true e.neighbour p t;
        old = refl;
        made = rw (m.here, t);
        others = λ j apart. ap (held_of p) (m.others j apart);
      }))
      (λ t. holds (record { no_acknowledge = rw t; no_failure = refl; no_release = refl; shrinks = λ j. inl (made_same m (held_of p) (rw t) j) }))
  target_of {a} (turns t) after p = turned_target s sound e a after t p

  due_of_lem : {a : Answer} → Turn s e a → Sound a.station → (p i d : ℕ) → due a.station p i ≡ Some d
      → (due s p i ≡ Some d) ⊎ (to 1 p a ≡ true) ⊎ (to 2 p a ≡ true) ⊎ ((e.kind ≡ 2) × (e.neighbour ≡ p))
  unfolding due
  due_of_lem (starts k found formed nine) after p i d timer =
      by_cases (eqb e.neighbour p) (λ t. inr (inl (rw t)))
      (λ t. inl (sym (made_same (made s sound k found (started e s) refl refl after) (due_of p) (rw t) i) ∙ timer))
  due_of_lem (admits k found formed one admission) after p i d timer =
      by_cases (eqb e.neighbour p) (λ t. inr (inr (inl (rw t))))
      (λ t. inl (sym (made_same (made s sound k found (held_for e admission s) refl refl after) (due_of p) (rw t) i) ∙ timer))
  due_of_lem {a} (turns t) after p i d timer =
      ⊎_elim (λ was. inl was) (λ acknowledged. inr (inr (inr acknowledged))) (turned_due s sound e a after t p i d timer)

-- So the laws hold of every step from such a station.
pub step_laws : {s : Station} → Reached s → (e : Record) (bearers : List ℕ) (room : ℕ) → StepLaws s e (step_of s e bearers room)
step_laws {s} reached e bearers room =
    let before = sound reached in
    let after = sound_step before e bearers room in
    let does = turn s before e bearers room in
    record {
      issue = issue_of_lem s before e does;
      no_issue = none_of s before e does after;
      source = source_of s before e does after;
      target = target_of s before e does after;
      takes = takes_of reached bearers room e;
      due_before = due_of_lem s before e does after;
      nine = nine_of s before e bearers room;
    }

-- ---- messages

module _ (p : ℕ) (a : Answer) where
  -- What it is to send a message of a kind to the neighbour.
  pub to_means : (k : ℕ) → to k p a ≡ true → ((sent a).kind ≡ k) × ((sent a).neighbour ≡ p)
  to_means k t =
      let both = both_true (eqb (sent a).kind k) (eqb (sent a).neighbour p) t in
      (eqb-true (sent a).kind k both.0, eqb-true (sent a).neighbour p both.1)

  -- A request's Old ID and an acknowledge's New ID are the own ID that is issued.
  pub request_issues : to 1 p a ≡ true → issued a ≡ Some (sent a).old.0
  request_issues t = rw (eq-eqb (sent a).kind 1 (to_means 1 t).0)
