-- What an event makes of one record fits.
use Prim.Native.Nat.{ℕ, ◌≤◌}
use mathlib.Core.Path.{◌≡◌, refl}
use mathlib.Core.Bool.{true, false, not, ◌&&◌, true≢false, false≢true}
use borrow.Author.Tests.{eqb-true, lt-ltb}
use native.Mathlib.Omega.{arith}
use lib.Dec.{eqb}
use Rattle.laws.proofs.Tests.{both_true}
use Rattle.records.specs.declared.Record.{Record}
use Rattle.bearers.specs.declared.Admission.{Admission}
use Rattle.sets.specs.Sets.{union, disjoint, within}
use Rattle.sets.proofs.Membership.{within_means, member_union}
use Rattle.handover.specs.declared.Entry.{Entry}
use Rattle.table.specs.declared.Station.{Station}
use Rattle.handover.specs.Events.{decide, lists_fit, set_fits, prepared, stored, serving}
use Rattle.handover.specs.Numbers.{is_free, blank, own}
use Rattle.table.specs.Sound.{Fit, Sound, own_times, held_times}
use Rattle.table.specs.Step.{started, held_for}
use Rattle.table.proofs.Counting.{issue_small}
use Rattle.handover.proofs.Deciding.{decide_keeps}

-- A free place fits.
pub fit_blank : Fit blank
fit_blank =
    record {
      state = omega arith;
      idle = λ _. refl;
      id = omega arith;
      timer = refl;
      deadline = omega arith;
      units = λ _. refl;
      admitted = λ o. absurd (false≢true o);
      status = λ i. absurd (false≢true i);
    }

-- A set is within its union with another.
within_union : (a b : ℕ) → within a (union a b) ≡ true
within_union a b = (within_means a (union a b)).1 (λ k m. rw (member_union a b k, m))

-- Of a preparing record that fits, the record once prepared fits.
prepared_fits : (r : Entry) (e : Record) (deadline : ℕ) → Fit r → r.state ≡ 1 → lists_fit r e ≡ true → 1 ≤ deadline → deadline ≤ 1000000600000 → Fit (prepared r e deadline)
prepared_fits r e deadline fit one lists low high =
    let sets = both_true (disjoint e.first e.second && eqb (union e.first e.second) r.requested) (not (eqb e.first 0)) lists in
    let whole = both_true (disjoint e.first e.second) (eqb (union e.first e.second) r.requested) sets.0 in
    record {
      state = omega arith;
      idle = λ f. absurd (false≢true f);
      id = rw one at fit.id;
      timer = lt-ltb 0 deadline low;
      deadline = high;
      units = λ _. fit.units (rw one);
      admitted = λ _. rw (← eqb-true (union e.first e.second) r.requested whole.1) (within_union e.first e.second);
      status = λ i. absurd (false≢true i);
    }

-- Of a held record that fits, the record with a status, and once serving, fits.
stored_fits : (r : Entry) (e : Record) → Fit r → r.state ≡ 3 → set_fits r e ≡ true → Fit (stored r e)
stored_fits r e fit three sets =
    record {
      state = fit.state;
      idle = λ f. absurd (false≢true (rw three at f));
      id = fit.id;
      timer = fit.timer;
      deadline = fit.deadline;
      units = fit.units;
      admitted = fit.admitted;
      status = λ _. (both_true (not (eqb e.first 0)) (within e.first r.admitted) sets).1;
    }

serving_fits : (r : Entry) → Fit r → r.state ≡ 3 → Fit (serving r)
serving_fits r fit three =
    record {
      state = omega arith;
      idle = λ f. absurd (false≢true f);
      id = rw three at fit.id;
      timer = refl;
      deadline = omega arith;
      units = λ i. absurd (true≢false i);
      admitted = λ o. absurd (false≢true o);
      status = λ _. fit.status (rw three);
    }

-- What is decided of a record that fits does, if the deadline that an acknowledge sets is one.
pub decided_fits : (e : Record) (r : Entry) (deadline : ℕ) → Fit r → (e.kind ≡ 2 → 1 ≤ deadline) → deadline ≤ 1000000600000 → Fit (decide e r deadline).entry
decided_fits e r deadline fit low high =
    decide_keeps Fit e r deadline fit fit_blank
    (λ two one lists. prepared_fits r e deadline fit one lists (low two) high)
    (λ three sets. stored_fits r e fit three sets)
    (λ three. serving_fits r fit three)

-- A record that stays keeps its neighbour and its own ID.
pub decided_keeps : (e : Record) (r : Entry) (deadline : ℕ) → is_free (decide e r deadline).entry ≡ false → ((decide e r deadline).entry.neighbour ≡ r.neighbour) × (own (decide e r deadline).entry ≡ own r)
decided_keeps e r deadline =
    decide_keeps (λ d. is_free d ≡ false → (d.neighbour ≡ r.neighbour) × (own d ≡ own r)) e r deadline
    (λ _. (refl, refl)) (λ ended. absurd (true≢false ended))
    (λ _ one _ _. (refl, rw one)) (λ _ _ _. (refl, refl)) (λ three _. (refl, rw three))

-- So no own ID is in use more often after a decision, nor are there more held records of a neighbour and an Old ID.
pub decided_own : (k : ℕ) (e : Record) (r : Entry) (deadline : ℕ) → own_times k (decide e r deadline).entry ≤ own_times k r
decided_own k e r deadline =
    decide_keeps (λ d. own_times k d ≤ own_times k r) e r deadline (omega arith) (omega arith)
    (λ _ one _. rw one (omega arith)) (λ _ _. omega arith) (λ three. rw three (omega arith))

pub decided_held : (n o : ℕ) (e : Record) (r : Entry) (deadline : ℕ) → held_times n o (decide e r deadline).entry ≤ held_times n o r
decided_held n o e r deadline =
    decide_keeps (λ d. held_times n o d ≤ held_times n o r) e r deadline (omega arith) (omega arith)
    (λ _ _ _. omega arith) (λ _ _. omega arith) (λ _. omega arith)

-- A record that is started fits, and one that is held for a request.
module _ (s : Station) (sound : Sound s) (e : Record) where
  pub started_fits : Fit (started e s)
  started_fits =
      record {
        state = omega arith;
        idle = λ f. absurd (false≢true f);
        id = issue_small s sound;
        timer = lt-ltb 0 (started e s).deadline (omega (arith, sound.settings.prep));
        deadline = omega (arith, sound.settings.prep, sound.clock);
        units = λ _. refl;
        admitted = λ _. refl;
        status = λ i. absurd (false≢true i);
      }

  pub held_fits : (a : Admission) → Fit (held_for e a s)
  held_fits a =
      record {
        state = omega arith;
        idle = λ f. absurd (false≢true f);
        id = issue_small s sound;
        timer = lt-ltb 0 (held_for e a s).deadline (omega (arith, sound.settings.guard));
        deadline = omega (arith, sound.settings.guard, sound.clock);
        units = λ i. absurd (true≢false i);
        admitted = λ o. absurd (false≢true o);
        status = λ _. refl;
      }
