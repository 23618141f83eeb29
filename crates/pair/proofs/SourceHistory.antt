-- A turn of the source, the history of its handovers: a record that goes leaves one ending. It is moved only by a release with both its IDs,
-- which is of the same handover; and a release of the handover that finds its record prepared has both its IDs, and moves it.
use Prim.Native.Nat.{ℕ}
use mathlib.Core.Path.{◌≡◌, sym, ap, ◌∙◌}
use mathlib.Core.Bool.{true, ◌&&◌, ◌||◌, true≢false, false≢true, or-true}
use mathlib.Core.List.{List, [], ◌∷◌, head-eq_of_cons-eq}
use mathlib.Core.Logic.{inl, inr, ⊎_elim}
use Rattle.std.specs.Prelude.{Option}
use borrow.Author.Tests.{eqb-true, eq-eqb, not-false}
use native.Mathlib.Omega.{arith}
use lib.Dec.{eqb}
use Rattle.laws.proofs.Tests.{by_cases, both_true, either_true}
use Rattle.records.specs.declared.Record.{Record}
use Rattle.table.specs.declared.Answer.{Answer}
use Rattle.promises.specs.Views.{NotOut, Preparing, Prepared, some_out, sent, ending, to, issued, Ends, failed, moved, otherwise, Source, asks, readies, keeps}
use Rattle.pair.specs.World.{Side, next_issue, Envelope, Fixed, Refused, is_prepared, record_of, took}
use Rattle.pair.specs.Theorem.{is_ending}
use Rattle.pair.proofs.Directions.{Direction, SourceStep}
use Rattle.pair.proofs.Invariant.{kind_of, old_of, new_of, outgoing, record_for, Released, Ended, Moved, WhilePrepared, Failed, Invariant}
use Rattle.pair.proofs.Ledger.{number_kept}
use Rattle.pair.proofs.Taking.{Taken, taken_of, took_of, first_of, carries_fields, carries_release}
use Rattle.pair.proofs.SourceFacts.{record_there, record_is, after, in_table, start_latest, start_number, released_now, prepared_now, goes, stays, gone, ended_stays, asked_told}

module _ {s : Side} {d : Direction} {e : Record} {a : Answer} {taken : Option Envelope} {rest : List Envelope} {stamp : Side → ℕ} {fixed : ℕ → ℕ}
    (x : SourceStep s d e a taken rest stamp fixed) (inv : Invariant s d) where
  -- ---- each handover has a record or an ending

  an_ending : (i : ℕ) → Ends d.towards i d.source e a → is_ending (ending a) ≡ true
  an_ending i (failed one kind neighbour old) = rw one
  an_ending i (moved set three kind neighbour old was) = rw three
  an_ending i (otherwise t) = rw t (or-true (eqb (ending a) 1 || eqb (ending a) 3))

  started : to 1 d.towards a ≡ true → some_out (record_of (after x).numbers (outgoing (after x)) (next_issue d.numbers)) ≡ true
  started start =
      let number = start_number x start in
      ap some_out (record_is (after x).numbers (outgoing (after x)) (next_issue d.numbers) (ap (after x).numbers.issue_of number ∙ start_latest x start)
      ∙ ap (outgoing (after x)) number ∙ made (x.step.source d.towards))
    where
      made : Source d.towards d.source e a → outgoing (after x) (sent a).old.0 ≡ Preparing
      made (asks l) = l.made
      made (readies l) = absurd (true≢false (sym start ∙ l.silent))
      made (keeps l) = absurd (true≢false (sym start ∙ l.silent))

  -- A record that stays is still that of its handover.
  same_record : (h : ℕ) → (d.handovers h).asked ≡ true → some_out (record_for d h) ≡ true
      → record_of (after x).numbers (outgoing (after x)) h ≡ record_of d.numbers (outgoing (after x)) h
  same_record h asked was =
      let there = record_there d.numbers (outgoing d) h was in
      rw (number_kept d.numbers (issued a) h (asked_told x inv h asked), in_table x (d.numbers.number_of h) there.1)

  pub ended_kept : Ended s (after x)
  ended_kept h asked =
      ⊎_elim
      (λ before. ⊎_elim
      (λ live. by_cases (goes x h)
      (λ t. let g = gone x inv h t in inr (ending a, g.now, an_ending (d.numbers.number_of h) g.ends))
      (λ t. inl (ap some_out (same_record h before live) ∙ not-false (some_out (record_of d.numbers (outgoing (after x)) h)) (rw live at t))))
      (λ ended. inr (ended.0, stays x h (ended_stays x inv h ended.0 ended.1) ∙ ended.1, ended.2))
      (inv.ended h before))
      (λ now.
      let tests = both_true (to 1 d.towards a) (eqb h (next_issue d.numbers)) now in
      inl (rw (eqb-true h (next_issue d.numbers) tests.1) (started tests.0)))
      (either_true (d.handovers h).asked (to 1 d.towards a && eqb h (next_issue d.numbers)) asked)

  -- ---- moved

  -- The release of a handover finds its record prepared: it has both its IDs, and so moves it.
  takes_it : (h n set : ℕ) (t : Taken 5 d.towards e d.answers taken) → Released d t.first → t.first.tag ≡ h
      → d.numbers.issue_of (d.numbers.number_of h) ≡ h → outgoing d (d.numbers.number_of h) ≡ Prepared n set
      → (outgoing (after x) (d.numbers.number_of h) ≡ NotOut) × (ending a ≡ 3)
  takes_it h n set t r tag latest was =
      let here : (d.handovers h).answer ≡ Fixed n set = ap (λ k. (d.handovers k).answer) (sym latest) ∙ inv.prepared (d.numbers.number_of h) n set was in
      let told : (d.handovers h).answer ≡ Fixed (new_of t.first) r.set = rw tag at r.answered in
      let new : new_of t.first ≡ n = cc in
      let old : old_of t.first ≡ d.numbers.number_of h = sym r.numbered ∙ ap d.numbers.number_of tag in
      x.step.takes d.towards (d.numbers.number_of h) n set (rw (old, new) at (carries_release t.carries r.receiver (old_of t.first) (new_of t.first) r.word)) was

  moves : (h : ℕ) → released_now x h ≡ true → (((after x).handovers h).endings ≡ 3 ∷ []) × ((d.handovers h).arrived ≡ true)
  moves h t =
      let got = took_of 5 h x.comes (both_true (took 5 h taken) (is_prepared (record_for d h)) t).0 in
      let r = first_of got.0 inv.releases got.0.kind in
      let ready = prepared_now x h t in
      let there = record_there d.numbers (outgoing d) h (ap some_out ready.2) in
      let now = takes_it h ready.0 ready.1 got.0 r got.1 there.0 (sym (record_is d.numbers (outgoing d) h there.0) ∙ ready.2) in
      ((gone x inv h (going there.0 there.1 now.0)).now ∙ ap (λ z. z ∷ []) now.1, ap (λ k. (d.handovers k).arrived) (sym got.1) ∙ r.arrived)
    where
      going : d.numbers.issue_of (d.numbers.number_of h) ≡ h → some_out (outgoing d (d.numbers.number_of h)) ≡ true
          → outgoing (after x) (d.numbers.number_of h) ≡ NotOut → goes x h ≡ true
      going latest was now = rw (eq-eqb (d.numbers.issue_of (d.numbers.number_of h)) h latest, was, now)

  -- What moves the record of a handover is its release.
  released : (h : ℕ) → goes x h ≡ true → ending a ≡ 3 → released_now x h ≡ true
  released h t three = of (gone x inv h t).ends
    where
      latest : d.numbers.issue_of (d.numbers.number_of h) ≡ h
      latest = (gone x inv h t).latest

      of : Ends d.towards (d.numbers.number_of h) d.source e a → released_now x h ≡ true
      of (failed one kind neighbour old) = absurd (omega arith)
      of (otherwise t) = absurd (false≢true (rw three at t))
      of (moved set is kind neighbour old was) =
          let got = taken_of 5 (omega arith) (omega arith) kind neighbour x.comes in
          let fields = carries_fields got.carries (λ one. omega arith) in
          let same : old_of got.first ≡ d.numbers.number_of h = sym fields.0 ∙ old in
          let new : new_of got.first ≡ e.new.0 = sym fields.1 in
          let tag = first_of got inv.release_prepared got.kind set (rw (same, new) was) in
          rw (
            got.is,
            eq-eqb (kind_of got.first) 5 got.kind,
            eq-eqb got.first.tag h (tag ∙ ap d.numbers.issue_of same ∙ latest),
            eq-eqb (d.numbers.issue_of (d.numbers.number_of h)) h latest,
            was,
          )

  pub moved_kept : Moved s (after x)
  moved_kept h = (
    λ is. by_cases (goes x h)
        (λ t. rw (released h t (head-eq_of_cons-eq (sym (gone x inv h t).now ∙ is))) (or-true (d.handovers h).released_while_prepared))
        (λ t. rw ((inv.moved h).0 (sym (stays x h t) ∙ is))),
    λ is. ⊎_elim
        (λ was. let ended = (inv.moved h).1 was in stays x h (ended_stays x inv h 3 ended) ∙ ended)
        (λ now. (moves h now).0)
        (either_true (d.handovers h).released_while_prepared (released_now x h) is),
  )

  pub while_prepared_kept : WhilePrepared s (after x)
  while_prepared_kept h is = ⊎_elim (inv.while_prepared h) (λ now. (moves h now).1) (either_true (d.handovers h).released_while_prepared (released_now x h) is)

  -- ---- failed

  pub failed_kept : Failed s (after x)
  failed_kept h is =
      by_cases (goes x h)
      (λ t. let g = gone x inv h t in of g.latest (head-eq_of_cons-eq (sym g.now ∙ is)) g.ends)
      (λ t. inv.failed h (sym (stays x h t) ∙ is))
    where
      of : d.numbers.issue_of (d.numbers.number_of h) ≡ h → ending a ≡ 1 → Ends d.towards (d.numbers.number_of h) d.source e a
          → (d.handovers h).answer ≡ Refused
      of latest one (moved set three kind neighbour old was) = absurd (omega arith)
      of latest one (otherwise t) = absurd (false≢true (rw one at t))
      of latest one (failed is kind neighbour old) =
          let got = taken_of 3 (omega arith) (omega arith) kind neighbour x.comes in
          let r = first_of got inv.failures got.kind in
          let same : old_of got.first ≡ d.numbers.number_of h = sym (carries_fields got.carries (λ one. omega arith)).0 ∙ old in
          ap (λ k. (d.handovers k).answer) (sym latest ∙ ap d.numbers.issue_of (sym same) ∙ r.latest) ∙ r.answered
