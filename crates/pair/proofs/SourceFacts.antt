-- What a turn of the source leaves: a record's own ID is not issued again while it is in the table, nor the Old ID of a request or of an
-- answer while that is under way; and a record that goes had no ending before.
use Prim.Native.Nat.{ℕ, ◌+◌, ◌≤◌, ◌<◌}
use mathlib.Core.Path.{◌≡◌, refl, sym, ap, ◌∙◌}
use mathlib.Core.Bool.{Bool, true, false, not, ◌&&◌, true≢false, false≢true, and-false, or-true}
use mathlib.Core.List.{List, [], ◌∷◌, nil≢cons}
use mathlib.Core.Logic.{◌⊎◌, inl, inr, ⊎_elim}
use Rattle.std.specs.Prelude.{Option}
use borrow.Author.Tests.{eqb-true, eqb-false, eq-eqb, not-true, leb-true, leb-false}
use store.Seg.{eqb_same}
use native.Mathlib.Omega.{arith}
use lib.Dec.{leb, eqb}
use Rattle.laws.proofs.Tests.{by_cases, both_true, clash, refuted}
use Rattle.records.specs.declared.Record.{Record}
use Rattle.table.specs.declared.Answer.{Answer}
use Rattle.promises.specs.Views.{Outgoing, NotOut, Preparing, Prepared, some_out, sent, ending, to, issued, Ends, Source, asks, readies, keeps}
use Rattle.promises.proofs.Interface.{request_issues}
use Rattle.pair.specs.World.{Side, Numbers, next_issue, Fixed, Handover, no_history, Envelope, record_of, is_prepared, took, limit, WithinLimit}
use Rattle.pair.proofs.Directions.{Direction, source_after, SourceStep}
use Rattle.pair.proofs.Invariant.{old_of, new_of, set_of, outgoing, record_for, Invariant}
use Rattle.pair.proofs.Ledger.{not_again, in_use_lem}
use Rattle.pair.proofs.Taking.{Taken, taken_of, carries_fields}

-- The record of a handover is the one with its own ID, if there is one.
pub record_there : (n : Numbers) (records : ℕ → Outgoing) (h : ℕ) → some_out (record_of n records h) ≡ true
    → (n.issue_of (n.number_of h) ≡ h) × (some_out (records (n.number_of h)) ≡ true)
record_there n records h =
    by_cases (eqb (n.issue_of (n.number_of h)) h)
    (λ t. rw t (λ there. (eqb-true (n.issue_of (n.number_of h)) h t, there)))
    (λ t. rw t (λ there. absurd (false≢true there)))

pub record_is : (n : Numbers) (records : ℕ → Outgoing) (h : ℕ) → n.issue_of (n.number_of h) ≡ h → record_of n records h ≡ records (n.number_of h)
record_is n records h latest = rw (eq-eqb (n.issue_of (n.number_of h)) h latest)

module _ {s : Side} {d : Direction} {e : Record} {a : Answer} {taken : Option Envelope} {rest : List Envelope} {stamp : Side → ℕ} {fixed : ℕ → ℕ}
    (x : SourceStep s d e a taken rest stamp fixed) where
  abbrev pub after : Direction
  after = source_after s d e a taken rest stamp fixed

  -- ---- records

  -- A prepared record was so, or was preparing and is what the acknowledge taken says.
  pub record Readied (i n admitted : ℕ) : Type 0 where
    pub took : Taken 2 d.towards e d.answers taken
    pub old : old_of took.first ≡ i
    pub new : new_of took.first ≡ n
    pub set : set_of took.first ≡ admitted
    pub before : outgoing d i ≡ Preparing

  pub prepared_from : (i n admitted : ℕ) → outgoing after i ≡ Prepared n admitted → (outgoing d i ≡ Prepared n admitted) ⊎ Readied i n admitted
  prepared_from i n admitted is = of (x.step.source d.towards)
    where
      of : Source d.towards d.source e a → (outgoing d i ≡ Prepared n admitted) ⊎ Readied i n admitted
      of (asks l) =
          by_cases (eqb i (sent a).old.0)
          (λ t. let made : outgoing after i ≡ Preparing = rw (eqb-true i (sent a).old.0 t) l.made in clash (cc))
          (λ t. inl (sym (l.others i (eqb-false i (sent a).old.0 t)) ∙ is))
      of (readies l) =
          by_cases (eqb i e.old.0)
          (λ t.
          let same = eqb-true i e.old.0 t in
          let made : outgoing after i ≡ Prepared e.new.0 e.first = rw same l.after in
          let got = taken_of 2 (omega arith) (omega arith) l.kind l.neighbour x.comes in
          let fields = carries_fields got.carries (λ one. omega arith) in
          let number : e.new.0 ≡ n = cc in
          let says : e.first ≡ admitted = cc in
          inr (record {
            took = got;
            old = sym fields.0 ∙ sym same;
            new = sym fields.1 ∙ number;
            set = sym fields.2 ∙ says;
            before = rw same l.before;
          }))
          (λ t. inl (sym (l.others i (eqb-false i e.old.0 t)) ∙ is))
      of (keeps l) = ⊎_elim (λ stays. inl (sym stays ∙ is)) (λ gone. clash (cc)) (l.each i)

  -- An outgoing record was one, or is that of the start.
  pub live_from : (i : ℕ) → some_out (outgoing after i) ≡ true → (some_out (outgoing d i) ≡ true) ⊎ ((to 1 d.towards a ≡ true) × (i ≡ (sent a).old.0))
  live_from i is = of (x.step.source d.towards)
    where
      of : Source d.towards d.source e a → (some_out (outgoing d i) ≡ true) ⊎ ((to 1 d.towards a ≡ true) × (i ≡ (sent a).old.0))
      of (asks l) =
          by_cases (eqb i (sent a).old.0)
          (λ t. inr (l.request, eqb-true i (sent a).old.0 t))
          (λ t. inl (ap some_out (sym (l.others i (eqb-false i (sent a).old.0 t))) ∙ is))
      of (readies l) =
          by_cases (eqb i e.old.0)
          (λ t. inl (rw (eqb-true i e.old.0 t) (ap some_out l.before)))
          (λ t. inl (ap some_out (sym (l.others i (eqb-false i e.old.0 t))) ∙ is))
      of (keeps l) =
          ⊎_elim (λ stays. inl (ap some_out (sym stays) ∙ is)) (λ gone. absurd (false≢true (sym (ap some_out gone.0) ∙ is))) (l.each i)

  -- One that is there no longer has ended.
  ends_from : (i : ℕ) → some_out (outgoing d i) ≡ true → some_out (outgoing after i) ≡ false → Ends d.towards i d.source e a
  ends_from i was not_now = of (x.step.source d.towards)
    where
      same : outgoing after i ≡ outgoing d i → ⊥
      same stays = true≢false (sym was ∙ ap some_out (sym stays) ∙ not_now)

      of : Source d.towards d.source e a → Ends d.towards i d.source e a
      of (asks l) =
          by_cases (eqb i (sent a).old.0)
          (λ t. absurd (true≢false (sym (ap some_out l.made) ∙ rw (eqb-true i (sent a).old.0 t) at not_now)))
          (λ t. absurd (same (l.others i (eqb-false i (sent a).old.0 t))))
      of (readies l) =
          by_cases (eqb i e.old.0)
          (λ t. absurd (true≢false (sym (ap some_out l.after) ∙ rw (eqb-true i e.old.0 t) at not_now)))
          (λ t. absurd (same (l.others i (eqb-false i e.old.0 t))))
      of (keeps l) = ⊎_elim (λ stays. absurd (same stays)) (λ gone. gone.1) (l.each i)

  -- A record's own ID is not issued.
  pub in_table : (i : ℕ) → some_out (outgoing d i) ≡ true → after.numbers.issue_of i ≡ d.numbers.issue_of i
  in_table i there = in_use_lem d.numbers (issued a) x.step.issue i (x.laws.view d.towards i (inl there))

  -- ---- a start is the next issue, and what was asked for stays so

  pub start_counts : to 1 d.towards a ≡ true → after.numbers.issued_count ≡ next_issue d.numbers
  start_counts start = rw (request_issues d.towards a start)

  pub start_latest : to 1 d.towards a ≡ true → after.numbers.issue_of (sent a).old.0 ≡ next_issue d.numbers
  start_latest start = rw (request_issues d.towards a start, eqb_same (sent a).old.0)

  pub start_number : to 1 d.towards a ≡ true → after.numbers.number_of (next_issue d.numbers) ≡ (sent a).old.0
  start_number start = rw (request_issues d.towards a start, eqb_same (next_issue d.numbers))

  pub asked_stays : (h : ℕ) → (d.handovers h).asked ≡ true → (after.handovers h).asked ≡ true
  asked_stays h asked = rw asked

  pub asked_now : to 1 d.towards a ≡ true → (after.handovers (next_issue d.numbers)).asked ≡ true
  asked_now start = rw (start, eqb_same (next_issue d.numbers)) (or-true (d.handovers (next_issue d.numbers)).asked)

  -- ---- the release of a handover comes while its record is prepared

  abbrev pub released_now : ℕ → Bool
  released_now h = took 5 h taken && is_prepared (record_for d h)

  pub prepared_now : (h : ℕ) → released_now h ≡ true → (n : ℕ) × (set : ℕ) × (record_for d h ≡ Prepared n set)
  prepared_now h t = is (record_for d h) (both_true (took 5 h taken) (is_prepared (record_for d h)) t).1
    where
      is : (o : Outgoing) → is_prepared o ≡ true → (n : ℕ) × (set : ℕ) × (o ≡ Prepared n set)
      is NotOut t = absurd (false≢true t)
      is Preparing t = absurd (false≢true t)
      is (Prepared n set) t = (n, set, refl)

  -- ---- the record of a handover goes, or its endings are as before

  abbrev pub goes : ℕ → Bool
  goes h = some_out (record_for d h) && not (some_out (record_of d.numbers (outgoing after) h))

  pub stays : (h : ℕ) → goes h ≡ false → (after.handovers h).endings ≡ (d.handovers h).endings
  stays h t = rw t

  pub record_stays : (h : ℕ) → some_out (record_of d.numbers (outgoing after) h) ≡ true → goes h ≡ false
  record_stays h there = rw there (and-false (some_out (record_for d h)))

  pub record Gone (h : ℕ) : Type 0 where
    pub latest : d.numbers.issue_of (d.numbers.number_of h) ≡ h
    pub ends : Ends d.towards (d.numbers.number_of h) d.source e a
    pub before : (d.handovers h).endings ≡ []
    pub now : (after.handovers h).endings ≡ ending a ∷ []

  module _ (inv : Invariant s d) where
    -- A record that goes had no ending; so the endings of a handover that had one are as before.
    pub gone : (h : ℕ) → goes h ≡ true → Gone h
    gone h t =
        let tests = both_true (some_out (record_for d h)) (not (some_out (record_of d.numbers (outgoing after) h))) t in
        let there = record_there d.numbers (outgoing d) h tests.0 in
        let before : (d.handovers h).endings ≡ [] = rw there.0 at (inv.live (d.numbers.number_of h) there.1).1 in
        record {
          latest = there.0;
          ends =
              ends_from (d.numbers.number_of h) there.1
              (ap some_out (sym (record_is d.numbers (outgoing after) h there.0)) ∙ not-true (some_out (record_of d.numbers (outgoing after) h)) tests.1);
          before = before;
          now = rw (t, before);
        }

    pub ended_stays : (h z : ℕ) → (d.handovers h).endings ≡ z ∷ [] → goes h ≡ false
    ended_stays h z ended = refuted (goes h) (λ t. nil≢cons (sym (gone h t).before ∙ ended))

    -- ---- numbers

    -- The Old ID of a request or an answer is not issued while it is under way.
    pub under_way : (m : Envelope) → 1 ≤ m.tag → d.numbers.issue_of (old_of m) ≡ m.tag → m.stamp s < m.tag + limit → WithinLimit s after.numbers m
        → after.numbers.issue_of (old_of m) ≡ m.tag
    under_way m named latest stamped recent =
        not_again d.numbers (issued a) x.step.issue x.laws inv.issued inv.ledger (old_of m) (omega arith) (omega arith) ∙ latest

    -- A record of the table is that of the issue that gave its own ID, and that issue is one of those counted.
    pub own_record : (i : ℕ) → some_out (outgoing d i) ≡ true
        → (d.numbers.issue_of i ≤ d.numbers.issued_count) × (d.numbers.number_of (d.numbers.issue_of i) ≡ i)
    own_record i there =
        let k = inv.issued i (inv.used i (x.laws.view d.towards i (inl there))) in
        (k.0, k.1)

    pub no_record : (h : ℕ) → d.numbers.issued_count < h → some_out (record_for d h) ≡ false
    no_record h later =
        refuted (some_out (record_for d h))
        (λ t.
        let there = record_there d.numbers (outgoing d) h t in
        omega (arith, (own_record (d.numbers.number_of h) there.1).0))

    -- A handover of which anything is told was issued.
    told : (h : ℕ) → (d.handovers h ≡ no_history → ⊥) → h ≤ d.numbers.issued_count
    told h known =
        by_cases (leb h d.numbers.issued_count) (leb-true h d.numbers.issued_count)
        (λ t. absurd (known (inv.new h (leb-false h d.numbers.issued_count t))))

    pub answer_told : (h n set : ℕ) → (d.handovers h).answer ≡ Fixed n set → h ≤ d.numbers.issued_count
    answer_told h n set answered = told h (λ none. let silent = ap (λ (k : Handover). k.answer) none in clash (cc))

    pub asked_told : (h : ℕ) → (d.handovers h).asked ≡ true → h ≤ d.numbers.issued_count
    asked_told h asked = told h (λ none. false≢true (sym (ap (λ k. k.asked) none) ∙ asked))
