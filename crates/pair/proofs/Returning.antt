-- The law of a UE that returns. A cancel under way has the Old ID of its handover, and the New ID that the target fixed for it or none; so the
-- target that takes it finds the record that it holds for that handover, and no other.
use Prim.Native.Nat.{ℕ, ◌≤◌}
use mathlib.Core.Path.{◌≡◌, refl, sym, ap, ◌∙◌}
use mathlib.Core.Bool.{true, false, ◌&&◌, false≢true}
use mathlib.Core.List.{List, [], ◌∷◌, ◌++◌}
use mathlib.Core.Logic.{◌⊎◌, inl, inr, ⊎_elim}
use Rattle.std.specs.Prelude.{Option, Some}
use borrow.Author.Tests.{eqb-true, eqb-false, eq-eqb}
use store.Seg.{eqb_same}
use native.Mathlib.Omega.{arith}
use lib.Dec.{leb, eqb}
use Rattle.laws.proofs.Tests.{by_cases, both_true, clash, refuted}
use Rattle.records.specs.Record.{InRange}
use Rattle.records.specs.declared.Record.{Record}
use Rattle.handover.specs.Events.{message}
use Rattle.table.specs.declared.Answer.{Answer}
use Rattle.table.specs.declared.Station.{Station}
use Rattle.table.specs.Reached.{Reached}
use Rattle.promises.specs.Views.{Prepared, Held, some_out, some_held, out, held, sent, to, issued, Grants, Laws, StepLaws}
use Rattle.promises.proofs.Cancels.{CancelOf, cancel_sent, Returns, return_sends, GivenOrAbsent, Frees, cancel_frees}
use Rattle.promises.proofs.Interface.{laws}
use Rattle.pair.specs.Theorem.{UeReturns, CancelSent, CancelTaken, ReservedFor, Freed, Later, now, on, ReturnFrees}
use Rattle.pair.specs.World.{Side, A, B, other, Numbers, Answered, Silent, Fixed, Handover, Envelope, World, Answers, Comes, Step, acts, loses, as_sent, took, tag_of, fixing, marked, is_message, act, issued_after, All, nothing, Course, begin, next, Limited}
use Rattle.pair.proofs.Lists.{all_map}
use Rattle.pair.proofs.Loss.{all_fewer}
use Rattle.pair.proofs.Ledger.{number_kept, count_grows}
use Rattle.pair.proofs.Posting.{all_posted}
use Rattle.pair.proofs.Taking.{carries_kind, as_sent_lem, taken_of, took_of, first_of, left}
use Rattle.pair.proofs.Directions.{Direction, direction, source_after, target_after}
use Rattle.pair.proofs.Invariant.{kind_of, old_of, new_of, outgoing, reserved, record_for, Invariant}
use Rattle.pair.proofs.Reaching.{remain, answer_laws, bounded_timely, Good, stepping, reached}
use Rattle.pair.proofs.SourceFacts.{record_there, record_is}
use Rattle.pair.proofs.Targets.{granting, shrinking}
use Rattle.pair.proofs.TargetTurn.{held_ids}

-- ---- cancels under way

-- a cancel: it has the Old ID of its handover, and the New ID that the target fixed for that or none; it says nothing else but its reason
record Cancelled (n : Numbers) (told : ℕ → Handover) (m : Envelope) : Type 0 where
  counted : m.tag ≤ n.issued_count
  numbered : n.number_of m.tag ≡ old_of m
  fixed : (new_of m ≡ 65535) ⊎ ((set : ℕ) × ((told m.tag).answer ≡ Fixed (new_of m) set))
  word : m.message ≡ message 6 m.message.neighbour (old_of m) (new_of m) 0 0 m.message.reason

abbrev Cancels : Direction → Type 0
Cancels d = All (λ m. kind_of m ≡ 6 → Cancelled d.numbers d.handovers m) d.requests

-- The source sends one of an outgoing record: its handover is the last that got its Old ID, and a prepared record has what was fixed.
module _ {s : Side} {d : Direction} (e : Record) (a : Answer) (taken : Option Envelope) (rest : List Envelope) (stamp : Side → ℕ) (fixed : ℕ → ℕ)
    (inv : Invariant s d) (known : Laws d.source) (of : (sent a).kind ≡ 6 → CancelOf d.source (sent a)) where
  abbrev posting : Envelope
  posting = marked a d.numbers taken fixed stamp

  abbrev sourced : Direction
  sourced = source_after s d e a taken rest stamp fixed

  source_keeps : (m : Envelope) → Cancelled d.numbers d.handovers m → Cancelled sourced.numbers sourced.handovers m
  source_keeps m was =
      record {
        counted = omega (arith, was.counted, count_grows d.numbers (issued a));
        numbered = number_kept d.numbers (issued a) m.tag was.counted ∙ was.numbered;
        fixed = was.fixed;
        word = was.word;
      }

  source_sends : is_message d.towards (sent a) ≡ true → kind_of posting ≡ 6 → Cancelled sourced.numbers sourced.handovers posting
  source_sends goes six =
      let old = (sent a).old.0 in
      let cancel = of six in
      let towards = eqb-true (sent a).neighbour d.towards (both_true (leb 1 (sent a).kind && leb (sent a).kind 8) (eqb (sent a).neighbour d.towards) goes).1 in
      let tag : posting.tag ≡ d.numbers.issue_of old = rw six in
      let there : some_out (outgoing d old) ≡ true =
      ⊎_elim (λ early. ap some_out (rw towards at early.0)) (λ ready. ap some_out (rw towards at ready.1)) cancel.of in
      let issue = inv.issued old (inv.used old (known.view d.towards old (inl there))) in
      source_keeps posting
      (record {
        counted = omega (arith, issue.0);
        numbered = ap d.numbers.number_of tag ∙ issue.1;
        fixed =
            ⊎_elim (λ early. inl early.1)
            (λ ready. inr (ready.0, ap (λ h. (d.handovers h).answer) tag ∙ inv.prepared old (new_of posting) ready.0 (rw towards at ready.1)))
            cancel.of;
        word = cancel.word;
      })

  source_cancels : Cancels d → Cancels sourced
  source_cancels cancels = all_posted d.towards posting d.requests (all_map (λ m was six. source_keeps m (was six)) cancels) source_sends

-- The target sends none this way, and what it has fixed stays so.
module _ {s : Side} {d : Direction} (e : Record) (a : Answer) (taken : Option Envelope) (rest : List Envelope) (stamp : Side → ℕ) (own : Numbers)
    (inv : Invariant s d) (comes : Comes d.back e d.requests taken rest) where
  abbrev targeted : Direction
  targeted = target_after s d e a taken rest stamp own

  answer_stays : (h : ℕ) (answer : Answered) → (answer ≡ Silent → ⊥) → (d.handovers h).answer ≡ answer → (targeted.handovers h).answer ≡ answer
  answer_stays h answer given is =
      by_cases (took 1 h taken)
      (λ t.
      let found = took_of 1 h comes t in
      absurd (given (sym is ∙ ap (λ k. (d.handovers k).answer) (sym found.1) ∙ (first_of found.0 inv.requests found.0.kind).unanswered)))
      (λ t. rw t is)

  target_keeps : (m : Envelope) → Cancelled d.numbers d.handovers m → Cancelled d.numbers targeted.handovers m
  target_keeps m was =
      record {
        counted = was.counted;
        numbered = was.numbered;
        fixed = ⊎_elim inl (λ is. inr (is.0, answer_stays m.tag (Fixed (new_of m) is.0) (λ z. clash (cc)) is.1)) was.fixed;
        word = was.word;
      }

  target_cancels : Cancels d → Cancels targeted
  target_cancels cancels = all_map (λ m was six. target_keeps m (was six)) (left comes cancels)

-- ---- a cancel is taken

module _ {s : Side} {d : Direction} {e : Record} {a : Answer} {taken : Option Envelope} {rest : List Envelope}
    (inv : Invariant s d) (target : Reached d.target) (range : InRange e) (answers : Answers d.target e a) (comes : Comes d.back e d.requests taken rest)
    (cancels : Cancels d) (h : ℕ) (took_it : took 6 h taken ≡ true) where
  abbrev first : Envelope
  first = (took_of 6 h comes took_it).0.first

  abbrev step : StepLaws d.target e a
  step = answer_laws target answers

  -- It has the IDs of the record that is held for its handover, and frees it.
  frees : (n old set : ℕ) → reserved d n ≡ Held old set → d.fixed_for n ≡ h → Frees d.back n d.target a
  frees n old set is for =
      let found = took_of 6 h comes took_it in
      let of = first_of found.0 cancels found.0.kind in
      let tag : first.tag ≡ h = found.1 in
      let kept = inv.held n old set is in
      let same_old : old_of first ≡ old = sym of.numbered ∙ ap d.numbers.number_of (tag ∙ sym for) ∙ kept.0 in
      let answered : (d.handovers first.tag).answer ≡ Fixed n set = ap (λ k. (d.handovers k).answer) (tag ∙ sym for) ∙ kept.1 in
      let given : GivenOrAbsent n (new_of first) = ⊎_elim inr (λ fixed. let other = fixed.1 in inl (cc)) of.fixed in
      let cancel : ℕ → Record = λ id. message 6 d.back id (new_of first) 0 0 first.message.reason in
      let event : e ≡ cancel old = as_sent_lem found.0.carries (λ one. omega (arith, one, found.0.kind)) ∙ ap (as_sent d.back) of.word ∙ ap cancel same_old in
      let byte : first.message.reason ≤ 255 = omega (arith, range.reason, ap (λ r. r.reason) event) in
      rw (answers.stepped, event) (cancel_frees target answers.bearers answers.room d.back n old set (new_of first) first.message.reason is given byte)

  -- No other is made, so none is left for that handover.
  none_left : (n : ℕ) → some_held (held a.station d.back n) ≡ true → fixing d.back a taken d.fixed_for n ≡ h → ⊥
  none_left n is for =
      let found = took_of 6 h comes took_it in
      let kind : e.kind ≡ 6 = carries_kind found.0.carries ∙ found.0.kind in
      let silent : to 2 d.back a ≡ false = refuted (to 2 d.back a) (λ t. omega (arith, kind, (granting (step.target d.back) t).kind)) in
      ⊎_elim
      (λ same.
      let was = held_ids (held d.target d.back n) (ap some_held (sym same) ∙ is) in
      let gone = (frees n was.0 was.1 was.2 (rw silent at for)).gone in
      false≢true (sym (ap some_held gone) ∙ is))
      (λ gone. false≢true (sym (ap some_held gone) ∙ is))
      (shrinking (step.target d.back) silent n)

-- ---- a UE returns

record Tells (d after : Direction) (h number : ℕ) : Type 0 where
  cancel : Envelope
  queued : after.requests ≡ d.requests ++ (cancel ∷ [])
  word : cancel.message ≡ message 6 d.towards (d.numbers.number_of h) number 0 0 3
  belongs : cancel.tag ≡ h
  ended : (after.handovers h).endings ≡ 5 ∷ []

module _ {s : Side} {d : Direction} (e : Record) (a : Answer) (taken : Option Envelope) (rest : List Envelope) (stamp : Side → ℕ) (fixed : ℕ → ℕ)
    (inv : Invariant s d) (source : Reached d.source) (answers : Answers d.source e a) (kind : e.kind ≡ 12) (done : a.outcome.reply ≡ 0)
    (h number set : ℕ) (old : d.numbers.number_of h ≡ e.old.0) (ready : record_for d h ≡ Prepared number set) where
  there : (d.numbers.issue_of (d.numbers.number_of h) ≡ h) × (some_out (outgoing d (d.numbers.number_of h)) ≡ true)
  there = record_there d.numbers (outgoing d) h (ap some_out ready)

  returns : Returns d.towards (d.numbers.number_of h) number a
  returns =
      let seen : outgoing d e.old.0 ≡ Prepared number set = ap (outgoing d) (sym old) ∙ sym (record_is d.numbers (outgoing d) h there.0) ∙ ready in
      rw (old, answers.stepped) (return_sends source e answers.bearers answers.room d.towards number set kind (rw answers.stepped at done) seen)

  tells : Tells d (source_after s d e a taken rest stamp fixed) h number
  tells =
      let left_table = record_is d.numbers (out a.station d.towards) h there.0 ∙ returns.gone in
      let none_before = (inv.live (d.numbers.number_of h) there.1).1 in
      record {
        cancel = marked a d.numbers taken fixed stamp;
        queued = ap (λ ms. d.requests ++ ms) (rw (returns.word, eqb_same d.towards));
        word = returns.word;
        belongs = rw returns.word there.0;
        ended =
            rw (ready, left_table, returns.returned)
            (ap (λ (k : ℕ). 5 ∷ (d.handovers k).endings) (sym there.0) ∙ ap (λ zs. 5 ∷ zs) none_before);
      }

-- ---- what is over stays over

-- a handover was answered, and nothing is held for it
abbrev Over : ℕ → Direction → Type 0
Over h d = ((d.handovers h).answer ≡ Silent → ⊥) × ((n : ℕ) → some_held (reserved d n) ≡ true → d.fixed_for n ≡ h → ⊥)

-- A record is held for the handover of a request that is taken, and that is not answered yet.
module _ {s : Side} {d : Direction} (e : Record) (a : Answer) (taken : Option Envelope) (rest : List Envelope) (stamp : Side → ℕ) (own : Numbers)
    (inv : Invariant s d) (step : StepLaws d.target e a) (comes : Comes d.back e d.requests taken rest) (h : ℕ) where
  abbrev later : Direction
  later = target_after s d e a taken rest stamp own

  answered_stays : ((d.handovers h).answer ≡ Silent → ⊥) → (later.handovers h).answer ≡ Silent → ⊥
  answered_stays known silent = known (sym (answer_stays e a taken rest stamp own inv comes h (d.handovers h).answer known refl) ∙ silent)

  over_stays : Over h d → Over h later
  over_stays over = (answered_stays over.0, none)
    where
      -- the record that is granted would be for this handover
      granted : Grants d.back d.target e a → tag_of taken ≡ h → ⊥
      granted g for =
          let got = taken_of 1 (omega arith) (omega arith) g.kind g.neighbour comes in
          over.0 (ap (λ k. (d.handovers k).answer) (sym for ∙ ap tag_of got.is) ∙ (first_of got inv.requests got.kind).unanswered)

      none : (n : ℕ) → some_held (reserved later n) ≡ true → later.fixed_for n ≡ h → ⊥
      none n is for =
          by_cases (to 2 d.back a)
          (λ t.
          let g = granting (step.target d.back) t in
          by_cases (eqb n (sent a).new.0) (λ u. granted g (rw (t, u) at for))
          (λ u. over.1 n (ap some_held (sym (g.others n (eqb-false n (sent a).new.0 u))) ∙ is) (rw (t, u) at for)))
          (λ t.
          ⊎_elim (λ same. over.1 n (ap some_held (sym same) ∙ is) (rw t at for)) (λ gone. false≢true (sym (ap some_held gone) ∙ is))
          (shrinking (step.target d.back) t n))

-- ---- in every world that is reached

answer_cancel : {x : Station} {e : Record} {a : Answer} → Reached x → Answers x e a → (sent a).kind ≡ 6 → CancelOf x (sent a)
answer_cancel {e = e} reached y = rw y.stepped (cancel_sent reached e y.bearers y.room)

took_tag : {taken : Option Envelope} {m : Envelope} {h : ℕ} → taken ≡ Some m → kind_of m ≡ 6 → m.tag ≡ h → took 6 h taken ≡ true
took_tag {m = m} {h} is kind belongs = rw (is, eq-eqb (kind_of m) 6 kind, eq-eqb m.tag h belongs)

module _ (peer : Side → ℕ) where
  abbrev AllCancels : World → Type 0
  AllCancels w = (r : Side) → Cancels (direction peer w r)

  module _ {w : World} (good : Good peer w) (cancels : AllCancels w) (e : Record) (a : Answer) (taken : Option Envelope) (rest : List Envelope) where
    turned : (s : Side) → Answers (w.station s) e a → Comes (peer s) e (w.queue (other s)) taken rest → AllCancels (act peer w s e a taken rest)
    turned A answers comes A =
        source_cancels e a taken rest (λ r. (issued_after w A a r).issued_count) (w.fixed_for B) (good.invariant A) (laws (good.reached A)) (answer_cancel (good.reached A) answers) (cancels A)
    turned A answers comes B = target_cancels e a taken rest (λ r. (issued_after w A a r).issued_count) (w.numbers A) (good.invariant B) comes (cancels B)
    turned B answers comes A = target_cancels e a taken rest (λ r. (issued_after w B a r).issued_count) (w.numbers B) (good.invariant A) comes (cancels A)
    turned B answers comes B =
        source_cancels e a taken rest (λ r. (issued_after w B a r).issued_count) (w.fixed_for A) (good.invariant B) (laws (good.reached B)) (answer_cancel (good.reached B) answers) (cancels B)

  cancels_step : {w w' : World} → Good peer w → AllCancels w → Step peer w w' → AllCancels w'
  cancels_step good cancels (acts s e a x) = rw x.becomes (turned good cancels e a x.taken x.rest s x.answers x.comes)
  cancels_step {w} good cancels (loses s x) = λ r. all_fewer (remain w s x r) (cancels r)

  along : {w : World} (c : Course peer w) → Limited peer c → AllCancels w
  along (begin stations new) limited = λ r. nothing
  along (next before step) limited = cancels_step (reached peer (record { course = before; limited = limited.0 })) (along before limited.0) step

  module _ {v : World} (good : Good peer v) (e : Record) (a : Answer) (taken : Option Envelope) (rest : List Envelope) (h : ℕ) where
    over_turned : (r s : Side) → Answers (v.station s) e a → Comes (peer s) e (v.queue (other s)) taken rest
        → Over h (direction peer v r) → Over h (direction peer (act peer v s e a taken rest) r)
    over_turned A A answers comes over = over
    over_turned B B answers comes over = over
    over_turned A B answers comes over =
        over_stays e a taken rest (λ r. (issued_after v B a r).issued_count) (v.numbers B) (good.invariant A) (answer_laws (good.reached B) answers) comes h over
    over_turned B A answers comes over =
        over_stays e a taken rest (λ r. (issued_after v A a r).issued_count) (v.numbers A) (good.invariant B) (answer_laws (good.reached A) answers) comes h over

  over_step : {v w' : World} → Good peer v → (h : ℕ) (r : Side) → Step peer v w' → Over h (direction peer v r) → Over h (direction peer w' r)
  over_step good h r (acts s e a x) over = rw x.becomes (over_turned good e a x.taken x.rest h r s x.answers x.comes over)
  over_step good h r (loses s x) over = over

  over_later : {w v : World} → Good peer w → (h : ℕ) (r : Side) → Over h (direction peer w r) → Later peer w v → Good peer v × Over h (direction peer v r)
  over_later good h r over now = (good, over)
  over_later good h r over (on {w' = w'} before step bounded) =
      let so_far = over_later good h r over before in
      (stepping peer so_far.0 step (bounded_timely w' bounded), over_step so_far.0 h r step so_far.1)

  -- ---- the law

  module _ {w w' : World} (good : Good peer w) (h : ℕ) where
    sent_in : (s : Side) (number : ℕ) → Tells (direction peer w s) (direction peer w' s) h number → CancelSent peer s h number w w'
    sent_in s number t = record { cancel = t.cancel; queued = t.queued; word = t.word; belongs = t.belongs; ended = t.ended }

    sent_of : (s : Side) (number : ℕ) → UeReturns peer s h number w w' → CancelSent peer s h number w w'
    sent_of A number x =
        let y = x.acts in
        sent_in A number
        (rw y.becomes
        (tells x.event x.answer y.taken y.rest (λ r. (issued_after w A x.answer r).issued_count) (w.fixed_for B)
        (good.invariant A) (good.reached A) y.answers x.kind x.done h number x.set x.old x.prepared))
    sent_of B number x =
        let y = x.acts in
        sent_in B number
        (rw y.becomes
        (tells x.event x.answer y.taken y.rest (λ r. (issued_after w B x.answer r).issued_count) (w.fixed_for A)
        (good.invariant B) (good.reached B) y.answers x.kind x.done h number x.set x.old x.prepared))

    module _ (cancels : AllCancels w) where
      freed_of : (s : Side) → CancelTaken peer s h w w' → Freed peer s h w w'
      freed_of A x =
          let y = x.acts in
          let took_it = took_tag x.taken x.kind x.belongs in
          rw y.becomes
          (record {
            no_reservation = λ n both. none_left (good.invariant A) (good.reached B) y.range y.answers y.comes (cancels A) h took_it n both.0 both.1;
            units = λ n both.
                let was = held_ids (held (w.station B) (peer B) n) both.0 in
                (frees (good.invariant A) (good.reached B) y.range y.answers y.comes (cancels A) h took_it n was.0 was.1 was.2 both.1).units;
          })
      freed_of B x =
          let y = x.acts in
          let took_it = took_tag x.taken x.kind x.belongs in
          rw y.becomes
          (record {
            no_reservation = λ n both. none_left (good.invariant B) (good.reached A) y.range y.answers y.comes (cancels B) h took_it n both.0 both.1;
            units = λ n both.
                let was = held_ids (held (w.station A) (peer A) n) both.0 in
                (frees (good.invariant B) (good.reached A) y.range y.answers y.comes (cancels B) h took_it n was.0 was.1 was.2 both.1).units;
          })

      answered_of : (s : Side) → CancelTaken peer s h w w' → ((w.handovers s h).answer ≡ Silent → ⊥) → (w'.handovers s h).answer ≡ Silent → ⊥
      answered_of A x known =
          let y = x.acts in
          rw y.becomes
          (answered_stays x.event x.answer y.taken y.rest (λ r. (issued_after w B x.answer r).issued_count) (w.numbers B)
          (good.invariant A) (answer_laws (good.reached B) y.answers) y.comes h known)
      answered_of B x known =
          let y = x.acts in
          rw y.becomes
          (answered_stays x.event x.answer y.taken y.rest (λ r. (issued_after w A x.answer r).issued_count) (w.numbers A)
          (good.invariant B) (answer_laws (good.reached A) y.answers) y.comes h known)

      -- What was held was answered, so it stays over.
      over_of : (s : Side) (number : ℕ) → CancelTaken peer s h w w' → ReservedFor peer w s h number → Over h (direction peer w' s)
      over_of s number x had =
          let was = held_ids (held (w.station (other s)) (peer (other s)) number) had.0 in
          let fixed = ((good.invariant s).held number was.0 was.1 was.2).1 in
          let same = had.1 in
          (answered_of s x (λ silent. clash (cc)), λ n is for. (freed_of s x).no_reservation n (is, for))

  pub return_frees : ReturnFrees peer
  return_frees =
      record {
        sent = λ w w' run s h number. sent_of (reached peer run) h s number;
        freed = λ w w' run s h. freed_of (reached peer run) h (along run.course run.limited) s;
        for_good = λ w w' v run s h number x had bounded later n both.
            let good = reached peer run in
            let after = stepping peer good (acts (other s) x.event x.answer x.acts) (bounded_timely w' bounded) in
            let over = over_of good h (along run.course run.limited) s number x had in
            (over_later after h s over later).1.1 n both.0 both.1;
      }
