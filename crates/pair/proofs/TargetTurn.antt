-- The target takes any event: the invariant of the direction is kept, clause by clause. The source, its numbers, and what the source
-- knows of its handovers stay; at most one message goes from the requests, and at most one comes to the answers.
use Prim.Native.Nat.{ℕ}
use mathlib.Core.Path.{◌≡◌, refl, sym, ap, ◌∙◌}
use mathlib.Core.Bool.{true, false, ◌&&◌, false≢true}
use mathlib.Core.List.{List}
use Rattle.std.specs.Prelude.{Option, Some}
use borrow.Author.Tests.{eqb-true, eq-eqb, ne_eqb}
use store.Seg.{eqb_same}
use native.Mathlib.Omega.{arith}
use lib.Dec.{eqb}
use Rattle.laws.proofs.Tests.{by_cases, both_true, clash, refuted}
use Rattle.records.specs.declared.Record.{Record}
use Rattle.promises.proofs.Interface.{to_means}
use Rattle.table.specs.declared.Answer.{Answer}
use Rattle.promises.specs.Views.{Prepared, Incoming, NotHeld, Held, some_held, sent, to}
use Rattle.pair.specs.World.{Side, Numbers, Answered, Refused, Fixed, Envelope, took, tag_of, arrives_for, marked, is_message}
use Rattle.pair.proofs.Posting.{posted_to, all_posted, pairs_posted}
use Rattle.pair.proofs.Taking.{took_of, left, left_pairs, left_behind}
use Rattle.pair.proofs.Directions.{Direction, target_after, TargetStep}
use Rattle.pair.proofs.Invariant.{kind_of, old_of, new_of, set_of, outgoing, reserved, Requested, Replied, Released, New, Requests, Once, Acknowledges, Failures, Releases, HeldFixed, PreparedFixed, Order, ReleasePrepared, HeldAcknowledge, HeldPrepared, WhilePrepared, Failed, Arrived, Invariant}
use Rattle.pair.proofs.Lists.{all_map, all_both}
use Rattle.pair.proofs.Targets.{granting, denying, arriving, RequestOf, HeldAfter, kept, made, request_of_lem, request_taken, held_after, same_answer, answer_once}

-- a held record has its IDs
pub held_ids : (v : Incoming) → some_held v ≡ true → (old : ℕ) × (set : ℕ) × (v ≡ Held old set)
held_ids NotHeld t = absurd (false≢true t)
held_ids (Held old set) t = (old, set, refl)

module _ {s : Side} {d : Direction} {e : Record} {a : Answer} {taken : Option Envelope} {rest : List Envelope} {stamp : Side → ℕ} {own : Numbers}
    (x : TargetStep s d e a taken rest stamp own) (i : Invariant s d) where
  abbrev after : Direction
  after = target_after s d e a taken rest stamp own

  abbrev posting : Envelope
  posting = marked a own taken d.fixed_for stamp

  -- ---- what is told

  fixed_stays : (h n set : ℕ) → (d.handovers h).answer ≡ Fixed n set → (after.handovers h).answer ≡ Fixed n set
  fixed_stays h n set = answer_once x i h (Fixed n set) (λ z. clash (cc))

  refused_stays : (h : ℕ) → (d.handovers h).answer ≡ Refused → (after.handovers h).answer ≡ Refused
  refused_stays h = answer_once x i h Refused (λ z. clash (cc))

  arrived_stays : (h : ℕ) → (d.handovers h).arrived ≡ true → (after.handovers h).arrived ≡ true
  arrived_stays h t = rw t

  -- The record on which a UE arrives is held for a handover, which has an answer.
  arrives_for_lem : (h : ℕ) → arrives_for d.back d.target e a d.fixed_for h ≡ true → (set : ℕ) × ((d.handovers h).answer ≡ Fixed e.new.0 set)
  arrives_for_lem h t =
      let both = both_true (eqb e.kind 11 && eqb a.outcome.reply 0 && some_held (reserved d e.new.0)) (eqb (d.fixed_for e.new.0) h) t in
      let there = held_ids (reserved d e.new.0) (both_true (eqb e.kind 11 && eqb a.outcome.reply 0) (some_held (reserved d e.new.0)) both.0).1 in
      let same : d.fixed_for e.new.0 ≡ h = eqb-true (d.fixed_for e.new.0) h both.1 in
      (there.1, ap (λ k. (d.handovers k).answer) (sym same) ∙ (i.held e.new.0 there.0 there.1 there.2).1)

  new_kept : New s after
  new_kept h above =
      let told = i.new h above in
      rw (
        refuted (took 1 h taken) (λ t. omega (arith, (request_of_lem x i h t).counted)),
        refuted (arrives_for d.back d.target e a d.fixed_for h) (λ t. let fixed = (arrives_for_lem h t).1 in clash (cc)),
        told,
      )

  while_prepared_kept : WhilePrepared s after
  while_prepared_kept h t = arrived_stays h (i.while_prepared h t)

  failed_kept : Failed s after
  failed_kept h t = refused_stays h (i.failed h t)

  arrived_kept : Arrived s after
  arrived_kept h t =
      by_cases (d.handovers h).arrived
      (λ u. let fixed = i.arrived h u in (fixed.0, fixed.1, fixed_stays h fixed.0 fixed.1 fixed.2))
      (λ u. let fixed = arrives_for_lem h (rw u at t) in (e.new.0, fixed.0, fixed_stays h e.new.0 fixed.0 fixed.1))

  -- ---- to which handover an answer or a release belongs

  acknowledge_belongs : (sent a).kind ≡ 2 → posting.tag ≡ tag_of taken
  acknowledge_belongs two = rw two

  failure_belongs : (sent a).kind ≡ 3 → posting.tag ≡ tag_of taken
  failure_belongs three = rw three

  release_belongs : (sent a).kind ≡ 5 → posting.tag ≡ d.fixed_for (new_of posting)
  release_belongs five = rw five

  -- ---- requests

  -- A request that is left is of another handover than the one that was taken.
  other_request : (m : Envelope) → ((first : Envelope) → taken ≡ Some first → kind_of first ≡ 1 → kind_of m ≡ 1 → first.tag ≡ m.tag → ⊥)
      → kind_of m ≡ 1 → took 1 m.tag taken ≡ false
  other_request m apart one =
      refuted (took 1 m.tag taken)
      (λ t. let found = took_of 1 m.tag x.comes t in apart found.0.first found.0.is found.0.kind one found.1)

  requests_kept : Requests s after
  requests_kept =
      all_both (λ m of apart one. waiting m (of one) (other_request m apart one))
      (left x.comes i.requests)
      (left_behind x.comes i.once)
    where
      waiting : (m : Envelope) → Requested s d m → took 1 m.tag taken ≡ false → Requested s after m
      waiting m r other =
          record { named = r.named; latest = r.latest; stamped = r.stamped; asked = r.asked; unanswered = same_answer x i m.tag other ∙ r.unanswered }

  once_kept : Once s after
  once_kept = left_pairs x.comes i.once

  -- The request that is answered.
  answered : e.kind ≡ 1 → e.neighbour ≡ d.back → RequestOf d e.old.0 (tag_of taken)
  answered one from = request_of_lem x i (tag_of taken) (request_taken x i one from)

  granted_answer : to 2 d.back a ≡ true → e.kind ≡ 1 → e.neighbour ≡ d.back
      → (after.handovers (tag_of taken)).answer ≡ Fixed (sent a).new.0 (sent a).first
  granted_answer t one from = rw (request_taken x i one from, t)

  denied_answer : to 3 d.back a ≡ true → e.kind ≡ 1 → e.neighbour ≡ d.back → (after.handovers (tag_of taken)).answer ≡ Refused
  denied_answer t one from =
      rw (request_taken x i one from, ne_eqb (sent a).kind 2 (λ two. omega (arith, (to_means d.back a 3 t).0)), t)

  -- An answer is that of the request, sent before the source issues 2,000 numbers.
  replies : (answer : Answered) → e.kind ≡ 1 → e.neighbour ≡ d.back → e.old.0 ≡ (sent a).old.0 → posting.tag ≡ tag_of taken
      → (after.handovers (tag_of taken)).answer ≡ answer → Replied s after posting answer
  replies answer one from old tag now =
      let r = answered one from in
      record {
        named = rw tag r.named;
        latest = ap d.numbers.issue_of (sym old) ∙ r.latest ∙ sym tag;
        stamped = rw (tag, x.stamped) r.within;
        answered = ap (λ h. (after.handovers h).answer) tag ∙ now;
      }

  -- One that is under way stays what it was.
  replied : (m : Envelope) (answer : Answered) → Replied s d m answer → (after.handovers m.tag).answer ≡ answer → Replied s after m answer
  replied m answer r stays = record { named = r.named; latest = r.latest; stamped = r.stamped; answered = stays }

  acknowledges_kept : Acknowledges s after
  acknowledges_kept =
      all_posted d.back posting d.answers
      (all_map (λ m of two. replied m (Fixed (new_of m) (set_of m)) (of two) (fixed_stays m.tag (new_of m) (set_of m) (of two).answered)) i.acknowledges)
      granted
    where
      granted : is_message d.back (sent a) ≡ true → kind_of posting ≡ 2 → Replied s after posting (Fixed (new_of posting) (set_of posting))
      granted posted two =
          let t = posted_to d.back a 2 posted two in
          let g = granting (x.step.target d.back) t in
          replies (Fixed (new_of posting) (set_of posting)) g.kind g.neighbour g.old (acknowledge_belongs two)
          (granted_answer t g.kind g.neighbour)

  failures_kept : Failures s after
  failures_kept =
      all_posted d.back posting d.answers
      (all_map (λ m of three. replied m Refused (of three) (refused_stays m.tag (of three).answered)) i.failures)
      denied
    where
      denied : is_message d.back (sent a) ≡ true → kind_of posting ≡ 3 → Replied s after posting Refused
      denied posted three =
          let t = posted_to d.back a 3 posted three in
          let g = denying (x.step.target d.back) t in
          replies Refused g.kind g.neighbour g.old (failure_belongs three) (denied_answer t g.kind g.neighbour)

  -- ---- releases

  -- A release is sent for a held record, and is of the handover for which that was granted.
  release_for : is_message d.back (sent a) ≡ true → kind_of posting ≡ 5
      → (posting.tag ≡ d.fixed_for (new_of posting)) × (set : ℕ) × (reserved d (new_of posting) ≡ Held (old_of posting) set)
      × ((after.handovers (d.fixed_for (new_of posting))).arrived ≡ true)
  release_for posted five =
      let g = arriving (x.step.target d.back) (posted_to d.back a 5 posted five) in
      let same = eq-eqb (d.fixed_for e.new.0) (d.fixed_for (new_of posting)) (ap d.fixed_for g.new) in (
        release_belongs five,
        g.admitted,
        ap (reserved d) (sym g.new) ∙ g.before,
        by_cases (d.handovers (d.fixed_for (new_of posting))).arrived (λ t. rw t) (λ t. rw (t, eq-eqb e.kind 11 g.kind, eq-eqb a.outcome.reply 0 g.done, g.before, same)),
      )

  releases_kept : Releases s after
  releases_kept = all_posted d.back posting d.answers (all_map (λ m of five. released m (of five)) i.releases) sends
    where
      released : (m : Envelope) → Released d m → Released after m
      released m r =
          record {
            numbered = r.numbered;
            arrived = arrived_stays m.tag r.arrived;
            set = r.set;
            answered = fixed_stays m.tag (new_of m) r.set r.answered;
            receiver = r.receiver;
            word = r.word;
          }

      sends : is_message d.back (sent a) ≡ true → kind_of posting ≡ 5 → Released after posting
      sends posted five =
          let r = release_for posted five in
          let granted = i.held (new_of posting) (old_of posting) r.1 r.2 in
          record {
            numbered = ap d.numbers.number_of r.0 ∙ granted.0;
            arrived = ap (λ h. (after.handovers h).arrived) r.0 ∙ r.3;
            set = r.1;
            answered = ap (λ h. (after.handovers h).answer) r.0 ∙ fixed_stays (d.fixed_for (new_of posting)) (new_of posting) r.1 granted.1;
            receiver = d.back;
            word = (arriving (x.step.target d.back) (posted_to d.back a 5 posted five)).word;
          }

  -- A release stands behind the acknowledge of its record: both are of the same handover.
  order_kept : Order s after
  order_kept = pairs_posted d.back posting d.answers i.order (λ posted. all_map (λ m. behind posted m) i.held_acknowledge)
    where
      behind : is_message d.back (sent a) ≡ true → (m : Envelope)
          → (kind_of m ≡ 2 → (set : ℕ) → reserved d (new_of m) ≡ Held (old_of m) set → m.tag ≡ d.fixed_for (new_of m))
          → kind_of m ≡ 2 → kind_of posting ≡ 5 → old_of m ≡ old_of posting → new_of m ≡ new_of posting → m.tag ≡ posting.tag
      behind posted m of two five old number =
          let r = release_for posted five in
          of two r.1 (ap (reserved d) number ∙ r.2 ∙ (cc)) ∙ ap d.fixed_for number ∙ sym r.0

  release_prepared_kept : ReleasePrepared s after
  release_prepared_kept = all_posted d.back posting d.answers i.release_prepared sends
    where
      sends : is_message d.back (sent a) ≡ true → kind_of posting ≡ 5 → (set : ℕ) → outgoing d (old_of posting) ≡ Prepared (new_of posting) set
          → posting.tag ≡ d.numbers.issue_of (old_of posting)
      sends posted five set ready =
          let r = release_for posted five in
          r.0 ∙ i.held_prepared (old_of posting) (new_of posting) r.1 set r.2 ready

  -- ---- tables

  held_kept : HeldFixed s after
  held_kept n old set now = of (held_after x i n old set now)
    where
      of : HeldAfter d a (tag_of taken) (after.fixed_for n) n old set
          → (d.numbers.number_of (after.fixed_for n) ≡ old) × ((after.handovers (after.fixed_for n)).answer ≡ Fixed n set)
          × ((after.handovers (after.fixed_for n)).asked ≡ true)
      of (kept was same) =
          let for = i.held n old set was in (
            ap d.numbers.number_of same ∙ for.0,
            ap (λ h. (after.handovers h).answer) same ∙ fixed_stays (d.fixed_for n) n set for.1,
            ap (λ h. (after.handovers h).asked) same ∙ for.2,
          )
      of (made t number id admitted same) =
          let g = granting (x.step.target d.back) t in
          let r = answered g.kind g.neighbour in (
            ap d.numbers.number_of same ∙ r.numbered ∙ g.old ∙ sym id,
            ap (λ h. (after.handovers h).answer) same ∙ granted_answer t g.kind g.neighbour ∙ (cc),
            ap (λ h. (after.handovers h).asked) same ∙ r.asked,
          )

  prepared_kept : PreparedFixed s after
  prepared_kept j n set was = fixed_stays (d.numbers.issue_of j) n set (i.prepared j n set was)

  held_prepared_kept : HeldPrepared s after
  held_prepared_kept old n set admitted now ready = of (held_after x i n old set now)
    where
      of : HeldAfter d a (tag_of taken) (after.fixed_for n) n old set → after.fixed_for n ≡ d.numbers.issue_of old
      of (kept was same) = same ∙ i.held_prepared old n set admitted was ready
      of (made t number id fixed same) =
          let g = granting (x.step.target d.back) t in
          same ∙ sym (answered g.kind g.neighbour).latest ∙ ap d.numbers.issue_of (g.old ∙ sym id)

  held_acknowledge_kept : HeldAcknowledge s after
  held_acknowledge_kept =
      all_posted d.back posting d.answers
      (all_both (λ m replied of two set now. standing m (replied two) (of two) set (held_after x i (new_of m) (old_of m) set now)) i.acknowledges i.held_acknowledge)
      (λ posted two set now.
      acknowledge_belongs two ∙ sym (rw (posted_to d.back a 2 posted two, eqb_same (new_of posting))))
    where
      standing : (m : Envelope) → Replied s d m (Fixed (new_of m) (set_of m))
          → ((set : ℕ) → reserved d (new_of m) ≡ Held (old_of m) set → m.tag ≡ d.fixed_for (new_of m))
          → (set : ℕ) → HeldAfter d a (tag_of taken) (after.fixed_for (new_of m)) (new_of m) (old_of m) set → m.tag ≡ after.fixed_for (new_of m)
      standing m replied of set (kept was same) = of set was ∙ sym same
      standing m replied of set (made t number id fixed same) =
          let g = granting (x.step.target d.back) t in
          sym replied.latest ∙ ap d.numbers.issue_of (id ∙ sym g.old) ∙ (answered g.kind g.neighbour).latest ∙ sym same

  -- ---- all

  pub target_turn : Invariant s (target_after s d e a taken rest stamp own)
  target_turn =
      record {
        used = i.used;
        issued = i.issued;
        ledger = i.ledger;
        new = new_kept;
        requests = requests_kept;
        once = once_kept;
        acknowledges = acknowledges_kept;
        failures = failures_kept;
        releases = releases_kept;
        held = held_kept;
        prepared = prepared_kept;
        order = order_kept;
        release_prepared = release_prepared_kept;
        held_acknowledge = held_acknowledge_kept;
        held_prepared = held_prepared_kept;
        live = i.live;
        ended = i.ended;
        moved = i.moved;
        while_prepared = while_prepared_kept;
        failed = failed_kept;
        arrived = arrived_kept;
      }
