-- A turn of the source, the messages under way: those that stay keep what held of them, since neither their Old IDs are issued nor what was
-- answered changes; a request that is sent is of a new handover.
use Prim.Native.Nat.{ℕ, ◌≤◌}
use mathlib.Core.Path.{◌≡◌, sym, ap, ◌∙◌}
use mathlib.Core.Bool.{true, false, ◌&&◌, true≢false}
use mathlib.Core.List.{List}
use Rattle.std.specs.Prelude.{Option}
use borrow.Author.Tests.{ne_eqb}
use native.Mathlib.Omega.{arith}
use lib.Dec.{eqb}
use Rattle.laws.proofs.Tests.{by_cases, refuted}
use Rattle.records.specs.declared.Record.{Record}
use Rattle.table.specs.declared.Answer.{Answer}
use Rattle.promises.specs.Views.{some_out, sent, to, issued}
use Rattle.pair.specs.World.{Side, next_issue, Envelope, Answered, Fixed, Refused, marked, is_message, posted}
use Rattle.pair.proofs.Lists.{all_map, all_both, all_front}
use Rattle.pair.proofs.Directions.{Direction, Timely, SourceStep}
use Rattle.pair.proofs.Invariant.{kind_of, old_of, new_of, set_of, record_for, Requested, Replied, Released, New, Requests, Once, Acknowledges, Failures, Releases, HeldFixed, Order, HeldAcknowledge, Invariant}
use Rattle.pair.proofs.Ledger.{number_kept, count_grows}
use Rattle.pair.proofs.Taking.{left, left_pairs}
use Rattle.pair.proofs.Posting.{posted_to, all_posted, pairs_posted}
use Rattle.pair.proofs.SourceFacts.{after, start_counts, start_latest, asked_stays, asked_now, released_now, prepared_now, under_way, no_record, answer_told}

module _ {s : Side} {d : Direction} {e : Record} {a : Answer} {taken : Option Envelope} {rest : List Envelope} {stamp : Side → ℕ} {fixed : ℕ → ℕ}
    (x : SourceStep s d e a taken rest stamp fixed) (inv : Invariant s d) where
  -- Nothing is told of a handover to come.
  pub new_kept : New s (after x)
  new_kept h later =
      let before = inv.new h (omega (arith, count_grows d.numbers (issued a))) in
      let gone = no_record x inv h (omega (arith, count_grows d.numbers (issued a))) in
      rw (before, not_started, not_released gone, gone)
    where
      not_started : (to 1 d.towards a && eqb h (next_issue d.numbers)) ≡ false
      not_started =
          by_cases (to 1 d.towards a)
          (λ t. rw (t, ne_eqb h (next_issue d.numbers) (λ same. omega (arith, start_counts x t))))
          (λ t. rw t)

      not_released : some_out (record_for d h) ≡ false → released_now x h ≡ false
      not_released gone = refuted (released_now x h) (λ t. true≢false (sym (ap some_out (prepared_now x h t).2) ∙ gone))

  -- ---- requests

  abbrev posting : Envelope
  posting = marked a d.numbers taken fixed stamp

  -- A request that is sent is of the handover that it starts.
  request_belongs : (sent a).kind ≡ 1 → posting.tag ≡ next_issue d.numbers
  request_belongs kind = rw kind

  request_kept : (m : Envelope) → (kind_of m ≡ 1 → Requested s d m) → Timely s (after x).numbers m → kind_of m ≡ 1 → Requested s (after x) m
  request_kept m was timely kind =
      let k = was kind in
      record {
        named = k.named;
        latest = under_way x inv m k.named k.latest (omega arith) (timely (omega arith) (omega arith));
        stamped = k.stamped;
        asked = asked_stays x m.tag k.asked;
        unanswered = k.unanswered;
      }

  request_new : is_message d.towards (sent a) ≡ true → (sent a).kind ≡ 1 → Requested s (after x) posting
  request_new t kind =
      let asks = posted_to d.towards a 1 t kind in
      let first = request_belongs kind in
      record {
        named = omega arith;
        latest = start_latest x asks ∙ sym first;
        stamped = x.stamped ∙ start_counts x asks ∙ sym first;
        asked = rw first (asked_now x asks);
        unanswered = rw first (ap (λ k. k.answer) (inv.new (next_issue d.numbers) (omega arith)));
      }

  pub requests_kept : Requests s (after x)
  requests_kept =
      all_posted d.towards posting d.requests
      (all_both request_kept inv.requests (all_front d.requests (posted d.towards posting) x.requests_timely))
      request_new

  pub once_kept : Once s (after x)
  once_kept =
      pairs_posted d.towards posting d.requests inv.once (λ t. all_map older inv.requests)
    where
      older : (m : Envelope) → (kind_of m ≡ 1 → Requested s d m) → kind_of m ≡ 1 → (sent a).kind ≡ 1 → m.tag ≡ posting.tag → ⊥
      older m was one new same =
          let k = was one in
          let first = request_belongs new in
          omega (arith, (inv.issued (old_of m) (omega arith)).0)

  -- ---- answers and releases

  reply_kept : (m : Envelope) (answer : Answered) → Replied s d m answer → 1 ≤ kind_of m → kind_of m ≤ 3 → Timely s (after x).numbers m → Replied s (after x) m answer
  reply_kept m answer was low high timely =
      record { named = was.named; latest = under_way x inv m was.named was.latest was.stamped (timely low high); stamped = was.stamped; answered = was.answered }

  release_kept : (m : Envelope) → Released d m → Released (after x) m
  release_kept m was =
      let past = answer_told x inv m.tag (new_of m) was.set was.answered in
      record {
        numbered = number_kept d.numbers (issued a) m.tag past ∙ was.numbered;
        arrived = was.arrived;
        set = was.set;
        answered = was.answered;
        receiver = was.receiver;
        word = was.word;
      }

  pub acknowledges_kept : Acknowledges s (after x)
  acknowledges_kept = all_both (λ m was timely kind. reply_kept m (Fixed (new_of m) (set_of m)) (was kind) (omega arith) (omega arith) timely) (left x.comes inv.acknowledges) x.answers_timely

  pub failures_kept : Failures s (after x)
  failures_kept = all_both (λ m was timely kind. reply_kept m Refused (was kind) (omega arith) (omega arith) timely) (left x.comes inv.failures) x.answers_timely

  pub releases_kept : Releases s (after x)
  releases_kept = all_map (λ m was kind. release_kept m (was kind)) (left x.comes inv.releases)

  pub held_kept : HeldFixed s (after x)
  held_kept n old set is =
      let was = inv.held n old set is in
      (number_kept d.numbers (issued a) (d.fixed_for n) (answer_told x inv (d.fixed_for n) n set was.1) ∙ was.0, was.1, asked_stays x (d.fixed_for n) was.2)

  pub order_kept : Order s (after x)
  order_kept = left_pairs x.comes inv.order

  pub held_acknowledge_kept : HeldAcknowledge s (after x)
  held_acknowledge_kept = left x.comes inv.held_acknowledge
