-- Messages of different neighbours can be taken in any order: what a message is answered goes by its sender's records alone, and it leaves
-- every other neighbour's where they stand. So a neighbour is answered as though there were no other.
use Prim.Native.Nat.{ℕ, ◌≤◌, ◌<◌}
use mathlib.Core.Path.{◌≡◌, refl, sym, ap, ◌∙◌, subst}
use mathlib.Core.Bool.{true, false, not, true≢false}
use mathlib.Core.List.{List, [], ◌∷◌}
use borrow.Author.Rules.{rules}
use borrow.Author.Tests.{eqb-true, eqb-false, ne_eqb}
use store.Seg.{eqb_same}
use native.Mathlib.Omega.{arith}
use lib.Dec.{eqb}
use lib.ListN.{get_or}
use lib.Seq.{ext_get_or}
use Rattle.laws.specs.Sums.{total}
use Rattle.laws.proofs.Tests.{by_cases, both_true, between, refuted}
use Rattle.records.specs.Record.{little, record_of}
use Rattle.bearers.specs.Flaws.{all_of_kind, flaw_from}
use Rattle.bearers.specs.Bearer.{records_in, all_bearers}
use Rattle.bearers.specs.Admission.{those, turns_from, free_at, verdict}
use Rattle.sets.specs.Sets as sets
use Rattle.handover.specs.declared.Entry.{Entry}
use Rattle.answers.specs.declared.Outcome.{Outcome}
use Rattle.table.specs.declared.Station.{Station}
use Rattle.handover.specs.Numbers.{is_free, blank, issue_from}
use Rattle.handover.proofs.Keys.{is_of}
use Rattle.table.specs.Reached.{Reached, stepped}
use Rattle.table.specs.Sound.{Sound}
use Rattle.places.specs.Places.{due_from}
use Rattle.table.proofs.Soundness.{sound, sound_step}
use Rattle.promises.specs.Cases.{freshly, bytes_in}
use Rattle.promises.specs.Orders.{Input, taken, sender, is_message, Apart, EitherOrder, are_messages, answered, after, asker, own_of, Reordered, AnyOrder, Fails, started, acknowledged, failed, asked, around_tick}
use Rattle.promises.proofs.Cases.{fresh_reached}
use Rattle.promises.proofs.Neighbours.{OthersKept, message_keeps_others}
use Rattle.promises.proofs.Orderless.{Has, Same, of_used, message_depends_on_sender}

-- ---- two stations as a neighbour sees them

abbrev here : ℕ → ℕ
here i = i

-- They are alike for it: its records are the same at the same places, and so are clock, last own ID and settings.
record Alike (n : ℕ) (s t : Station) : Type 0 where
  records : Same here here n s t
  clock : s.clock ≡ t.clock
  last : s.last ≡ t.last
  settings : s.settings ≡ t.settings

alike_self : (n : ℕ) (s : Station) → Alike n s s
alike_self n s =
    record { records = record { there = λ i h _. (h, refl); back = λ i h _. (h, refl) }; clock = refl; last = refl; settings = refl }

alike_back : {n : ℕ} {s t : Station} → Alike n s t → Alike n t s
alike_back a =
    record {
      records = record { there = a.records.back; back = a.records.there };
      clock = sym a.clock;
      last = sym a.last;
      settings = sym a.settings;
    }

has_on : (n : ℕ) (r s t : Station) → Has here n r s → Has here n s t → Has here n r t
has_on n r s t one two i h of =
    let there = (one i h of).1 in
    (h, (two i h (rw there of)).1 ∙ there)

alike_on : {n : ℕ} {r s t : Station} → Alike n r s → Alike n s t → Alike n r t
alike_on {n} {r} {s} {t} a b =
    record {
      records = record {
        there = has_on n r s t a.records.there b.records.there;
        back = has_on n t s r b.records.back a.records.back;
      };
      clock = a.clock ∙ b.clock;
      last = a.last ∙ b.last;
      settings = a.settings ∙ b.settings;
    }

-- Stations that are alike for every neighbour are the same: a record is some neighbour's, a free place is blank, and the units in use are
-- the sum over the records.
module _ (s t : Station) (first : Sound s) (second : Sound t) (alike : (n : ℕ) → Alike n s t) where
  same_record : (i : ℕ) → i < 64 → get_or s.entries i blank ≡ get_or t.entries i blank
  same_record i h =
      let x = get_or s.entries i blank in
      let y = get_or t.entries i blank in
      by_cases (is_free x)
      (λ free. by_cases (is_free y)
      (λ too. (first.fit i h).idle free ∙ sym ((second.fit i h).idle too))
      (λ used. ((alike y.neighbour).records.back i h (rw (used, eqb_same y.neighbour))).1))
      (λ used. sym ((alike x.neighbour).records.there i h (rw (used, eqb_same x.neighbour))).1)

  same_records : s.entries ≡ t.entries
  same_records =
      ext_get_or blank s.entries t.entries (first.places ∙ sym second.places) (λ i h. same_record i (omega (arith, first.places)))

  same_units : s.used ≡ t.used
  same_units = first.sum ∙ ap (total (λ r. r.units)) same_records ∙ sym second.sum

  -- Field for field.
  same_station : s ≡ t
  same_station =
      λ k. record { entries = same_records k; clock = (alike 0).clock k; last = (alike 0).last k; used = same_units k; settings = (alike 0).settings k }

-- ---- one message

-- A neighbour's record is no other's.
no_others : (n k : ℕ) (r : Entry) → (k ≡ n → ⊥) → is_of n r ≡ true → is_of k r ≡ false
no_others n k r other of =
    let its = (both_true (not (is_free r)) (eqb r.neighbour n) of).1 in
    refuted (is_of k r) (λ too. other (sym (eqb-true r.neighbour k (both_true (not (is_free r)) (eqb r.neighbour k) too).1) ∙ eqb-true r.neighbour n its))

module _ (m : Input) (message : is_message m ≡ true) where
  kinds : (2 ≤ m.event.kind) × (m.event.kind ≤ 8)
  kinds = between 2 8 m.event.kind message

  keeps : (s : Station) → OthersKept (sender m) s (taken s m).station
  keeps s = message_keeps_others s m.event m.bytes m.room kinds.0 kinds.1

  -- What is another neighbour's afterwards was not the sender's before, which stay its own or end.
  not_its : (n : ℕ) (s : Station) → (sender m ≡ n → ⊥) → (i : ℕ) → is_of n (get_or (taken s m).station.entries i blank) ≡ true → is_of (sender m) (get_or s.entries i blank) ≡ false
  not_its n s other i of =
      let x = get_or (taken s m).station.entries i blank in
      refuted (is_of (sender m) (get_or s.entries i blank)) (λ its. true≢false (sym ((keeps s).its i its (of_used n x of)) ∙ no_others n (sender m) x other of))

  -- So another neighbour sees nothing of it.
  unseen : (n : ℕ) (s : Station) → (sender m ≡ n → ⊥) → Alike n (taken s m).station s
  unseen n s other =
      let kept = keeps s in
      record {
        records = record {
          there = λ i h of. (h, sym (kept.others i (not_its n s other i of)));
          back = λ i h of. (h, kept.others i (no_others n (sender m) (get_or s.entries i blank) other of));
        };
        clock = kept.clock;
        last = kept.last;
        settings = kept.settings;
      }

  -- Where two stations are alike for its sender it is answered the same, and they are so afterwards.
  answered_alike : (n : ℕ) → sender m ≡ n → (s t : Station) → Sound s → Sound t → Alike n s t
      → ((taken s m).outcome ≡ (taken t m).outcome) × Alike n (taken s m).station (taken t m).station
  answered_alike n from s t first second alike =
      let timer = ap (λ x. x.overall) alike.settings in
      let a = message_depends_on_sender here here s t m.event m.bytes m.bytes m.room m.room (rw from alike.records) first second kinds.0 kinds.1 (λ _. (alike.clock, timer)) in
      let one = keeps s in
      let two = keeps t in (
        a.outcome,
        record {
          records = subst (λ (k : ℕ). Same here here k (taken s m).station (taken t m).station) from a.records;
          clock = one.clock ∙ alike.clock ∙ sym two.clock;
          last = one.last ∙ alike.last ∙ sym two.last;
          settings = one.settings ∙ alike.settings ∙ sym two.settings;
        },
      )

-- ---- one after the other

sound_taken : {s : Station} → Sound s → (m : Input) → Sound (taken s m).station
sound_taken first m = sound_step first m.event m.bytes m.room

sound_after : {s : Station} → Sound s → (ms : List Input) → Sound (after s ms)
sound_after first [] = first
sound_after {s = s} first (m ∷ ms) = sound_after {s = (taken s m).station} (sound_taken first m) ms

-- At stations that are alike for a neighbour, its own messages are answered the same whether others come between them or not.
alone : (n : ℕ) (s t : Station) → Sound s → Sound t → Alike n s t → (ms : List Input) → are_messages ms ≡ true
    → (own_of asker n (answered s ms) ≡ answered t (own_of sender n ms)) × Alike n (after s ms) (after t (own_of sender n ms))
alone n s t first second alike [] all = (refl, alike)
alone n s t first second alike (m ∷ ms) all =
    let both = both_true (is_message m) (are_messages ms) all in
    by_cases (eqb (sender m) n)
    (λ its.
    let now = answered_alike m both.0 n (eqb-true (sender m) n its) s t first second alike in
    let later = alone n (taken s m).station (taken t m).station (sound_taken first m) (sound_taken second m) now.1 ms both.1 in
    rw its (cc (now.0, later.0), later.1))
    (λ other.
    let now = alike_on (unseen m both.0 n s (eqb-false (sender m) n other)) alike in
    rw other (alone n (taken s m).station t (sound_taken first m) second now ms both.1))

-- What stands in another order is of the same kinds.
own_messages : (n : ℕ) (ms : List Input) → are_messages ms ≡ true → are_messages (own_of sender n ms) ≡ true
own_messages n [] all = refl
own_messages n (m ∷ ms) all =
    let both = both_true (is_message m) (are_messages ms) all in
    let rest = own_messages n ms both.1 in
    by_cases (eqb (sender m) n) (λ its. rw (its, both.0) rest) (λ other. rw other rest)

all_messages : (ms : List Input) → ((n : ℕ) → are_messages (own_of sender n ms) ≡ true) → are_messages ms ≡ true
all_messages [] each = refl
all_messages (m ∷ ms) each =
    let first = (both_true (is_message m) (are_messages (own_of sender (sender m) ms)) (rw (eqb_same (sender m)) at (each (sender m)))).0 in
    rw first (all_messages ms (λ n. by_cases (eqb (sender m) n)
    (λ its. (both_true (is_message m) (are_messages (own_of sender n ms)) (rw its at (each n))).1)
    (λ other. rw other at (each n))))

-- ---- the laws

module _ (s : Station) (reached : Reached s) where
  by_itself : (n : ℕ) (ms : List Input) → are_messages ms ≡ true
      → (own_of asker n (answered s ms) ≡ answered s (own_of sender n ms)) × Alike n (after s ms) (after s (own_of sender n ms))
  by_itself n ms all = alone n s s (sound reached) (sound reached) (alike_self n s) ms all

  -- A neighbour's messages are answered as though there were no other's.
  pub as_if_alone : (n : ℕ) (ms : List Input) → are_messages ms ≡ true → own_of asker n (answered s ms) ≡ answered s (own_of sender n ms)
  as_if_alone n ms all = (by_itself n ms all).0

  -- In any order in which each neighbour's own messages keep theirs, each gets the same answer, and the last station is the same.
  pub any_order : (ms ns : List Input) → are_messages ms ≡ true → Reordered sender ms ns → AnyOrder s ms ns
  any_order ms ns all same =
      let others = all_messages ns (λ n. rw (← same n) (own_messages n ms all)) in
      record {
        answers = λ n. as_if_alone n ms all ∙ ap (answered s) (same n) ∙ sym (as_if_alone n ns others);
        station = same_station (after s ms) (after s ns) (sound_after (sound reached) ms) (sound_after (sound reached) ns)
            (λ n. alike_on (rw (same n) at (by_itself n ms all).1) (alike_back (by_itself n ns others).1));
      }

  -- A message of another neighbour before it makes no difference to what a message is answered.
  undisturbed : (a b : Input) → is_message a ≡ true → is_message b ≡ true → (sender b ≡ sender a → ⊥) → (taken s a).outcome ≡ (taken (taken s b).station a).outcome
  undisturbed a b one two other =
      (answered_alike a one (sender a) refl s (taken s b).station (sound reached) (sound_taken (sound reached) b) (alike_back (unseen b two (sender a) s other))).0

  -- Two messages of kinds 2 to 8 of different neighbours, taken in either order: each gets the same answer, and the station is the same.
  pub either_order : (a b : Input) → Apart a b → EitherOrder s a b
  either_order a b apart =
      record {
        first = undisturbed a b apart.first apart.second (λ same. apart.senders (sym same));
        second = sym (undisturbed b a apart.second apart.first apart.senders);
        station = (any_order (a ∷ b ∷ []) (b ∷ a ∷ []) (rw (apart.first, apart.second)) swapped).station;
      }
    where
      swapped : Reordered sender (a ∷ b ∷ []) (b ∷ a ∷ [])
      swapped n =
          by_cases (eqb (sender a) n)
          (λ its. rw (its, ne_eqb (sender b) n (λ too. apart.senders (eqb-true (sender a) n its ∙ sym too))))
          (λ other. rw other)

-- ---- it cannot be had for more, by computation

-- Two messages of one neighbour: the acknowledge is taken before the failure, and finds no record after it.
pub one_neighbour : Fails (λ s. EitherOrder s (acknowledged 3 0) (failed 3 0))
unfolding issue_from
one_neighbour =
    record {
      station = after freshly (started 3 ∷ []);
      reached = stepped fresh_reached (started 3).event (search rules) [] 0;
      differs = λ either. eqb-false 0 2 refl (ap (λ (o : Outcome). o.reply) either.first);
    }

-- Two requests of different neighbours: the one that comes first gets own ID 0.
pub requests_own_ids : Fails (λ s. EitherOrder s (asked 3 10) (asked 4 10))
unfolding bytes_in issue_from little record_of records_in all_bearers all_of_kind flaw_from total those turns_from free_at verdict sets.add sets.set_of
requests_own_ids =
    record {
      station = freshly;
      reached = fresh_reached;
      differs = λ either. eqb-false 0 1 refl (ap (λ (o : Outcome). o.message.new.0) either.first);
    }

-- And the units, where there are not enough for both.
pub requests_units : Fails (λ s. EitherOrder s (asked 3 60) (asked 4 60))
unfolding bytes_in issue_from little record_of records_in all_bearers all_of_kind flaw_from total those turns_from free_at verdict sets.add sets.set_of
requests_units =
    record {
      station = freshly;
      reached = fresh_reached;
      differs = λ either. eqb-false 0 5 refl (ap (λ (o : Outcome). o.reply) either.first);
    }

-- Two acknowledges of different neighbours and a tick between them: the one before the tick has the sooner deadline.
pub tick_reordered : Reordered sender (around_tick (acknowledged 3 0) (acknowledged 4 1)) (around_tick (acknowledged 4 1) (acknowledged 3 0))
unfolding bytes_in
tick_reordered n =
    by_cases (eqb 3 n) (λ three. rw (← eqb-true 3 n three))
    (λ other. by_cases (eqb 4 n) (λ four. rw (← eqb-true 4 n four)) (λ neither. rw (other, neither)))

pub tick_between : Fails (λ s. AnyOrder s (around_tick (acknowledged 3 0) (acknowledged 4 1)) (around_tick (acknowledged 4 1) (acknowledged 3 0)))
unfolding issue_from due_from
tick_between =
    record {
      station = after freshly (started 3 ∷ started 4 ∷ []);
      reached = stepped (stepped fresh_reached (started 3).event (search rules) [] 0) (started 4).event (search rules) [] 0;
      differs = λ any. eqb-false 2000 2010 refl (ap (λ (s : Station). (get_or s.entries 0 blank).deadline) any.station);
    }
