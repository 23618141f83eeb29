-- What each reply means for the station, the ending, the count and the message.
use Prim.Native.Nat.{ℕ, ◌+◌, ◌-◌, ◌≤◌, ◌<◌}
use mathlib.Core.Path.{◌≡◌, refl}
use mathlib.Core.List.{List}
use native.Mathlib.Omega.{arith}
use lib.ListN.{get_or}
use lib.Seq.{set-get_or}
use Rattle.laws.proofs.Sums.{total_at}
use Rattle.records.specs.declared.Record.{Record}
use Rattle.table.specs.declared.Answer.{Answer}
use Rattle.handover.specs.declared.Decision.{Decision}
use Rattle.handover.specs.declared.Entry.{Entry}
use Rattle.table.specs.declared.Station.{Station}
use Rattle.handover.specs.Events.{about, decide, refusal, silence}
use Rattle.handover.specs.Numbers.{blank}
use Rattle.table.specs.Sound.{Sound}
use Rattle.bearers.specs.declared.Flaw.{Flaw}
use Rattle.table.specs.Step.{malformed, carried, failure, step_of}
use Rattle.table.specs.Table.{at, put}
use Rattle.handover.proofs.Deciding.{decide_as}
use Rattle.table.proofs.Parts.{Malformed, Refusal, Part, as_refusal, as_response, as_failure, as_grant, as_start, as_reset, as_idle, as_tick, as_event, part}
use Rattle.table.proofs.Placing.{found_place}
use Rattle.table.proofs.Resetting.{same_station}
use Rattle.handover.proofs.Rows.{due_ends}
use Rattle.promises.proofs.Ticks.{soonest_due_lem}

-- the replies that there are: 0, 2 to 15
pub record Listed (n : ℕ) : Type 0 where
  pub most : n ≤ 15
  pub other : n ≡ 1 → ⊥

-- what holds of an answer, by its reply
pub record Proper (s : Station) (e : Record) (a : Answer) : Type 0 where
  pub listed : Listed a.outcome.reply
  pub kept : Sound s → (a.outcome.reply ≡ 0 → ⊥) → (a.outcome.reply ≡ 9 → ⊥) → a.station ≡ s
  pub clocked : a.outcome.reply ≡ 9 → a.station ≡ at e.time s
  pub ends : (a.outcome.reply ≡ 0 → ⊥) → (a.outcome.ending ≡ 0) × (a.outcome.count ≡ 0)
  pub silent : (a.outcome.reply ≡ 0 → ⊥) → (a.outcome.reply ≡ 4 → e.kind ≡ 1 → ⊥) → (a.outcome.reply ≡ 5 → ⊥) → a.outcome.message ≡ silence

-- ---- a decision

-- What is decided of a record is done, or one of the two refusals, which leave it as it was.
decide_or : (P : Decision → Type 0) (e : Record) (r : Entry) (deadline : ℕ) → ((d : Decision) → d.reply ≡ 0 → P d) → P (refusal 6 r) → P (refusal 7 r) → P (decide e r deadline)
decide_or P e r deadline done six seven =
    decide_as P e r deadline six seven (λ _ _ _. done _ refl) (λ _ _. done _ refl) (λ _ _ _. done _ refl) (λ _ _. done _ refl) (λ _. done _ refl)

-- A place may be given the record that it has: the units in use are then what they were.
put_same : (s : Station) (i : ℕ) → Sound s → i < 64 → put i (get_or s.entries i blank) s ≡ s
put_same s i sound place =
    let units = total_at (λ r. r.units) s.entries i blank (omega (arith, sound.places)) in
    let used : s.used - (get_or s.entries i blank).units + (get_or s.entries i blank).units ≡ s.used = omega (arith, sound.sum) in
    same_station s (set-get_or s.entries i blank) used

-- ---- the parts of a step

module _ (s : Station) (e : Record) where
  -- What is done needs no more.
  done : (a : Answer) → a.outcome.reply ≡ 0 → Proper s e a
  done a zero =
      record {
        listed = record { most = omega arith; other = λ one. absurd (omega arith) };
        kept = λ _ some _. absurd (some zero);
        clocked = λ nine. absurd (omega arith);
        ends = λ some. absurd (some zero);
        silent = λ some _ _. absurd (some zero);
      }

  -- A refusal of the station as it was is proper.
  left : {bearers : List ℕ} {room : ℕ} (f : Flaw) → Refusal e bearers room f.reply → Proper s e (malformed f s)
  left f refusal =
      record {
        listed = record { most = refusal.high; other = λ one. omega (arith, refusal.low) };
        kept = λ _ _ _. refl;
        clocked = λ nine. absurd (refusal.timely nine);
        ends = λ _. (refl, refl);
        silent = λ _ _ _. refl;
      }

  -- So is what is decided of a record of the table.
  carried_proper : (i deadline : ℕ) → (Sound s → i < 64) → Proper s e (carried i (decide e (get_or s.entries i blank) deadline) s)
  carried_proper i deadline place =
      let r = get_or s.entries i blank in
      decide_or (λ d. Proper s e (carried i d s)) e r deadline
      (λ d zero. done (carried i d s) zero) (same 6 (omega arith) (omega arith)) (same 7 (omega arith) (omega arith))
    where
      same : (n : ℕ) → 2 ≤ n → n ≤ 8 → Proper s e (carried i (refusal n (get_or s.entries i blank)) s)
      same n low high =
          record {
            listed = record { most = omega arith; other = λ one. absurd (omega arith) };
            kept = λ sound _ _. put_same s i sound (place sound);
            clocked = λ nine. absurd (omega arith);
            ends = λ _. (refl, refl);
            silent = λ _ _ _. refl;
          }

  -- A failure is sent for a request.
  failed : (n : ℕ) → e.kind ≡ 1 → 4 ≤ n → n ≤ 5 → Proper s e (failure n e s)
  failed n one low high =
      record {
        listed = record { most = omega arith; other = λ one. absurd (omega arith) };
        kept = λ _ _ _. refl;
        clocked = λ nine. absurd (omega arith);
        ends = λ _. (refl, refl);
        silent = λ _ four five. let other : n ≡ 4 → ⊥ = λ t. four t one in absurd (omega arith);
      }

  -- So is every part of a step.
  part_proper : {bearers : List ℕ} {room : ℕ} {a : Answer} → Part s e bearers room a → Proper s e a
  part_proper (as_refusal f is) = left f is
  part_proper (as_response _) = done _ refl
  part_proper (as_failure n low high one) = failed n one low high
  part_proper (as_grant i _ _ _ _ _) = done _ refl
  part_proper (as_start i _ _ _) = done _ refl
  part_proper (as_reset _) = done _ refl
  part_proper (as_idle _ _) =
      record {
        listed = record { most = omega arith; other = λ one. absurd (omega arith) };
        kept = λ _ _ other. absurd (other refl);
        clocked = λ _. refl;
        ends = λ _. (refl, refl);
        silent = λ _ _ _. refl;
      }
  part_proper (as_tick i _ fifteen found) = done _ (due_ends e (get_or s.entries i blank) 0 fifteen (soonest_due_lem e fifteen s i found).mine).0
  part_proper (as_event i _ _ found) = carried_proper i (s.clock + s.settings.overall) (λ sound. found_place s sound (about e) i found)

-- ---- what is malformed

module _ (s : Station) (e : Record) (bearers : List ℕ) (room : ℕ) where
  -- A reply of 10 or more is for what is malformed.
  part_malformed : {a : Answer} → Part s e bearers room a → 10 ≤ a.outcome.reply → Malformed e bearers room
  part_malformed (as_refusal f is) ten = is.why ten
  part_malformed (as_response _) ten = absurd (omega arith)
  part_malformed (as_failure n low high _) ten = absurd (omega arith)
  part_malformed (as_grant i _ _ _ _ _) ten = absurd (omega arith)
  part_malformed (as_start i _ _ _) ten = absurd (omega arith)
  part_malformed (as_reset _) ten = absurd (omega arith)
  part_malformed (as_idle _ _) ten = absurd (omega arith)
  part_malformed (as_tick i _ fifteen found) ten = absurd (omega (arith, ten, (due_ends e (get_or s.entries i blank) 0 fifteen (soonest_due_lem e fifteen s i found).mine).0))
  part_malformed (as_event i _ _ found) ten =
      decide_or (λ d. 10 ≤ d.reply → Malformed e bearers room) e (get_or s.entries i blank) (s.clock + s.settings.overall) (λ d zero many. absurd (omega arith)) (λ many. absurd (omega arith)) (λ many. absurd (omega arith)) ten

-- ---- the step

module _ (s : Station) (e : Record) (bearers : List ℕ) (room : ℕ) where
  proper : Proper s e (step_of s e bearers room)
  proper = part_proper s e (part s e bearers room)

  -- Every reply is one of those listed: 0, 2 to 15.
  pub reply_listed : Listed (step_of s e bearers room).outcome.reply
  reply_listed = proper.listed

  -- A reply of 10 or more is for what is malformed.
  pub malformed_only : 10 ≤ (step_of s e bearers room).outcome.reply → Malformed e bearers room
  malformed_only = part_malformed s e bearers room (part s e bearers room)

  -- A refusal leaves the station as it was.
  pub refusal_changes_nothing : Sound s → ((step_of s e bearers room).outcome.reply ≡ 0 → ⊥) → ((step_of s e bearers room).outcome.reply ≡ 9 → ⊥) → (step_of s e bearers room).station ≡ s
  refusal_changes_nothing = proper.kept

  -- Where nothing is due, the clock alone is set.
  pub nothing_due_sets_clock : (step_of s e bearers room).outcome.reply ≡ 9 → (step_of s e bearers room).station ≡ at e.time s
  nothing_due_sets_clock = proper.clocked

  -- A refusal ends no record and admits no bearer.
  pub refusal_ends_nothing : ((step_of s e bearers room).outcome.reply ≡ 0 → ⊥) → ((step_of s e bearers room).outcome.ending ≡ 0) × ((step_of s e bearers room).outcome.count ≡ 0)
  refusal_ends_nothing = proper.ends

  -- A message is sent with replies 0 and 5, and with reply 4 to a request, and with no other.
  pub refusal_silent :
      ((step_of s e bearers room).outcome.reply ≡ 0 → ⊥)
      → ((step_of s e bearers room).outcome.reply ≡ 4 → e.kind ≡ 1 → ⊥)
      → ((step_of s e bearers room).outcome.reply ≡ 5 → ⊥)
      → (step_of s e bearers room).outcome.message ≡ silence
  refusal_silent = proper.silent
