-- What a status that is sent says, and what one that is received leaves.
use Prim.Native.Nat.{ℕ, ◌+◌, ◌-◌, ◌<◌}
use mathlib.Core.Path.{◌≡◌, refl}
use mathlib.Core.Bool.{true, not, ◌&&◌}
use mathlib.Core.List.{List}
use borrow.Author.Tests.{eqb-false, not-true}
use native.Mathlib.Omega.{arith}
use lib.Dec.{eqb}
use lib.ListN.{get_or, set}
use Rattle.laws.proofs.Sums.{total_at}
use Rattle.laws.proofs.Tests.{by_cases, both_true}
use Rattle.records.specs.declared.Record.{Record}
use Rattle.sets.specs.Sets.{member, within}
use Rattle.sets.proofs.Membership.{within_means}
use Rattle.handover.specs.declared.Entry.{Entry}
use Rattle.handover.specs.Events.{about, message, last_word, decide}
use Rattle.handover.specs.Numbers.{blank}
use Rattle.handover.proofs.Deciding.{decide_as}
use Rattle.handover.proofs.Done.{status_done}
use Rattle.handover.proofs.Keys.{same_neighbour, same_old, status_new}
use Rattle.table.specs.declared.Answer.{Answer}
use Rattle.table.specs.declared.Station.{Station}
use Rattle.table.specs.Sound.{Sound}
use Rattle.table.specs.Step.{step_of}
use Rattle.table.proofs.Finding.{found_here}
use Rattle.table.proofs.Parts.{Part, as_refusal, as_response, as_failure, as_grant, as_start, as_reset, as_idle, as_tick, as_event, part}
use Rattle.table.proofs.Placing.{found_place, due_place}
use Rattle.table.proofs.Resetting.{same_station}

-- ---- sent

-- a status of a prepared record: its neighbour, both its IDs, and a set that is not empty and of which each bearer is admitted
pub record StatusOf (r : Entry) (m : Record) : Type 0 where
  pub prepared : r.state ≡ 2
  pub fields : m ≡ message 4 r.neighbour r.old.0 r.new.0 m.first 0 0
  pub some : m.first ≡ 0 → ⊥
  pub admitted : (k : ℕ) → member m.first k ≡ true → member r.admitted k ≡ true

-- No record's last word is a status.
last_other : (e : Record) (r : Entry) → (last_word e r).kind ≡ 4 → ⊥
last_other e r =
    by_cases (eqb e.kind 10) (λ t. rw t (λ four. omega arith))
    (λ t. by_cases (eqb e.kind 15 && eqb r.state 1) (λ u. rw (t, u) (λ four. omega arith))
    (λ u. by_cases (eqb e.kind 15 && eqb r.state 2) (λ v. rw (t, u, v) (λ four. omega arith))
    (λ v. by_cases (eqb e.kind 12) (λ x. rw (t, u, v, x) (λ four. omega arith)) (λ x. rw (t, u, v, x) (λ four. omega arith)))))

-- A status that is decided of a record is its.
decided_status : (e : Record) (r : Entry) (deadline : ℕ) → (decide e r deadline).message.kind ≡ 4 → StatusOf r (decide e r deadline).message
decided_status e r deadline =
    decide_as (λ d. d.message.kind ≡ 4 → StatusOf r d.message) e r deadline
    (λ four. absurd (omega arith)) (λ four. absurd (omega arith)) (λ _ _ _ four. absurd (omega arith)) (λ _ _ four. absurd (omega arith))
    (λ _ two fits _.
    let both = both_true (not (eqb e.first 0)) (within e.first r.admitted) fits in
    record {
      prepared = two;
      fields = refl;
      some = eqb-false e.first 0 (not-true (eqb e.first 0) both.0);
      admitted = (within_means e.first r.admitted).0 both.1;
    })
    (λ _ _ four. absurd (omega arith)) (λ _ four. absurd (last_other e r four))

module _ (s : Station) (sound : Sound s) (e : Record) (bearers : List ℕ) (room : ℕ) where
  abbrev Status : Answer → Type 0
  Status a = a.outcome.message.kind ≡ 4 → (j : ℕ) × (j < 64) × StatusOf (get_or s.entries j blank) a.outcome.message

  part_status : {a : Answer} → Part s e bearers room a → Status a
  part_status (as_refusal f _) four = absurd (omega arith)
  part_status (as_response _) four = absurd (omega arith)
  part_status (as_failure n _ _ _) four = absurd (omega arith)
  part_status (as_grant i _ _ _ _ _) four = absurd (omega arith)
  part_status (as_start i _ _ _) four = absurd (omega arith)
  part_status (as_reset _) four = by_cases (eqb e.kind 7) (λ t. absurd (omega (arith, rw t at four))) (λ t. absurd (omega (arith, rw t at four)))
  part_status (as_idle _ _) four = absurd (omega arith)
  part_status (as_tick i _ _ found) four = (i, due_place s sound e i found, decided_status e (get_or s.entries i blank) 0 four)
  part_status (as_event i _ _ found) four =
      (i, found_place s sound (about e) i found, decided_status e (get_or s.entries i blank) (s.clock + s.settings.overall) four)

  -- A status that a step sends is one of a prepared record.
  pub status_sent : Status (step_of s e bearers room)
  status_sent = part_status (part s e bearers room)

-- ---- received

-- a record with another status, and a station with another record at a place
abbrev with_status : ℕ → Entry → Entry
with_status set r =
    record {
      state = r.state;
      neighbour = r.neighbour;
      old = r.old;
      new = r.new;
      requested = r.requested;
      admitted = r.admitted;
      status = set;
      units = r.units;
      deadline = r.deadline;
    }

abbrev with_record : ℕ → Entry → Station → Station
with_record j r s = record { entries = set s.entries j r; clock = s.clock; last = s.last; used = s.used; settings = s.settings }

-- a status is stored: a record is held with its neighbour, Old and New, and has its set afterwards; all else is as it was
pub record Stores (s : Station) (e : Record) (after : Station) : Type 0 where
  pub place : ℕ
  pub inside : place < 64
  pub held : (get_or s.entries place blank).state ≡ 3
  pub neighbour : (get_or s.entries place blank).neighbour ≡ e.neighbour
  pub old : (get_or s.entries place blank).old.0 ≡ e.old.0
  pub new : (get_or s.entries place blank).new.0 ≡ e.new.0
  pub stored : after ≡ with_record place (with_status e.first (get_or s.entries place blank)) s

module _ (s : Station) (sound : Sound s) (e : Record) (bearers : List ℕ) (room : ℕ) (four : e.kind ≡ 4) where
  part_stores : {a : Answer} → Part s e bearers room a → a.outcome.reply ≡ 0 → Stores s e a.station
  part_stores (as_refusal f refusal) zero = absurd (omega (arith, refusal.low))
  part_stores (as_response kind) zero = absurd (cc (rw four at kind))
  part_stores (as_failure n low _ _) zero = absurd (omega arith)
  part_stores (as_grant i _ one _ _ _) zero = absurd (omega arith)
  part_stores (as_start i _ nine _) zero = absurd (omega arith)
  part_stores (as_reset kind) zero = absurd (cc (rw four at kind))
  part_stores (as_idle _ _) zero = absurd (omega arith)
  part_stores (as_tick i _ fifteen _) zero = absurd (omega arith)
  part_stores (as_event i _ _ found) zero =
      let r = get_or s.entries i blank in
      let place = found_place s sound (about e) i found in
      let mine = (found_here (about e) s i found).1 in
      let does = status_done e r (s.clock + s.settings.overall) mine zero four in
      let units = total_at (λ x. x.units) s.entries i blank (omega (arith, sound.places)) in
      let used : s.used - r.units + r.units ≡ s.used = omega (arith, sound.sum) in
      record {
        place = i;
        inside = place;
        held = does.0;
        neighbour = same_neighbour e r mine 4 four refl;
        old = same_old e r mine 4 four refl;
        new = status_new e r four mine;
        stored = rw does.1 (same_station s refl used);
      }

  -- A status that is done is stored.
  pub status_stored : (step_of s e bearers room).outcome.reply ≡ 0 → Stores s e (step_of s e bearers room).station
  status_stored = part_stores (part s e bearers room)
