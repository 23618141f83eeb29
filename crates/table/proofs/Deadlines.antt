-- When a timer runs out: the three sums, from the clock.
use Rattle.std.specs.Prelude.{Some}
use Prim.Native.Nat.{ℕ, ◌+◌, ◌<◌}
use mathlib.Core.Path.{◌≡◌, refl}
use mathlib.Core.Bool.{true}
use mathlib.Core.List.{List}
use borrow.Author.Tests.{eq-eqb}
use store.Seg.{eqb_same}
use native.Mathlib.Omega.{arith}
use lib.ListN.{get_or}
use lib.Seq.{get_or-set_same}
use Rattle.records.specs.declared.Record.{Record}
use Rattle.handover.specs.declared.Entry.{Entry}
use Rattle.handover.specs.Events.{about, prepared}
use Rattle.handover.specs.Numbers.{is_free, blank, own_is}
use Rattle.handover.proofs.Done.{acknowledge_done}
use Rattle.handover.proofs.Keys.{same_neighbour, same_old}
use Rattle.table.specs.declared.Answer.{Answer}
use Rattle.table.specs.declared.Station.{Station}
use Rattle.table.specs.Sound.{Sound}
use Rattle.table.specs.Step.{issue, started, held_for, admission, taken, step_of}
use Rattle.table.specs.Table.{find, add}
use Rattle.table.proofs.Finding.{found_here}
use Rattle.table.proofs.Parts.{Part, as_refusal, as_response, as_failure, as_grant, as_start, as_reset, as_idle, as_tick, as_event, part}
use Rattle.table.proofs.Placing.{found_place}

-- a record of a neighbour stands in the table that has an own ID and a deadline
pub record Due (neighbour id deadline : ℕ) (s : Station) : Type 0 where
  pub place : ℕ
  pub within : place < 64
  pub own : own_is id (get_or s.entries place blank) ≡ true
  pub its : (get_or s.entries place blank).neighbour ≡ neighbour
  pub time : (get_or s.entries place blank).deadline ≡ deadline

-- What is done is due: a start, by the Old ID that it sends, at clock plus prep; an acknowledge, by its Old ID, at clock plus overall; a
-- request, by the New ID that it sends, at clock plus guard.
pub record Timed (s : Station) (e : Record) (a : Answer) : Type 0 where
  pub start : e.kind ≡ 9 → a.outcome.reply ≡ 0 → Due e.neighbour a.outcome.message.old.0 (s.clock + s.settings.prep) a.station
  pub acknowledge : e.kind ≡ 2 → a.outcome.reply ≡ 0 → Due e.neighbour e.old.0 (s.clock + s.settings.overall) a.station
  pub request : e.kind ≡ 1 → a.outcome.reply ≡ 0 → Due e.neighbour a.outcome.message.new.0 (s.clock + s.settings.guard) a.station

module _ (s : Station) (sound : Sound s) (e : Record) (bearers : List ℕ) (room : ℕ) where
  -- What is not done, and what is none of the three, starts no timer.
  undone : {a : Answer} → (a.outcome.reply ≡ 0 → ⊥) → Timed s e a
  undone never = record { start = λ _ zero. absurd (never zero); acknowledge = λ _ zero. absurd (never zero); request = λ _ zero. absurd (never zero) }

  untimed : {a : Answer} → (e.kind ≡ 9 → ⊥) → (e.kind ≡ 2 → ⊥) → (e.kind ≡ 1 → ⊥) → Timed s e a
  untimed nine two one = record { start = λ k _. absurd (nine k); acknowledge = λ k _. absurd (two k); request = λ k _. absurd (one k) }

  -- A record that is made stands at its place.
  made : (i : ℕ) (r : Entry) → find is_free s ≡ Some i → own_is (issue s) r ≡ true → Due r.neighbour (issue s) r.deadline (add i (issue s) r s)
  made i r free mine =
      let here = get_or-set_same s.entries i r blank (found_here is_free s i free).0 in
      record { place = i; within = found_place s sound is_free i free; own = rw here mine; its = rw here; time = rw here }

  part_timed : {a : Answer} → Part s e bearers room a → Timed s e a
  part_timed (as_refusal f refusal) = undone (λ zero. omega (arith, refusal.low))
  part_timed (as_response kind) = untimed (λ k. cc (rw k at kind)) (λ k. cc (rw k at kind)) (λ k. cc (rw k at kind))
  part_timed (as_failure n low _ _) = undone (λ zero. omega arith)
  part_timed (as_grant i _ one _ _ free) =
      record {
        start = λ nine _. absurd (omega arith);
        acknowledge = λ two _. absurd (omega arith);
        request = λ _ _. made i (held_for e (admission (taken e bearers) s) s) free (eqb_same (issue s));
      }
  part_timed (as_start i _ nine free) =
      record {
        start = λ _ _. made i (started e s) free (rw (eqb_same (issue s)));
        acknowledge = λ two _. absurd (omega arith);
        request = λ one _. absurd (omega arith);
      }
  part_timed (as_reset kind) = untimed (λ k. cc (rw k at kind)) (λ k. cc (rw k at kind)) (λ k. cc (rw k at kind))
  part_timed (as_idle _ _) = undone (λ zero. omega arith)
  part_timed (as_tick i _ fifteen _) = untimed (λ k. omega arith) (λ k. omega arith) (λ k. omega arith)
  part_timed (as_event i _ single found) =
      record {
        start = λ nine _. absurd (cc (rw nine at single));
        acknowledge = λ two zero.
            let r = get_or s.entries i blank in
            let mine = found_here (about e) s i found in
            let does = (acknowledge_done e r (s.clock + s.settings.overall) mine.1 zero two).2 in
            let here = get_or-set_same s.entries i (prepared r e (s.clock + s.settings.overall)) blank mine.0 in
            rw does
            (record {
              place = i;
              within = found_place s sound (about e) i found;
              own = rw here (rw (eq-eqb r.old.0 e.old.0 (same_old e r mine.1 2 two refl)));
              its = rw here (same_neighbour e r mine.1 2 two refl);
              time = rw here;
            });
        request = λ one _. absurd (cc (rw one at single));
      }

  pub timed : Timed s e (step_of s e bearers room)
  timed = part_timed (part s e bearers room)
