-- The theorem of two stations, from the invariant.
use Prim.Native.Nat.{ℕ, ◌≤◌}
use mathlib.Core.Path.{◌≡◌, refl, sym, ◌∙◌}
use mathlib.Core.Bool.{true, false, true≢false, false≢true}
use mathlib.Core.List.{List, [], ◌∷◌}
use mathlib.Core.Logic.{◌⊎◌, inl, inr, ⊎_elim}
use Rattle.std.specs.Prelude.{Option, Some}
use borrow.Author.Tests.{eqb-true, eqb-false, ne_eqb}
use native.Mathlib.Omega.{arith}
use lib.Dec.{eqb}
use Rattle.laws.proofs.Tests.{by_cases, clash, refuted}
use Rattle.records.specs.declared.Record.{Record}
use Rattle.promises.proofs.Interface.{laws}
use Rattle.promises.proofs.Shown.{shown}
use Rattle.table.specs.declared.Answer.{Answer}
use Rattle.table.specs.declared.Station.{Station}
use Rattle.promises.specs.Views.{Outgoing, NotOut, Preparing, Prepared, Incoming, NotHeld, Held, some_out, some_held, out, held, due, sent, to, is_other_ending, Source, asks, readies, keeps, StepLaws}
use Rattle.pair.specs.Theorem.{is_ending, EndsOnce, AsFixed, HeldAsFixed, OutgoingAsked, AtRest, Past, starts, Still, here, onward, NoneDueAt, Demand}
use Rattle.pair.specs.World.{Side, other, Refused, Envelope, World, record_of, is_message, act, Comes, All, nothing, Acts, Step, acts, loses}
use Rattle.pair.proofs.Lists.{all_map}
use Rattle.pair.proofs.Posting.{posted_to, all_posted}
use Rattle.pair.proofs.Taking.{taken_of, first_of, left}
use Rattle.pair.proofs.Loss.{all_fewer}
use Rattle.pair.proofs.Directions.{Direction, direction}
use Rattle.pair.proofs.Invariant.{kind_of, outgoing, Invariant}
use Rattle.pair.proofs.Reaching.{on_sides, remain, answer_laws, AllTimely, Good, acted, stepping, reached}
use Rattle.pair.proofs.Targets.{granting, denying}

-- A tick is no start.
pub tick_starts_none : {p : ℕ} {x : Station} {e : Record} {a : Answer} → Source p x e a → e.kind ≡ 15 → to 1 p a ≡ false
tick_starts_none (asks x) tick = absurd (omega arith)
tick_starts_none (readies x) tick = x.silent
tick_starts_none (keeps x) tick = x.silent

-- ---- one ending

no_out : (v : Outgoing) → (some_out v ≡ true → ⊥) → v ≡ NotOut
no_out NotOut none = refl
no_out Preparing none = absurd (none refl)
no_out (Prepared other admitted) none = absurd (none refl)

no_held : (v : Incoming) → (some_held v ≡ true → ⊥) → v ≡ NotHeld
no_held NotHeld none = refl
no_held (Held other admitted) none = absurd (none refl)

-- An ending is failed, moved, or one of the four others.
other_ending : (z : ℕ) → is_ending z ≡ true → (z ≡ 1 → ⊥) → (z ≡ 3 → ⊥) → is_other_ending z ≡ true
other_ending z is not_one not_three = rw (ne_eqb z 1 not_one, ne_eqb z 3 not_three) at is

module _ (s : Side) (d : Direction) (i : Invariant s d) (none : (j : ℕ) → outgoing d j ≡ NotOut) where
  -- The record of a handover that was asked for is not there: so the handover has ended, once.
  ends_once : (h : ℕ) → (d.handovers h).asked ≡ true → EndsOnce (d.handovers h)
  ends_once h asked = ⊎_elim (λ live. absurd (false≢true (rw gone at live))) once (i.ended h asked)
    where
      gone : record_of d.numbers (outgoing d) h ≡ NotOut
      gone = by_cases (eqb (d.numbers.issue_of (d.numbers.number_of h)) h) (λ t. rw t (none (d.numbers.number_of h))) (λ t. rw t)

      once : (z : ℕ) × ((d.handovers h).endings ≡ z ∷ []) × (is_ending z ≡ true) → EndsOnce (d.handovers h)
      once (z, one, is) =
          let failed : z ≡ 1 → (d.handovers h).answer ≡ Refused = λ first. i.failed h (rw first at one) in
          record {
            end = z;
            one = one;
            is_ending_lem = is;
            failed = failed;
            moved = (
              λ three. let released = (i.moved h).0 (rw three at one) in (i.while_prepared h released, released),
              λ both. let moved = (i.moved h).1 both.1 in cc,
            );
            release_missed = λ arrived not_released.
                other_ending z is
                (λ first.
                let refused = failed first in
                let fixed = (i.arrived h arrived).2 in
                clash (cc))
                (λ third. true≢false (sym ((i.moved h).0 (rw third at one)) ∙ not_released));
          }

module _ (peer : Side → ℕ) where
  -- An outgoing record is that of the issue that gave its own ID.
  outgoing_asked : {w : World} → Good peer w → (s : Side) → OutgoingAsked peer w s
  outgoing_asked {w} good s i there =
      let inv = good.invariant s in
      let issued = inv.issued i (inv.used i ((laws (good.reached s)).view (peer s) i (inl there))) in
      let live = inv.live i there in
      ((w.numbers s).issue_of i, issued.1, refl, live.0, live.1)

  -- "A prepared handover carries the number and set the target fixed for that very request."
  as_fixed : {w : World} → Good peer w → (s : Side) → AsFixed peer w s
  as_fixed good s i number set ready =
      let of = outgoing_asked good s i (rw ready) in
      (of.0, of.1, of.2, of.3, rw of.2 at ((good.invariant s).prepared i number set ready))

  -- A held record is that of the handover for which its New ID was fixed.
  held_as_fixed : {w : World} → Good peer w → (s : Side) → HeldAsFixed peer w s
  held_as_fixed {w} good s old number set there =
      let for = (good.invariant s).held number old set there in
      (w.fixed_for s number, for.0, refl, for.2, for.1)

  -- Where no record of the other station has a deadline there is none: every one has.
  at_rest : {w : World} → Good peer w → (s : Side) → ((i d : ℕ) → due (w.station s) (peer s) i ≡ Some d → ⊥) → AtRest peer w s
  at_rest {w} good s never =
      record {
        no_reservation = λ i. no_held (held (w.station s) (peer s) i) (λ there. none i (inr there));
        no_outgoing = no_outgoing;
        no_place = λ j h of low high. let timer = (shown (good.reached s) j h).timed low high in never _ _ (rw of at timer);
        ended = ends_once s (direction peer w s) (good.invariant s) no_outgoing;
      }
    where
      none : (i : ℕ) → (some_out (out (w.station s) (peer s) i) ≡ true) ⊎ (some_held (held (w.station s) (peer s) i) ≡ true) → ⊥
      none i there = let timer = (laws (good.reached s)).timed (peer s) i there in never i timer.0 timer.1

      no_outgoing : (i : ℕ) → out (w.station s) (peer s) i ≡ NotOut
      no_outgoing i = no_out (out (w.station s) (peer s) i) (λ there. none i (inl there))

  -- ---- steps in which nothing starts

  -- no request and no answer (kinds 1 to 3) is under way; so none is beyond the limit
  abbrev Quiet : List Envelope → Type 0
  Quiet messages = All (λ m. 1 ≤ kind_of m → kind_of m ≤ 3 → ⊥) messages

  abbrev Calm : World → Type 0
  Calm w = (s : Side) → Quiet (w.queue s)

  calm_timely : (w : World) → Calm w → AllTimely w
  calm_timely w calm r s = all_map (λ m none low high. absurd (none low high)) (calm r)

  -- After such steps that is still so, and no record of the other station has got a deadline.
  record Calmly (v w : World) : Type 0 where
    calm : Calm w
    due_before : (s : Side) (i d : ℕ) → due (w.station s) (peer s) i ≡ Some d → due (v.station s) (peer s) i ≡ Some d

  module _ (w : World) (calm : Calm w) (s : Side) (e : Record) (a : Answer) (taken : Option Envelope) (rest : List Envelope)
      (step : StepLaws (w.station s) e a) (comes : Comes (peer s) e (w.queue (other s)) taken rest) (no_request : to 1 (peer s) a ≡ false) where
    -- An event from the other station was under way, so it is no request and no answer; and none is sent.
    none_comes : (k : ℕ) → 1 ≤ k → k ≤ 3 → e.kind ≡ k → e.neighbour ≡ peer s → ⊥
    none_comes k low high kind from =
        let t = taken_of k low (omega arith) kind from comes in
        first_of t (calm (other s)) (omega arith) (omega arith)

    no_acknowledge : to 2 (peer s) a ≡ false
    no_acknowledge =
        refuted (to 2 (peer s) a)
        (λ t. let g = granting (step.target (peer s)) t in none_comes 1 (omega arith) (omega arith) g.kind g.neighbour)

    no_failure : to 3 (peer s) a ≡ false
    no_failure =
        refuted (to 3 (peer s) a)
        (λ t. let g = denying (step.target (peer s)) t in none_comes 1 (omega arith) (omega arith) g.kind g.neighbour)

    none_sent : is_message (peer s) (sent a) ≡ true → 1 ≤ (sent a).kind → (sent a).kind ≤ 3 → ⊥
    none_sent t low high =
        by_cases (eqb (sent a).kind 1)
        (λ u. true≢false (sym (posted_to (peer s) a 1 t (eqb-true (sent a).kind 1 u)) ∙ no_request))
        (λ u. by_cases (eqb (sent a).kind 2)
        (λ v. true≢false (sym (posted_to (peer s) a 2 t (eqb-true (sent a).kind 2 v)) ∙ no_acknowledge))
        (λ v. true≢false (sym (posted_to (peer s) a 3 t (omega (arith, eqb-false (sent a).kind 1 u, eqb-false (sent a).kind 2 v))) ∙ no_failure)))

    acted_due : (i d : ℕ) → due a.station (peer s) i ≡ Some d → due (w.station s) (peer s) i ≡ Some d
    acted_due i d now =
        ⊎_elim (λ was. was)
        (⊎_elim (λ one. absurd (true≢false (sym one ∙ no_request)))
        (⊎_elim (λ two. absurd (true≢false (sym two ∙ no_acknowledge)))
        (λ both. absurd (none_comes 2 (omega arith) (omega arith) both.0 both.1))))
        (step.due_before (peer s) i d now)

    acted_calmly : Calmly w (act peer w s e a taken rest)
    acted_calmly =
        record {
          calm = on_sides (λ r messages. Quiet messages) s (all_posted (peer s) _ (w.queue s) (calm s) none_sent) (left comes (calm (other s)));
          due_before = on_sides (λ r x. (i d : ℕ) → due x (peer r) i ≡ Some d → due (w.station r) (peer r) i ≡ Some d) s acted_due (λ i d now. now);
        }

  module _ {w : World} (good : Good peer w) (calm : Calm w) where
    acts_calmly : {w' : World} (s : Side) (e : Record) (a : Answer) → Acts peer w s e a w' → to 1 (peer s) a ≡ false → Calmly w w'
    acts_calmly s e a x no_request = rw x.becomes (acted_calmly w calm s e a x.taken x.rest (answer_laws (good.reached s) x.answers) x.comes no_request)

    calmly : {w' : World} (x : Step peer w w') → starts peer x ≡ false → Calmly w w'
    calmly (acts s e a x) no_request = acts_calmly s e a x no_request
    calmly (loses s x) no_request = record { calm = λ r. all_fewer (remain w s x r) (calm r); due_before = λ r i d now. now }

  calmly_all : {w w' : World} → Good peer w → Calm w → Still peer w w' → Good peer w' × Calmly w w'
  calmly_all good calm here = (good, record { calm = calm; due_before = λ s i d now. now })
  calmly_all good calm (onward {w' = w'} still x none) =
      let before = calmly_all good calm still in
      let after = calmly before.0 before.1.calm x none in (
        stepping peer before.0 x (calm_timely w' after.calm),
        record { calm = after.calm; due_before = λ s i d now. before.1.due_before s i d (after.due_before s i d now) },
      )

  -- ---- the clocks

  -- What a tick past every deadline answers with reply 9: none of them is there, nor comes later.
  module _ {w w' : World} (good : Good peer w) (calm : Calm w) (s : Side) (t : ℕ) (past : Past peer w s t) (n : NoneDueAt peer s t w w') where
    settles_at : AtRest peer w' s
    settles_at =
        let before = calmly_all good calm n.still in
        let step = answer_laws (before.0.reached s) n.acts.answers in
        let tick = acts_calmly before.0 before.1.calm s n.event n.answer n.acts (tick_starts_none (step.source (peer s)) n.kind) in
        let later = calmly_all (acted peer s n.event n.answer before.0 n.acts (calm_timely n.after tick.calm)) tick.calm n.later in
        at_rest later.0 s
        (λ i d now.
        let ticked = tick.due_before s i d (later.1.due_before s i d now) in
        let above = step.nine (peer s) i d n.kind n.none_due ticked in
        let below = past i d (before.1.due_before s i d ticked) in
        let time = n.time in
        omega arith)

  pub demand : Demand peer
  demand =
      record {
        fixed = λ w run. as_fixed (reached peer run);
        held_fixed = λ w run. held_as_fixed (reached peer run);
        outgoing_asked = λ w run. outgoing_asked (reached peer run);
        settles = λ w w' run x s.
            settles_at (reached peer run) (λ r. rw (x.empty r) nothing) s (x.time s) (x.past s) (x.none_due s);
        settled = λ w run x s.
            let good = reached peer run in
            at_rest good s
            (λ i d now.
            let above = (answer_laws (good.reached s) (x.answers s)).nine (peer s) i d (x.kind s) (x.none_due s) now in
            let below = x.past s i d now in
            omega arith);
      }
