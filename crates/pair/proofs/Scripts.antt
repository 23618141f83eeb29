-- A script says what two stations do. The worlds that it goes through are computed with the real step, and one test over it, computed
-- too, makes it steps of the world.
use Prim.Native.Nat.{ℕ, zero, suc, ◌/◌, ◌+◌, ◌^◌, ◌<◌}
use mathlib.Core.Path.{◌≡◌, refl, sym, ap, ◌∙◌}
use mathlib.Core.Bool.{Bool, true, false, cond, not, ◌&&◌, false≢true}
use mathlib.Core.List.{List, [], ◌∷◌}
use Rattle.std.specs.Prelude.{Some, None}
use borrow.Author.Rules.{rules}
use borrow.Author.Tests.{eqb-true, eq-eqb, ltb-true, not-true}
use native.Mathlib.Omega.{arith}
use lib.Count.{ones_in, ones}
use lib.Dec.{eqb, ltb}
use lib.ListN.{length}
use Rattle.laws.specs.Sums.{total}
use Rattle.laws.proofs.Tests.{by_cases, both_true, every}
use Rattle.records.specs.Record.{little, record_of, InRange}
use Rattle.records.specs.declared.Record.{Record}
use Rattle.bearers.specs.Flaws.{all_of_kind, flaw_from}
use Rattle.bearers.specs.Admission.{those, turns_from, free_at, verdict}
use Rattle.bearers.specs.Bearer.{records_in, all_bearers}
use Rattle.sets.specs.Sets.{add, set_of}
use Rattle.promises.specs.Cases.{numbered}
use Rattle.handover.specs.Events.{message}
use Rattle.handover.specs.Numbers.{issue_from}
use Rattle.table.specs.Step.{step_of}
use Rattle.places.specs.Places.{due_from}
use Rattle.promises.specs.Views.{named, out, held, due}
use Rattle.pair.proofs.Lists.{all_pass}
use Rattle.pair.specs.World.{Side, A, B, other, Numbers, Envelope, World, act, as_sent, Carries, request, plain, is_message, own, take, All, nothing, more, Bounded, with_queue, Acts, Loses, Step, acts, loses, next, Run, limit}

-- ---- what a side does

-- It takes an event that is no message of the other side, with these bearers after it; it takes the oldest message to it, a request with
-- these bearers; a message to it is lost, before which so many stay.
pub data Move : Type 0 where
  gets : Side → Record → List ℕ → Move
  hears : Side → List ℕ → Move
  misses_after : Side → ℕ → Move

-- an event without bearers; the oldest message to it
abbrev pub does : Side → Record → Move
does s e = gets s e []

abbrev pub misses : Side → Move
misses s = misses_after s 0

-- the event that a message is when it is taken
abbrev pub arriving : ℕ → List ℕ → Record → Record
arriving p bearers m = cond (eqb m.kind 1) (numbered (length bearers / 32) 0 (message 1 p m.old.0 0 0 0 0)) (as_sent p m)

carries : (p : ℕ) (bearers : List ℕ) (m : Record) → Carries p m (arriving p bearers m)
carries p bearers m =
    by_cases (eqb m.kind 1) (λ t. rw t (request (eqb-true m.kind 1 t) refl refl refl))
    (λ t. rw t (plain (λ k. false≢true (sym t ∙ eq-eqb m.kind 1 k)) refl))

-- what is under way without the message at a place
abbrev pub without : ℕ → List Envelope → List Envelope
without n [] = []
without zero (m ∷ rest) = rest
without (suc n) (m ∷ rest) = m ∷ without n rest

module _ (peer : Side → ℕ) where
  abbrev pub hearing : World → Side → List ℕ → List Envelope → World
  hearing w s bearers [] = w
  hearing w s bearers (m ∷ rest) =
      let e = arriving (peer s) bearers m.message in
      act peer w s e (step_of (w.station s) e bearers 256) (Some m) rest

  abbrev pub missing : World → Side → ℕ → List Envelope → World
  missing w s n queue = with_queue w (other s) (without n queue)

  -- the world after a move
  abbrev pub after : World → Move → World
  after w (gets s e bearers) = act peer w s e (step_of (w.station s) e bearers 256) None (w.queue (other s))
  after w (hears s bearers) = hearing w s bearers (w.queue (other s))
  after w (misses_after s n) = missing w s n (w.queue (other s))

  -- and after all moves of a script; whatever a step says unfolds with it
  unfoldable pub played : World → List Move → World
  unfolding issue_from due_from total ones_in ones little record_of those turns_from free_at verdict records_in all_bearers all_of_kind flaw_from set_of add named out held due
  played w [] = w
  played w (m ∷ ms) = played (after w m) ms

-- ---- whether it may

-- numbers with what each is below: whether they are, and that they are
abbrev pub below : List (ℕ × ℕ) → Bool
below = every (λ i x. ltb x.0 x.1)

abbrev Below : List (ℕ × ℕ) → Type 0
Below [] = Unit {0}
Below (x ∷ xs) = (x.0 < x.1) × Below xs

each : {xs : List (ℕ × ℕ)} → All (λ x. x.0 < x.1) xs → Below xs
each nothing = tt
each (more p ps) = (p, each ps)

abbrev pub fields : Record → List (ℕ × ℕ)
fields e =
    (e.kind, 2 ^ 8) ∷ (e.neighbour, 2 ^ 8) ∷ (e.old.0, 2 ^ 16) ∷ (e.new.0, 2 ^ 16) ∷ (e.first, 2 ^ 16) ∷ (e.second, 2 ^ 16)
    ∷ (e.reason, 2 ^ 8) ∷ (e.byte11, 2 ^ 8) ∷ (e.number, 2 ^ 32) ∷ (e.time, 2 ^ 64) ∷ (e.erab, 2 ^ 8) ∷ (e.qci, 2 ^ 8)
    ∷ (e.priority, 2 ^ 8) ∷ (e.flags, 2 ^ 8) ∷ (e.bytes28, 2 ^ 32) ∷ []

pub in_range_lem : (e : Record) → below (fields e) ≡ true → InRange e
in_range_lem e t = let all : Below (fields e) = each (all_pass _ (λ i x. ltb-true x.0 x.1) (fields e) t) in search rules

-- neither side has issued 2,000 numbers since a message was sent
abbrev pub within_limit : Side → Numbers → List Envelope → Bool
within_limit s n = every (λ i m. ltb n.issued_count (m.stamp s + limit))

abbrev pub to_both : (Side → Bool) → Bool
to_both test = test A && test B

pub at_side : (test : Side → Bool) → to_both test ≡ true → (s : Side) → test s ≡ true
at_side test t A = (both_true (test A) (test B) t).0
at_side test t B = (both_true (test A) (test B) t).1

abbrev pub is_bounded : World → Bool
is_bounded w = to_both (λ r. to_both (λ s. within_limit s (w.numbers s) (w.queue r)))

pub bounded : (w : World) → is_bounded w ≡ true → Bounded w
bounded w t r s =
    all_pass _ (λ i m. ltb-true (w.numbers s).issued_count (m.stamp s + limit)) (w.queue r)
    (at_side (λ x. within_limit x (w.numbers x) (w.queue r)) (at_side (λ y. to_both (λ x. within_limit x (w.numbers x) (w.queue y))) t r) s)

-- The message at a place may be lost.
lost_at : (n : ℕ) (queue : List Envelope) → n < length queue → Loses queue (without n queue)
lost_at n [] h = absurd (omega arith)
lost_at zero (m ∷ rest) h = record { older = []; lost = m; younger = rest; was = refl; left = refl }
lost_at (suc n) (m ∷ rest) h =
    let on = lost_at n rest (omega arith) in
    record { older = m ∷ on.older; lost = on.lost; younger = on.younger; was = ap (m ∷◌) on.was; left = ap (m ∷◌) on.left }

module _ (peer : Side → ℕ) where
  abbrev pub can_hear : Side → List ℕ → List Envelope → Bool
  can_hear s bearers [] = false
  can_hear s bearers (m ∷ rest) = below (fields (arriving (peer s) bearers m.message))

  abbrev pub can_miss : ℕ → List Envelope → Bool
  can_miss n queue = ltb n (length queue)

  -- "a message event with that number is taken from the queue and from nowhere else"
  abbrev pub can : World → Move → Bool
  can w (gets s e bearers) = not (is_message (peer s) e) && below (fields e)
  can w (hears s bearers) = can_hear s bearers (w.queue (other s))
  can w (misses_after s n) = can_miss n (w.queue (other s))

  -- A move that can be made is a step.
  heard : (w : World) (s : Side) (bearers : List ℕ) (queue : List Envelope) → w.queue (other s) ≡ queue → can_hear s bearers queue ≡ true
      → Step peer w (hearing peer w s bearers queue)
  heard w s bearers [] q t = absurd (false≢true t)
  heard w s bearers (m ∷ rest) q t =
      let e = arriving (peer s) bearers m.message in
      acts s e (step_of (w.station s) e bearers 256)
      (record {
        range = in_range_lem e t;
        answers = record { bearers = bearers; room = 256; stepped = refl };
        taken = Some m;
        rest = rest;
        comes = take [] rest refl q (carries (peer s) bearers m.message);
        becomes = refl;
      })

  missed : (w : World) (s : Side) (n : ℕ) → can_miss n (w.queue (other s)) ≡ true → Step peer w (missing peer w s n (w.queue (other s)))
  missed w s n t = loses (other s) (lost_at n (w.queue (other s)) (ltb-true n (length (w.queue (other s))) t))

  pub got : (w : World) (s : Side) (e : Record) (bearers : List ℕ) → can w (gets s e bearers) ≡ true
      → Acts peer w s e (step_of (w.station s) e bearers 256) (after peer w (gets s e bearers))
  got w s e bearers t =
      let both = both_true (not (is_message (peer s) e)) (below (fields e)) t in
      record {
        range = in_range_lem e both.1;
        answers = record { bearers = bearers; room = 256; stepped = refl };
        taken = None;
        rest = w.queue (other s);
        comes = own (not-true (is_message (peer s) e) both.0);
        becomes = refl;
      }

  pub did : (w : World) (s : Side) (e : Record) → can w (does s e) ≡ true → Acts peer w s e (step_of (w.station s) e [] 256) (after peer w (does s e))
  did w s e = got w s e []

  pub step : (w : World) (m : Move) → can w m ≡ true → Step peer w (after peer w m)
  step w (gets s e bearers) t = acts s e (step_of (w.station s) e bearers 256) (got w s e bearers t)
  step w (hears s bearers) t = heard w s bearers (w.queue (other s)) refl t
  step w (misses_after s n) t = missed w s n t

  -- One that may be made keeps the limit too, and so continues a run.
  abbrev pub may : World → Move → Bool
  may w m = can w m && is_bounded (after peer w m)

  onward : {w w' : World} → Run peer w → Step peer w w' → Bounded w' → Run peer w'
  onward r x kept = record { course = next r.course x; limited = (r.limited, kept) }

  pub moves_on : {w : World} → Run peer w → (m : Move) → may w m ≡ true → Run peer (after peer w m)
  moves_on {w} r m t = let both = both_true (can w m) (is_bounded (after peer w m)) t in onward r (step w m both.0) (bounded (after peer w m) both.1)

  -- ---- scripts

  -- steps within the limit
  pub data Steps : World → World → Type 0 where
    done : {w : World} → Steps w w
    first : {v w w' : World} → Step peer w v → Bounded v → Steps v w' → Steps w w'

  pub run_on : {w w' : World} → Run peer w → Steps w w' → Run peer w'
  run_on r done = r
  run_on r (first x kept xs) = run_on (onward r x kept) xs

  -- whether each of its moves may be made
  unfoldable pub playable : World → List Move → Bool
  unfolding played
  playable w [] = true
  playable w (m ∷ ms) = may w m && playable (after peer w m) ms

  pub steps : (w : World) (script : List Move) → playable w script ≡ true → Steps w (played peer w script)
  unfolding playable played
  steps w [] t = done
  steps w (m ∷ ms) t =
      let both = both_true (may w m) (playable (after peer w m) ms) t in
      let this = both_true (can w m) (is_bounded (after peer w m)) both.0 in
      first (step w m this.0) (bounded (after peer w m) this.1) (steps (after peer w m) ms both.1)
