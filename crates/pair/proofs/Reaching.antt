-- Every world that two fresh stations reach keeps the invariant in both directions: at the start nothing is there; a station that takes
-- an event is a source in its own direction and a target in the other; and a message that is lost goes from one queue of each.
use Prim.Native.Nat.{ℕ}
use mathlib.Core.Path.{refl}
use mathlib.Core.List.{List}
use Rattle.std.specs.Prelude.{Option}
use Rattle.records.specs.Record.{InRange}
use Rattle.records.specs.declared.Record.{Record}
use Rattle.promises.proofs.Interface.{laws, step_laws}
use Rattle.table.specs.declared.Answer.{Answer}
use Rattle.table.specs.declared.Station.{Station}
use Rattle.table.specs.Reached.{Reached, stepped}
use Rattle.promises.specs.Views.{StepLaws}
use Rattle.pair.specs.World.{Side, A, B, other, sides, Envelope, World, issued_after, act, Answers, Comes, All, nothing, with_queue, Acts, Loses, Step, acts, loses, start, Fresh, Bounded, Course, begin, next, Limited, Run}
use Rattle.pair.proofs.Lists.{all_map}
use Rattle.pair.proofs.Directions.{direction, Timely}
use Rattle.pair.proofs.Invariant.{Invariant}
use Rattle.pair.proofs.Beginning.{fresh_reached, beginning}
use Rattle.pair.proofs.Loss.{Fewer, same, without, all_fewer, loss}
use Rattle.pair.proofs.SourceTurn.{source_turn}
use Rattle.pair.proofs.TargetTurn.{target_turn}

-- What holds of what one side has, and of what the other has, holds of what each has.
pub on_sides : {T : Type 0} (P : Side → T → Type 0) (s : Side) {here there : T} → P s here → P (other s) there → (r : Side) → P r (sides s here there r)
on_sides P A mine others A = mine
on_sides P A mine others B = others
on_sides P B mine others A = others
on_sides P B mine others B = mine

-- Where a message is lost, of what each side has sent there is as much as before, or one less.
pub remain : (w : World) (s : Side) {rest : List Envelope} → Loses (w.queue s) rest → (r : Side) → Fewer ((with_queue w s rest).queue r) (w.queue r)
remain w s x = on_sides (λ r messages. Fewer messages (w.queue r)) s (rw (x.was, x.left) (without x.older x.lost x.younger)) same

-- What a reached station answers keeps the laws, and leaves a reached station.
pub answer_laws : {x : Station} {e : Record} {a : Answer} → Reached x → Answers x e a → StepLaws x e a
answer_laws {e = e} reached y = rw y.stepped (step_laws reached e y.bearers y.room)

answer_reached : {x : Station} {e : Record} {a : Answer} → Reached x → InRange e → Answers x e a → Reached a.station
answer_reached {e = e} reached range y = rw y.stepped (stepped reached e range y.bearers y.room)

-- Every request and every answer under way is within the limit.
abbrev pub AllTimely : World → Type 0
AllTimely w = (r s : Side) → All (Timely s (w.numbers s)) (w.queue r)

pub bounded_timely : (w : World) → Bounded w → AllTimely w
bounded_timely w bounded r s = all_map (λ m within low high. within) (bounded r s)

module _ (peer : Side → ℕ) where
  -- Whatever the history says, each station is one that a fresh one reached: its steps look at nothing else.
  pub record Good (w : World) : Type 0 where
    pub reached : (s : Side) → Reached (w.station s)
    pub timely : AllTimely w
    pub invariant : (s : Side) → Invariant s (direction peer w s)

  first : (stations : Side → Station) → ((s : Side) → Fresh (stations s)) → Good (start stations)
  first stations new =
      record { reached = λ s. fresh_reached (stations s) (new s); timely = λ r s. nothing; invariant = beginning peer stations new }

  -- ---- a station takes an event

  module _ (w : World) (good : Good w) (e : Record) (a : Answer) (taken : Option Envelope) (rest : List Envelope) where
    turned : (s : Side) → StepLaws (w.station s) e a → Comes (peer s) e (w.queue (other s)) taken rest → AllTimely (act peer w s e a taken rest)
        → (r : Side) → Invariant r (direction peer (act peer w s e a taken rest) r)
    turned A step comes after A =
        source_turn A (direction peer w A) e a taken rest (λ r. (issued_after w A a r).issued_count) (w.fixed_for B)
        (record {
          laws = laws (good.reached A);
          step = step;
          comes = comes;
          stamped = refl;
          requests_timely = after A A;
          answers_timely = after B A;
        })
        (good.invariant A)
    turned A step comes after B =
        target_turn {s = B} {d = direction peer w B} {stamp = λ r. (issued_after w A a r).issued_count} {own = w.numbers A}
        (record { laws = laws (good.reached A); step = step; comes = comes; stamped = refl; requests_timely = good.timely B B })
        (good.invariant B)
    turned B step comes after A =
        target_turn {s = A} {d = direction peer w A} {stamp = λ r. (issued_after w B a r).issued_count} {own = w.numbers B}
        (record { laws = laws (good.reached B); step = step; comes = comes; stamped = refl; requests_timely = good.timely A A })
        (good.invariant A)
    turned B step comes after B =
        source_turn B (direction peer w B) e a taken rest (λ r. (issued_after w B a r).issued_count) (w.fixed_for A)
        (record {
          laws = laws (good.reached B);
          step = step;
          comes = comes;
          stamped = refl;
          requests_timely = after B B;
          answers_timely = after A B;
        })
        (good.invariant B)

  pub acted : {w w' : World} (s : Side) (e : Record) (a : Answer) → Good w → Acts peer w s e a w' → AllTimely w' → Good w'
  acted {w} s e a good x timely =
      let after : AllTimely (act peer w s e a x.taken x.rest) = rw x.becomes at timely in
      rw x.becomes
      (record {
        reached = on_sides (λ r x. Reached x) s (answer_reached (good.reached s) x.range x.answers) (good.reached (other s));
        timely = after;
        invariant = turned w good e a x.taken x.rest s (answer_laws (good.reached s) x.answers) x.comes after;
      })

  -- ---- a message is lost

  lost : {w : World} (s : Side) {rest : List Envelope} → Good w → Loses (w.queue s) rest → Good (with_queue w s rest)
  lost {w} s good x =
      record {
        reached = good.reached;
        timely = λ r q. all_fewer (remain w s x r) (good.timely r q);
        invariant = λ r. loss r (direction peer w r) _ _ (remain w s x r) (remain w s x (other r)) (good.invariant r);
      }

  -- ---- so every world that is reached

  pub stepping : {w w' : World} → Good w → Step peer w w' → AllTimely w' → Good w'
  stepping good (acts s e a x) timely = acted s e a good x timely
  stepping good (loses s x) timely = lost s good x

  along : {w : World} (c : Course peer w) → Limited peer c → Good w
  along (begin stations new) limited = first stations new
  along (next {w' = w'} before step) limited = stepping (along before limited.0) step (bounded_timely w' limited.1)

  pub reached : {w : World} → Run peer w → Good w
  reached run = along run.course run.limited
