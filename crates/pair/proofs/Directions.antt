-- One direction of the world, from a source to a target, and what a step of either does to it: each step of the world is a turn of the
-- source in one direction and a turn of the target in the other.
use Prim.Native.Nat.{ℕ, ◌≤◌}
use mathlib.Core.Path.{◌≡◌}
use mathlib.Core.List.{List, ◌++◌}
use Rattle.std.specs.Prelude.{Option}
use Rattle.records.specs.declared.Record.{Record}
use Rattle.table.specs.declared.Answer.{Answer}
use Rattle.table.specs.declared.Station.{Station}
use Rattle.promises.specs.Views.{issued, Laws, StepLaws}
use Rattle.pair.specs.World.{Side, other, Numbers, Handover, Envelope, World, issuing, at_source, at_target, fixing, marked, posted, Comes, All, WithinLimit}

-- The source and the number under which it knows the target, the target and the number under which it knows the source, the messages to
-- the target (requests are among them) and those to the source (answers and releases), and the history of the source's handovers.
pub record Direction : Type 0 where
  pub source : Station
  pub towards : ℕ
  pub target : Station
  pub back : ℕ
  pub requests : List Envelope
  pub answers : List Envelope
  pub numbers : Numbers
  pub fixed_for : ℕ → ℕ
  pub handovers : ℕ → Handover

abbrev pub direction : (Side → ℕ) → World → Side → Direction
direction peer w s =
    record {
      source = w.station s;
      towards = peer s;
      target = w.station (other s);
      back = peer (other s);
      requests = w.queue s;
      answers = w.queue (other s);
      numbers = w.numbers s;
      fixed_for = w.fixed_for s;
      handovers = w.handovers s;
    }

-- other messages under way
abbrev pub with_queues : List Envelope → List Envelope → Direction → Direction
with_queues requests answers d =
    record {
      source = d.source;
      towards = d.towards;
      target = d.target;
      back = d.back;
      requests = requests;
      answers = answers;
      numbers = d.numbers;
      fixed_for = d.fixed_for;
      handovers = d.handovers;
    }

-- The limit is needed for requests and their answers (kinds 1 to 3) alone.
abbrev pub Timely : Side → Numbers → Envelope → Type 0
Timely s n m = 1 ≤ m.message.kind → m.message.kind ≤ 3 → WithinLimit s n m

module _ (s : Side) (d : Direction) (e : Record) (a : Answer) (taken : Option Envelope) (rest : List Envelope) (stamp : Side → ℕ) where
  -- The source takes an event, perhaps the oldest message to it. `fixed` is its own side's, as a target, and free here.
  abbrev pub source_after : (ℕ → ℕ) → Direction
  source_after fixed =
      record {
        source = a.station;
        towards = d.towards;
        target = d.target;
        back = d.back;
        requests = d.requests ++ posted d.towards (marked a d.numbers taken fixed stamp);
        answers = rest;
        numbers = issuing (issued a) d.numbers;
        fixed_for = d.fixed_for;
        handovers = λ h. at_source d.towards d.source a taken d.numbers h (d.handovers h);
      }

  -- what is known of such a step
  pub record SourceStep (fixed : ℕ → ℕ) : Type 0 where
    pub laws : Laws d.source
    pub step : StepLaws d.source e a
    pub comes : Comes d.towards e d.answers taken rest
    pub stamped : stamp s ≡ (issuing (issued a) d.numbers).issued_count
    pub requests_timely : All (Timely s (issuing (issued a) d.numbers)) (source_after fixed).requests
    pub answers_timely : All (Timely s (issuing (issued a) d.numbers)) rest

  -- The target takes an event, perhaps the oldest message to it. `own` is what it has issued itself, as a source, and free here.
  abbrev pub target_after : Numbers → Direction
  target_after own =
      record {
        source = d.source;
        towards = d.towards;
        target = a.station;
        back = d.back;
        requests = rest;
        answers = d.answers ++ posted d.back (marked a own taken d.fixed_for stamp);
        numbers = d.numbers;
        fixed_for = fixing d.back a taken d.fixed_for;
        handovers = λ h. at_target d.back d.target e a taken d.fixed_for h (d.handovers h);
      }

  pub record TargetStep (own : Numbers) : Type 0 where
    pub laws : Laws d.target
    pub step : StepLaws d.target e a
    pub comes : Comes d.back e d.requests taken rest
    pub stamped : stamp s ≡ d.numbers.issued_count
    pub requests_timely : All (Timely s d.numbers) d.requests
