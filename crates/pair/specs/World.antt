-- Two stations that know each other, and the messages under way between them. First what happens: stations, events, queues, losses. Then
-- what is told of it: the numbers that were issued and the handovers, written beside the stations and flowing into none. Then both: a
-- world, its steps and its runs.
use Rattle.std.specs.Prelude.{ℕ, ◌+◌, ◌<◌, ◌≡◌, Bool, true, false, cond, not, ◌&&◌, ◌||◌, List, [], ◌∷◌, ◌++◌, leb, eqb}
use Rattle.std.specs.Prelude.{Option, Some, None}
use Rattle.records.specs.Record.{InRange, altered}
use Rattle.records.specs.declared.Record.{Record}
use Rattle.table.specs.declared.Answer.{Answer}
use Rattle.table.specs.declared.Settings.{Settings}
use Rattle.table.specs.declared.Station.{Station}
use Rattle.table.specs.Step.{step_of, born_of}
use Rattle.promises.specs.Views.{Outgoing, NotOut, Preparing, Prepared, some_out, some_held, out, held, sent, ending, to, issued}

-- ==== what happens

-- ---- two stations, A and B

pub data Side : Type 0 where
  A : Side
  B : Side

abbrev pub other : Side → Side
other A = B
other B = A

-- what one side has, and what the other has
abbrev pub sides : {T : Type 0} → Side → T → T → Side → T
sides A here there A = here
sides A here there B = there
sides B here there A = there
sides B here there B = here

-- "fresh", of any settings
pub record Fresh (x : Station) : Type 0 where
  pub settings : Settings
  pub born : x ≡ born_of settings

-- A station's answer to an event is that of its step, whatever is lent beside the event: the bytes of a request's bearers, and room for
-- its verdicts.
pub record Answers (x : Station) (e : Record) (a : Answer) : Type 0 where
  pub bearers : List ℕ
  pub room : ℕ
  pub stepped : a ≡ step_of x e bearers room

-- ---- messages under way

-- A message "under way": after the step that sent it, until the step that takes or loses it. Two marks are told of it, and nothing that
-- happens looks at them: the handover to which it belongs, 0 if to none, and how many own IDs each side had issued when it was sent.
pub record Envelope : Type 0 where
  pub message : Record
  pub tag : ℕ
  pub stamp : Side → ℕ

-- A message (kinds 1 to 8) with a neighbour's number: it comes from that neighbour, or goes to it. Kind 20 goes to the MME, and is none.
abbrev pub is_message : ℕ → Record → Bool
is_message p m = leb 1 m.kind && leb m.kind 8 && eqb m.neighbour p

-- what is put under way: a message to the other station
abbrev pub posted : ℕ → Envelope → List Envelope
posted p m = cond (is_message p m.message) (m ∷ []) []

-- A message "may be lost", wherever it stands.
pub record Loses (queue rest : List Envelope) : Type 0 where
  pub older : List Envelope
  pub lost : Envelope
  pub younger : List Envelope
  pub was : queue ≡ older ++ (lost ∷ younger)
  pub left : rest ≡ older ++ younger

-- ---- events

-- "It arrives unaltered if it reaches the peer with the same Old ID" (its bearers are left open here, and so is all else); "in every other
-- kind all fields arrive as sent, with the sender's neighbour number in byte 1".
abbrev pub as_sent : ℕ → Record → Record
as_sent p m = altered m.kind p m.number m.time m

pub data Carries (p : ℕ) (m : Record) (e : Record) : Type 0 where
  request : m.kind ≡ 1 → e.kind ≡ 1 → e.neighbour ≡ p → e.old.0 ≡ m.old.0 → Carries p m e
  plain : (m.kind ≡ 1 → ⊥) → e ≡ as_sent p m → Carries p m e

-- "Known by a number nobody else uses": a message event that has it is a message of the other station, and every other event comes at any
-- time. "In order": none that is under way with it is older. "At most once": then it is gone.
pub data Comes (p : ℕ) (e : Record) (queue : List Envelope) : Option Envelope → List Envelope → Type 0 where
  own : is_message p e ≡ false → Comes p e queue None queue
  take : (older : List Envelope) {m : Envelope} (younger : List Envelope) → older ≡ [] → queue ≡ older ++ (m ∷ younger) → Carries p m.message e
      → Comes p e queue (Some m) (older ++ younger)

-- ==== what is told of it

-- ---- numbers and handovers

-- What a station has issued: how many own IDs; which issue last gave an own ID, 0 if none did; the own ID that an issue gave.
-- Issues are counted from 1.
pub record Numbers : Type 0 where
  pub issued_count : ℕ
  pub issue_of : ℕ → ℕ
  pub number_of : ℕ → ℕ

abbrev pub next_issue : Numbers → ℕ
next_issue n = n.issued_count + 1

-- What a target answered to a request: nothing, a failure, or an acknowledge with this New ID and this admitted set.
pub data Answered : Type 0 where
  Silent : Answered
  Refused : Answered
  Fixed : (number set : ℕ) → Answered

-- "A handover" is a start towards the other station that was done; its name is the number of the issue that gave its Old ID. Whether it was
-- asked for; what the target answered to "that very request"; whether "the target saw the UE arrive"; whether its release "came while
-- the source stood prepared"; and its endings "at the source", the last first: those of the steps in which its record left the table.
pub record Handover : Type 0 where
  pub asked : Bool
  pub answer : Answered
  pub arrived : Bool
  pub released_while_prepared : Bool
  pub endings : List ℕ

abbrev pub no_history : Handover
no_history = record { asked = false; answer = Silent; arrived = false; released_while_prepared = false; endings = [] }

-- ---- what a step adds

-- an own ID is issued, or none
abbrev pub issuing : Option ℕ → Numbers → Numbers
issuing None n = n
issuing (Some i) n =
    record {
      issued_count = next_issue n;
      issue_of = λ j. cond (eqb j i) (next_issue n) (n.issue_of j);
      number_of = λ h. cond (eqb h (next_issue n)) i (n.number_of h);
    }

-- The record of a handover, among the outgoing ones: the one that has its own ID, if no later issue gave the same.
abbrev pub record_of : Numbers → (ℕ → Outgoing) → ℕ → Outgoing
record_of n records h = cond (eqb (n.issue_of (n.number_of h)) h) (records (n.number_of h)) NotOut

abbrev pub is_prepared : Outgoing → Bool
is_prepared NotOut = false
is_prepared Preparing = false
is_prepared (Prepared number set) = true

-- whether a message of a kind was taken, of a handover
abbrev pub took : ℕ → ℕ → Option Envelope → Bool
took kind h None = false
took kind h (Some m) = eqb m.message.kind kind && eqb m.tag h

abbrev pub tag_of : Option Envelope → ℕ
tag_of None = 0
tag_of (Some m) = m.tag

-- A handover after its source answered an event: a start of it is done; a release of it was taken while its record was prepared;
-- its record leaves the table, with the ending of that step.
abbrev pub at_source : ℕ → Station → Answer → Option Envelope → Numbers → ℕ → Handover → Handover
at_source p x a taken n h k =
    record {
      asked = k.asked || (to 1 p a && eqb h (next_issue n));
      answer = k.answer;
      arrived = k.arrived;
      released_while_prepared = k.released_while_prepared || (took 5 h taken && is_prepared (record_of n (out x p) h));
      endings = cond (some_out (record_of n (out x p) h) && not (some_out (record_of n (out a.station p) h))) (ending a ∷ k.endings) k.endings;
    }

-- "The target saw the UE arrive": kind 11 was taken on the held record that was made for the handover.
abbrev pub arrives_for : ℕ → Station → Record → Answer → (ℕ → ℕ) → ℕ → Bool
arrives_for p y e a fixed h = eqb e.kind 11 && eqb a.outcome.reply 0 && some_held (held y p e.new.0) && eqb (fixed e.new.0) h

-- A handover after its target answered an event: its request was taken, and acknowledged or refused; its UE arrived.
abbrev pub at_target : ℕ → Station → Record → Answer → Option Envelope → (ℕ → ℕ) → ℕ → Handover → Handover
at_target p y e a taken fixed h k =
    record {
      asked = k.asked;
      answer = cond (took 1 h taken && to 2 p a) (Fixed (sent a).new.0 (sent a).first) (cond (took 1 h taken && to 3 p a) Refused k.answer);
      arrived = k.arrived || arrives_for p y e a fixed h;
      released_while_prepared = k.released_while_prepared;
      endings = k.endings;
    }

-- a New ID is fixed for the handover whose request was taken
abbrev pub fixing : ℕ → Answer → Option Envelope → (ℕ → ℕ) → ℕ → ℕ
fixing p a taken fixed n = cond (to 2 p a && eqb n (sent a).new.0) (tag_of taken) (fixed n)

-- The handover to which a message belongs: a request to the one that it starts, an answer to that of the request taken, a release
-- to that for which its New ID was fixed, a cancel to the last that got its Old ID.
abbrev pub belongs : Numbers → Option Envelope → (ℕ → ℕ) → Record → ℕ
belongs n taken fixed m =
    cond (eqb m.kind 1) (next_issue n)
    (cond (eqb m.kind 2 || eqb m.kind 3) (tag_of taken)
    (cond (eqb m.kind 5) (fixed m.new.0) (cond (eqb m.kind 6) (n.issue_of m.old.0) 0)))

-- the message that a step sends, with its marks
abbrev pub marked : Answer → Numbers → Option Envelope → (ℕ → ℕ) → (Side → ℕ) → Envelope
marked a n taken fixed stamp = record { message = sent a; tag = belongs n taken fixed (sent a); stamp = stamp }

-- ==== the world

-- What happens: the two stations, and the messages that each has sent, the oldest first. What is told, of each side as a source: what it
-- issued, for which of its handovers the other station last fixed a New ID, and its handovers.
pub record World : Type 0 where
  pub station : Side → Station
  pub queue : Side → List Envelope
  pub numbers : Side → Numbers
  pub fixed_for : Side → ℕ → ℕ
  pub handovers : Side → ℕ → Handover

-- "Two fresh stations": nothing is under way, and nothing is told.
abbrev pub start : (Side → Station) → World
start fresh =
    record {
      station = fresh;
      queue = λ s. [];
      numbers = λ s. record { issued_count = 0; issue_of = λ i. 0; number_of = λ h. 0 };
      fixed_for = λ s n. 0;
      handovers = λ s h. no_history;
    }

-- ---- steps; `peer s` is the number under which station s knows the other one

abbrev pub issued_after : World → Side → Answer → Side → Numbers
issued_after w s a = sides s (issuing (issued a) (w.numbers s)) (w.numbers (other s))

module _ (peer : Side → ℕ) where
  -- One station answers an event, with the message that it took, if it did, and what is left under way to it. It is the source of
  -- its own handovers and the target of the other's.
  abbrev pub act : World → Side → Record → Answer → Option Envelope → List Envelope → World
  act w s e a taken rest =
      record {
        station = sides s a.station (w.station (other s));
        queue =
            sides s
            (w.queue s ++ posted (peer s) (marked a (w.numbers s) taken (w.fixed_for (other s)) (λ r. (issued_after w s a r).issued_count)))
            rest;
        numbers = issued_after w s a;
        fixed_for = sides s (w.fixed_for s) (fixing (peer s) a taken (w.fixed_for (other s)));
        handovers =
            sides s
            (λ h. at_source (peer s) (w.station s) a taken (w.numbers s) h (w.handovers s h))
            (λ h. at_target (peer s) (w.station s) e a taken (w.fixed_for (other s)) h (w.handovers (other s) h));
      }

-- other messages of one side under way
abbrev pub with_queue : World → Side → List Envelope → World
with_queue w s messages =
    record { station = w.station; queue = sides s messages (w.queue (other s)); numbers = w.numbers; fixed_for = w.fixed_for; handovers = w.handovers }

module _ (peer : Side → ℕ) where
  -- A station takes an event, its own or the oldest message to it.
  pub record Acts (w : World) (s : Side) (e : Record) (a : Answer) (w' : World) : Type 0 where
    pub range : InRange e
    pub answers : Answers (w.station s) e a
    pub taken : Option Envelope
    pub rest : List Envelope
    pub comes : Comes (peer s) e (w.queue (other s)) taken rest
    pub becomes : w' ≡ act peer w s e a taken rest

  -- That, or a message is lost.
  pub data Step (w : World) : World → Type 0 where
    acts : {w' : World} (s : Side) (e : Record) (a : Answer) → Acts w s e a w' → Step w w'
    loses : (s : Side) {rest : List Envelope} → Loses (w.queue s) rest → Step w (with_queue w s rest)

-- ---- runs, and the limit

-- what holds of every entry of a list
pub data All {T : Type 0} (P : T → Type 0) : List T → Type 0 where
  nothing : All P []
  more : {x : T} {xs : List T} → P x → All P xs → All P (x ∷ xs)

-- "Neither issues 2,000 numbers" while a message is under way: each counted for itself, in every world, for every message still under way.
abbrev pub limit : ℕ
limit = 2000

abbrev pub WithinLimit : Side → Numbers → Envelope → Type 0
WithinLimit s n m = n.issued_count < m.stamp s + limit

abbrev pub Bounded : World → Type 0
Bounded w = (r s : Side) → All (WithinLimit s (w.numbers s)) (w.queue r)

module _ (peer : Side → ℕ) where
  -- A world that two fresh stations reached, step by step, within the limit or not.
  pub data Course : World → Type 0 where
    begin : (fresh : Side → Station) → ((s : Side) → Fresh (fresh s)) → Course (start fresh)
    next : {w w' : World} → Course w → Step peer w w' → Course w'

  -- whether the limit is kept in each world of it
  abbrev pub Limited : {w : World} → Course w → Type 0
  Limited (begin fresh new) = Unit {0}
  Limited (next {w' = w'} before step) = Limited before × Bounded w'

  -- A world that they reached within the limit.
  pub record Run (w : World) : Type 0 where
    pub course : Course w
    pub limited : Limited course
