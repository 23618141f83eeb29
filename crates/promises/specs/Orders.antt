-- "Two sites that got the same messages in different order asked whether their tables may differ."
use Rattle.std.specs.Prelude.{ℕ, ◌≡◌, Bool, true, cond, ◌&&◌, List, [], ◌∷◌, leb, eqb, length}
use Rattle.records.specs.declared.Record.{Record}
use Rattle.table.specs.declared.Answer.{Answer}
use Rattle.answers.specs.declared.Outcome.{Outcome}
use Rattle.table.specs.declared.Station.{Station}
use Rattle.table.specs.Reached.{Reached}
use Rattle.table.specs.Step.{step_of}
use Rattle.handover.specs.Events.{message}
use Rattle.promises.specs.Cases.{Event, bytes_in, alone, numbered, bearer, tick}

-- what is handed to a step: a record, the bytes that follow it, and so much room for verdicts
pub record Input : Type 0 where
  pub event : Record
  pub bytes : List ℕ
  pub room : ℕ

-- the step that takes it
abbrev pub taken : Station → Input → Answer
taken s m = step_of s m.event m.bytes m.room

abbrev pub sender : Input → ℕ
sender m = m.event.neighbour

-- "message events of kinds 2 to 8", well formed or not
abbrev pub is_message : Input → Bool
is_message m = leb 2 m.event.kind && leb m.event.kind 8

-- ---- two of them

-- "from different neighbours"
pub record Apart (a b : Input) : Type 0 where
  pub first : is_message a ≡ true
  pub second : is_message b ≡ true
  pub senders : sender a ≡ sender b → ⊥

-- "taken in either order with no other event between, give each the same reply, message and ending" (and count) "and leave the same
-- station"
pub record EitherOrder (s : Station) (a b : Input) : Type 0 where
  pub first : (taken s a).outcome ≡ (taken (taken s b).station a).outcome
  pub second : (taken (taken s a).station b).outcome ≡ (taken s b).outcome
  pub station : (taken (taken s a).station b).station ≡ (taken (taken s b).station a).station

-- ---- any number of them

abbrev pub are_messages : List Input → Bool
are_messages [] = true
are_messages (m ∷ ms) = is_message m && are_messages ms

-- taken one after the other: each with what it is answered, and the last station
abbrev pub answered : Station → List Input → List (Input × Outcome)
answered s [] = []
answered s (m ∷ ms) = (m, (taken s m).outcome) ∷ answered (taken s m).station ms

abbrev pub after : Station → List Input → Station
after s [] = s
after s (m ∷ ms) = after (taken s m).station ms

-- who sent what is answered
abbrev pub asker : Input × Outcome → ℕ
asker a = sender a.0

-- those of a list that are a neighbour's own, in their order
abbrev pub own_of : {A : Type 0} → (A → ℕ) → ℕ → List A → List A
own_of from n [] = []
own_of from n (x ∷ xs) = cond (eqb (from x) n) (x ∷ own_of from n xs) (own_of from n xs)

-- the same in another order, in which each neighbour's own keep theirs
abbrev pub Reordered : {A : Type 0} → (A → ℕ) → List A → List A → Type 0
Reordered from xs ys = (n : ℕ) → own_of from n xs ≡ own_of from n ys

-- Each gets the same answer in the one order as in the other, and the last station is the same.
pub record AnyOrder (s : Station) (ms ns : List Input) : Type 0 where
  pub answers : Reordered asker (answered s ms) (answered s ns)
  pub station : after s ms ≡ after s ns

-- ---- where the order matters

-- It does not hold at every station that a fresh one reached.
pub record Fails (holds : Station → Type 0) : Type 0 where
  pub station : Station
  pub reached : Reached station
  pub differs : holds station → ⊥

abbrev pub handed : Event → Input
handed e = record { event = e.event; bytes = bytes_in e.bearers; room = length e.bearers }

-- a start towards a neighbour with bearer 5; the acknowledge and the failure of what was started with an Old ID
abbrev pub started : ℕ → Input
started n = handed (alone (message 9 n 0 0 32 0 0))

abbrev pub acknowledged : ℕ → ℕ → Input
acknowledged n old = handed (alone (message 2 n old 0 32 0 0))

abbrev pub failed : ℕ → ℕ → Input
failed n old = handed (alone (message 3 n old 0 0 0 1))

-- a request of a neighbour, with Old ID 7 and one bearer of so many units
abbrev pub asked : ℕ → ℕ → Input
asked n units = handed (record { event = numbered 1 0 (message 1 n 7 0 0 0 0); bearers = bearer 5 9 1 units ∷ [] })

-- two, and a tick between them
abbrev pub around_tick : Input → Input → List Input
around_tick a b = a ∷ handed (tick 10) ∷ b ∷ []
