-- What holds of one direction in every world that is reached. Wherever an acknowledge stands before a release with the same two IDs
-- (the prepared records of the source, then the messages to it, then the held records of the target), both are of the same handover.
use Prim.Native.Nat.{ℕ, ◌+◌, ◌≤◌, ◌<◌}
use mathlib.Core.Path.{◌≡◌}
use mathlib.Core.Bool.{true}
use mathlib.Core.List.{[], ◌∷◌}
use mathlib.Core.Logic.{◌⊎◌, ◌↔◌}
use Rattle.handover.specs.Events.{message}
use Rattle.promises.specs.Views.{Outgoing, Prepared, Incoming, Held, some_out, out, held}
use Rattle.pair.specs.World.{Side, Answered, Silent, Refused, Fixed, no_history, Envelope, record_of, All, limit}
use Rattle.pair.specs.Theorem.{is_ending}
use Rattle.pair.proofs.Lists.{Pairs}
use Rattle.pair.proofs.Ledger.{UsedOf, IssuedOf, LedgerOf}
use Rattle.pair.proofs.Directions.{Direction}

-- ---- short words

abbrev pub kind_of : Envelope → ℕ
kind_of m = m.message.kind

abbrev pub old_of : Envelope → ℕ
old_of m = m.message.old.0

abbrev pub new_of : Envelope → ℕ
new_of m = m.message.new.0

abbrev pub set_of : Envelope → ℕ
set_of m = m.message.first

abbrev pub outgoing : Direction → ℕ → Outgoing
outgoing d i = out d.source d.towards i

-- the record of a handover
abbrev pub record_for : Direction → ℕ → Outgoing
record_for d h = record_of d.numbers (outgoing d) h

abbrev pub reserved : Direction → ℕ → Incoming
reserved d n = held d.target d.back n

-- ---- a message under way

-- a request: its handover was asked for, is the last to have its Old ID, and not answered yet
pub record Requested (s : Side) (d : Direction) (m : Envelope) : Type 0 where
  pub named : 1 ≤ m.tag
  pub latest : d.numbers.issue_of (old_of m) ≡ m.tag
  pub stamped : m.stamp s ≡ m.tag
  pub asked : (d.handovers m.tag).asked ≡ true
  pub unanswered : (d.handovers m.tag).answer ≡ Silent

-- an answer: its handover is the last to have its Old ID, and it is what the target answered
pub record Replied (s : Side) (d : Direction) (m : Envelope) (answer : Answered) : Type 0 where
  pub named : 1 ≤ m.tag
  pub latest : d.numbers.issue_of (old_of m) ≡ m.tag
  pub stamped : m.stamp s < m.tag + limit
  pub answered : (d.handovers m.tag).answer ≡ answer

-- a release: its handover had its Old ID, the UE arrived, and the target had acknowledged its New ID; it says nothing else
pub record Released (d : Direction) (m : Envelope) : Type 0 where
  pub numbered : d.numbers.number_of m.tag ≡ old_of m
  pub arrived : (d.handovers m.tag).arrived ≡ true
  pub set : ℕ
  pub answered : (d.handovers m.tag).answer ≡ Fixed (new_of m) set
  pub receiver : ℕ
  pub word : m.message ≡ message 5 receiver (old_of m) (new_of m) 0 0 0

-- ---- the clauses

module _ (s : Side) (d : Direction) where
  -- numbers
  abbrev pub Used : Type 0
  Used = UsedOf d.source d.numbers

  abbrev pub Issued : Type 0
  Issued = IssuedOf d.numbers

  abbrev pub Ledger : Type 0
  Ledger = LedgerOf d.source d.numbers

  abbrev pub New : Type 0
  New = (h : ℕ) → d.numbers.issued_count < h → d.handovers h ≡ no_history

  -- under way
  abbrev pub Requests : Type 0
  Requests = All (λ m. kind_of m ≡ 1 → Requested s d m) d.requests

  abbrev pub Once : Type 0
  Once = Pairs (λ x y. kind_of x ≡ 1 → kind_of y ≡ 1 → x.tag ≡ y.tag → ⊥) d.requests

  abbrev pub Acknowledges : Type 0
  Acknowledges = All (λ m. kind_of m ≡ 2 → Replied s d m (Fixed (new_of m) (set_of m))) d.answers

  abbrev pub Failures : Type 0
  Failures = All (λ m. kind_of m ≡ 3 → Replied s d m Refused) d.answers

  abbrev pub Releases : Type 0
  Releases = All (λ m. kind_of m ≡ 5 → Released d m) d.answers

  -- in the tables
  abbrev pub HeldFixed : Type 0
  HeldFixed =
      (n old set : ℕ) → reserved d n ≡ Held old set
      → (d.numbers.number_of (d.fixed_for n) ≡ old) × ((d.handovers (d.fixed_for n)).answer ≡ Fixed n set)
      × ((d.handovers (d.fixed_for n)).asked ≡ true)

  abbrev pub PreparedFixed : Type 0
  PreparedFixed = (i n set : ℕ) → outgoing d i ≡ Prepared n set → (d.handovers (d.numbers.issue_of i)).answer ≡ Fixed n set

  -- the same pair of IDs means the same handover
  abbrev pub Order : Type 0
  Order = Pairs (λ x y. kind_of x ≡ 2 → kind_of y ≡ 5 → old_of x ≡ old_of y → new_of x ≡ new_of y → x.tag ≡ y.tag) d.answers

  abbrev pub ReleasePrepared : Type 0
  ReleasePrepared =
      All (λ m. kind_of m ≡ 5 → (set : ℕ) → outgoing d (old_of m) ≡ Prepared (new_of m) set → m.tag ≡ d.numbers.issue_of (old_of m)) d.answers

  abbrev pub HeldAcknowledge : Type 0
  HeldAcknowledge =
      All (λ m. kind_of m ≡ 2 → (set : ℕ) → reserved d (new_of m) ≡ Held (old_of m) set → m.tag ≡ d.fixed_for (new_of m)) d.answers

  abbrev pub HeldPrepared : Type 0
  HeldPrepared =
      (old n set admitted : ℕ) → reserved d n ≡ Held old set → outgoing d old ≡ Prepared n admitted → d.fixed_for n ≡ d.numbers.issue_of old

  -- history
  abbrev pub Live : Type 0
  Live =
      (i : ℕ) → some_out (outgoing d i) ≡ true
      → ((d.handovers (d.numbers.issue_of i)).asked ≡ true) × ((d.handovers (d.numbers.issue_of i)).endings ≡ [])

  abbrev pub Ended : Type 0
  Ended =
      (h : ℕ) → (d.handovers h).asked ≡ true
      → (some_out (record_for d h) ≡ true) ⊎ ((z : ℕ) × ((d.handovers h).endings ≡ z ∷ []) × (is_ending z ≡ true))

  abbrev pub Moved : Type 0
  Moved = (h : ℕ) → ((d.handovers h).endings ≡ 3 ∷ []) ↔ ((d.handovers h).released_while_prepared ≡ true)

  abbrev pub WhilePrepared : Type 0
  WhilePrepared = (h : ℕ) → (d.handovers h).released_while_prepared ≡ true → (d.handovers h).arrived ≡ true

  abbrev pub Failed : Type 0
  Failed = (h : ℕ) → (d.handovers h).endings ≡ 1 ∷ [] → (d.handovers h).answer ≡ Refused

  abbrev pub Arrived : Type 0
  Arrived = (h : ℕ) → (d.handovers h).arrived ≡ true → (n : ℕ) × (set : ℕ) × ((d.handovers h).answer ≡ Fixed n set)

  pub record Invariant : Type 0 where
    pub used : Used
    pub issued : Issued
    pub ledger : Ledger
    pub new : New
    pub requests : Requests
    pub once : Once
    pub acknowledges : Acknowledges
    pub failures : Failures
    pub releases : Releases
    pub held : HeldFixed
    pub prepared : PreparedFixed
    pub order : Order
    pub release_prepared : ReleasePrepared
    pub held_acknowledge : HeldAcknowledge
    pub held_prepared : HeldPrepared
    pub live : Live
    pub ended : Ended
    pub moved : Moved
    pub while_prepared : WhilePrepared
    pub failed : Failed
    pub arrived : Arrived
