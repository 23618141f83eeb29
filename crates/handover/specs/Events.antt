-- Which state takes which event.
use Rattle.std.specs.Prelude.{ℕ, Bool, cond, not, ◌&&◌, ◌||◌, List, [], ◌∷◌, leb, ltb, eqb, get_or, replicate}
use denote.Enum.Bare.{sameb}
use Rattle.records.specs.Record.{zeros}
use Rattle.records.specs.declared.Record.{Record}
use Rattle.sets.specs.Sets.{union, disjoint, within}
use Rattle.handover.specs.declared.Action.{Action}
use Rattle.handover.specs.declared.Action.TheVariants.{Untaken, Failed, Cancelled, Moved, Overtime, Returned, Lapsed, CalledOff, Arrived, Left, Reset, Prepared, StatusStored, StatusSent, Started, Held}
use Rattle.handover.specs.declared.Decision.{Decision}
use Rattle.handover.specs.declared.Entry.{Entry}
use Rattle.handover.specs.contracts.Action as acts
use Rattle.handover.specs.Numbers.{blank, own}

-- ---- the record an event is about

-- by kind: the first and the last of the states looked at, then whether neighbour, Old and New are compared (New: 2 if the
-- record is prepared, 3 unless it is absent)
abbrev pub keys : List (List ℕ)
keys =
    (0 ∷ 0 ∷ 0 ∷ 0 ∷ 0 ∷ [])  -- 0 no kind
    ∷ (3 ∷ 3 ∷ 1 ∷ 1 ∷ 0 ∷ [])  -- 1 handover request received
    ∷ (1 ∷ 2 ∷ 1 ∷ 1 ∷ 0 ∷ [])  -- 2 request acknowledge received
    ∷ (1 ∷ 2 ∷ 1 ∷ 1 ∷ 0 ∷ [])  -- 3 preparation failure received
    ∷ (3 ∷ 3 ∷ 1 ∷ 1 ∷ 1 ∷ [])  -- 4 SN status transfer received
    ∷ (1 ∷ 2 ∷ 1 ∷ 1 ∷ 2 ∷ [])  -- 5 UE context release received
    ∷ (3 ∷ 3 ∷ 1 ∷ 1 ∷ 3 ∷ [])  -- 6 handover cancel received
    ∷ (1 ∷ 3 ∷ 1 ∷ 0 ∷ 0 ∷ [])  -- 7 reset request received
    ∷ (0 ∷ 0 ∷ 0 ∷ 0 ∷ 0 ∷ [])  -- 8 reset response received
    ∷ (0 ∷ 0 ∷ 0 ∷ 0 ∷ 0 ∷ [])  -- 9 start a handover
    ∷ (1 ∷ 2 ∷ 0 ∷ 1 ∷ 0 ∷ [])  -- 10 cancel
    ∷ (3 ∷ 4 ∷ 0 ∷ 0 ∷ 1 ∷ [])  -- 11 UE arrived
    ∷ (1 ∷ 2 ∷ 0 ∷ 1 ∷ 0 ∷ [])  -- 12 UE returned
    ∷ (3 ∷ 4 ∷ 0 ∷ 0 ∷ 1 ∷ [])  -- 13 UE left
    ∷ (1 ∷ 3 ∷ 1 ∷ 0 ∷ 0 ∷ [])  -- 14 reset a neighbour
    ∷ (1 ∷ 3 ∷ 0 ∷ 0 ∷ 0 ∷ [])  -- 15 tick
    ∷ (0 ∷ 0 ∷ 0 ∷ 0 ∷ 0 ∷ [])  -- 16 bearer
    ∷ (1 ∷ 2 ∷ 0 ∷ 1 ∷ 0 ∷ [])  -- 17 send SN status
    ∷ []

-- a kind's row; a number that is no kind has one of zeros
abbrev pub key_row : ℕ → List ℕ
key_row kind = get_or keys kind (replicate 5 0)

abbrev pub key : ℕ → ℕ → ℕ
key kind column = get_or (key_row kind) column 0

-- whether the New ID is the record's, where it is compared
abbrev pub new_fits : ℕ → Record → Entry → Bool
new_fits compared e r =
    eqb compared 0 || eqb r.new.0 e.new.0 || eqb compared 2 && eqb r.state 1
    || eqb compared 3 && eqb e.new.0 65535

abbrev pub keyed : (ℕ → ℕ) → Record → Entry → Bool
keyed by e r =
    leb (by 0) r.state && leb r.state (by 1) && (eqb (by 2) 0 || eqb r.neighbour e.neighbour)
    && (eqb (by 3) 0 || eqb r.old.0 e.old.0) && new_fits (by 4) e r

abbrev pub about : Record → Entry → Bool
about e r = keyed (key e.kind) e r

-- "of the records with deadline not above it, the least deadline, then least own ID"
abbrev pub due_by : (ℕ → ℕ) → Record → Entry → Bool
due_by by e r = keyed by e r && leb r.deadline e.time

abbrev pub sooner : Entry → Entry → Bool
sooner a b = ltb a.deadline b.deadline || eqb a.deadline b.deadline && ltb (own a) (own b)

-- ---- what it does

-- "This stands as a constant table of events against record states": free, preparing, prepared, held, serving
abbrev pub actions : List (List Action)
actions =
    (Untaken ∷ Untaken ∷ Untaken ∷ Untaken ∷ Untaken ∷ [])  -- 0 no kind
    ∷ (Held ∷ Untaken ∷ Untaken ∷ Untaken ∷ Untaken ∷ [])  -- 1 handover request received
    ∷ (Untaken ∷ Prepared ∷ Untaken ∷ Untaken ∷ Untaken ∷ [])  -- 2 request acknowledge received
    ∷ (Untaken ∷ Failed ∷ Untaken ∷ Untaken ∷ Untaken ∷ [])  -- 3 preparation failure received
    ∷ (Untaken ∷ Untaken ∷ Untaken ∷ StatusStored ∷ Untaken ∷ [])  -- 4 SN status transfer received
    ∷ (Untaken ∷ Untaken ∷ Moved ∷ Untaken ∷ Untaken ∷ [])  -- 5 UE context release received
    ∷ (Untaken ∷ Untaken ∷ Untaken ∷ CalledOff ∷ Untaken ∷ [])  -- 6 handover cancel received
    ∷ (Untaken ∷ Reset ∷ Reset ∷ Reset ∷ Untaken ∷ [])  -- 7 reset request received
    ∷ (Untaken ∷ Untaken ∷ Untaken ∷ Untaken ∷ Untaken ∷ [])  -- 8 reset response received
    ∷ (Started ∷ Untaken ∷ Untaken ∷ Untaken ∷ Untaken ∷ [])  -- 9 start a handover
    ∷ (Untaken ∷ Cancelled ∷ Cancelled ∷ Untaken ∷ Untaken ∷ [])  -- 10 cancel
    ∷ (Untaken ∷ Untaken ∷ Untaken ∷ Arrived ∷ Untaken ∷ [])  -- 11 UE arrived
    ∷ (Untaken ∷ Untaken ∷ Returned ∷ Untaken ∷ Untaken ∷ [])  -- 12 UE returned
    ∷ (Untaken ∷ Untaken ∷ Untaken ∷ Untaken ∷ Left ∷ [])  -- 13 UE left
    ∷ (Untaken ∷ Reset ∷ Reset ∷ Reset ∷ Untaken ∷ [])  -- 14 reset a neighbour
    ∷ (Untaken ∷ Cancelled ∷ Overtime ∷ Lapsed ∷ Untaken ∷ [])  -- 15 tick
    ∷ (Untaken ∷ Untaken ∷ Untaken ∷ Untaken ∷ Untaken ∷ [])  -- 16 bearer
    ∷ (Untaken ∷ Untaken ∷ StatusSent ∷ Untaken ∷ Untaken ∷ [])  -- 17 send SN status
    ∷ []

abbrev pub action_of : ℕ → ℕ → Action
action_of kind state = get_or (get_or actions kind []) state Untaken

-- the number of an action: to 10 it is that of the ending, and 0 and 11 to 15 end nothing
abbrev pub number_of : Action → ℕ
number_of Untaken = 0
number_of Failed = 1
number_of Cancelled = 2
number_of Moved = 3
number_of Overtime = 4
number_of Returned = 5
number_of Lapsed = 6
number_of CalledOff = 7
number_of Arrived = 8
number_of Left = 9
number_of Reset = 10
number_of Prepared = 11
number_of StatusStored = 12
number_of StatusSent = 13
number_of Started = 14
number_of Held = 15

abbrev pub same_action : Action → Action → Bool
same_action a b = sameb acts.the_type a b

-- "7 and 14: all outgoing and held records of that neighbour end": whether a record does
abbrev pub resets_by : (ℕ → ℕ) → Record → Entry → Bool
resets_by by e r = keyed by e r && same_action (action_of e.kind r.state) Reset

abbrev pub resets : Record → Entry → Bool
resets e r = resets_by (key e.kind) e r

-- a message: its kind, the neighbour it goes to, Old, New, first and second set, reason; "none is all zeros"
abbrev pub message : ℕ → ℕ → ℕ → ℕ → ℕ → ℕ → ℕ → Record
message kind neighbour old new first second reason =
    record {
      kind = kind;
      neighbour = neighbour;
      old = record { 0 = old };
      new = record { 0 = new };
      first = first;
      second = second;
      reason = reason;
      byte11 = 0;
      number = 0;
      time = 0;
      erab = 0;
      qci = 0;
      priority = 0;
      flags = 0;
      bytes28 = 0;
    }

abbrev pub silence : Record
silence = zeros

-- what is decided of a record: reply, ending, message, and the record's next value
abbrev pub decision : ℕ → ℕ → Record → Entry → Decision
decision reply ending sent next = record { reply = reply; ending = ending; message = sent; entry = next }

abbrev pub refusal : ℕ → Entry → Decision
refusal reply r = decision reply 0 silence r

-- "lists fit (disjoint, together the requested set, admitted not empty)"
abbrev pub lists_fit : Entry → Record → Bool
lists_fit r e = disjoint e.first e.second && eqb (union e.first e.second) r.requested && not (eqb e.first 0)

-- "set not empty and within the admitted"
abbrev pub set_fits : Entry → Record → Bool
set_fits r e = not (eqb e.first 0) && within e.first r.admitted

-- "2: preparing, lists fit: prepared, deadline clock plus overall"
abbrev pub prepared : Entry → Record → ℕ → Entry
prepared r e deadline =
    record {
      state = 2;
      neighbour = r.neighbour;
      old = r.old;
      new = e.new;
      requested = r.requested;
      admitted = e.first;
      status = r.status;
      units = r.units;
      deadline = deadline;
    }

-- "4: set stored over any earlier one"
abbrev pub stored : Entry → Record → Entry
stored r e =
    record {
      state = r.state;
      neighbour = r.neighbour;
      old = r.old;
      new = r.new;
      requested = r.requested;
      admitted = r.admitted;
      status = e.first;
      units = r.units;
      deadline = r.deadline;
    }

-- "11: held becomes serving, no timer"
abbrev pub serving : Entry → Entry
serving r =
    record {
      state = 4;
      neighbour = r.neighbour;
      old = r.old;
      new = r.new;
      requested = r.requested;
      admitted = r.admitted;
      status = r.status;
      units = r.units;
      deadline = 0;
    }

-- what the end of a record sends: "10: sends 6 (New if prepared, else absent)", reason 1; for 15 "preparing sends 6 with New
-- absent", reason 2; "prepared sends kind 20 with its neighbour and both IDs"; for 12 "HANDOVER CANCEL with both IDs and reason 3"
abbrev pub last_word : Record → Entry → Record
last_word e r =
    cond (eqb e.kind 10)
    (message 6 r.neighbour r.old.0 (cond (eqb r.state 2) r.new.0 65535) 0 0 1)
    (cond (eqb e.kind 15 && eqb r.state 1) (message 6 r.neighbour r.old.0 65535 0 0 2)
    (cond (eqb e.kind 15 && eqb r.state 2) (message 20 r.neighbour r.old.0 r.new.0 0 0 0)
    (cond (eqb e.kind 12) (message 6 r.neighbour r.old.0 r.new.0 0 0 3) silence)))

-- the decision by the action, given the deadline that an acknowledge would set: "state does not take it"; prepared, a status stored
-- or sent, if the lists or the set fit; a UE that arrived leaves a serving record, and the other endings none
abbrev pub does : Action → Record → Entry → ℕ → Decision
does Untaken e r deadline = refusal 6 r
does Prepared e r deadline = cond (lists_fit r e) (decision 0 0 silence (prepared r e deadline)) (refusal 7 r)
does StatusStored e r deadline = cond (set_fits r e) (decision 0 0 silence (stored r e)) (refusal 7 r)
does StatusSent e r deadline =
    cond (set_fits r e) (decision 0 0 (message 4 r.neighbour r.old.0 r.new.0 e.first 0 0) r) (refusal 7 r)
does Arrived e r deadline = decision 0 8 (message 5 r.neighbour r.old.0 r.new.0 0 0 0) (serving r)
does action e r deadline = decision 0 (number_of action) (last_word e r) blank

abbrev pub decide : Record → Entry → ℕ → Decision
decide e r deadline = does (action_of e.kind r.state) e r deadline
