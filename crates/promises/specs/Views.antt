-- What is seen of one station, and of one step: all that the theorem of two stations looks at.
use Rattle.std.specs.Prelude.{ℕ, ◌+◌, ◌≤◌, ◌<◌, ◌≡◌, Bool, true, false, cond, ◌&&◌, ◌||◌, List, [], ◌∷◌, ◌⊎◌, leb, eqb, length, get_or}
use Rattle.std.specs.Prelude.{Option, Some, None}
use Rattle.records.specs.declared.Record.{Record}
use Rattle.table.specs.declared.Answer.{Answer}
use Rattle.handover.specs.declared.Entry.{Entry}
use Rattle.table.specs.declared.Station.{Station}
use Rattle.handover.specs.Events.{message}
use Rattle.handover.specs.Numbers.{is_free, blank, own, own_is, next_after}
use Rattle.table.specs.Table.{find}

-- ---- own IDs

-- how many numbers of a list pass a test, and how often one number stands in it: it does if that is not 0
unfoldable pub count : (ℕ → Bool) → List ℕ → ℕ
count test [] = 0
count test (x ∷ xs) = cond (test x) 1 0 + count test xs

abbrev pub times : ℕ → List ℕ → ℕ
times i xs = count (eqb i) xs

-- the own IDs of the records, in the order of the table
unfoldable pub own_ids : List Entry → List ℕ
own_ids [] = []
own_ids (r ∷ rs) = cond (is_free r) (own_ids rs) (own r ∷ own_ids rs)

unfoldable pub ids : Station → List ℕ
ids s = own_ids s.entries

-- the own ID that was issued last
unfoldable pub last : Station → ℕ
last s = s.last

-- the search for the next: from the one last issued up, past every one that is in use, to the first that is not
pub data Walk (used : List ℕ) : ℕ → ℕ → Type 0 where
  land : {c i : ℕ} → i ≡ next_after c → times i used ≡ 0 → Walk used c i
  pass : {c i : ℕ} → 1 ≤ times (next_after c) used → Walk used (next_after c) i → Walk used c i

-- ---- records, by neighbour and own ID

-- an outgoing record: none, preparing, or prepared with this other ID and this admitted set
pub data Outgoing : Type 0 where
  NotOut : Outgoing
  Preparing : Outgoing
  Prepared : (other admitted : ℕ) → Outgoing

-- a held record: none, or one with this other ID and this admitted set
pub data Incoming : Type 0 where
  NotHeld : Incoming
  Held : (other admitted : ℕ) → Incoming

-- whether there is one
abbrev pub some_out : Outgoing → Bool
some_out NotOut = false
some_out Preparing = true
some_out (Prepared other admitted) = true

abbrev pub some_held : Incoming → Bool
some_held NotHeld = false
some_held (Held other admitted) = true

-- what a record of the table is towards a neighbour: a serving one is neither, and has no deadline
abbrev pub out_of : ℕ → Entry → Outgoing
out_of p r =
    cond (eqb r.state 1 && eqb r.neighbour p) Preparing
    (cond (eqb r.state 2 && eqb r.neighbour p) (Prepared r.new.0 r.admitted) NotOut)

abbrev pub held_of : ℕ → Entry → Incoming
held_of p r = cond (eqb r.state 3 && eqb r.neighbour p) (Held r.old.0 r.admitted) NotHeld

abbrev pub due_of : ℕ → Entry → Option ℕ
due_of p r = cond (leb 1 r.state && leb r.state 3 && eqb r.neighbour p) (Some r.deadline) None

-- the record that has an own ID, a free place if none has
abbrev pub record_at : Option ℕ → Station → Entry
record_at (Some i) s = get_or s.entries i blank
record_at None s = blank

unfoldable pub named : ℕ → Station → Entry
named i s = record_at (find (own_is i) s) s

-- the outgoing record towards a neighbour, the held record for one, and the deadline of either, by own ID
unfoldable pub out : Station → ℕ → ℕ → Outgoing
out s p i = out_of p (named i s)

unfoldable pub held : Station → ℕ → ℕ → Incoming
held s p i = held_of p (named i s)

unfoldable pub due : Station → ℕ → ℕ → Option ℕ
due s p i = due_of p (named i s)

-- They hide nothing: a record of the table that is outgoing or held is seen under its neighbour and own ID, as what it is, with its deadline.
pub record Shown (s : Station) (r : Entry) : Type 0 where
  pub preparing : r.state ≡ 1 → out s r.neighbour r.old.0 ≡ Preparing
  pub prepared : r.state ≡ 2 → out s r.neighbour r.old.0 ≡ Prepared r.new.0 r.admitted
  pub reserved : r.state ≡ 3 → held s r.neighbour r.new.0 ≡ Held r.old.0 r.admitted
  pub timed : 1 ≤ r.state → r.state ≤ 3 → due s r.neighbour (own r) ≡ Some r.deadline

-- ---- one step: the station before it, the event and the answer

-- the message that it sends, and its ending
abbrev pub sent : Answer → Record
sent a = a.outcome.message

abbrev pub ending : Answer → ℕ
ending a = a.outcome.ending

-- whether it sends a message of a kind to a neighbour
abbrev pub to : ℕ → ℕ → Answer → Bool
to kind p a = eqb (sent a).kind kind && eqb (sent a).neighbour p

-- the own ID that it issues: the Old ID of a request, the New ID of an acknowledge
abbrev pub issued : Answer → Option ℕ
issued a = cond (eqb (sent a).kind 1) (Some (sent a).old.0) (cond (eqb (sent a).kind 2) (Some (sent a).new.0) None)

-- It issues an own ID: a place was free, it is the first that was not in use, and it alone is new.
pub record Issues (i : ℕ) (s : Station) (a : Answer) : Type 0 where
  pub room : length (ids s) < 64
  pub walk : Walk (ids s) (last s) i
  pub latest : last a.station ≡ i
  pub more : (test : ℕ → Bool) → count test (ids a.station) ≡ count test (ids s) + cond (test i) 1 0

-- It issues none: none is new.
pub record IssuesNone (s : Station) (a : Answer) : Type 0 where
  pub latest : last a.station ≡ last s
  pub fewer : (test : ℕ → Bool) → count test (ids a.station) ≤ count test (ids s)

-- ---- as a source towards a neighbour

-- cancelled, overtime, returned or reset
abbrev pub is_other_ending : ℕ → Bool
is_other_ending z = eqb z 2 || eqb z 4 || eqb z 5 || eqb z 10

-- An outgoing record ends by the neighbour's failure for it, by its release of the handover for which it is prepared, or by none
-- of the neighbour's answers.
pub data Ends (p i : ℕ) (s : Station) (e : Record) (a : Answer) : Type 0 where
  failed : ending a ≡ 1 → e.kind ≡ 3 → e.neighbour ≡ p → e.old.0 ≡ i → Ends p i s e a
  moved : (admitted : ℕ) → ending a ≡ 3 → e.kind ≡ 5 → e.neighbour ≡ p → e.old.0 ≡ i → out s p i ≡ Prepared e.new.0 admitted → Ends p i s e a
  otherwise : is_other_ending (ending a) ≡ true → Ends p i s e a

-- A start: one record, preparing, with the Old ID of the request that is sent.
pub record Asks (p : ℕ) (s : Station) (e : Record) (a : Answer) : Type 0 where
  pub request : to 1 p a ≡ true
  pub kind : e.kind ≡ 9
  pub neighbour : e.neighbour ≡ p
  pub made : out a.station p (sent a).old.0 ≡ Preparing
  pub others : (j : ℕ) → (j ≡ (sent a).old.0 → ⊥) → out a.station p j ≡ out s p j

-- The neighbour's acknowledge: one record, that was preparing, is prepared with what it says.
pub record Readies (p : ℕ) (s : Station) (e : Record) (a : Answer) : Type 0 where
  pub silent : to 1 p a ≡ false
  pub kind : e.kind ≡ 2
  pub neighbour : e.neighbour ≡ p
  pub before : out s p e.old.0 ≡ Preparing
  pub after : out a.station p e.old.0 ≡ Prepared e.new.0 e.first
  pub others : (j : ℕ) → (j ≡ e.old.0 → ⊥) → out a.station p j ≡ out s p j

-- Else each record stays or ends.
pub record Keeps (p : ℕ) (s : Station) (e : Record) (a : Answer) : Type 0 where
  pub silent : to 1 p a ≡ false
  pub each : (i : ℕ) → (out a.station p i ≡ out s p i) ⊎ ((out a.station p i ≡ NotOut) × Ends p i s e a)

pub data Source (p : ℕ) (s : Station) (e : Record) (a : Answer) : Type 0 where
  asks : Asks p s e a → Source p s e a
  readies : Readies p s e a → Source p s e a
  keeps : Keeps p s e a → Source p s e a

-- ---- as a target of a neighbour

-- Each held record stays or is held no longer.
abbrev pub Shrinks : ℕ → Station → Answer → Type 0
Shrinks p s a = (j : ℕ) → (held a.station p j ≡ held s p j) ⊎ (held a.station p j ≡ NotHeld)

-- The neighbour's request is granted: one record, held, with the IDs and the set of the acknowledge that is sent.
pub record Grants (p : ℕ) (s : Station) (e : Record) (a : Answer) : Type 0 where
  pub acknowledge : to 2 p a ≡ true
  pub kind : e.kind ≡ 1
  pub neighbour : e.neighbour ≡ p
  pub old : e.old.0 ≡ (sent a).old.0
  pub made : held a.station p (sent a).new.0 ≡ Held (sent a).old.0 (sent a).first
  pub others : (j : ℕ) → (j ≡ (sent a).new.0 → ⊥) → held a.station p j ≡ held s p j

-- The neighbour's request is refused.
pub record Denies (p : ℕ) (s : Station) (e : Record) (a : Answer) : Type 0 where
  pub failure : to 3 p a ≡ true
  pub kind : e.kind ≡ 1
  pub neighbour : e.neighbour ≡ p
  pub old : e.old.0 ≡ (sent a).old.0
  pub shrinks : Shrinks p s a

-- The UE of a held record arrives: its IDs are those of the release that is sent.
pub record Arrives (p : ℕ) (s : Station) (e : Record) (a : Answer) : Type 0 where
  pub release : to 5 p a ≡ true
  pub word : sent a ≡ message 5 p (sent a).old.0 (sent a).new.0 0 0 0
  pub done : a.outcome.reply ≡ 0
  pub kind : e.kind ≡ 11
  pub new : e.new.0 ≡ (sent a).new.0
  pub admitted : ℕ
  pub before : held s p e.new.0 ≡ Held (sent a).old.0 admitted
  pub shrinks : Shrinks p s a

-- Else it sends the neighbour none of these.
pub record Holds (p : ℕ) (s : Station) (e : Record) (a : Answer) : Type 0 where
  pub no_acknowledge : to 2 p a ≡ false
  pub no_failure : to 3 p a ≡ false
  pub no_release : to 5 p a ≡ false
  pub shrinks : Shrinks p s a

pub data Target (p : ℕ) (s : Station) (e : Record) (a : Answer) : Type 0 where
  grants : Grants p s e a → Target p s e a
  denies : Denies p s e a → Target p s e a
  arrives : Arrives p s e a → Target p s e a
  holds : Holds p s e a → Target p s e a

-- ---- the laws

-- What holds of every station that a fresh one reached.
pub record Laws (s : Station) : Type 0 where
  -- own IDs are below 4,096
  pub range : (last s < 4096) × (count (leb 4096) (ids s) ≡ 0)
  -- an outgoing or held record has one of them
  pub view : (p i : ℕ) → (some_out (out s p i) ≡ true) ⊎ (some_held (held s p i) ≡ true) → 1 ≤ times i (ids s)
  -- and a deadline
  pub timed : (p i : ℕ) → (some_out (out s p i) ≡ true) ⊎ (some_held (held s p i) ≡ true) → (d : ℕ) × (due s p i ≡ Some d)

-- What holds of every step from such a station.
pub record StepLaws (s : Station) (e : Record) (a : Answer) : Type 0 where
  -- a request or an acknowledge that is sent has an own ID that is new; else none is
  pub issue : (i : ℕ) → issued a ≡ Some i → Issues i s a
  pub no_issue : issued a ≡ None → IssuesNone s a
  -- what becomes of the outgoing records towards each neighbour, and of those held for it
  pub source : (p : ℕ) → Source p s e a
  pub target : (p : ℕ) → Target p s e a
  -- a prepared record is moved by the release that has its neighbour and both its IDs
  pub takes : (p i n admitted : ℕ) → e ≡ message 5 p i n 0 0 0 → out s p i ≡ Prepared n admitted → (out a.station p i ≡ NotOut) × (ending a ≡ 3)
  -- a deadline was there before, or comes with a request or an acknowledge sent to the neighbour, or with an acknowledge from it
  pub due_before : (p i d : ℕ) → due a.station p i ≡ Some d → (due s p i ≡ Some d) ⊎ (to 1 p a ≡ true) ⊎ (to 2 p a ≡ true) ⊎ ((e.kind ≡ 2) × (e.neighbour ≡ p))
  -- a tick with reply 9 is before every deadline
  pub nine : (p i d : ℕ) → e.kind ≡ 15 → a.outcome.reply ≡ 9 → due s p i ≡ Some d → e.time < d
