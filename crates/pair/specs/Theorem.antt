-- The theorem of two stations: whatever they do and whatever is lost, both think the same of each handover.
use Rattle.std.specs.Prelude.{ℕ, ◌+◌, ◌≤◌, ◌<◌, ◌≡◌, Bool, true, false, ◌||◌, [], ◌∷◌, ◌++◌, ◌↔◌, eqb, get_or}
use Rattle.std.specs.Prelude.{Some}
use Rattle.records.specs.declared.Record.{Record}
use Rattle.handover.specs.declared.Entry.{Entry}
use Rattle.handover.specs.Events.{message}
use Rattle.handover.specs.Numbers.{blank}
use Rattle.table.specs.declared.Answer.{Answer}
use Rattle.promises.specs.Views.{NotOut, Prepared, NotHeld, Held, some_out, some_held, named, out, held, due, to, is_other_ending}
use Rattle.pair.specs.World.{Side, other, Handover, Refused, Fixed, Envelope, World, record_of, Answers, Acts, Step, acts, loses, Bounded, Run}

-- an ending at the source: failed, moved, cancelled, overtime, returned or reset
abbrev pub is_ending : ℕ → Bool
is_ending z = eqb z 1 || eqb z 3 || is_other_ending z

-- A handover has one ending "at the source", one of these: failed only if the target refused "that very request"; moved if and only if "the
-- target saw the UE arrive" and its release "came while the source stood prepared"; if the UE arrived and its release did not so come,
-- then cancelled, overtime, returned or reset.
pub record EndsOnce (k : Handover) : Type 0 where
  pub end : ℕ
  pub one : k.endings ≡ end ∷ []
  pub is_ending_lem : is_ending end ≡ true
  pub failed : end ≡ 1 → k.answer ≡ Refused
  pub moved : (end ≡ 3) ↔ ((k.arrived ≡ true) × (k.released_while_prepared ≡ true))
  pub release_missed : k.arrived ≡ true → k.released_while_prepared ≡ false → is_other_ending end ≡ true

-- a place of a station's table
abbrev pub place : World → Side → ℕ → Entry
place w s j = get_or (w.station s).entries j blank

-- "Nothing is under way."
abbrev pub Empty : World → Type 0
Empty w = (s : Side) → w.queue s ≡ []

module _ (peer : Side → ℕ) where
  -- "A prepared handover carries" the New ID and the admitted set that the target "fixed for that very request": the source's record does.
  abbrev pub AsFixed : World → Side → Type 0
  AsFixed w s =
      (i number set : ℕ) → out (w.station s) (peer s) i ≡ Prepared number set
      → (h : ℕ) × ((w.numbers s).number_of h ≡ i) × ((w.numbers s).issue_of i ≡ h) × ((w.handovers s h).asked ≡ true)
      × ((w.handovers s h).answer ≡ Fixed number set)

  -- So does the record that the target holds for it.
  abbrev pub HeldAsFixed : World → Side → Type 0
  HeldAsFixed w s =
      (old number set : ℕ) → held (w.station (other s)) (peer (other s)) number ≡ Held old set
      → (h : ℕ) × ((w.numbers s).number_of h ≡ old) × (w.fixed_for s number ≡ h) × ((w.handovers s h).asked ≡ true)
      × ((w.handovers s h).answer ≡ Fixed number set)

  -- Each outgoing record towards the other station, prepared or not, is that of a handover which was asked for and has not ended.
  abbrev pub OutgoingAsked : World → Side → Type 0
  OutgoingAsked w s =
      (i : ℕ) → some_out (out (w.station s) (peer s) i) ≡ true
      → (h : ℕ) × ((w.numbers s).number_of h ≡ i) × ((w.numbers s).issue_of i ≡ h) × ((w.handovers s h).asked ≡ true) × ((w.handovers s h).endings ≡ [])

  -- Neither station holds a reservation for the other or an outgoing record towards it: none is seen, and no place of its table that has
  -- the other's number is preparing, prepared or held. And each handover has ended once.
  pub record AtRest (w : World) (s : Side) : Type 0 where
    pub no_reservation : (i : ℕ) → held (w.station s) (peer s) i ≡ NotHeld
    pub no_outgoing : (i : ℕ) → out (w.station s) (peer s) i ≡ NotOut
    pub no_place : (j : ℕ) → j < 64 → (place w s j).neighbour ≡ peer s → 1 ≤ (place w s j).state → (place w s j).state ≤ 3 → ⊥
    pub ended : (h : ℕ) → (w.handovers s h).asked ≡ true → EndsOnce (w.handovers s h)

  -- A time that is "past every deadline" of a station's records of the other.
  abbrev pub Past : World → Side → ℕ → Type 0
  Past w s t = (i d : ℕ) → due (w.station s) (peer s) i ≡ Some d → d ≤ t

  -- Steps in which neither station starts a handover towards the other; all else may happen in them, beyond the limit too.
  abbrev pub starts : {w w' : World} → Step peer w w' → Bool
  starts (acts s e a x) = to 1 (peer s) a
  starts (loses s x) = false

  pub data Still (w : World) : World → Type 0 where
    here : Still w w
    onward : {v w' : World} → Still w v → (x : Step peer v w') → starts x ≡ false → Still w w'

  -- A station's clock is "ticked until none is due": a tick gets reply 9.
  pub record NoneDueAt (s : Side) (t : ℕ) (w w' : World) : Type 0 where
    pub before : World
    pub still : Still w before
    pub event : Record
    pub answer : Answer
    pub after : World
    pub acts : Acts peer before s event answer after
    pub kind : event.kind ≡ 15
    pub time : event.time ≡ t
    pub none_due : answer.outcome.reply ≡ 9
    pub later : Still after w'

  -- "Nothing is under way, and both clocks are ticked past every deadline until none is due."
  pub record Settles (w w' : World) : Type 0 where
    pub empty : Empty w
    pub time : Side → ℕ
    pub past : (s : Side) → Past w s (time s)
    pub none_due : (s : Side) → NoneDueAt s (time s) w w'

  -- The same of one moment: nothing is under way, and at each station a tick past every deadline would get reply 9.
  pub record Settled (w : World) : Type 0 where
    pub empty : Empty w
    pub tick : Side → Record
    pub kind : (s : Side) → (tick s).kind ≡ 15
    pub past : (s : Side) → Past w s (tick s).time
    pub answer : Side → Answer
    pub answers : (s : Side) → Answers (w.station s) (tick s) (answer s)
    pub none_due : (s : Side) → (answer s).outcome.reply ≡ 9

  -- The theorem.
  pub record Demand : Type 0 where
    pub fixed : (w : World) → Run peer w → (s : Side) → AsFixed w s
    pub held_fixed : (w : World) → Run peer w → (s : Side) → HeldAsFixed w s
    pub outgoing_asked : (w : World) → Run peer w → (s : Side) → OutgoingAsked w s
    pub settles : (w w' : World) → Run peer w → Settles w w' → (s : Side) → AtRest w' s
    pub settled : (w : World) → Run peer w → Settled w → (s : Side) → AtRest w s

-- ---- a UE that returns

module _ (peer : Side → ℕ) where
  -- The UE of a handover returns to its source: kind 12 is done on the handover's record, which is prepared with this New ID.
  pub record UeReturns (s : Side) (h number : ℕ) (w w' : World) : Type 0 where
    pub event : Record
    pub answer : Answer
    pub acts : Acts peer w s event answer w'
    pub kind : event.kind ≡ 12
    pub done : answer.outcome.reply ≡ 0
    pub old : (w.numbers s).number_of h ≡ event.old.0
    pub set : ℕ
    pub prepared : record_of (w.numbers s) (out (w.station s) (peer s)) h ≡ Prepared number set

  -- "On return the source shall also send HANDOVER CANCEL with both IDs and reason 3; the ending stays 5": it is under way to the target, and
  -- belongs to the handover.
  pub record CancelSent (s : Side) (h number : ℕ) (w w' : World) : Type 0 where
    pub cancel : Envelope
    pub queued : w'.queue s ≡ w.queue s ++ (cancel ∷ [])
    pub word : cancel.message ≡ message 6 (peer s) ((w.numbers s).number_of h) number 0 0 3
    pub belongs : cancel.tag ≡ h
    pub ended : (w'.handovers s h).endings ≡ 5 ∷ []

  -- The target takes a cancel that belongs to a handover.
  pub record CancelTaken (s : Side) (h : ℕ) (w w' : World) : Type 0 where
    pub event : Record
    pub answer : Answer
    pub acts : Acts peer w (other s) event answer w'
    pub cancel : Envelope
    pub taken : acts.taken ≡ Some cancel
    pub kind : cancel.message.kind ≡ 6
    pub belongs : cancel.tag ≡ h

  -- the record with this New ID is a reservation of the target for a handover of the source
  abbrev pub ReservedFor : World → Side → ℕ → ℕ → Type 0
  ReservedFor w s h number =
      (some_held (held (w.station (other s)) (peer (other s)) number) ≡ true) × (w.fixed_for s number ≡ h)

  -- It has none for the handover any more, and the units of the one that it had are free: in this very step, whatever its clock says.
  pub record Freed (s : Side) (h : ℕ) (w w' : World) : Type 0 where
    pub no_reservation : (number : ℕ) → ReservedFor w' s h number → ⊥
    pub units : (number : ℕ) → ReservedFor w s h number
        → (w'.station (other s)).used + (named number (w.station (other s))).units ≡ (w.station (other s)).used

  -- the worlds that are reached from one, within the limit
  pub data Later (w : World) : World → Type 0 where
    now : Later w w
    on : {v w' : World} → Later w v → Step peer v w' → Bounded w' → Later w w'

  -- The law of a UE that returns: its source tells the target, the target that takes it frees what it held for the handover, and holds
  -- nothing for it ever after.
  pub record ReturnFrees : Type 0 where
    pub sent : (w w' : World) → Run peer w → (s : Side) (h number : ℕ) → UeReturns s h number w w' → CancelSent s h number w w'
    pub freed : (w w' : World) → Run peer w → (s : Side) (h : ℕ) → CancelTaken s h w w' → Freed s h w w'
    pub for_good : (w w' v : World) → Run peer w → (s : Side) (h number : ℕ) → CancelTaken s h w w' → ReservedFor w s h number
        → Bounded w' → Later w' v → (n : ℕ) → ReservedFor v s h n → ⊥
