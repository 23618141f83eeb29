-- The theorem of two stations is not empty: each ending that it leaves open is that of a run, computed with the real step, after which
-- nothing is under way and none is due.
use Prim.Native.Nat.{ℕ}
use mathlib.Core.Path.{◌≡◌, refl}
use mathlib.Core.Bool.{Bool, true, false, ◌&&◌}
use mathlib.Core.List.{List, [], ◌∷◌, map}
use Rattle.laws.proofs.Tests.{both_true}
use Rattle.records.specs.Record.{bytes_of}
use Rattle.promises.specs.Cases as cases
use Rattle.handover.specs.Events.{message}
use Rattle.table.specs.declared.Answer.{Answer}
use Rattle.table.specs.Step.{step_of}
use Rattle.promises.specs.Views.{Prepared, NotHeld, out, held}
use Rattle.pair.specs.Theorem.{Settled, Settles, ReservedFor}
use Rattle.pair.specs.World.{Side, A, B, Answered, Silent, Refused, Fixed, Handover, World, start, Run, begin}
use Rattle.pair.proofs.Scripts.{Move, does, hears, misses, played, playable, steps, run_on}
use Rattle.pair.proofs.Settling.{tick, is_settled, settled, ended, may_settle, settles, settled_run}

-- ---- two stations

-- A knows B as neighbour 2, B knows A as neighbour 1
abbrev pub peer : Side → ℕ
peer A = 2
peer B = 1

-- both fresh, with the settings of the worked cases
abbrev pub both : World
both = start (λ s. cases.freshly)

-- ---- what they do, in handover 1 of A: its Old ID is 0, and so is the New ID that B gives it

-- one bearer, of E-RAB ID 0, asking for so many units
abbrev pub bearer : ℕ → List ℕ
bearer units = bytes_of (cases.bearer 0 9 15 units)

-- A starts it, B takes the request and grants or refuses it, A takes an answer or misses it
abbrev pub starts : Move
starts = does A (message 9 2 0 0 1 0 0)

abbrev pub grants : Move
grants = hears B (bearer 60)

abbrev pub refuses : Move
refuses = hears B (bearer 101)

abbrev pub answered : Move
answered = hears A []

abbrev pub unanswered : Move
unanswered = misses A

-- the UE arrives at B or returns to A; A cancels it, or resets B; B takes what it is told; a clock is ticked
abbrev pub arrives : Move
arrives = does B (message 11 0 0 0 0 0 0)

abbrev pub returns : Move
returns = does A (message 12 0 0 0 0 0 0)

abbrev pub cancels : Move
cancels = does A (message 10 0 0 0 0 0 0)

abbrev pub resets : Move
resets = does A (message 14 2 0 0 0 0 0)

abbrev pub told : Move
told = hears B []

abbrev pub ticks : Side → ℕ → Move
ticks s time = does s (tick time)

-- ---- what becomes of it

pub fresh : Run peer both
fresh = record { course = begin (λ s. cases.freshly) (λ s. record { settings = cases.settings; born = refl }); limited = tt }

-- what is told of it: what B answered, whether the UE arrived, whether its release came while A stood prepared, its one ending
abbrev pub history : Answered → Bool → Bool → ℕ → Handover
history answer arrived released end = record { asked = true; answer = answer; arrived = arrived; released_while_prepared = released; endings = end ∷ [] }

-- This is told of it after a run that settles.
pub record Ends (answer : Answered) (arrived released : Bool) (end : ℕ) : Type 0 where
  pub quiet : World
  pub run : Run peer quiet
  pub world : World
  pub settles : Settles peer quiet world
  pub goes_on_lem : Run peer world
  pub settled : Settled peer world
  pub handover : world.handovers A 1 ≡ history answer arrived released end

-- a script, and ticks after it until none is due
unfoldable pub outcome : List Move → List (Side × ℕ) → World
unfolding played
outcome script ts = ended peer (played peer both script) ts

unfoldable pub comes_out : List Move → List (Side × ℕ) → Bool
unfolding outcome playable is_settled
comes_out script ts = playable peer both script && (may_settle peer (played peer both script) ts && is_settled peer (outcome script ts))

module _ {answer : Answered} {arrived released : Bool} {end : ℕ} where
  ends : (script : List Move) (ts : List (Side × ℕ)) → comes_out script ts ≡ true
      → (outcome script ts).handovers A 1 ≡ history answer arrived released end → Ends answer arrived released end
  unfolding outcome comes_out
  ends script ts t handover =
      let quiet = played peer both script in
      let first = both_true (playable peer both script) (may_settle peer quiet ts && is_settled peer (ended peer quiet ts)) t in
      let second = both_true (may_settle peer quiet ts) (is_settled peer (ended peer quiet ts)) first.1 in
      let run = run_on peer fresh (steps peer both script first.0) in
      record {
        quiet = quiet;
        run = run;
        world = ended peer quiet ts;
        settles = settles peer quiet ts second.0;
        goes_on_lem = settled_run peer run ts second.0;
        settled = settled peer (ended peer quiet ts) second.1;
        handover = handover;
      }

-- ---- a prepared handover

-- It has what B fixed.
pub prepared : (w : World) × Run peer w × (out (w.station A) 2 0 ≡ Prepared 0 1) × ((w.handovers A 1).answer ≡ Fixed 0 1)
unfolding played playable
prepared =
    let script = starts ∷ grants ∷ answered ∷ [] in
    (played peer both script, run_on peer fresh (steps peer both script refl), refl, refl)

-- ---- B's release, which A takes while it is preparing, or too late

abbrev pub replied : List Move → ℕ
replied script = (step_of ((played peer both script).station A) (message 5 2 0 0 0 0 0) [] 256).outcome.reply

pub early : replied (starts ∷ grants ∷ arrives ∷ unanswered ∷ []) ≡ 6
unfolding played
early = refl

pub late : replied (starts ∷ grants ∷ answered ∷ arrives ∷ returns ∷ []) ≡ 2
unfolding played
late = refl

-- ---- A's cancel of a UE that returned

-- B takes it while it holds the reservation: that is handover 1's, and so is the cancel, and its 60 units are free in that step.
pub cancel_in_time :
    let before = played peer both (starts ∷ grants ∷ answered ∷ returns ∷ []) in
    let after = played peer both (starts ∷ grants ∷ answered ∷ returns ∷ told ∷ []) in
    ReservedFor peer before A 1 0 × ((before.station B).used ≡ 60) × (map (λ m. m.tag) (before.queue A) ≡ 1 ∷ [])
    × (held (after.station B) 1 0 ≡ NotHeld) × ((after.station B).used ≡ 0)
unfolding played
cancel_in_time = ((refl, refl), refl, refl, refl, refl)

abbrev pub cancelled_after : List Move → Answer
cancelled_after script = step_of ((played peer both script).station B) (message 6 1 0 0 0 0 3) [] 256

-- B takes it when the UE has arrived after all: reply 2, and B is as it was.
pub cancel_late :
    let script = starts ∷ grants ∷ answered ∷ arrives ∷ returns ∷ [] in
    ((cancelled_after script).outcome.reply ≡ 2) × ((cancelled_after script).station ≡ (played peer both script).station B)
unfolding played
cancel_late = (refl, refl)

-- ---- the UE arrived

pub moved : Ends (Fixed 0 1) true true 3
unfolding outcome comes_out
moved = ends (starts ∷ grants ∷ answered ∷ arrives ∷ answered ∷ []) [] refl refl

-- The release is lost.
pub cancelled_lost : Ends (Fixed 0 1) true false 2
unfolding outcome comes_out
cancelled_lost = ends (starts ∷ grants ∷ arrives ∷ unanswered ∷ unanswered ∷ cancels ∷ told ∷ []) [] refl refl

-- It comes while A is preparing, since the acknowledge is lost; then the time to prepare is over.
pub cancelled_early : Ends (Fixed 0 1) true false 2
unfolding outcome comes_out
cancelled_early = ends (starts ∷ grants ∷ arrives ∷ unanswered ∷ answered ∷ ticks A 50 ∷ told ∷ []) [] refl refl

-- It comes too late, and so does A's cancel.
pub returned_late : Ends (Fixed 0 1) true false 5
unfolding outcome comes_out
returned_late = ends (starts ∷ grants ∷ answered ∷ arrives ∷ returns ∷ answered ∷ told ∷ []) [] refl refl

pub overtime_late : Ends (Fixed 0 1) true false 4
unfolding outcome comes_out
overtime_late = ends (starts ∷ grants ∷ answered ∷ arrives ∷ ticks A 2000 ∷ answered ∷ []) [] refl refl

pub reset_late : Ends (Fixed 0 1) true false 10
unfolding outcome comes_out
reset_late = ends (starts ∷ grants ∷ answered ∷ arrives ∷ resets ∷ answered ∷ told ∷ answered ∷ []) [] refl refl

-- ---- it did not

pub failed : Ends Refused false false 1
unfolding outcome comes_out
failed = ends (starts ∷ refuses ∷ answered ∷ []) [] refl refl

pub cancelled : Ends (Fixed 0 1) false false 2
unfolding outcome comes_out
cancelled = ends (starts ∷ grants ∷ answered ∷ cancels ∷ told ∷ []) [] refl refl

-- B takes the cancel, and nothing is left for its guard.
pub returned : Ends (Fixed 0 1) false false 5
unfolding outcome comes_out
returned = ends (starts ∷ grants ∷ answered ∷ returns ∷ told ∷ []) [] refl refl

-- These leave B's reservation to its guard: the cancel is lost, or there is none.
pub returned_lost : Ends (Fixed 0 1) false false 5
unfolding outcome comes_out
returned_lost = ends (starts ∷ grants ∷ answered ∷ returns ∷ misses B ∷ []) ((B, 3000) ∷ []) refl refl

pub overtime : Ends (Fixed 0 1) false false 4
unfolding outcome comes_out
overtime = ends (starts ∷ grants ∷ answered ∷ []) ((A, 2000) ∷ (B, 3000) ∷ []) refl refl

pub reset : Ends (Fixed 0 1) false false 10
unfolding outcome comes_out
reset = ends (starts ∷ grants ∷ answered ∷ resets ∷ told ∷ answered ∷ []) [] refl refl

-- The request itself is lost.
pub cancelled_unheard : Ends Silent false false 2
unfolding outcome comes_out
cancelled_unheard = ends (starts ∷ misses B ∷ cancels ∷ told ∷ []) [] refl refl
