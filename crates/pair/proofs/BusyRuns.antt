-- The theorem speaks of more than one handover between two stations alone: runs with several at once, with a third neighbour, with
-- messages that cross or are lost, each computed with the real step and settled at its end.
use Prim.Native.Nat.{ℕ}
use mathlib.Core.Path.{◌≡◌, refl}
use mathlib.Core.Bool.{true, false, ◌&&◌}
use mathlib.Core.List.{List, [], ◌∷◌}
use Rattle.laws.proofs.Tests.{both_true}
use Rattle.promises.specs.Cases.{numbered}
use Rattle.handover.specs.Events.{message}
use Rattle.promises.specs.Views.{named}
use Rattle.pair.specs.Theorem.{Settled}
use Rattle.pair.specs.World.{Side, A, B, Silent, Refused, Fixed, Handover, World, Run}
use Rattle.pair.proofs.Scripts.{Move, does, gets, hears, misses_after, played, playable, steps, run_on}
use Rattle.pair.proofs.Runs.{peer, both, fresh, history, bearer, starts, grants, answered, unanswered, arrives, returns, cancels, told, ticks}
use Rattle.pair.proofs.Settling.{is_settled, settled}

-- A run that is settled, and what is told of its end.
pub record Shows (Told : World → Type 0) : Type 0 where
  pub world : World
  pub run : Run peer world
  pub rests : Settled peer world
  pub shown : Told world

module _ {Told : World → Type 0} where
  shows : (script : List Move) → (playable peer both script && is_settled peer (played peer both script)) ≡ true → Told (played peer both script) → Shows Told
  shows script t shown =
      let parts = both_true (playable peer both script) (is_settled peer (played peer both script)) t in
      record {
        world = played peer both script;
        run = run_on peer fresh (steps peer both script parts.0);
        rests = settled peer (played peer both script) parts.1;
        shown = shown;
      }

-- ---- several handovers

-- It arrived and its release came while its source stood prepared; the target gave it this New ID.
abbrev pub moved_as : ℕ → Handover
moved_as number = history (Fixed number 1) true true 3

-- B takes a request for so many units, and the UE arrives at the record that it holds with this New ID.
abbrev pub takes_in : ℕ → Move
takes_in units = hears B (bearer units)

abbrev pub arrives_as : Side → ℕ → Move
arrives_as s number = does s (message 11 0 0 number 0 0 0)

-- Both are source and target at once, and both handovers move; the status that A sends stands in B's record of its handover.
pub both_ways : Shows (λ w. (w.handovers A 1 ≡ moved_as 1) × (w.handovers B 1 ≡ moved_as 1) × ((named 1 (w.station B)).status ≡ 1))
unfolding played playable is_settled
both_ways =
    shows
    (starts ∷ does B (message 9 1 0 0 1 0 0) ∷ takes_in 60 ∷ hears A (bearer 60) ∷ answered ∷ told ∷ does A (message 17 0 0 0 1 0 0) ∷ told
    ∷ arrives_as B 1 ∷ arrives_as A 1 ∷ answered ∷ told ∷ [])
    refl (refl, refl, refl)

-- Two are asked for, and the acknowledge of the first is lost: the second alone is prepared and moves, the first is cancelled by the
-- time to prepare.
abbrev pub two_asked : List Move
two_asked = starts ∷ starts ∷ takes_in 40 ∷ takes_in 40 ∷ unanswered ∷ answered ∷ arrives_as B 1 ∷ answered ∷ ticks A 50 ∷ told ∷ []

pub second_prepared : Shows (λ w. (w.handovers A 1 ≡ history (Fixed 0 1) false false 2) × (w.handovers A 2 ≡ moved_as 1))
unfolding played playable is_settled
second_prepared = shows two_asked refl (refl, refl)

-- Of three requests under way that in the middle is lost: the first and the third move, the second is cancelled unheard.
pub middle_lost : Shows (λ w. (w.handovers A 1 ≡ moved_as 0) × (w.handovers A 2 ≡ history Silent false false 2) × (w.handovers A 3 ≡ moved_as 1))
unfolding played playable is_settled
middle_lost =
    shows
    (starts ∷ starts ∷ starts ∷ misses_after B 1 ∷ takes_in 40 ∷ takes_in 40 ∷ answered ∷ answered ∷ arrives_as B 0 ∷ arrives_as B 1
    ∷ answered ∷ answered ∷ ticks A 50 ∷ told ∷ [])
    refl (refl, refl, refl)

-- The UE of the first returns, and B takes the cancel: at once, without a tick, it grants all its 100 units to the second.
pub returned_freed : Shows (λ w. (w.handovers A 1 ≡ history (Fixed 0 1) false false 5) × (w.handovers A 2 ≡ moved_as 1))
unfolding played playable is_settled
returned_freed = shows (starts ∷ grants ∷ answered ∷ returns ∷ told ∷ starts ∷ takes_in 100 ∷ answered ∷ arrives_as B 1 ∷ answered ∷ []) refl (refl, refl)

-- The cancel is lost: the units stay reserved, so that the second is refused them until the guard has run out, and the third gets them.
pub returned_unfreed :
    Shows (λ w. (w.handovers A 1 ≡ history (Fixed 0 1) false false 5) × (w.handovers A 2 ≡ history Refused false false 1) × (w.handovers A 3 ≡ moved_as 1))
unfolding played playable is_settled
returned_unfreed =
    shows
    (starts ∷ grants ∷ answered ∷ returns ∷ misses_after B 0 ∷ starts ∷ takes_in 100 ∷ answered ∷ ticks B 3000 ∷ starts ∷ takes_in 100 ∷ answered
    ∷ arrives_as B 1 ∷ answered ∷ [])
    refl (refl, refl, refl)

-- ---- a third neighbour, 3

-- Its request takes 60 of B's 100 units, so that A's request for 60 is refused.
pub units_taken : Shows (λ w. w.handovers A 1 ≡ history Refused false false 1)
unfolding played playable is_settled
units_taken = shows (starts ∷ gets B (numbered 1 0 (message 1 3 0 0 0 0 0)) (bearer 60) ∷ grants ∷ answered ∷ ticks B 3000 ∷ []) refl refl

-- It sends A an acknowledge with another New ID, a failure and a release, all with the handover's Old ID, and the handover moves as B
-- fixed it.
pub forged : Shows (λ w. w.handovers A 1 ≡ moved_as 0)
unfolding played playable is_settled
forged =
    shows
    (starts ∷ does A (message 2 3 0 7 1 0 0) ∷ does A (message 3 3 0 0 0 0 4) ∷ grants ∷ answered ∷ does A (message 5 3 0 0 0 0 0)
    ∷ arrives ∷ answered ∷ [])
    refl refl

-- ---- one handover

-- A cancels it while B's acknowledge is under way: the acknowledge comes too late.
pub crossing : Shows (λ w. w.handovers A 1 ≡ history (Fixed 0 1) false false 2)
unfolding played playable is_settled
crossing = shows (starts ∷ grants ∷ cancels ∷ answered ∷ told ∷ []) refl refl

-- B resets A while it holds the reservation.
pub reset_by_target : Shows (λ w. w.handovers A 1 ≡ history (Fixed 0 1) false false 10)
unfolding played playable is_settled
reset_by_target = shows (starts ∷ grants ∷ answered ∷ does B (message 14 1 0 0 0 0 0) ∷ answered ∷ told ∷ []) refl refl
