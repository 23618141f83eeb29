-- The limit at its edge: of 1,999 own IDs that A issues while B's acknowledge is under way it may take that then; of 2,000 it may not.
use Prim.Native.Nat.{ℕ, ◌+◌, ◌≤◌, ◌<◌}
use mathlib.Core.Path.{◌≡◌, refl}
use mathlib.Core.Bool.{true}
use mathlib.Core.List.{[], ◌∷◌}
use native.Mathlib.Omega.{arith}
use Rattle.handover.specs.declared.Entry.{Entry}
use Rattle.handover.specs.Numbers.{preparing}
use Rattle.pair.specs.World.{A, B, World, nothing, more, limit, Bounded, Run}
use Rattle.pair.proofs.Lists.{all_head}
use Rattle.pair.proofs.Scripts.{does, after, played, playable, steps, run_on}
use Rattle.pair.proofs.Runs.{peer, both, fresh, starts, grants, answered}
use Rattle.pair.proofs.Spending.{First, not_first, towards3, issued_up_to, count_up_to, spent, spends_within}

-- A's record of handover 1 while it is preparing
abbrev pub asked : Entry
asked = preparing 2 0 1 50

pub first_asked : First asked
first_asked = record { busy = refl; not_own = λ i. rw (not_first i); not_about = λ i. rw (not_first i) }

-- the world in which the acknowledge is under way, and after so many own IDs
abbrev pub waiting : World
waiting = played peer both (starts ∷ grants ∷ [])

abbrev pub later : ℕ → World
later = spent peer waiting A refl asked first_asked

within_limit_lem : (i : ℕ) → i ≤ 1999 → Bounded (later i)
unfolding played
within_limit_lem i h A A = nothing
within_limit_lem i h A B = nothing
within_limit_lem i h B A = let few : (issued_up_to i (waiting.numbers A)).issued_count < 1 + limit = omega (arith, count_up_to i (waiting.numbers A)) in more few nothing
within_limit_lem i h B B = let few : 1 < 1 + limit = omega arith in more few nothing

pub run_waiting : Run peer waiting
unfolding played playable
run_waiting = run_on peer fresh (steps peer both (starts ∷ grants ∷ []) refl)

pub on_time : (i : ℕ) → i ≤ 1999 → Run peer (later i)
unfolding played
on_time i h = spends_within peer waiting A refl asked first_asked refl i (omega arith) (λ j le. within_limit_lem j (omega arith)) run_waiting

pub allowed : playable peer (later 1999) (answered ∷ []) ≡ true
unfolding playable issued_up_to
allowed = refl

pub forbidden : Bounded (after peer (later 1999) (does A towards3)) → ⊥
unfolding played issued_up_to
forbidden b = let late : 1 + limit < 1 + limit = all_head (b B A) in omega arith
