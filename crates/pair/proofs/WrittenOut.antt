-- One run written out, a line a step: what is under way to B and to A, what A's records with Old IDs 0 and 1 are, and B's with New IDs 0 and 1.
use Prim.Native.Nat.{ℕ}
use mathlib.Core.Path.{◌≡◌, refl}
use mathlib.Core.List.{List, [], ◌∷◌, map}
use Rattle.records.specs.declared.Record.{Record}
use Rattle.handover.specs.Events.{message}
use Rattle.promises.specs.Views.{Outgoing, NotOut, Preparing, Prepared, Incoming, NotHeld, Held, out, held}
use Rattle.pair.specs.World.{A, B, World}
use Rattle.pair.proofs.Scripts.{Move, after, played}
use Rattle.pair.proofs.Runs.{peer, both}
use Rattle.pair.proofs.BusyRuns.{two_asked}

pub record Line : Type 0 where
  pub to_b : List Record
  pub to_a : List Record
  pub old0 : Outgoing
  pub old1 : Outgoing
  pub new0 : Incoming
  pub new1 : Incoming

abbrev line : List Record → List Record → Outgoing → Outgoing → Incoming → Incoming → Line
line to_b to_a old0 old1 new0 new1 = record { to_b = to_b; to_a = to_a; old0 = old0; old1 = old1; new0 = new0; new1 = new1 }

abbrev line_of : World → Line
line_of w =
    line (map (λ m. m.message) (w.queue A)) (map (λ m. m.message) (w.queue B)) (out (w.station A) 2 0) (out (w.station A) 2 1)
    (held (w.station B) 1 0) (held (w.station B) 1 1)

-- after each move
abbrev lines : World → List Move → List Line
lines w [] = []
lines w (m ∷ ms) = line_of (after peer w m) ∷ lines (after peer w m) ms

abbrev request : ℕ → Record
request old = message 1 2 old 0 1 0 0

abbrev acknowledge : ℕ → ℕ → Record
acknowledge old new = message 2 1 old new 1 0 0

pub written_out :
    lines both two_asked
    ≡ line (request 0 ∷ []) [] Preparing NotOut NotHeld NotHeld
    ∷ line (request 0 ∷ request 1 ∷ []) [] Preparing Preparing NotHeld NotHeld
    ∷ line (request 1 ∷ []) (acknowledge 0 0 ∷ []) Preparing Preparing (Held 0 1) NotHeld
    ∷ line [] (acknowledge 0 0 ∷ acknowledge 1 1 ∷ []) Preparing Preparing (Held 0 1) (Held 1 1)
    ∷ line [] (acknowledge 1 1 ∷ []) Preparing Preparing (Held 0 1) (Held 1 1)
    ∷ line [] [] Preparing (Prepared 1 1) (Held 0 1) (Held 1 1)
    ∷ line [] (message 5 1 1 1 0 0 0 ∷ []) Preparing (Prepared 1 1) (Held 0 1) NotHeld
    ∷ line [] [] Preparing NotOut (Held 0 1) NotHeld
    ∷ line (message 6 2 0 65535 0 0 2 ∷ []) [] NotOut NotOut (Held 0 1) NotHeld
    ∷ line [] [] NotOut NotOut NotHeld NotHeld
    ∷ []
unfolding played
written_out = refl
