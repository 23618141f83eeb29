-- How a run goes on from event to event.
use Rattle.std.proofs.Common.{◌≡◌, ℕ, zero, suc, ◌<◌, Bool, true, false, List, refl, ⊎_elim, arith, ltb-true}
use Rattle.laws.proofs.Tests.{both_true, either_true}
use Rattle.records.specs.Stream.{piece_of}
use Rattle.records.proofs.Cutting as cutting
use Rattle.records.proofs.Whole.{has_record}
use Rattle.lines.specs.Lines.{is_whole, Work, goes_on, onward, work_on}

-- An event that is taken has a byte at least.
pub some_byte : (ended : Bool) (rest : List ℕ) → is_whole ended (piece_of rest) ≡ true → 0 < (piece_of rest).size
some_byte ended rest t =
    ⊎_elim (λ whole. (cutting.onward rest).1 (omega (arith, has_record rest whole)))
    (λ last. ltb-true 0 (piece_of rest).size (both_true ended _ last).1)
    (either_true (piece_of rest).whole _ t)

-- One event more, or none.
pub goes : (most : ℕ) (ended : Bool) (room : ℕ) (bytes : List ℕ) (w : Work) → goes_on ended room bytes w ≡ true
    → work_on (suc most) ended room bytes w ≡ work_on most ended room bytes (onward bytes w)
unfolding work_on
goes most ended room bytes w t = rw t

pub stops : (most : ℕ) (ended : Bool) (room : ℕ) (bytes : List ℕ) (w : Work) → goes_on ended room bytes w ≡ false → work_on most ended room bytes w ≡ w
unfolding work_on
stops zero ended room bytes w t = refl
stops (suc most) ended room bytes w t = rw t
