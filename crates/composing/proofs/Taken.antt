-- How far a reading comes.
use Prim.Native.Nat.{ℕ, suc, ◌+◌, ◌-◌, ◌≤◌, ◌<◌}
use mathlib.Core.Path.{◌≡◌}
use mathlib.Core.Bool.{Bool, true, false, cond}
use mathlib.Core.List.{List, [], ◌∷◌}
use native.Mathlib.Omega.{arith}
use lib.ListN.{length, take, drop, length-drop}
use lib.Seq.{length-take-le}
use Rattle.composing.specs.Composed.{Made, step, taken_from}

by_test : (t : Bool) (n k : ℕ) → n ≤ k → cond t 0 (suc n) ≤ suc k
by_test true n k h = omega arith
by_test false n k h = omega arith

-- It never goes past the bytes,
pub taken_most : (bytes : List ℕ) (m : Made) → taken_from bytes m ≤ length bytes
unfolding taken_from
taken_most [] m = omega arith
taken_most (b ∷ bs) m = by_test m.draft.ended (taken_from bs (step m b)) (length bs) (taken_most bs (step m b))

-- and it takes one at least where the line has not ended.
pub taken_some : (bytes : List ℕ) (m : Made) → 0 < length bytes → m.draft.ended ≡ false → 0 < taken_from bytes m
unfolding taken_from
taken_some [] m h t = absurd (omega arith)
taken_some (b ∷ bs) m h t = rw t (omega arith)

-- So does a reading of the bytes from a place on.
pub part_taken : (bytes : List ℕ) (at n : ℕ) (m : Made) → at < length bytes → m.draft.ended ≡ false → n ≡ taken_from (take (length bytes - at) (drop at bytes)) m → (0 < n) × (at + n ≤ length bytes)
part_taken bytes at n m h t e =
    let part : List ℕ = take (length bytes - at) (drop at bytes) in
    let long : length part ≡ length bytes - at = length-take-le (length bytes - at) (drop at bytes) (omega (arith, length-drop at bytes)) in
    (rw e (taken_some part m (omega (arith, long)) t), omega (arith, e, long, taken_most part m))
