-- Facts about lists that the kit's library lacks.
use mathlib.Core.Path.{◌≡◌, refl}
use mathlib.Core.List.{List, [], ◌∷◌, ◌++◌, append-nil, append_assoc}
use Prim.Native.Nat.{ℕ, zero, suc, ◌+◌, ◌-◌, ◌<◌}
use native.Mathlib.Nat.{add-zero, add-sub_cancel_left}
use native.Mathlib.Omega.{arith}
use lib.ListN.{length, take, drop, get_or, replicate, drop_of_length-le}
use lib.Seq.{take-length, drop-drop, get_or-drop}

-- A part as long as what is copied to its front becomes that.
pub copied : {A : Type 0} (new old : List A) → length old ≡ length new → take (length new) new ++ drop (length new) old ≡ new
copied new old same = rw (take-length new, drop_of_length-le old {i = length new} (omega arith)) (append-nil new)

-- A list whose part from `at` on is replaced by one as long.
pub replaced : {A : Type 0} (at size : ℕ) (whole new : List A) → take at whole ++ (new ++ drop (at + size - at) (drop at whole)) ≡ take at whole ++ new ++ drop (at + size) whole
replaced at size whole new = rw (add-sub_cancel_left at size, drop-drop size at whole, append_assoc)

-- What is left of a list from a place on begins with what stands there.
pub first_left : {A : Type 0} (at : ℕ) (whole : List A) (d : A) → get_or (drop at whole) 0 d ≡ get_or whole at d
first_left at whole d = rw (get_or-drop, add-zero)

-- A list of one thing alone has that at every place, also past its end where that is what stands for nothing.
pub same_everywhere : {A : Type 0} (n k : ℕ) (x : A) → get_or (replicate n x) k x ≡ x
same_everywhere zero k x = refl
same_everywhere (suc n) zero x = refl
same_everywhere (suc n) (suc k) x = same_everywhere n k x

-- Within a list it does not matter what is read beyond it.
pub read_inside : {A : Type 0} (xs : List A) (i : ℕ) (d e : A) → i < length xs → get_or xs i d ≡ get_or xs i e
read_inside [] i d e h = absurd (omega arith)
read_inside (x ∷ xs) zero d e h = refl
read_inside (x ∷ xs) (suc i) d e h = read_inside xs i d e (omega arith)
