-- Sets of E-RAB IDs, 0 to 15, as 16-bit numbers: bit k is set where ID k is in the set.
use Rattle.std.specs.Prelude.{ℕ, ◌/◌, ◌%◌, ◌^◌, Bool, false, cond, ◌||◌, List, [], ◌∷◌, ltb, eqb}
use Rattle.std.specs.Int.Bits.{bit_and, bit_or}

-- whether an ID is in a set: its bit
unfoldable pub member : ℕ → ℕ → Bool
member s k = eqb (s / 2 ^ k % 2) 1

-- a set with an ID more; an ID above 15 is in no set and is not added
unfoldable pub add : ℕ → ℕ → ℕ
add s k = cond (ltb k 16) (bit_or s (2 ^ k)) s

-- what is in one set or the other
abbrev pub union : ℕ → ℕ → ℕ
union a b = bit_or a b

-- whether nothing is in both sets
abbrev pub disjoint : ℕ → ℕ → Bool
disjoint a b = eqb (bit_and a b) 0

-- whether each ID of the first set is in the second
abbrev pub within : ℕ → ℕ → Bool
within a b = eqb (bit_and a b) a

-- the set of the IDs of a list
unfoldable pub set_of : List ℕ → ℕ
set_of [] = 0
set_of (k ∷ ks) = add (set_of ks) k

-- whether a number is among those of a list
unfoldable pub among : ℕ → List ℕ → Bool
among k [] = false
among k (x ∷ xs) = eqb k x || among k xs
