-- Numbers as text: "Decimal, single spaces, a line feed after each line".
use Rattle.std.specs.Prelude.{ℕ, zero, suc, ◌+◌, ◌/◌, ◌%◌, cond, List, [], ◌∷◌, ◌++◌, leb}

-- how many digits a number has, where it has at most so many and one
unfoldable pub size_in : ℕ → ℕ → ℕ
size_in zero n = 1
size_in (suc most) n = cond (leb 10 n) (suc (size_in most (n / 10))) 1

-- how many digits a number of 64 bits has: 20 at most
abbrev pub size : ℕ → ℕ
size n = size_in 19 n

-- its last so many digits, in ASCII
unfoldable pub digits : ℕ → ℕ → List ℕ
digits zero n = []
digits (suc k) n = digits k (n / 10) ++ ((48 + n % 10) ∷ [])

-- so many bytes have room for a number and a byte beside it
abbrev pub cell_room : ℕ
cell_room = 21

-- a number and the byte after it
abbrev pub cell : ℕ → ℕ → List ℕ
cell n after = digits (size n) n ++ (after ∷ [])

-- numbers with a space after each
unfoldable pub spaced : List ℕ → List ℕ
spaced [] = []
spaced (n ∷ ns) = cell n 32 ++ spaced ns
