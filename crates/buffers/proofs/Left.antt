-- What is left of a block.
use Prim.Native.Nat.{ℕ, ◌≤◌}
use mathlib.Core.List.{List}
use native.Mathlib.Omega.{arith}
use lib.ListN.{length, take, length-take, length-drop}
use Rattle.buffers.specs.Buffers.{left_in}

-- It is no longer than the block.
pub left_within : (taken held : ℕ) (block : List ℕ) → length (left_in taken held block) ≤ length block
left_within taken held block = omega (arith, length-drop taken (take held block), length-take held block)
