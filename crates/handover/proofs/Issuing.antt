-- The search for the next own ID.
use Prim.Native.Nat.{ℕ, zero, suc, ◌<◌}
use mathlib.Core.Path.{◌≡◌, refl}
use mathlib.Core.Bool.{true, false}
use mathlib.Core.List.{List}
use native.Mathlib.Omega.{arith}
use Rattle.std.proofs.lemmas.Bool.Decides.{nat_tests}
use Rattle.std.specs.List.{list_any}
use Rattle.handover.specs.declared.Entry.{Entry}
use Rattle.handover.specs.Numbers.{own_is, next_after, issue_from}

-- The number after an own ID is one.
pub next_small : (i : ℕ) → i < 4096 → next_after i < 4096
next_small i h = grind (arith, nat_tests)

-- The search stops at a number that no record uses, passes over one that some record uses, and ends.
pub issue_free : (most i : ℕ) (rs : List Entry) → list_any (own_is i) rs ≡ false → issue_from most i rs ≡ i
unfolding issue_from
issue_free zero i rs t = refl
issue_free (suc most) i rs t = rw t

pub issue_used : (most i : ℕ) (rs : List Entry) → list_any (own_is i) rs ≡ true → issue_from (suc most) i rs ≡ issue_from most (next_after i) rs
unfolding issue_from
issue_used most i rs t = rw t
