-- What is left is copied over the front of the block.
use Prim.Native.Nat.{ℕ, ◌+◌, ◌-◌, ◌≤◌, ◌<◌, min}
use mathlib.Core.Path.{◌≡◌, sym, ap, ◌∙◌}
use mathlib.Core.List.{List, [], ◌++◌}
use native.Mathlib.Omega.{arith}
use lib.ListN.{length, take, drop, length-take, length-drop, drop_of_length-le}
use lib.Seq.{sets, sets-eq}
use Rattle.std.specs.List.{copy_within}
use Rattle.std.proofs.lemmas.List.{take_min}
use Rattle.std.proofs.lemmas.Slice.{between_is}
use Rattle.buffers.specs.Buffers.{left_in}
use Rattle.buffers.proofs.carry.Goals as goal

module _ (taken held end : ℕ) (block : List ℕ) (e : end ≡ min held (length block)) where
  -- how many bytes are left
  left-length : length (left_in taken held block) ≡ end - taken
  left-length = length-drop taken (take held block) ∙ ap (λ (k : ℕ). k - taken) (length-take held block ∙ sym e)

  -- and which they are
  left-bytes : left_in taken held block ≡ take (end - taken) (drop taken block)
  left-bytes = ap (drop taken) (sym (take_min held block) ∙ ap (λ (k : ℕ). take k block) (sym e)) ∙ sym (between_is block taken end)

  copied : taken < end → copy_within block taken end 0 ≡ sets block 0 (left_in taken held block)
  copied h =
      let left = left_in taken held block in
      let room : 0 + length left ≤ length block = omega (arith, left-length) in
      let there : 0 + (end - taken) ≡ 0 + length left = omega (arith, left-length) in
      rw there
      (ap (λ (xs : List ℕ). xs ++ drop (0 + length left) block) (sym left-bytes) ∙ sym (sets-eq left block 0 room))

-- nothing is left
none : (taken held end : ℕ) (block : List ℕ) → end ≡ min held (length block) → end ≤ taken → left_in taken held block ≡ []
none taken held end block e h = drop_of_length-le (take held block) {i = taken} (omega (arith, length-take held block))

pub returns-then-end-taken : goal.returns-then-end-taken
returns-then-end-taken c =
    let start = c.args in
    let nothing = none start.taken start.held _ start.block.now c.min-end.ensures c.if-end-taken.true in
    record { next = omega (arith, ap length nothing); bytes = sym (ap (sets start.block.now 0) nothing) }

pub returns : goal.returns
returns c =
    let start = c.args in
    let end = c.min-end.result in
    record {
      next = omega (arith, left-length start.taken start.held end start.block.now c.min-end.ensures);
      bytes = c.copy_within.ensures.after ∙ copied start.taken start.held end start.block.now c.min-end.ensures c.if-end-taken.false;
    }
