use Rattle.std.proofs.Common.{◌≡◌, ℕ, ◌+◌, ◌<◌, ◌≤◌, List, [], ◌++◌, length, get_or, drop, refl, ◌∙◌, add-one, arith, drop_of_length-le, drop-cons}
use Rattle.buffers.specs.Digits.{cell, spaced}
use Rattle.buffers.proofs.Lengths.{cell_most}
use Rattle.buffers.proofs.Writing.{stored, onward, completed}
use Rattle.lines.proofs.cells.Goals as goal

pub loop-n-init : goal.loop-n-init
loop-n-init c = (refl, omega arith, stored _ _ _)

-- the next number, and those after it
next : (numbers : List ℕ) (i : ℕ) → i < length numbers → spaced (drop i numbers) ≡ cell (get_or numbers i 0) 32 ++ spaced (drop (i + 1) numbers)
unfolding spaced
next numbers i h = rw (drop-cons numbers i 0 h, add-one i)

pub loop-n-preserved : goal.loop-n-preserved
loop-n-preserved c =
    let now = c.loop-n in
    let here : now.n-index < length c.args.numbers.now = omega arith in
    let owed = rw (next c.args.numbers.now now.n-index here) at now.invariant.2 in (
      c.cell-place.auto.out ∙ now.invariant.0,
      omega (arith, cell_most (get_or c.args.numbers.now now.n-index 0) 32),
      onward _ owed c.cell-place.ensures,
    )

pub shape_of-out : goal.shape_of-out
shape_of-out c = c.loop-n.invariant.0

-- none is left
done : (numbers : List ℕ) (i : ℕ) → length numbers ≤ i → spaced (drop i numbers) ≡ []
unfolding spaced
done numbers i h = rw (drop_of_length-le numbers h)

pub returns : goal.returns
returns c =
    let now = c.loop-n in
    let none = done c.args.numbers.now now.n-index (omega arith) in
    completed (rw none at now.invariant.2)
