-- One digit is stored at once; of a longer number the digits, and the byte after them.
use Rattle.std.proofs.Common.{◌+◌, ◌≤◌, [], ◌∷◌, arith}
use Rattle.buffers.proofs.Lengths.{size_most, spelled, short_cell}
use Rattle.buffers.proofs.Writing.{stored, joined}
use Rattle.lines.proofs.cell.Goals.{After-size-k}
use Rattle.lines.proofs.cell.Goals as goal

pub returns-then-n-lt10 : goal.returns-then-n-lt10
returns-then-n-lt10 c =
    let start = c.args in
    let two = joined (stored start.out.now start.at ((48 + start.n) ∷ [])) (stored _ _ (start.after ∷ [])) in
    rw (short_cell start.n start.after c.if-n-lt10.true) (record { next = omega arith; bytes = two.bytes })

-- it has at most 20 digits
few : (c : After-size-k) → c.size-k.result ≤ 20
few c = omega (arith, size_most 19 c.args.n)

pub overflow_add-end : goal.overflow_add-end
overflow_add-end c = omega (arith, few (goal.at.overflow_add-end c).After-size-k)

pub bounds-out-end : goal.bounds-out-end
bounds-out-end c = omega (arith, few (goal.at.bounds-out-end c).After-size-k)

pub overflow_add-result-2 : goal.overflow_add-result-2
overflow_add-result-2 c = omega (arith, few (goal.at.overflow_add-result-2 c).After-size-k)

pub returns : goal.returns
returns c =
    let start = c.args in
    let size = c.size-k in
    joined (spelled start.at start.n _ size.ensures (omega (arith, few (goal.at.returns c).After-size-k, c.requires)) c.spell.ensures) (stored _ _ (start.after ∷ []))
