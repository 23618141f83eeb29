use Rattle.std.proofs.Common.{◌≡◌, ℕ, ◌+◌, ◌-◌, ◌≤◌, List, length, take, drop, ap, arith, length-drop, length-take}
use Rattle.records.specs.Stream.{piece_of}
use Rattle.records.specs.declared.stream.Piece.{Piece}
use Rattle.records.proofs.Cutting as cutting
use Rattle.cases.proofs.answer.Goals.{After-cut-piece}
use Rattle.cases.proofs.answer.Goals as goal

-- the event lies within the script
within : (script : List ℕ) (at : ℕ) (p : Piece) → at ≤ length script → p ≡ piece_of (take (length script - at) (drop at script)) → at + p.size ≤ length script
within script at p h e =
    let rest = take (length script - at) (drop at script) in
    let size : p.size ≡ (piece_of rest).size = ap (λ (q : Piece). q.size) e in
    omega (arith, h, size, (cutting.onward rest).0, length-take (length script - at) (drop at script), length-drop at script)

ahead : (c : After-cut-piece) → c.args.c.now.at + c.cut-piece.result.size ≤ length c.args.script.now
ahead c = within c.args.script.now c.args.c.now.at c.cut-piece.result c.requires.at c.cut-piece.ensures

pub overflow_add-end : goal.overflow_add-end
overflow_add-end c = omega (arith, ahead (goal.at.overflow_add-end c).After-cut-piece, c.well_formed)

pub slice_bounds-answered-end : goal.slice_bounds-answered-end
slice_bounds-answered-end c = ahead (goal.at.slice_bounds-answered-end c).After-cut-piece

pub onward-requires : goal.onward-requires
onward-requires c = record { reached = c.answered-a.ensures.2; at = ahead (goal.at.onward-requires c).After-cut-piece; first = c.requires.first }
