-- The IDs so far are written.
use Prim.Native.Nat.{◌*◌}
use Rattle.buffers.specs.Digits.{cell_room}
use Rattle.showing.specs.Paging.{Adds}
use Rattle.showing.specs.Shown.{ids_text}
use Rattle.showing.proofs.Page.ids.Given as goal

abbrev pub invariant-loop-id : goal.invariant-loop-id
invariant-loop-id l = Adds l.initial.self l.self (ids_text l.set 0 l.id) (cell_room * l.id)
