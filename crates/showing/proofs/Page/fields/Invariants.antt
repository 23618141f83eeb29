-- The fields so far are written.
use Prim.Native.Nat.{◌*◌}
use lib.ListN.{take}
use Rattle.showing.specs.Paging.{Adds}
use Rattle.showing.specs.Room.{field_room}
use Rattle.showing.specs.Shown.{fields_text}
use Rattle.showing.proofs.Page.fields.Given as goal

abbrev pub invariant-loop-before : goal.invariant-loop-before
invariant-loop-before l = Adds l.initial.self l.self (fields_text l.kind 1 (take l.before l.values)) (field_room * l.before)
