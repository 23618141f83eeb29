-- The bytes so far are written.
use Prim.Native.Nat.{◌*◌}
use lib.ListN.{take}
use Rattle.showing.specs.Paging.{Adds}
use Rattle.showing.specs.Shown.{bytes_text}
use Rattle.showing.proofs.Page.bytes.Given as goal

abbrev pub invariant-loop-byte : goal.invariant-loop-byte
invariant-loop-byte l = Adds l.initial.self l.self (bytes_text (take l.byte-index l.bytes)) (2 * l.byte-index)
