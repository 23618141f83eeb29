-- The word, a space, and the digits after it.
use Prim.Native.Nat.{◌+◌, ◌*◌}
use native.Mathlib.Omega.{arith}
use lib.ListN.{length}
use Rattle.showing.proofs.Paging.{both}
use Rattle.showing.proofs.Page.raw.Goals as goal

pub returns : goal.returns
returns c = both _ (omega arith) c.word.ensures (both (1 + 2 * length c.args.bytes.now) (omega arith) c.byte.ensures c.bytes.ensures)
