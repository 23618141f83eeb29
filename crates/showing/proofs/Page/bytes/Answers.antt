use native.Mathlib.Omega.{arith}
use Rattle.showing.specs.Shown.{bytes_text}
use Rattle.showing.proofs.Paging.{none, both}
use Rattle.showing.proofs.Texts.{bytes_more}
use Rattle.showing.proofs.Page.bytes.Goals as goal

pub loop-byte-init : goal.loop-byte-init
unfolding bytes_text
loop-byte-init c = none _ 0

pub loop-byte-preserved : goal.loop-byte-preserved
loop-byte-preserved c =
    let now = c.loop-byte in
    rw (bytes_more now.byte-index c.args.bytes.now c.loop-byte-test.true, ← c.digit.ensures, ← c.digit-in-loop-byte.ensures)
    (both _ (omega arith) now.invariant (both 2 (omega arith) c.byte.ensures c.byte-in-loop-byte.ensures))
