-- The bearers that a request takes are those at the front of what is left after it.
use mathlib.Core.Path.{sym, ◌∙◌}
use native.Mathlib.Omega.{arith}
use lib.ListN.{length}
use Rattle.std.proofs.lemmas.Slice.{between_to_end}
use Rattle.records.proofs.Rest.{piece_whole}
use Rattle.records.proofs.stream.cut.Goals as goal

pub returns : goal.returns
returns c =
    let bytes = c.args.bytes.now in
    let rest = between_to_end bytes 32 (length bytes) (omega arith) in
    rw (piece_whole bytes c.in-Some.head (sym c.in-Some.ensures), sym c.takes_bearers.ensures ∙ c.if-not-takes_bearers.false, ← rest, ← c.bearers_in.ensures) c.request.ensures
