-- What is found at the front of what is left is the record at the place.
use mathlib.Core.Path.{◌∙◌, ap}
use Rattle.std.proofs.Common.{Some}
use Rattle.records.proofs.Rest.{read_here}
use Rattle.records.proofs.Record.read.Goals as goal

pub returns : goal.returns
returns c =
    let rest = c.in_ok-get.ensures.lookup.0 in
    let first = c.in_ok-found.ensures.cases in
    ap Some c.of.ensures ∙ read_here c.args.bytes.now c.args.at rest.0 rest.2 first.enough first.same
