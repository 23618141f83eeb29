-- Its digits and a line feed.
use mathlib.Core.Path.{sym, ◌∙◌}
use native.Mathlib.Omega.{arith}
use Rattle.showing.proofs.Paging.{both}
use Rattle.showing.proofs.Page.rest.Goals as goal

pub returns-then-not-is_empty : goal.returns-then-not-is_empty
returns-then-not-is_empty c = rw (sym c.is_empty.ensures ∙ c.if-not-is_empty.true) (both _ (omega arith) c.raw.ensures c.byte.ensures)
