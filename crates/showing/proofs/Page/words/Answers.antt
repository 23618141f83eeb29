-- The word of its kind, and its fields after it.
use native.Mathlib.Omega.{arith}
use Rattle.showing.proofs.Paging.{both}
use Rattle.showing.proofs.Page.words.Goals as goal

pub returns : goal.returns
returns c = both _ (omega arith) c.word.ensures (rw c.values_of.ensures at c.fields.ensures)
