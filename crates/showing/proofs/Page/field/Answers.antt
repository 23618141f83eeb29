-- A space, the field's word and what it holds, or nothing.
use borrow.Author.Tests.{eq-eqb, ne_eqb}
use native.Mathlib.Omega.{arith}
use Rattle.showing.specs.Shown.{field_text}
use Rattle.showing.proofs.Paging.{none, both}
use Rattle.showing.proofs.Page.field.Goals as goal

pub returns-then-value-ne0 : goal.returns-then-value-ne0
unfolding field_text
returns-then-value-ne0 c =
    rw (ne_eqb c.args.value 0 c.if-value-ne0.true, ← c.field_word.ensures) (both _ (omega arith) (both 17 (omega arith) c.byte.ensures c.word.ensures) c.value.ensures)

pub returns-else-value-ne0 : goal.returns-else-value-ne0
unfolding field_text
returns-else-value-ne0 c = rw (eq-eqb c.args.value 0 c.if-value-ne0.false) (none _ _)
