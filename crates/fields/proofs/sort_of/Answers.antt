-- Each way out by the tests that led there.
use mathlib.Core.Path.{refl, sym, ◌∙◌}
use mathlib.Core.Bool.{true, false}
use Rattle.fields.specs.Fields.{is_counted}
use Rattle.fields.proofs.Agreeing.{sort_if}
use Rattle.fields.proofs.sort_of.Goals.{else-all_fit-via-then-all_fit+else-is_counted, else-all_fit-via-else-all_fit}
use Rattle.fields.proofs.sort_of.Goals as goal

pub returns-then-is_counted : goal.returns-then-is_counted
returns-then-is_counted c =
    let row = c.row_of-row in
    sort_if c.args.e row.result.now true true row.ensures (sym c.if-all_fit.true ∙ c.all_fit.ensures) (sym c.if-is_counted.true ∙ c.is_counted.ensures)

pub returns-else-all_fit : goal.returns-else-all_fit
returns-else-all_fit c =
    let e = c.args.e in
    let row = c.row_of-row in
    elim c.else-all_fit.branch [
      | else-all_fit-via-then-all_fit+else-is_counted w ↦
          sort_if e row.result.now true false row.ensures (sym w.if-all_fit.true ∙ c.all_fit.ensures) (sym w.if-is_counted.false ∙ w.is_counted.ensures)
      | else-all_fit-via-else-all_fit w ↦ sort_if e row.result.now false (is_counted e) row.ensures (sym w.if-all_fit.false ∙ c.all_fit.ensures) refl
    ]
