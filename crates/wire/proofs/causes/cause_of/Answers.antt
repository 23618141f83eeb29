-- The table has the rows of the definition.
use Rattle.std.proofs.Common.{◌≡◌, ◌∙◌, ap, rules, tests, map, eqb}
use Rattle.std.specs.Prelude.{option_map, find}
use Rattle.std.proofs.lemmas.Iterator.{YieldsList-from_slice}
use Rattle.std.proofs.lemmas.Iterator.Search.{find_from_yields_List}
use Rattle.wire.specs.Causes.{causes}
use Rattle.wire.proofs.Table.{row, cause_by_table}
use Rattle.wire.proofs.causes.cause_of.Goals as goal

pub returns : goal.returns
returns c =
    let found : option_map (λ x. x.now) c.find.result ≡ find (λ x. eqb x.1 c.args.reason) (map row causes) = find_from_yields_List (λ x. eqb x.1 c.args.reason) _ _ c.find.result c.find.ensures.ran (YieldsList-from_slice (map row causes) (cc)) (λ x b q k. search (rules, tests)) in
    let mapped : c.map.result ≡ option_map (λ x. x.0) (option_map (λ x. x.now) c.find.result) = search rules in
    mapped ∙ ap (option_map (λ x. x.0)) found ∙ cause_by_table c.args.reason
