-- The value of an IE stands within a message that is in order.
use Rattle.std.proofs.Common.{◌≡◌, is_ok, true, rules, arith}
use Rattle.reading.proofs.Values.{value_inside}
use Rattle.reading.proofs.ie.Goals as goal

pub slice_bounds-result-end : goal.slice_bounds-result-end
slice_bounds-result-end c =
    let ok : is_ok c.judged.result ≡ true = search rules in
    omega (arith, value_inside c.args.message.now c.args.id c.in_ok-part.part c.judged.result c.judged.ensures ok c.shape_of.result c.shape_of.ensures c.in_ok-part.ensures.part)
