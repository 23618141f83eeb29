use Prim.Native.Nat.{◌<◌, ◌≤◌}
use mathlib.Core.Path.{◌≡◌, ◌∙◌, refl, sym}
use mathlib.Core.Bool.{true, false}
use mathlib.Core.List.{map, append-nil}
use native.Mathlib.Omega.{arith}
use native.Mathlib.Nat.{add-zero}
use Rattle.std.proofs.lemmas.Grind.{common_steps}
use lib.ListN.{length, get_or, drop_of_length-le}
use lib.Seq.{take_all}
use Rattle.laws.specs.Sums.{total}
use Rattle.handover.specs.Events.{resets}
use Rattle.handover.specs.Numbers.{blank}
use Rattle.table.specs.Table.{left_of, back_of}
use Rattle.table.proofs.Resetting.{same_station, given_back, passed_here, passed_ended, passed_kept, given_next, given_within}
use Rattle.table.proofs.Station.reset.Goals.{then-is_reset, else-is_reset}
use Rattle.table.proofs.Station.reset.Goals as goal

pub loop-r-init : goal.loop-r-init
unfolding total
loop-r-init c = (refl, add-zero c.args.self.used)

pub overflow_sub-used : goal.overflow_sub-used
overflow_sub-used c =
    let a = c.args in
    let l = c.loop-r in
    let here = passed_here a.e a.self.entries l.r-index (omega (arith, c.requires.places)) in
    rw (l.invariant.0, here)
    (omega (arith, l.invariant.1, c.requires.sum, given_within a.e a.self.entries l.r-index (omega (arith, c.requires.places))))

pub loop-r-preserved : goal.loop-r-preserved
loop-r-preserved c =
    let a = c.args in
    let l = c.loop-r in
    let es = a.self.entries in
    let r = get_or es l.r-index blank in
    let within : l.r-index < length es = omega (arith, c.requires.places) in
    let here : get_or l.r-items l.r-index blank ≡ r = rw l.invariant.0 (passed_here a.e es l.r-index within) in
    let mine : c.is_reset.result ≡ resets a.e r = rw (c.key_of-key.ensures, here) at c.is_reset.ensures in
    elim c.if-is_reset.branch [
      | then-is_reset w ↦
          let ends : resets a.e r ≡ true = sym mine ∙ w.if-is_reset.true in
          let given : back_of a.e r ≡ r.units = rw ends in (
            w.r-items-is ∙ rw (l.invariant.0, w.blank.ensures) (passed_ended a.e es l.r-index within ends),
            rw (w.used-is, here) (omega (arith, l.invariant.1, given, given_next a.e es l.r-index within, given_within a.e es l.r-index within, c.requires.sum)),
          )
      | else-is_reset w ↦
          let stays : resets a.e r ≡ false = sym mine ∙ w.if-is_reset.false in
          let none : back_of a.e r ≡ 0 = rw stays in
          let kept = l.invariant.0 ∙ passed_kept a.e es l.r-index within stays in (
            grind (arith, common_steps, kept),
            rw w.used-is (omega (arith, l.invariant.1, none, given_next a.e es l.r-index within)),
          )
    ]

pub returns : goal.returns
returns c =
    let a = c.args in
    let l = c.loop-r in
    let es = a.self.entries in
    let all : length es ≤ l.r-index = omega (arith, c.requires.places) in
    same_station a.self
    (l.invariant.0 ∙ rw (take_all l.r-index es all, drop_of_length-le es {i = l.r-index} all) (append-nil (map (left_of a.e) es)))
    (let back : given_back a.e l.r-index es ≡ total (back_of a.e) es = rw (take_all l.r-index es all) in omega (arith, l.invariant.1, back))
