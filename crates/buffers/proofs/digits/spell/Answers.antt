use Prim.Native.Nat.{ℕ, zero, suc, ◌+◌, ◌-◌, ◌/◌, ◌%◌, ◌≤◌}
use mathlib.Core.Path.{◌≡◌, refl, sym, ap, ◌∙◌}
use mathlib.Core.List.{List}
use native.Mathlib.Omega.{arith}
use lib.ListN.{length, set, length-set}
use lib.Seq.{sets}
use Rattle.buffers.specs.Digits.{digits}
use Rattle.buffers.proofs.Lengths.{length_digits}
use Rattle.buffers.proofs.Writing.{last_first}
use Rattle.buffers.proofs.digits.spell.Goals as goal

-- one digit less is left
one_less : (out : List ℕ) (at i rest : ℕ) → 1 ≤ i → sets (set out (at + (i - 1)) (48 + rest % 10)) at (digits (i - 1) (rest / 10)) ≡ sets out at (digits i rest)
unfolding digits
one_less out at zero rest h = absurd (omega arith)
one_less out at (suc i) rest h =
    let back : suc i - 1 ≡ i = omega arith in
    let there : length (digits i (rest / 10)) ≡ i = length_digits i (rest / 10) in
    rw back
    (sym
    (last_first out at (digits i (rest / 10)) (48 + rest % 10)
    ∙ ap (λ (k : ℕ). sets (set out (at + k) (48 + rest % 10)) at (digits i (rest / 10))) there))

pub loop-i-preserved : goal.loop-i-preserved
loop-i-preserved c =
    let now = c.loop-i in
    (length-set now.out _ _ ∙ now.invariant.0, one_less now.out c.args.at now.i now.rest c.loop-i-test.true ∙ now.invariant.1)

-- none is left
done : (out : List ℕ) (at i rest : ℕ) → i ≤ 0 → out ≡ sets out at (digits i rest)
unfolding digits
done out at zero rest h = refl
done out at (suc i) rest h = absurd (omega arith)

pub returns : goal.returns
returns c =
    let l = c.loop-i in
    rw (sym c.has_room.ensures ∙ c.if-not-has_room.false) (done l.out c.args.at l.i l.rest (omega (arith, c.loop-i-test.false)) ∙ l.invariant.1)
