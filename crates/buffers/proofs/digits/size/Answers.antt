-- The greatest power of ten up to the number says how many digits it has; 0 has as many as 1.
use Prim.Native.Nat.{ℕ, zero, suc, max}
use mathlib.Core.Path.{◌≡◌, sym, ap, ◌∙◌}
use native.Mathlib.Omega.{arith}
use Rattle.buffers.specs.Digits.{size}
use Rattle.buffers.proofs.Lengths.{one_digit, size_by_power}
use Rattle.buffers.proofs.digits.size.Goals as goal

as_many : (n : ℕ) → size (max n 1) ≡ size n
as_many zero = one_digit 19 1 (omega arith) ∙ sym (one_digit 19 0 (omega arith))
as_many (suc n) = let same : max (suc n) 1 ≡ suc n = omega arith in ap size same

pub returns : goal.returns
returns c =
    let n = c.max.result in
    let last = c.ilog10.result in
    let power = c.ilog10.ensures in
    let digits : size n ≡ suc last = size_by_power 19 last n (omega (arith, power.bound)) power.power_le power.next_power_gt in
    let same : size n ≡ size c.args.n = ap size c.max.ensures ∙ as_many c.args.n in
    omega (arith, digits, same)
