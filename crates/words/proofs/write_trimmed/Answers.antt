-- The bytes before the first space are copied.
use Rattle.std.proofs.Common.{ℕ, ◌≡◌, ◌≤◌, ◌-◌, ◌+◌, ◌∙◌, rules, arith, ap, take, length}
use Rattle.buffers.proofs.Writing.{copied}
use Rattle.words.specs.Words.{trimmed}
use Rattle.words.proofs.write_trimmed.Goals as goal

pub returns : goal.returns
unfolding trimmed
returns c =
    let a = c.args in
    let size = c.size_of-size.result in
    let within : size ≤ 16 = search rules in
    let text : c.copy_from_slice.new.self ≡ trimmed a.text.now = c.copy_from_slice.ensures.after ∙ ap (λ (n : ℕ). take n a.text.now) c.size_of-size.ensures.size in
    let long : size ≡ length (trimmed a.text.now) = search rules in
    let same : a.at + size - a.at ≡ length (trimmed a.text.now) = omega arith in
    (record { next = ap (λ (n : ℕ). a.at + n) long; bytes = rw text (copied a.out.now a.at (a.at + size - a.at) (trimmed a.text.now) same (omega (arith, c.requires))) }, omega arith)
