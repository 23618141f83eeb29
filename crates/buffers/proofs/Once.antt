-- Two results that satisfy a contract are equal: what each public entry gives is settled by its arguments.
use Prim.Native.Nat.{ℕ, ◌+◌}
use mathlib.Core.Path.{◌≡◌, sym, ◌∙◌}
use mathlib.Core.List.{List}
use lib.Seq.{sets}
use Rattle.buffers.specs.Buffers.{Writes, fitting}
use Rattle.buffers.specs.Digits.{size, digits}

-- Of the same buffer, place and text there is one place after it, and one buffer afterwards. So it is of every contract that says what
-- is written.
pub writes_once : {before after after' : List ℕ} {at : ℕ} {text : List ℕ} {a b : ℕ} → Writes before after at text a → Writes before after' at text b → (a ≡ b) × (after ≡ after')
writes_once p q = (p.next ∙ sym q.next, p.bytes ∙ sym q.bytes)

-- A number has one count of digits, and of the same number, count, buffer and place there is one buffer afterwards.
pub digits_once : (n a b : ℕ) → a ≡ size n → b ≡ size n → a ≡ b
digits_once n a b p q = p ∙ sym q

pub spell_once : (n k at : ℕ) (out v w : List ℕ) → v ≡ sets out at (fitting (at + k) out (digits k n)) → w ≡ sets out at (fitting (at + k) out (digits k n)) → v ≡ w
spell_once n k at out v w p q = p ∙ sym q
