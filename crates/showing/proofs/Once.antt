-- Two results that satisfy a contract are equal: what each public entry gives is settled by its arguments.
use Prim.Native.Nat.{ℕ}
use mathlib.Core.Path.{◌≡◌, sym, ◌∙◌}
use mathlib.Core.List.{List}
use lib.ListN.{length}
use lib.Seq.{sets}
use Rattle.showing.specs.declared.Sheet.{Sheet}
use Rattle.showing.specs.declared.Shown.{Shown}
use Rattle.showing.specs.Shown.{new_sheet, shown_of, shown_text}

-- There is one sheet at the beginning.
pub sheet_once : (a b : Sheet) → a ≡ new_sheet → b ≡ new_sheet → a ≡ b
sheet_once a b p q = p ∙ sym q

-- Of the same sheet, bytes and buffer there is one answer, and one buffer afterwards.
pub show_once : (s : Sheet) (bytes out : List ℕ) (a b : Shown) (v w : List ℕ)
    → (a ≡ shown_of (length out) bytes s) × (v ≡ sets out 0 (shown_text (length out) bytes s))
    → (b ≡ shown_of (length out) bytes s) × (w ≡ sets out 0 (shown_text (length out) bytes s))
    → (a ≡ b) × (v ≡ w)
show_once s bytes out a b v w p q = (p.0 ∙ sym q.0, p.1 ∙ sym q.1)
