-- Two results that satisfy a contract are equal: what each public entry gives is settled by its arguments.
use Prim.Native.Nat.{ℕ}
use mathlib.Core.Path.{◌≡◌, sym, ap, ◌∙◌}
use mathlib.Core.List.{List}
use Rattle.composing.specs.declared.Draft.{Draft}
use Rattle.composing.specs.declared.Progress.{Progress}
use Rattle.composing.specs.Composed.{Made, made, new_draft, read_from, taken_from}

-- There is one line at its beginning.
pub draft_once : (a b : Draft) → a ≡ new_draft → b ≡ new_draft → a ≡ b
draft_once a b p q = p ∙ sym q

-- Of the same line, bytes and buffer there is one progress, and one buffer afterwards.
pub read_once : (d : Draft) (bytes out : List ℕ) (a b : Progress) (v w : List ℕ)
    → (made a.draft v ≡ read_from bytes (made d out)) × (a.taken ≡ taken_from bytes (made d out))
    → (made b.draft w ≡ read_from bytes (made d out)) × (b.taken ≡ taken_from bytes (made d out))
    → (a ≡ b) × (v ≡ w)
read_once d bytes out a b v w p q =
    let same : made a.draft v ≡ made b.draft w = p.0 ∙ sym q.0 in
    let taken : a.taken ≡ b.taken = p.1 ∙ sym q.1 in
    ((λ i. record { draft = (same i).draft; taken = taken i }), ap (λ (m : Made). m.out) same)
