-- Two results that satisfy a contract are equal.
use Rattle.std.proofs.Common.{◌≡◌, ℕ, Result, List, length, sym, ◌∙◌}
use Rattle.records.specs.declared.Record.{Record}
use Rattle.wire.specs.declared.Refusal.{Refusal}
use Rattle.writing.specs.Writing.{written_of, left_in}

-- Of the same record and buffer there is one answer, and one buffer afterwards.
pub write_once : (r : Record) (buffer : List ℕ) (a b : Result ℕ Refusal) (v w : List ℕ)
    → (a ≡ written_of r (length buffer)) × (v ≡ left_in r buffer)
    → (b ≡ written_of r (length buffer)) × (w ≡ left_in r buffer)
    → (a ≡ b) × (v ≡ w)
write_once r buffer a b v w p q = (p.0 ∙ sym q.0, p.1 ∙ sym q.1)
