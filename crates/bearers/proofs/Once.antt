-- Two results that satisfy a contract are equal: what each public entry gives is settled by its arguments.
use Prim.Native.Nat.{ℕ}
use mathlib.Core.Path.{◌≡◌, sym, ◌∙◌}
use mathlib.Core.List.{List}
use lib.ListN.{length}
use Rattle.records.specs.declared.Record.{Record}
use Rattle.bearers.specs.declared.Flaw.{Flaw}
use Rattle.bearers.specs.declared.Admission.{Admission}
use Rattle.bearers.specs.declared.Bearer.{Bearer}
use Rattle.std.proofs.Common.{Option, Result}
use Rattle.bearers.specs.Admission.{judgement_of, verdicts_in, all_five}
use Rattle.bearers.specs.Bearer.{parsed}
use Rattle.bearers.specs.Flaws.{flaw_of}

-- Of the same record there is one bearer.
pub of_once : (r : Record) (a b : Option Bearer) → a ≡ parsed r → b ≡ parsed r → a ≡ b
of_once r a b p q = p ∙ sym q

-- Of the same bytes and room there is one flaw.
pub flaw_once : (bytes : List ℕ) (room : ℕ) (a b : Option Flaw) → a ≡ flaw_of bytes room → b ≡ flaw_of bytes room → a ≡ b
flaw_once bytes room a b p q = p ∙ sym q

-- Of the same count and buffer there is one buffer afterwards.
pub refuse_all_once : (count : ℕ) (buffer v w : List ℕ) → v ≡ all_five count buffer → w ≡ all_five count buffer → v ≡ w
refuse_all_once count buffer v w p q = p ∙ sym q

-- Of the same bytes, free units and buffer there is one judgement, and one buffer afterwards.
pub admit_once : (bytes : List ℕ) (free : ℕ) (buffer : List ℕ) (a b : Result Admission Flaw) (v w : List ℕ)
    → (a ≡ judgement_of bytes free (length buffer)) × (v ≡ verdicts_in bytes free buffer)
    → (b ≡ judgement_of bytes free (length buffer)) × (w ≡ verdicts_in bytes free buffer)
    → (a ≡ b) × (v ≡ w)
admit_once bytes free buffer a b v w p q = (p.0 ∙ sym q.0, p.1 ∙ sym q.1)
