-- Two results that satisfy a contract are equal: what each public entry gives is settled by its arguments.
use Rattle.std.proofs.Common.{◌≡◌, ℕ, Bool, List, length, sym, ◌∙◌}
use lib.Seq.{sets}
use Rattle.table.specs.declared.Answer.{Answer}
use Rattle.table.specs.declared.Station.{Station}
use Rattle.lines.specs.declared.Progress.{Progress}
use Rattle.lines.specs.declared.Run.{Run}
use Rattle.lines.specs.Lines.{answer_to, verdicts_to, new_run, work_of, progress}

-- There is one run at the start.
pub new_once : (a b : Run) → a ≡ new_run → b ≡ new_run → a ≡ b
new_once a b p q = p ∙ sym q

-- Of the same run, block and buffer there is one progress, and one buffer afterwards.
pub answer_once : (run : Run) (bytes : List ℕ) (ended : Bool) (out : List ℕ) (a b : Progress) (v w : List ℕ)
    → (a ≡ progress (work_of ended (length out) bytes run)) × (v ≡ sets out 0 (work_of ended (length out) bytes run).text)
    → (b ≡ progress (work_of ended (length out) bytes run)) × (w ≡ sets out 0 (work_of ended (length out) bytes run).text)
    → (a ≡ b) × (v ≡ w)
answer_once run bytes ended out a b v w p q = (p.0 ∙ sym q.0, p.1 ∙ sym q.1)

-- Of the same station, event and buffer there is one answer, and one buffer afterwards.
pub answered_once : (station : Station) (event verdicts : List ℕ) (a b : Answer) (v w : List ℕ)
    → (a ≡ answer_to (length verdicts) station event) × (v ≡ verdicts_to station event verdicts)
    → (b ≡ answer_to (length verdicts) station event) × (w ≡ verdicts_to station event verdicts)
    → (a ≡ b) × (v ≡ w)
answered_once station event verdicts a b v w p q = (p.0 ∙ sym q.0, p.1 ∙ sym q.1)
