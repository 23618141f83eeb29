-- Two results that satisfy a contract are equal: what each public entry gives is settled by its arguments.
use Prim.Native.Nat.{ℕ}
use mathlib.Core.Path.{◌≡◌, sym, ◌∙◌}
use mathlib.Core.List.{List, []}
use lib.ListN.{length}
use Rattle.records.specs.declared.Record.{Record}
use Rattle.table.specs.declared.Answer.{Answer}
use Rattle.table.specs.declared.Birth.{Birth}
use Rattle.table.specs.declared.Settings.{Settings}
use Rattle.table.specs.declared.Station.{Station}
use Rattle.table.specs.Step.{birth_of, step_of, verdicts_of}

-- Of the same settings there is one birth.
pub new_once : (settings : Settings) (a b : Birth) → a ≡ birth_of settings → b ≡ birth_of settings → a ≡ b
new_once settings a b p q = p ∙ sym q

module _ (s : Station) (e : Record) where
  -- Of the same station and event there is one answer.
  pub step_once : (a b : Answer) → a ≡ step_of s e [] 0 → b ≡ step_of s e [] 0 → a ≡ b
  step_once a b p q = p ∙ sym q

  -- Of the same station, event, bytes and buffer there is one answer, and one buffer afterwards.
  pub request_once : (bearers verdicts : List ℕ) (a b : Answer) (v w : List ℕ)
      → (a ≡ step_of s e bearers (length verdicts)) × (v ≡ verdicts_of s e bearers verdicts)
      → (b ≡ step_of s e bearers (length verdicts)) × (w ≡ verdicts_of s e bearers verdicts)
      → (a ≡ b) × (v ≡ w)
  request_once bearers verdicts a b v w p q = (p.0 ∙ sym q.0, p.1 ∙ sym q.1)
