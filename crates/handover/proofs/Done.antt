-- What the events do that have a set, where they are done.
use Prim.Native.Nat.{ℕ}
use mathlib.Core.Path.{◌≡◌, ◌∙◌}
use mathlib.Core.Bool.{true}
use borrow.Author.Tests.{eqb-true, eqb-false}
use native.Mathlib.Omega.{arith}
use lib.Dec.{eqb}
use Rattle.laws.proofs.Tests.{by_cases}
use Rattle.records.specs.declared.Record.{Record}
use Rattle.handover.specs.declared.Entry.{Entry}
use Rattle.handover.specs.Events.{about, silence, decision, decide, lists_fit, set_fits, prepared, stored}
use Rattle.handover.proofs.Keys.{keyed_by}
use Rattle.handover.proofs.Rows.{rows_hold}

module _ (e : Record) (r : Entry) (deadline : ℕ) (mine : about e r ≡ true) (done : (decide e r deadline).reply ≡ 0) where
  -- An acknowledge: the record was preparing, the lists fit, and it is prepared.
  pub acknowledge_done : e.kind ≡ 2 → (r.state ≡ 1) × (lists_fit r e ≡ true) × (decide e r deadline ≡ decision 0 0 silence (prepared r e deadline))
  acknowledge_done two =
      let keys = keyed_by 2 e r two mine in
      by_cases (eqb r.state 1)
      (λ t.
      let one = eqb-true r.state 1 t in
      let row = rows_hold e r deadline 0 two one in
      by_cases (lists_fit r e) (λ fits. (one, fits, row ∙ rw fits)) (λ fails. absurd (omega (arith, rw (row, fails) at done))))
      (λ t.
      let second : r.state ≡ 2 = omega (arith, keys.first, keys.last, eqb-false r.state 1 t) in
      absurd (omega (arith, rw (rows_hold e r deadline 1 two second) at done)))

  -- A status: the record was held, and has that set.
  pub status_done : e.kind ≡ 4 → (r.state ≡ 3) × (decide e r deadline ≡ decision 0 0 silence (stored r e))
  status_done four =
      let keys = keyed_by 4 e r four mine in
      let three : r.state ≡ 3 = omega (arith, keys.first, keys.last) in
      let row = rows_hold e r deadline 4 four three in
      by_cases (set_fits r e) (λ fits. (three, rw (row, fits, three))) (λ fails. absurd (omega (arith, rw (row, fails) at done)))
