-- What is decided of a record.
use Prim.Native.Nat.{ℕ, ◌≤◌}
use mathlib.Core.Path.{◌≡◌, refl}
use mathlib.Core.Bool.{Bool, true, false, not, ◌&&◌, ◌||◌}
use mathlib.Core.List.{[]}
use borrow.Author.Tests.{eqb-true}
use native.Mathlib.Omega.{arith}
use lib.Dec.{eqb}
use lib.ListN.{get_or}
use Rattle.laws.proofs.Tests.{by_cases, both_true, every, every_at}
use Rattle.records.specs.declared.Record.{Record}
use Rattle.handover.specs.declared.Action.{Action}
use Rattle.handover.specs.declared.Action.TheVariants.{Untaken, Prepared, StatusStored, StatusSent, Arrived}
use Rattle.handover.specs.declared.Decision.{Decision}
use Rattle.handover.specs.declared.Entry.{Entry}
use Rattle.handover.specs.Events.{actions, action_of, number_of, same_action, message, silence, decision, refusal, does, decide, last_word, lists_fit, set_fits, prepared, stored, serving}
use Rattle.handover.specs.Numbers.{blank}

-- ---- where an action stands

-- A test that holds at every kind and state of the table, and where nothing is taken, holds of the action of any kind and state.
pub every_action : (test : ℕ → ℕ → Action → Bool) → every (λ k row. every (test k) row) actions ≡ true → (k st : ℕ) → ((j : ℕ) → test k j Untaken ≡ true) → test k st (action_of k st) ≡ true
every_action test all k st none =
    every_at (test k) (get_or actions k []) Untaken st (every_at (λ i row. every (test i) row) actions [] k all (λ j. refl)) none

-- whether an action stands at one kind and one state only
abbrev sole : Action → ℕ → ℕ → ℕ → ℕ → Action → Bool
sole action k s kind state x = not (same_action x action) || eqb kind k && eqb state s

-- By that test of the whole table, an action is found at its kind and state only.
pub stands : (action : Action) (k s kind state : ℕ) → same_action Untaken action ≡ false → every (λ i row. every (sole action k s i) row) actions ≡ true → same_action (action_of kind state) action ≡ true → (kind ≡ k) × (state ≡ s)
stands action k s kind state some test t =
    let here = every_action (sole action k s) test kind state (λ j. rw some) in
    let both : (eqb kind k ≡ true) × (eqb state s ≡ true) = both_true (eqb kind k) (eqb state s) (rw t at here) in
    (eqb-true kind k both.0, eqb-true state s both.1)

-- ---- the decisions

-- whether an action leaves the record in the table
abbrev pub leaves : Action → Bool
leaves Untaken = true
leaves Prepared = true
leaves StatusStored = true
leaves StatusSent = true
leaves Arrived = true
leaves ending = false

-- What holds of each decision that there is holds of what is decided.
module _ (P : Decision → Type 0) (e : Record) (r : Entry) (deadline : ℕ)
    (six : P (refusal 6 r)) (seven : P (refusal 7 r))
    (acknowledged : e.kind ≡ 2 → r.state ≡ 1 → lists_fit r e ≡ true → P (decision 0 0 silence (prepared r e deadline)))
    (status : r.state ≡ 3 → set_fits r e ≡ true → P (decision 0 0 silence (stored r e)))
    (forwarded : e.kind ≡ 17 → r.state ≡ 2 → set_fits r e ≡ true → P (decision 0 0 (message 4 r.neighbour r.old.0 r.new.0 e.first 0 0) r))
    (arrived : e.kind ≡ 11 → r.state ≡ 3 → P (decision 0 8 (message 5 r.neighbour r.old.0 r.new.0 0 0 0) (serving r)))
    (ended : leaves (action_of e.kind r.state) ≡ false → P (decision 0 (number_of (action_of e.kind r.state)) (last_word e r) blank)) where
  done_as : (action : Action) → action_of e.kind r.state ≡ action → P (does action e r deadline)
  done_as Untaken is = six
  done_as Prepared is =
      let there = stands Prepared 2 1 e.kind r.state refl refl (rw is) in
      by_cases (lists_fit r e) (λ v. rw v (acknowledged there.0 there.1 v)) (λ v. rw v seven)
  done_as StatusStored is =
      let there = stands StatusStored 4 3 e.kind r.state refl refl (rw is) in
      by_cases (set_fits r e) (λ v. rw v (status there.1 v)) (λ v. rw v seven)
  done_as StatusSent is =
      let there = stands StatusSent 17 2 e.kind r.state refl refl (rw is) in
      by_cases (set_fits r e) (λ v. rw v (forwarded there.0 there.1 v)) (λ v. rw v seven)
  done_as Arrived is =
      let there = stands Arrived 11 3 e.kind r.state refl refl (rw is) in
      arrived there.0 there.1
  done_as ending is = rw is at (ended (rw is))

  pub decide_as : P (decide e r deadline)
  decide_as = done_as (action_of e.kind r.state) refl

-- What holds of the record, of a free place, and of each of the three other records that a decision makes, holds of what is decided.
pub decide_keeps : (P : Entry → Type 0) (e : Record) (r : Entry) (deadline : ℕ)
    → P r → P blank
    → (e.kind ≡ 2 → r.state ≡ 1 → lists_fit r e ≡ true → P (prepared r e deadline))
    → (r.state ≡ 3 → set_fits r e ≡ true → P (stored r e))
    → (r.state ≡ 3 → P (serving r))
    → P (decide e r deadline).entry
decide_keeps P e r deadline same ended acknowledged status arrived =
    decide_as (λ d. P d.entry) e r deadline same same acknowledged status (λ _ _ _. same) (λ _ three. arrived three) (λ _. ended)

-- No decision gives a record more units.
pub decide_units : (e : Record) (r : Entry) (deadline : ℕ) → (decide e r deadline).entry.units ≤ r.units
decide_units e r deadline =
    decide_keeps (λ d. d.units ≤ r.units) e r deadline (omega arith) (omega arith) (λ _ _ _. omega arith) (λ _ _. omega arith) (λ _. omega arith)
