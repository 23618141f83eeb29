-- What a station sends another, it sends well formed: a message of kinds 2 to 8 has the fields that its kind uses, in range, and no others.
-- A request, kind 1, gets its bearers and its count from the layer below, and kind 20 goes to the MME.
use Prim.Native.Nat.{ℕ, ◌^◌, ◌≤◌, ◌<◌}
use mathlib.Core.Path.{◌≡◌}
use mathlib.Core.Bool.{true, ◌&&◌}
use mathlib.Core.List.{List}
use native.Mathlib.Omega.{arith}
use lib.Dec.{eqb}
use lib.ListN.{get_or}
use Rattle.laws.proofs.Tests.{by_cases}
use Rattle.records.specs.declared.Record.{Record}
use Rattle.sets.proofs.Membership.{set_of_fits}
use Rattle.table.specs.declared.Answer.{Answer}
use Rattle.handover.specs.declared.Entry.{Entry}
use Rattle.table.specs.declared.Station.{Station}
use Rattle.handover.specs.Events.{silence, last_word, decide}
use Rattle.fields.specs.Fields.{well_formed}
use Rattle.handover.specs.Numbers.{blank}
use Rattle.table.specs.Reached.{Reached}
use Rattle.table.specs.Step.{issue, step_of, taken, admission}
use Rattle.promises.proofs.Bounds.{Bounded, bounded}
use Rattle.table.proofs.Counting.{issue_small}
use Rattle.handover.proofs.Deciding.{decide_as}
use Rattle.fields.proofs.Forms.{used_in_range, neighbour_within, old_within, first_within}
use Rattle.table.proofs.Parts.{Part, as_refusal, as_response, as_failure, as_grant, as_start, as_reset, as_idle, as_tick, as_event, part}
use Rattle.table.proofs.Placing.{found_place, due_place}
use Rattle.table.proofs.Soundness.{sound}

abbrev Formed : Record → Type 0
Formed m = 2 ≤ m.kind → m.kind ≤ 8 → well_formed m ≡ true

unsent : Formed silence
unsent low high = absurd (omega arith)

-- What ends a record sends a cancel, with its New ID or none, or asks the MME, or nothing.
last_formed : (e : Record) (r : Entry) → Bounded r → Formed (last_word e r)
last_formed e r b =
    let neighbour = used_in_range 31 r.neighbour b.0 in
    let old = used_in_range 4095 r.old.0 b.1 in
    let new = used_in_range 4095 r.new.0 b.2 in
    by_cases (eqb e.kind 10)
    (λ t. by_cases (eqb r.state 2) (λ u. rw (t, u) (λ low high. rw (neighbour, old, new))) (λ u. rw (t, u) (λ low high. rw (neighbour, old))))
    (λ t.
    by_cases (eqb e.kind 15 && eqb r.state 1)
    (λ u. rw (t, u) (λ low high. rw (neighbour, old)))
    (λ u. by_cases (eqb e.kind 15 && eqb r.state 2) (λ v. rw (t, u, v) (λ low high. absurd (omega arith)))
    (λ v. by_cases (eqb e.kind 12) (λ x. rw (t, u, v, x) (λ low high. rw (neighbour, old, new))) (λ x. rw (t, u, v, x) unsent))))

-- What is decided of a record sends a status, a release, or what ends it.
decided_formed : (e : Record) (r : Entry) (deadline : ℕ) → well_formed e ≡ true → Bounded r → Formed (decide e r deadline).message
decided_formed e r deadline formed b =
    let neighbour = used_in_range 31 r.neighbour b.0 in
    let old = used_in_range 4095 r.old.0 b.1 in
    let new = used_in_range 4095 r.new.0 b.2 in
    decide_as (λ d. Formed d.message) e r deadline unsent unsent (λ _ _ _. unsent) (λ _ _. unsent)
    (λ _ _ _ low high. rw (neighbour, old, new, used_in_range 65535 e.first (first_within e formed)))
    (λ _ _ low high. rw (neighbour, old, new))
    (λ _. last_formed e r b)

module _ {s : Station} (reached : Reached s) (e : Record) (bearers : List ℕ) (room : ℕ) (formed : well_formed e ≡ true) where
  part_formed : {a : Answer} → Part s e bearers room a → Formed a.outcome.message
  part_formed (as_refusal f _) = unsent
  part_formed (as_response _) = unsent
  part_formed (as_failure n _ most _) =
      λ low high. rw (used_in_range 31 e.neighbour (neighbour_within e formed), used_in_range 4095 e.old.0 (old_within e formed), used_in_range 255 n (omega arith))
  part_formed (as_grant i _ _ _ _ _) =
      let a = admission (taken e bearers) s in
      let admitted : a.admitted < 2 ^ 16 = set_of_fits _ in
      let refused : a.refused < 2 ^ 16 = set_of_fits _ in
      λ low high. rw (
        used_in_range 31 e.neighbour (neighbour_within e formed),
        used_in_range 4095 e.old.0 (old_within e formed),
        used_in_range 4095 (issue s) (omega (arith, issue_small s (sound reached))),
        used_in_range 65535 a.admitted (omega arith),
        used_in_range 65535 a.refused (omega arith),
      )
  part_formed (as_start i _ _ _) = λ low high. absurd (omega arith)
  part_formed (as_reset _) =
      by_cases (eqb e.kind 7)
      (λ t. rw t (λ low high. rw (used_in_range 31 e.neighbour (neighbour_within e formed))))
      (λ t. rw t (λ low high. rw (used_in_range 31 e.neighbour (neighbour_within e formed))))
  part_formed (as_idle _ _) = unsent
  part_formed (as_tick i _ _ found) = decided_formed e (get_or s.entries i blank) 0 formed (bounded reached i (due_place s (sound reached) e i found))
  part_formed (as_event i _ _ found) = decided_formed e (get_or s.entries i blank) _ formed (bounded reached i (found_place s (sound reached) _ i found))

pub sent_formed : {s : Station} → Reached s → (e : Record) (bearers : List ℕ) (room : ℕ)
    → let m = (step_of s e bearers room).outcome.message in 2 ≤ m.kind → m.kind ≤ 8 → well_formed m ≡ true
sent_formed {s} reached e bearers room =
    by_cases (well_formed e)
    (λ formed. part_formed reached e bearers room formed (part s e bearers room))
    (λ t. rw t unsent)
