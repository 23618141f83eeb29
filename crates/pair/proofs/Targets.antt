-- What a turn of the target does, in the words of the direction: which request it answers, which records it holds afterwards, and that
-- an answer once given stays.
use Prim.Native.Nat.{ℕ, ◌+◌, ◌≤◌, ◌<◌}
use mathlib.Core.Path.{◌≡◌, sym, ◌∙◌}
use mathlib.Core.Bool.{true, false, true≢false}
use mathlib.Core.List.{List}
use mathlib.Core.Logic.{⊎_elim}
use Rattle.std.specs.Prelude.{Option}
use borrow.Author.Tests.{eqb-true, eqb-false, eq-eqb}
use store.Seg.{eqb_same}
use native.Mathlib.Omega.{arith}
use lib.Dec.{eqb}
use Rattle.laws.proofs.Tests.{by_cases, clash}
use Rattle.records.specs.declared.Record.{Record}
use Rattle.promises.proofs.Interface.{to_means}
use Rattle.table.specs.declared.Answer.{Answer}
use Rattle.table.specs.declared.Station.{Station}
use Rattle.promises.specs.Views.{Held, held, sent, to, Shrinks, Grants, Denies, Arrives, Target, grants, denies, arrives, holds}
use Rattle.pair.specs.World.{Side, Numbers, Answered, Silent, Envelope, took, tag_of, limit, WithinLimit}
use Rattle.pair.proofs.Taking.{carries_request, taken_of, took_of, first_of}
use Rattle.pair.proofs.Directions.{Direction, target_after, TargetStep}
use Rattle.pair.proofs.Invariant.{kind_of, old_of, reserved, Invariant}

-- ---- which of the four it is shows in the message that is sent

module _ {p : ℕ} {y : Station} {e : Record} {a : Answer} where
  pub granting : Target p y e a → to 2 p a ≡ true → Grants p y e a
  granting (grants g) t = g
  granting (denies x) t = absurd (omega (arith, (to_means p a 2 t).0, (to_means p a 3 x.failure).0))
  granting (arrives x) t = absurd (omega (arith, (to_means p a 2 t).0, (to_means p a 5 x.release).0))
  granting (holds x) t = absurd (true≢false (sym t ∙ x.no_acknowledge))

  pub denying : Target p y e a → to 3 p a ≡ true → Denies p y e a
  denying (grants x) t = absurd (omega (arith, (to_means p a 3 t).0, (to_means p a 2 x.acknowledge).0))
  denying (denies x) t = x
  denying (arrives x) t = absurd (omega (arith, (to_means p a 3 t).0, (to_means p a 5 x.release).0))
  denying (holds x) t = absurd (true≢false (sym t ∙ x.no_failure))

  pub arriving : Target p y e a → to 5 p a ≡ true → Arrives p y e a
  arriving (grants x) t = absurd (omega (arith, (to_means p a 5 t).0, (to_means p a 2 x.acknowledge).0))
  arriving (denies x) t = absurd (omega (arith, (to_means p a 5 t).0, (to_means p a 3 x.failure).0))
  arriving (arrives x) t = x
  arriving (holds x) t = absurd (true≢false (sym t ∙ x.no_release))

  pub shrinking : Target p y e a → to 2 p a ≡ false → Shrinks p y a
  shrinking (grants x) t = absurd (true≢false (sym x.acknowledge ∙ t))
  shrinking (denies x) t = x.shrinks
  shrinking (arrives x) t = x.shrinks
  shrinking (holds x) t = x.shrinks

-- ---- a request, and a record held after the turn

-- A request of a handover with this Old ID, as it is taken.
pub record RequestOf (d : Direction) (old h : ℕ) : Type 0 where
  pub named : 1 ≤ h
  pub latest : d.numbers.issue_of old ≡ h
  pub counted : h ≤ d.numbers.issued_count
  pub numbered : d.numbers.number_of h ≡ old
  pub within : d.numbers.issued_count < h + limit
  pub asked : (d.handovers h).asked ≡ true
  pub unanswered : (d.handovers h).answer ≡ Silent

-- A record is held that was held before, for the same handover, or the one that is granted, for the handover whose request was taken.
pub data HeldAfter (d : Direction) (a : Answer) (h h' n old set : ℕ) : Type 0 where
  kept : reserved d n ≡ Held old set → h' ≡ d.fixed_for n → HeldAfter d a h h' n old set
  made : to 2 d.back a ≡ true → n ≡ (sent a).new.0 → old ≡ (sent a).old.0 → set ≡ (sent a).first → h' ≡ h → HeldAfter d a h h' n old set

module _ {s : Side} {d : Direction} {e : Record} {a : Answer} {taken : Option Envelope} {rest : List Envelope} {stamp : Side → ℕ} {own : Numbers}
    (x : TargetStep s d e a taken rest stamp own) (i : Invariant s d) where
  -- A request that was taken.
  pub request_of_lem : (h : ℕ) → took 1 h taken ≡ true → RequestOf d e.old.0 h
  request_of_lem h t =
      let found = took_of 1 h x.comes t in
      let head = found.0.first in
      let requested = first_of found.0 i.requests found.0.kind in
      let within : WithinLimit s d.numbers head = first_of found.0 x.requests_timely (omega (arith, found.0.kind)) (omega (arith, found.0.kind)) in
      let old : e.old.0 ≡ old_of head = carries_request found.0.carries found.0.kind in
      let tag : head.tag ≡ h = found.1 in
      let latest : d.numbers.issue_of e.old.0 ≡ h = cc in
      let issued = i.issued e.old.0 (rw latest (rw tag at requested.named)) in
      record {
        named = rw tag at requested.named;
        latest = latest;
        counted = rw latest at issued.0;
        numbered = rw latest at issued.1;
        within = rw (requested.stamped, tag) at within;
        asked = rw tag at requested.asked;
        unanswered = rw tag at requested.unanswered;
      }

  -- An event that is a request from the source was taken, and is that of the handover of the message.
  pub request_taken : e.kind ≡ 1 → e.neighbour ≡ d.back → took 1 (tag_of taken) taken ≡ true
  request_taken one from =
      let t = taken_of 1 (omega arith) (omega arith) one from x.comes in
      rw (t.is, eq-eqb (kind_of t.first) 1 t.kind, eqb_same t.first.tag)

  pub held_after : (n old set : ℕ) → held a.station d.back n ≡ Held old set
      → HeldAfter d a (tag_of taken) ((target_after s d e a taken rest stamp own).fixed_for n) n old set
  held_after n old set now =
      by_cases (to 2 d.back a)
      (λ t. let g = granting (x.step.target d.back) t in
      by_cases (eqb n (sent a).new.0)
      (λ u. let same : n ≡ (sent a).new.0 = eqb-true n (sent a).new.0 u in
      let is : Held old set ≡ Held (sent a).old.0 (sent a).first = cc in
      made t same (cc) (cc) (rw (t, u)))
      (λ u. kept (sym (g.others n (eqb-false n (sent a).new.0 u)) ∙ now) (rw (t, u))))
      (λ t. ⊎_elim
      (λ same. kept (sym same ∙ now) (rw t))
      (λ gone. clash (cc))
      (shrinking (x.step.target d.back) t n))

  -- An answer changes by a request only, and a request is not answered yet: so an answer once given stays.
  pub same_answer : (h : ℕ) → took 1 h taken ≡ false → ((target_after s d e a taken rest stamp own).handovers h).answer ≡ (d.handovers h).answer
  same_answer h t = rw t

  pub answer_once : (h : ℕ) (answer : Answered) → (answer ≡ Silent → ⊥) → (d.handovers h).answer ≡ answer
      → ((target_after s d e a taken rest stamp own).handovers h).answer ≡ answer
  answer_once h answer given is =
      by_cases (took 1 h taken)
      (λ t. absurd (given (sym is ∙ (request_of_lem h t).unanswered)))
      (λ t. same_answer h t ∙ is)
