-- An event of a message kind with the other station's number is the oldest message to the station, unaltered; and what is left behind
-- it keeps what held of all.
use Prim.Native.Nat.{ℕ, ◌≤◌}
use mathlib.Core.Path.{◌≡◌, refl, sym, ap, ◌∙◌}
use mathlib.Core.Bool.{true, true≢false, false≢true}
use mathlib.Core.List.{List, ◌∷◌, ◌++◌}
use Rattle.std.specs.Prelude.{Option, Some}
use borrow.Author.Tests.{eqb-true, eq-eqb, le-leb}
use native.Mathlib.Omega.{arith}
use lib.Dec.{eqb}
use Rattle.laws.proofs.Tests.{both_true}
use Rattle.records.specs.declared.Record.{Record}
use Rattle.handover.specs.Events.{message}
use Rattle.pair.specs.World.{Envelope, took, as_sent, Carries, request, plain, Comes, own, take, All}
use Rattle.pair.proofs.Lists.{Pairs, all_any, all_map, all_head, all_back, all_without, pairs_head, pairs_without}

-- ---- what a message brings

module _ {p : ℕ} {m e : Record} where
  pub carries_kind : Carries p m e → e.kind ≡ m.kind
  carries_kind (request was is neighbour old) = is ∙ sym was
  carries_kind (plain other same) = ap (λ r. r.kind) same

  pub as_sent_lem : Carries p m e → (m.kind ≡ 1 → ⊥) → e ≡ as_sent p m
  as_sent_lem (request was is neighbour old) other = absurd (other was)
  as_sent_lem (plain other same) apart = same

  pub carries_request : Carries p m e → m.kind ≡ 1 → e.old.0 ≡ m.old.0
  carries_request (request was is neighbour old) kind = old
  carries_request (plain other same) kind = absurd (other kind)

  pub carries_fields : Carries p m e → (m.kind ≡ 1 → ⊥) → (e.old.0 ≡ m.old.0) × (e.new.0 ≡ m.new.0) × (e.first ≡ m.first)
  carries_fields c other =
      let same = as_sent_lem c other in
      (ap (λ r. r.old.0) same, ap (λ r. r.new.0) same, ap (λ r. r.first) same)

  pub carries_release : Carries p m e → (q old new : ℕ) → m ≡ message 5 q old new 0 0 0 → e ≡ message 5 p old new 0 0 0
  carries_release c q old new word = as_sent_lem c (λ one. omega (arith, ap (λ r. r.kind) word)) ∙ ap (as_sent p) word

-- ---- the message taken, of a kind

pub record Taken (k p : ℕ) (e : Record) (queue : List Envelope) (taken : Option Envelope) : Type 0 where
  pub first : Envelope
  pub is : taken ≡ Some first
  pub older : List Envelope
  pub younger : List Envelope
  pub queued : queue ≡ older ++ (first ∷ younger)
  pub carries : Carries p first.message e
  pub kind : first.message.kind ≡ k

module _ {p : ℕ} {e : Record} {queue : List Envelope} where
  -- An event that has the other station's number and a message's kind is one.
  pub taken_of : {taken : Option Envelope} {rest : List Envelope} (k : ℕ) → 1 ≤ k → k ≤ 8 → e.kind ≡ k → e.neighbour ≡ p
      → Comes p e queue taken rest → Taken k p e queue taken
  taken_of k low high kind neighbour (own not_from) =
      absurd (true≢false (rw (le-leb 1 e.kind (omega arith), le-leb e.kind 8 (omega arith), eq-eqb e.neighbour p neighbour) at not_from))
  taken_of k low high kind neighbour (take older {m} younger oldest queued carries) =
      record { first = m; is = refl; older = older; younger = younger; queued = queued; carries = carries; kind = sym (carries_kind carries) ∙ kind }

  -- A message of a kind and a handover was taken.
  pub took_of : {taken : Option Envelope} {rest : List Envelope} (k h : ℕ) → Comes p e queue taken rest → took k h taken ≡ true
      → (t : Taken k p e queue taken) × (t.first.tag ≡ h)
  took_of k h (own not_from) never = absurd (false≢true never)
  took_of k h (take older {m} younger oldest queued carries) both =
      let tests = both_true (eqb m.message.kind k) (eqb m.tag h) both in (
        record { first = m; is = refl; older = older; younger = younger; queued = queued; carries = carries; kind = eqb-true m.message.kind k tests.0 },
        eqb-true m.tag h tests.1,
      )

  -- What holds of all messages holds of it.
  pub first_of : {taken : Option Envelope} {k : ℕ} {P : Envelope → Type 0} (t : Taken k p e queue taken) → All P queue → P t.first
  first_of t ps = all_head (all_back t.older (rw t.queued at ps))

  -- ---- what is left

  pub left : {taken : Option Envelope} {rest : List Envelope} {P : Envelope → Type 0} → Comes p e queue taken rest → All P queue → All P rest
  left (own not_from) ps = ps
  left (take older {m} younger oldest queued carries) ps = all_without older m younger (rw queued at ps)

  pub left_pairs : {taken : Option Envelope} {rest : List Envelope} {P : Envelope → Envelope → Type 0} → Comes p e queue taken rest
      → Pairs P queue → Pairs P rest
  left_pairs (own not_from) ps = ps
  left_pairs (take older {m} younger oldest queued carries) ps = pairs_without older m younger (rw queued at ps)

  -- The message taken stood before each, since none was older: here, and here alone, order is used.
  pub left_behind : {taken : Option Envelope} {rest : List Envelope} {P : Envelope → Envelope → Type 0} → Comes p e queue taken rest
      → Pairs P queue → All (λ y. (m : Envelope) → taken ≡ Some m → P m y) rest
  left_behind (own not_from) ps = all_any (λ y m is. absurd cc) queue
  left_behind (take older {m = first} younger oldest queued carries) ps =
      rw oldest (all_map (λ y fits m is. let same : first ≡ m = cc in rw same at fits) (pairs_head (rw (queued, oldest) at ps)))
