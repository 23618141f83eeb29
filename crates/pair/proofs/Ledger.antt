-- Within fewer than 4,033 issues no own ID is issued twice, in spite of those that the search passes. Since an own ID was last issued, or
-- passed, the search has gone up step by step; each step was an issue or passed an own ID in use; and of these, the ones still ahead
-- and the ones already passed are together at most 63, since a record made later lies behind the search.
use Prim.Native.Nat.{ℕ, ◌+◌, ◌≤◌, ◌<◌}
use mathlib.Core.Path.{◌≡◌, refl, sym, ap, ◌∙◌}
use mathlib.Core.List.{List}
use Rattle.std.specs.Prelude.{Option, Some, None}
use borrow.Author.Tests.{eqb-true, eqb-false, ne_eqb, le-ltb}
use store.Seg.{eqb_same}
use native.Mathlib.Omega.{arith}
use lib.Dec.{leb, ltb, eqb}
use lib.ListN.{length}
use Rattle.laws.proofs.Tests.{by_cases}
use Rattle.table.specs.declared.Answer.{Answer}
use Rattle.table.specs.declared.Station.{Station}
use Rattle.handover.specs.Numbers.{next_after}
use Rattle.promises.specs.Views.{count, times, ids, last, Walk, land, pass, Issues, IssuesNone, Laws}
use Rattle.handover.proofs.Issuing.{next_small}
use Rattle.pair.specs.World.{Numbers, next_issue, issuing}
use Rattle.pair.proofs.Ring.{distance, ahead, distance_self, distance_range, distance_next, distance_step, count_length, ahead_step}

-- An own ID that the search finds is below 4,096, and is not in use.
walk_below : {used : List ℕ} {c j : ℕ} → c < 4096 → Walk used c j → j < 4096
walk_below {c = c} low (land next free) = rw next (next_small c low)
walk_below {c = c} low (pass taken on) = walk_below (next_small c low) on

walk_free : {used : List ℕ} {c j : ℕ} → Walk used c j → times j used ≡ 0
walk_free (land next free) = free
walk_free (pass taken on) = walk_free on

-- The search goes from c to j. If it ends at i, then i was issued 4,033 issues ago at least; if not, the ledger of i still holds.
module _ {used : List ℕ} (room : length used < 64) (small : count (leb 4096) used ≡ 0) (i issue issues : ℕ) (fits : i < 4096) (past : issue ≤ issues) where
  searched : {c j : ℕ} → c < 4096 → Walk used c j → issue + 4033 + ahead c i used ≤ issues + distance c i
      → (i ≡ j → issue + 4033 ≤ issues + 1) × ((i ≡ j → ⊥) → issue + 4033 + ahead j i used ≤ issues + 1 + distance j i)
  searched {c} {j} low (land next free) ledger = (
    λ same. let near : distance c i ≡ 1 = rw (same, next) (distance_next c low) in omega arith,
    λ apart.
        let other : i ≡ next_after c → ⊥ = λ h. apart (h ∙ sym next) in
        let step : distance c i ≡ distance j i + 1 = rw next (distance_step c i low fits other) in
        let lost : ahead c i used ≡ ahead j i used + times j used = rw next (ahead_step c i low fits other used small) in
        omega arith,
  )
  searched {c} low (pass taken on) ledger =
      searched (next_small c low) on
      (by_cases (eqb i (next_after c))
      (λ t.
      let far : distance (next_after c) i ≡ 4096 = ap (distance (next_after c)) (eqb-true i (next_after c) t) ∙ distance_self (next_after c) in
      let few = count_length (λ x. ltb (distance (next_after c) x) (distance (next_after c) i)) used in
      omega arith)
      (λ t.
      let other = eqb-false i (next_after c) t in
      let step = distance_step c i low fits other in
      let lost = ahead_step c i low fits other used small in
      omega arith))

-- ---- a station and what it issued

-- a record's own ID was issued
abbrev pub UsedOf : Station → Numbers → Type 0
UsedOf x n = (i : ℕ) → 1 ≤ times i (ids x) → 1 ≤ n.issue_of i

-- the issue that last gave an own ID is one of those counted, and gave it
abbrev pub IssuedOf : Numbers → Type 0
IssuedOf n = (i : ℕ) → 1 ≤ n.issue_of i → (n.issue_of i ≤ n.issued_count) × (n.number_of (n.issue_of i) ≡ i) × (i < 4096)

-- since then there were at least 4,033 issues, less the steps that the search has left to it, and more by the own IDs in use among these
abbrev pub LedgerOf : Station → Numbers → Type 0
LedgerOf x n = (i : ℕ) → 1 ≤ n.issue_of i → n.issue_of i + 4033 + ahead (last x) i (ids x) ≤ n.issued_count + distance (last x) i

-- The own IDs of the issues that there were stay.
pub number_kept : (n : Numbers) (new : Option ℕ) (h : ℕ) → h ≤ n.issued_count → (issuing new n).number_of h ≡ n.number_of h
number_kept n None h past = refl
number_kept n (Some j) h past = rw (ne_eqb h (n.issued_count + 1) (λ same. omega arith))

pub count_grows : (n : Numbers) (new : Option ℕ) → n.issued_count ≤ (issuing new n).issued_count
count_grows n None = omega arith
count_grows n (Some j) = omega arith

-- What a step issues, if it does (`new`); what it did before.
module _ {x : Station} {a : Answer} (n : Numbers) where
  -- An own ID that is issued again was issued at least 4,033 issues ago.
  pub reissue : Laws x → IssuedOf n → LedgerOf x n → (j : ℕ) → Issues j x a → 1 ≤ n.issue_of j → n.issue_of j + 4033 ≤ next_issue n
  reissue laws known ledger j new was =
      let k = known j was in
      (searched new.room laws.range.1 j (n.issue_of j) n.issued_count k.2 k.0 laws.range.0 new.walk (ledger j was)).0 refl

  pub used_kept : (new : Option ℕ) → ((j : ℕ) → new ≡ Some j → Issues j x a) → (new ≡ None → IssuesNone x a) → UsedOf x n → UsedOf a.station (issuing new n)
  used_kept None one idle used i there = used i (omega (arith, (idle refl).fewer (eqb i)))
  used_kept (Some j) one idle used i there =
      by_cases (eqb i j) (λ t. rw t (omega arith))
      (λ t. rw t (used i (let more = rw t at ((one j refl).more (eqb i)) in omega arith)))

  pub issued_kept : (new : Option ℕ) → ((j : ℕ) → new ≡ Some j → Issues j x a) → Laws x → IssuedOf n → IssuedOf (issuing new n)
  issued_kept None one laws known i = known i
  issued_kept (Some j) one laws known i =
      by_cases (eqb i j)
      (λ t.
      let same = eqb-true i j t in
      let below = walk_below laws.range.0 (one j refl).walk in
      rw t (λ was. (omega arith, rw (eqb_same (next_issue n)) (sym same), omega arith)))
      (λ t. rw t (λ was.
      let k = known i was in
      (omega arith, rw (ne_eqb (n.issue_of i) (next_issue n) (λ same. omega arith)) k.1, k.2)))

  pub ledger_kept : (new : Option ℕ) → ((j : ℕ) → new ≡ Some j → Issues j x a) → (new ≡ None → IssuesNone x a) → Laws x → IssuedOf n → LedgerOf x n
      → LedgerOf a.station (issuing new n)
  ledger_kept None one idle laws known ledger i =
      let law = idle refl in
      rw law.latest (λ was. omega (arith, ledger i was, law.fewer (λ y. ltb (distance (last x) y) (distance (last x) i))))
  ledger_kept (Some j) one idle laws known ledger i =
      let law = one j refl in
      let below = walk_below laws.range.0 law.walk in
      let more = law.more (λ y. ltb (distance j y) (distance j i)) in
      let few = count_length (λ y. ltb (distance j y) (distance j i)) (ids x) in
      let self = distance_self j in
      rw law.latest
      (by_cases (eqb i j)
      (λ t.
      let far : distance j i ≡ 4096 = rw (eqb-true i j t) self in
      let more' = rw (le-ltb (distance j j) (distance j i) (omega arith)) at more in
      rw t (λ was. omega arith))
      (λ t. rw t (λ was.
      let k = known i was in
      let range = distance_range j i below k.2 in
      let more' = rw (le-ltb (distance j j) (distance j i) (omega arith)) at more in
      let kept = (searched law.room laws.range.1 i (n.issue_of i) n.issued_count k.2 k.0 laws.range.0 law.walk (ledger i was)).1 (eqb-false i j t) in
      omega arith)))

  -- One that was issued fewer than 4,033 issues ago is not the one that is issued.
  pub not_again : (new : Option ℕ) → ((j : ℕ) → new ≡ Some j → Issues j x a) → Laws x → IssuedOf n → LedgerOf x n → (i : ℕ) → 1 ≤ n.issue_of i
      → (issuing new n).issued_count < n.issue_of i + 4033 → (issuing new n).issue_of i ≡ n.issue_of i
  not_again None one laws known ledger i was recent = refl
  not_again (Some j) one laws known ledger i was recent =
      by_cases (eqb i j)
      (λ t.
      let again = reissue laws known ledger i (rw (eqb-true i j t) (one j refl)) was in
      absurd (omega arith))
      (λ t. rw t)

  -- Nor is one that is in use.
  pub in_use_lem : (new : Option ℕ) → ((j : ℕ) → new ≡ Some j → Issues j x a) → (i : ℕ) → 1 ≤ times i (ids x) → (issuing new n).issue_of i ≡ n.issue_of i
  in_use_lem None one i there = refl
  in_use_lem (Some j) one i there =
      by_cases (eqb i j)
      (λ t. absurd (omega (arith, walk_free (one j refl).walk, rw (eqb-true i j t) at there)))
      (λ t. rw t)
