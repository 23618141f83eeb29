-- Laws of admission, whichever QCIs are GBR classes. `bs` are the bearers of a request in their order, `free` the free units.
use Prim.Native.Nat.{ℕ, ◌+◌, ◌≤◌, ◌<◌}
use mathlib.Core.Path.{◌≡◌, refl, ◌∙◌, sym}
use mathlib.Core.Bool.{Bool, true, false, cond, not, ◌&&◌, ◌||◌}
use mathlib.Core.List.{List, ◌∷◌, ◌++◌, map}
use mathlib.Core.Logic.{◌↔◌}
use borrow.Author.Tests.{eq-eqb, eqb-false, le-leb, lt-leb, leb-true, leb-false, lt-ltb, ltb-true, ltb-false}
use native.Mathlib.Omega.{arith}
use lib.Count.{ones}
use lib.Dec.{ltb, eqb}
use lib.ListN.{length, length-map}
use Rattle.laws.specs.Sums.{total}
use Rattle.laws.proofs.Tests.{by_cases, both_true}
use Rattle.bearers.specs.declared.Bearer.{Bearer}
use Rattle.bearers.specs.Admission.{those, occurs, standing, has_turn, turns, free_at, verdict, admitted, refused, ids_of}
use Rattle.sets.specs.Sets.{member, union, disjoint}
use Rattle.bearers.specs.Working.{sorted}
use Rattle.bearers.proofs.Admitted.{member_ids, member_absent, ones_ids, admitted_le, granted_ids, verdict_member}
use Rattle.bearers.proofs.Granted.{units, fits, granted, turn_once, no_turn, zero_means, zero_turn, those_repeated, those_distinct}
use Rattle.bearers.proofs.Listing.{Formed}
use Rattle.sets.proofs.Membership.{same_members, member_union, disjoint_means}
use Rattle.bearers.proofs.Sorting.{turns_sorted}
use Rattle.bearers.proofs.Sums.{Each, total_those, those_others, once, each_those, each_here, each_split, each_occurs}
use Rattle.bearers.proofs.Without.{without_split, others, verdict_without}

-- One of two numbers is above 0 exactly if their sum is.
either : (t : Bool) (a b n : ℕ) → a + b ≡ n → (t && ltb 0 a || (t && ltb 0 b)) ≡ (t && ltb 0 n)
either false a b n e = refl
either true a b n e =
    by_cases (ltb 0 a)
    (λ t. let some : 0 < a = ltb-true 0 a t in rw (t, lt-ltb 0 n (omega arith)))
    (λ t. let none : a ≤ 0 = ltb-false 0 a t in let same : b ≡ n = omega arith in rw (t, same))

module _ (gbr : ℕ → Bool) (free : ℕ) (bs : List Bearer) where
  -- The verdict of a bearer that has a turn is 0 or 4, and of another 1, 2 or 3.
  with_turn : (b : Bearer) → has_turn gbr bs b ≡ true → verdict gbr free bs b ≡ cond (fits (turns gbr bs) free b) 0 4
  unfolding verdict
  with_turn b t = rw t

  without_turn : (b : Bearer) → has_turn gbr bs b ≡ false → (0 < verdict gbr free bs b) × (verdict gbr free bs b ≤ 3)
  unfolding verdict
  without_turn b t = rw t (omega (arith, eqb-false (standing gbr (occurs b.id bs) b) 0 t), most)
    where
      most : standing gbr (occurs b.id bs) b ≤ 3
      most =
          by_cases (ltb 1 (occurs b.id bs))
          (λ u. rw u (omega arith))
          (λ u. rw u (by_cases (eqb b.priority 0) (λ v. rw v (omega arith)) (λ v. rw v (by_cases (gbr b.qci && not b.gbr) (λ w. rw w (omega arith)) (λ w. rw w (omega arith))))))

  -- There are as many verdicts as bearers, and each is one of 0 to 4.
  pub one_verdict : (length (map (verdict gbr free bs) bs) ≡ length bs) × ((b : Bearer) → verdict gbr free bs b ≤ 4)
  one_verdict = (length-map bs (verdict gbr free bs), most)
    where
      most : (b : Bearer) → verdict gbr free bs b ≤ 4
      most b =
          by_cases (has_turn gbr bs b)
          (λ t. rw (with_turn b t) (by_cases (fits (turns gbr bs) free b) (λ u. rw u (omega arith)) (λ u. rw u (omega arith))))
          (λ t. omega (arith, without_turn b t))

  -- A bearer whose ID occurs more than once has verdict 1, and its ID is not admitted.
  pub repeated : (b : Bearer) → 1 < occurs b.id bs → (verdict gbr free bs b ≡ 1) × (member (ids_of (admitted gbr free bs)) b.id ≡ false)
  unfolding verdict
  repeated b h = (
    rw (no_turn gbr bs b h, lt-ltb 1 (occurs b.id bs) h),
    member_absent b.id (admitted gbr free bs) (those_repeated gbr bs _ (zero_turn gbr free bs) b.id h),
  )

  -- An ID of the request is admitted or refused: never both, and never neither.
  pub admitted_or_refused : (disjoint (ids_of (admitted gbr free bs)) (ids_of (refused gbr free bs)) ≡ true) × (union (ids_of (admitted gbr free bs)) (ids_of (refused gbr free bs)) ≡ ids_of bs)
  admitted_or_refused = ((disjoint_means _ _).1 not_both, same_members _ _ one)
    where
      accepted : Bearer → Bool
      accepted b = eqb (verdict gbr free bs b) 0

      not_both : (k : ℕ) → member (ids_of (admitted gbr free bs)) k ≡ true → member (ids_of (refused gbr free bs)) k ≡ false
      not_both k t =
          let a = occurs k (admitted gbr free bs) in
          let r = occurs k (refused gbr free bs) in
          let all : a + r ≡ occurs k bs = those_others (once k) accepted bs in
          let some : 0 < a = ltb-true 0 a (both_true (ltb k 16) (ltb 0 a) (sym (member_ids k (admitted gbr free bs)) ∙ t)).1 in
          by_cases (ltb 0 r)
          (λ u. absurd (omega (arith, ltb-true 0 r u, those_repeated gbr bs accepted (zero_turn gbr free bs) k (omega (arith, ltb-true 0 r u)))))
          (λ u. member_absent k (refused gbr free bs) (omega (arith, ltb-false 0 r u)))

      one : (k : ℕ) → member (union (ids_of (admitted gbr free bs)) (ids_of (refused gbr free bs))) k ≡ member (ids_of bs) k
      one k =
          rw (member_union _ _ k, member_ids k (admitted gbr free bs), member_ids k (refused gbr free bs), member_ids k bs)
          (either (ltb k 16) (occurs k (admitted gbr free bs)) (occurs k (refused gbr free bs)) (occurs k bs) (those_others (once k) accepted bs))

  -- The units admitted are those of the bearers with verdict 0, and no more than were free.
  pub units_sum : Each Formed bs → (total units (admitted gbr free bs) ≡ total (λ b. cond (eqb (verdict gbr free bs b) 0) b.units 0) bs) × (total units (admitted gbr free bs) ≤ free)
  units_sum each = (total_those units (λ b. eqb (verdict gbr free bs b) 0) bs, admitted_le gbr free bs each)

  -- The number of ones in the admitted set is the number of bearers with verdict 0.
  pub count_ones : Each Formed bs → ones (ids_of (admitted gbr free bs)) ≡ length (admitted gbr free bs)
  count_ones each =
      let accepted : Bearer → Bool = λ b. eqb (verdict gbr free bs b) 0 in
      ones_ids (admitted gbr free bs) (each_those Formed _ accepted bs (λ b formed t. formed.0) each) (those_distinct gbr bs accepted (zero_turn gbr free bs))

  -- Verdict 4 is that of a bearer that has a turn, at which fewer units are free than it needs.
  pub verdict_four : (b : Bearer) → (verdict gbr free bs b ≡ 4) ↔ ((has_turn gbr bs b ≡ true) × (free_at (turns gbr bs) b.id free < b.units))
  verdict_four b = (there, λ h. with_turn b h.0 ∙ rw (lt-leb b.units (free_at (turns gbr bs) b.id free) h.1))
    where
      there : verdict gbr free bs b ≡ 4 → (has_turn gbr bs b ≡ true) × (free_at (turns gbr bs) b.id free < b.units)
      there e =
          by_cases (has_turn gbr bs b)
          (λ t. by_cases (fits (turns gbr bs) free b)
          (λ u. absurd (omega (arith, rw u at (with_turn b t))))
          (λ u. (t, leb-false b.units (free_at (turns gbr bs) b.id free) u)))
          (λ t. absurd (omega (arith, without_turn b t)))

  -- Verdict 0 is that of a bearer that has a turn, at which its units are free.
  pub verdict_zero : (b : Bearer) → (verdict gbr free bs b ≡ 0) ↔ ((has_turn gbr bs b ≡ true) × (b.units ≤ free_at (turns gbr bs) b.id free))
  verdict_zero b = (there, λ h. with_turn b h.0 ∙ rw (le-leb b.units (free_at (turns gbr bs) b.id free) h.1))
    where
      there : verdict gbr free bs b ≡ 0 → (has_turn gbr bs b ≡ true) × (b.units ≤ free_at (turns gbr bs) b.id free)
      there e =
          let both = both_true (has_turn gbr bs b) (fits (turns gbr bs) free b) (sym (zero_means gbr free bs b) ∙ eq-eqb (verdict gbr free bs b) 0 e) in
          (both.0, leb-true b.units (free_at (turns gbr bs) b.id free) both.1)

-- The next is tried after a bearer that does not fit: each other has the verdict that it has in the request without that one.
pub passed_over : (gbr : ℕ → Bool) (free : ℕ) (before : List Bearer) (b : Bearer) (later : List Bearer) → Each Formed (before ++ b ∷ later) → verdict gbr free (before ++ b ∷ later) b ≡ 4 → Each (λ c. verdict gbr free (before ++ later) c ≡ verdict gbr free (before ++ b ∷ later) c) (before ++ later)
passed_over gbr free before b later each e =
    let bs = before ++ b ∷ later in
    let rest = before ++ later in
    let w = without_split b before later in
    let four : (has_turn gbr bs b ≡ true) × (free_at (turns gbr bs) b.id free < b.units) = (verdict_four gbr free bs b).0 e in
    each_occurs _ rest
    (λ c h. verdict_without gbr b bs rest w four.0 free (each_here Formed before b later refl each).1 four.1 c (others gbr b bs rest w four.0 c h))

-- The same another way, for bearers with IDs and priorities up to 15.
module _ (gbr : ℕ → Bool) (bs : List Bearer) (each : Each Formed bs) where
  -- The turns are the bearers that have one, sorted by priority, those of one priority in their order.
  pub priority_first : turns gbr bs ≡ sorted (those (has_turn gbr bs) bs)
  priority_first =
      turns_sorted 15 1 (those (has_turn gbr bs) bs)
      (each_those Formed _ (has_turn gbr bs) bs (λ b formed t. ((turn_once gbr bs b t).1, omega arith)) each)

  -- And one walk through them, each taking its units if so many are left, gives the verdicts.
  pub one_walk : (free : ℕ) → Each (λ b. verdict gbr free bs b ≡ cond (has_turn gbr bs b) (cond (member (ids_of (granted (sorted (those (has_turn gbr bs) bs)) free)) b.id) 0 4) (standing gbr (occurs b.id bs) b)) bs
  one_walk free = each_split _ bs (λ before b later e. rw (← priority_first, granted_ids gbr free bs each) (verdict_member gbr free bs each before b later e))
