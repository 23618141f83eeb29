-- The admitted set, whichever QCIs are GBR classes: the IDs of those that fit at their turn.
use Prim.Native.Nat.{ℕ, suc, ◌+◌, ◌≤◌, ◌<◌}
use mathlib.Core.Path.{◌≡◌, refl, ◌∙◌, sym, ap}
use mathlib.Core.Bool.{Bool, true, false, cond, ◌&&◌, and-false}
use mathlib.Core.List.{List, [], ◌∷◌, ◌++◌, map}
use borrow.Author.Tests.{eq-eqb, ne_eqb, eqb-true, eqb-false, lt-ltb}
use native.Mathlib.Nat.{zero-add}
use native.Mathlib.Omega.{arith}
use lib.Count.{ones}
use lib.Dec.{ltb, eqb}
use lib.ListN.{length}
use Rattle.laws.proofs.Sums.{total_append, total_le}
use Rattle.laws.specs.Sums.{total}
use Rattle.laws.proofs.Tests.{by_cases}
use Rattle.bearers.specs.declared.Bearer.{Bearer}
use Rattle.bearers.specs.Admission.{occurs, standing, has_turn, turns, verdict, admitted, ids_of}
use Rattle.sets.specs.Sets.{member, among, set_of}
use Rattle.bearers.proofs.Granted.{Distinct, distinct_first, distinct_rest, units, granted, granted_le, granted_total, zero_means, turn_once, fits}
use Rattle.bearers.proofs.Listing.{Formed}
use Rattle.sets.proofs.Membership.{same_members, member_set_of, ones_add, ones_none}
use Rattle.bearers.proofs.Sums.{Each, total_those, once, once_own, each_here}

-- An ID is among those of some bearers exactly if it occurs.
among_occurs : (k : ℕ) (bs : List Bearer) → among k (map (λ b. b.id) bs) ≡ ltb 0 (occurs k bs)
unfolding among total
among_occurs k [] = refl
among_occurs k (b ∷ bs) =
    by_cases (eqb b.id k)
    (λ t. let same : b.id ≡ k = eqb-true b.id k t in
    rw (t, eq-eqb k b.id (sym same)) (sym (lt-ltb 0 (1 + occurs k bs) (omega arith))))
    (λ t. let other : b.id ≡ k → ⊥ = eqb-false b.id k t in
    rw (t, ne_eqb k b.id (λ e. other (sym e)), among_occurs k bs, zero-add))

-- So it is in their set exactly if it occurs and is 0 to 15.
pub member_ids : (k : ℕ) (bs : List Bearer) → member (ids_of bs) k ≡ (ltb k 16 && ltb 0 (occurs k bs))
member_ids k bs = member_set_of (map (λ b. b.id) bs) k ∙ ap (λ (t : Bool). ltb k 16 && t) (among_occurs k bs)

-- One that does not occur is not in it.
pub member_absent : (k : ℕ) (bs : List Bearer) → occurs k bs ≡ 0 → member (ids_of bs) k ≡ false
member_absent k bs none = rw (member_ids k bs, none) (and-false (ltb k 16))

-- The number of ones in the set of some bearers' IDs is their number, where no two have one ID.
pub ones_ids : (bs : List Bearer) → Each (λ b. b.id < 16) bs → Distinct bs → ones (ids_of bs) ≡ length bs
unfolding set_of
ones_ids [] each distinct = ones_none
ones_ids (b ∷ bs) each distinct =
    ones_add (ids_of bs) b.id each.0 (member_absent b.id bs (distinct_first b bs distinct)) ∙ ap suc (ones_ids bs each.1 (distinct_rest b bs distinct))

module _ (gbr : ℕ → Bool) (free : ℕ) (bs : List Bearer) where
  -- Of the bearers with its ID only the bearer itself, where it has a turn, can have verdict 0.
  admitted_once : (before : List Bearer) (b : Bearer) (later : List Bearer) → bs ≡ before ++ b ∷ later → has_turn gbr bs b ≡ true → occurs b.id (admitted gbr free bs) ≡ cond (fits (turns gbr bs) free b) 1 0
  unfolding total
  admitted_once before b later e t =
      let counted : Bearer → ℕ = λ x. cond (eqb (verdict gbr free bs x) 0) (once b.id x) 0 in
      let le : (x : Bearer) → counted x ≤ once b.id x = λ x. by_cases (eqb (verdict gbr free bs x) 0) (λ u. rw u (omega arith)) (λ u. rw u (omega arith)) in
      let here : counted b ≡ cond (fits (turns gbr bs) free b) 1 0 = rw (once_own b, zero_means gbr free bs b, t) in
      let single : occurs b.id bs ≤ 1 = (turn_once gbr bs b t).0 in
      omega (
        arith,
        total_those (once b.id) (λ x. eqb (verdict gbr free bs x) 0) bs,
        ap (total counted) e,
        total_append counted before (b ∷ later),
        ap (total (once b.id)) e,
        total_append (once b.id) before (b ∷ later),
        once_own b,
        total_le counted (once b.id) before le,
        total_le counted (once b.id) later le,
      )

module _ (gbr : ℕ → Bool) (free : ℕ) (bs : List Bearer) (each : Each Formed bs) where
  -- The IDs of who got units are those of who has verdict 0.
  pub granted_ids : ids_of (granted (turns gbr bs) free) ≡ ids_of (admitted gbr free bs)
  granted_ids =
      same_members _ _
      (λ k. rw (member_ids k (granted (turns gbr bs) free), member_ids k (admitted gbr free bs), granted_total gbr free bs each (once k)))

  -- The admitted bearers get no more than is free.
  pub admitted_le : total units (admitted gbr free bs) ≤ free
  admitted_le = omega (arith, granted_le (turns gbr bs) free, granted_total gbr free bs each units)

  -- A bearer that has a turn is in the admitted set exactly if it fits.
  admitted_fits : (before : List Bearer) (b : Bearer) (later : List Bearer) → bs ≡ before ++ b ∷ later → has_turn gbr bs b ≡ true → member (ids_of (admitted gbr free bs)) b.id ≡ fits (turns gbr bs) free b
  admitted_fits before b later e t =
      let formed : Formed b = each_here Formed before b later e each in
      rw (member_ids b.id (admitted gbr free bs), lt-ltb b.id 16 formed.0, admitted_once gbr free bs before b later e t)
      (by_cases (fits (turns gbr bs) free b) (λ u. rw u) (λ u. rw u))

  -- So its verdict can be told by the admitted set.
  pub verdict_member : (before : List Bearer) (b : Bearer) (later : List Bearer) → bs ≡ before ++ b ∷ later → verdict gbr free bs b ≡ cond (has_turn gbr bs b) (cond (member (ids_of (admitted gbr free bs)) b.id) 0 4) (standing gbr (occurs b.id bs) b)
  unfolding verdict
  verdict_member before b later e = by_cases (has_turn gbr bs b) (λ t. rw (t, admitted_fits before b later e t)) (λ t. rw t)
