-- What the code leaves is what admission says: the admitted set, and each verdict by it.
use Prim.Native.Nat.{ℕ, ◌-◌, ◌≤◌, ◌<◌}
use mathlib.Core.Path.{◌≡◌, ◌∙◌, sym, ap, ap₂}
use mathlib.Core.Bool.{Bool, true, cond, not, ◌&&◌}
use mathlib.Core.List.{List, [], ◌∷◌, ◌++◌, map}
use borrow.Author.Tests.{le-leb, lt-ltb}
use native.Mathlib.Omega.{arith}
use lib.Bits.{or_zero_l}
use lib.Dec.{ltb, eqb}
use Rattle.std.proofs.Common.{is_none}
use lib.ListN.{length, get_or, drop, replicate, length-append, length-replicate, get_or-replicate, get_or-append}
use lib.Seq.{get_or-take, drop_at}
use Rattle.laws.specs.Sums.{total}
use Rattle.laws.proofs.Tests.{by_cases, both_true}
use Rattle.records.specs.declared.Record.{Record}
use Rattle.bearers.specs.declared.Bearer.{Bearer}
use Rattle.bearers.specs.declared.Survey.{Survey}
use Rattle.bearers.specs.Admission.{those, occurs, standing, has_turn, release8, turns, verdict, admitted, refused, ids_of}
use Rattle.bearers.specs.Bearer.{is_bearer, bearer_of, all_bearers}
use Rattle.bearers.specs.Working.{alone, Surveyed, firsts_of, clear, run, sorted, code, standing_by, settled, settled_by, refused_by, written}
use Rattle.sets.specs.Sets.{member}
use Rattle.bearers.proofs.Admitted.{granted_ids, verdict_member}
use Rattle.bearers.proofs.Firsts.{same_ids}
use Rattle.bearers.proofs.Granted.{units, grants, granted, run_granted, granted_total, turn_once}
use Rattle.bearers.proofs.Laws.{priority_first}
use Rattle.bearers.proofs.Listing.{Formed, formed}
use Rattle.bearers.proofs.Sums.{Each, each_split, each_at, each_here, each_map, map_each, those_each, those_wider}
use Rattle.bearers.proofs.Turns.{length_firsts, firsts_small}
use Rattle.bearers.proofs.Writing.{written_all}

-- Bearers out of bearers' records have IDs and priorities up to 15.
pub each_formed : (rs : List Record) → all_bearers rs ≡ true → Each Formed (map bearer_of rs)
unfolding all_bearers
each_formed [] t = tt
each_formed (r ∷ rs) t =
    let both : (is_bearer r ≡ true) × (all_bearers rs ≡ true) = both_true (is_bearer r) (all_bearers rs) t in
    (formed r both.0, each_formed rs both.1)

-- The code's reasons are those of the verdicts 1, 2 and 3.
clear_standing : (times : ℕ) (b : Bearer) → is_none (standing_by (ltb 1 times) b) ≡ eqb (standing release8 times b) 0
clear_standing times b =
    by_cases (ltb 1 times)
    (λ t. rw t)
    (λ t. rw t (by_cases (eqb b.priority 0) (λ u. rw u) (λ u. rw u (by_cases (release8 b.qci && not b.gbr) (λ v. rw v) (λ v. rw v)))))

settled_standing : (times set : ℕ) (b : Bearer) → code (settled (ltb 1 times) set b) ≡ cond (eqb (standing release8 times b) 0) (cond (member set b.id) 0 4) (standing release8 times b)
settled_standing times set b =
    by_cases (ltb 1 times)
    (λ t. rw t)
    (λ t. rw t
    (by_cases (eqb b.priority 0)
    (λ u. rw u)
    (λ u. rw u
    (by_cases (release8 b.qci && not b.gbr)
    (λ v. rw v)
    (λ v. rw v (by_cases (member set b.id) (λ w. rw w) (λ w. rw w)))))))

module _ (bs : List Bearer) (s : Survey) (known : Surveyed bs s) where
  -- A bearer whose ID occurs more than once has verdict 1.
  settled_repeated : (set : ℕ) (b : Bearer) → b.id < 16 → 1 < occurs b.id bs → settled_by s set b ≡ 1
  settled_repeated set b small more = rw (known.again b.id small, lt-ltb 1 (occurs b.id bs) more)

  module _ (each : Each Formed bs) where
    -- The scratch table's turns, sorted, are those of the request.
    turns_known : sorted (those (clear s) (firsts_of s)) ≡ turns release8 bs
    turns_known = ap sorted (those_each (clear s) test (firsts_of s) first ∙ sym (of_only (firsts_of s)) ∙ ap (those test) known.only ∙ of_only bs) ∙ sym (priority_first release8 bs each)
      where
        test : Bearer → Bool
        test = has_turn release8 bs

        of_only : (xs : List Bearer) → those test (those (alone bs) xs) ≡ those test xs
        of_only xs = those_wider test (alone bs) xs (λ b t. le-leb (occurs b.id bs) 1 (turn_once release8 bs b t).0)

        first : Each (λ b. clear s b ≡ has_turn release8 bs b) (firsts_of s)
        first = each_map _ _ (firsts_of s) (λ b small. rw (known.again b.id small) (clear_standing (occurs b.id bs) b)) (firsts_small s known.tidy)

    module _ (free : ℕ) where
      -- the admitted set
      abbrev set : ℕ
      set = ids_of (admitted release8 free bs)

      -- The verdict by the table and the admitted set is the verdict.
      settled_each : Each (λ b. settled_by s set b ≡ verdict release8 free bs b) bs
      settled_each =
          each_split _ bs
          (λ before b later e.
          let formed : Formed b = each_here Formed before b later e each in
          rw (known.again b.id formed.0) (settled_standing (occurs b.id bs) set b ∙ sym (verdict_member release8 free bs each before b later e)))

      -- So a buffer of ones has all verdicts once those of the first bearers are written.
      pub settled_verdicts : (buffer : List ℕ) → length bs ≤ length buffer → written (settled_by s set) s.places (firsts_of s) (replicate (length bs) 1 ++ drop (length bs) buffer) ≡ map (verdict release8 free bs) bs ++ drop (length bs) buffer
      settled_verdicts buffer room =
          written_all (settled_by s set) bs s.places (firsts_of s) (ones ++ rest) (omega (arith, length-append ones rest, as_many)) (omega (arith, long, known.tidy.few, known.tidy.places)) at others
          ∙ ap₂ ◌++◌ (map_each _ _ bs settled_each) (drop_at ones rest (length bs) as_many)
        where
          ones : List ℕ
          ones = replicate (length bs) 1

          as_many : length ones ≡ length bs
          as_many = length-replicate (length bs) 1

          rest : List ℕ
          rest = drop (length bs) buffer

          long : length (firsts_of s) ≡ s.len
          long = length_firsts s known.tidy

          at : (j : ℕ) (d : Bearer) → j < length (firsts_of s) → (get_or s.places j 0 < length bs) × (get_or (firsts_of s) j d ≡ get_or bs (get_or s.places j 0) d)
          at j d h =
              let first : j < s.len = omega (arith, long) in
              (known.placed.inside j first, get_or-take s.len s.firsts j d first ∙ known.placed.firsts j d first)

          others : (i : ℕ) (d : Bearer) → i < length bs → ((j : ℕ) → j < length (firsts_of s) → get_or s.places j 0 ≡ i → ⊥) → get_or (ones ++ rest) i 0 ≡ settled_by s set (get_or bs i d)
          others i d h none =
              get_or-append ones rest 0 i (omega (arith, as_many))
              ∙ get_or-replicate (length bs) i 1 0 h
              ∙ sym (settled_repeated set (get_or bs i d) (each_at Formed bs each i d h).0 (known.placed.others i d h (λ j inner. none j (omega (arith, long)))))

      -- And the IDs that are refused are those of refused first bearers.
      pub settled_refused : refused_by s set (firsts_of s) ≡ ids_of (refused release8 free bs)
      settled_refused =
          let test : Bearer → Bool = λ b. not (eqb (settled_by s set b) 0) in
          same_ids bs s known test (λ b small more. rw (settled_repeated set b small more))
          ∙ ap ids_of
          (those_each test (λ b. not (eqb (verdict release8 free bs b) 0)) bs
          (each_map _ _ bs (λ b. ap (λ (v : ℕ). not (eqb v 0))) settled_each))

      -- What the walk through them leaves.
      pub walk_leaves : run (sorted (those (clear s) (firsts_of s))) (grants 0 free) ≡ grants set (free - total units (admitted release8 free bs))
      walk_leaves =
          rw (turns_known, run_granted (turns release8 bs) 0 free, or_zero_l (ids_of (granted (turns release8 bs) free)), granted_ids release8 free bs each, granted_total release8 free bs each units)
