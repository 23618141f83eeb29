-- What is seen of a station in which a record was made, with the own ID that was issued.
use Rattle.std.specs.Prelude.{Some}
use Prim.Native.Nat.{ℕ, ◌+◌, ◌<◌}
use mathlib.Core.Path.{◌≡◌, refl, sym, ap, ◌∙◌}
use mathlib.Core.Bool.{Bool, true, false, cond, true≢false}
use mathlib.Core.Logic.{inr}
use borrow.Author.Tests.{eqb-true, eqb-false, ne_eqb}
use store.Seg.{eqb_same}
use native.Mathlib.Omega.{arith}
use lib.Dec.{eqb}
use lib.ListN.{length, get_or, set}
use lib.Seq.{get_or-set_same, get_or-set_other}
use Rattle.laws.proofs.Sums.{total_set}
use Rattle.laws.proofs.Tests.{by_cases}
use Rattle.table.specs.declared.Answer.{Answer}
use Rattle.handover.specs.declared.Entry.{Entry}
use Rattle.table.specs.declared.Station.{Station}
use Rattle.handover.specs.Numbers.{is_free, blank, own, own_is}
use Rattle.table.specs.Sound.{Sound}
use Rattle.table.specs.Step.{issue}
use Rattle.table.specs.Table.{find, add}
use Rattle.promises.specs.Views.{count, ids, last, named, Issues}
use Rattle.table.proofs.Counting.{own_equal, issue_unused}
use Rattle.table.proofs.Finding.{found_here, set_each}
use Rattle.table.proofs.Placing.{found_place}
use Rattle.table.proofs.Tally.{total_found, none_at}
use Rattle.promises.proofs.Viewing.{passes, count_own, own_length, walk_to, named_none, named_is, over}

-- A record was made: none had the own ID, it is found by that now, and by every other own ID the same is found as before.
pub record Made (s after : Station) (r : Entry) : Type 0 where
  pub new : named (issue s) s ≡ blank
  pub here : named (issue s) after ≡ r
  pub others : (i : ℕ) → (i ≡ issue s → ⊥) → named i after ≡ named i s

-- So what does not tell the record from a free place is seen as before.
pub made_same : {A : Type 0} {s after : Station} {r : Entry} → Made s after r → (view : Entry → A) → view r ≡ view blank → (i : ℕ) → view (named i after) ≡ view (named i s)
made_same {s = s} m view same i =
    by_cases (eqb i (issue s))
    (λ t. rw (eqb-true i (issue s) t, m.here, m.new) same)
    (λ t. ap view (m.others i (eqb-false i (issue s) t)))

module _ (s : Station) (sound : Sound s) (k : ℕ) (found : find is_free s ≡ Some k) (r : Entry) (mine : own r ≡ issue s) (live : is_free r ≡ false) where
  place : k < length s.entries
  place = (found_here is_free s k found).0

  free : is_free (get_or s.entries k blank) ≡ true
  free = (found_here is_free s k found).1

  -- The own ID is the first that was not in use, and it alone is new.
  pub made_issues : (a : Answer) → a.station ≡ add k (issue s) r s → Issues (issue s) s a
  unfolding ids last
  made_issues a is =
      record {
        room = omega (arith, own_length s.entries, sound.places, total_found is_free s k found);
        walk = walk_to 64 s.last s.entries (issue_unused s sound k found);
        latest = rw is;
        more = λ test. rw is (more test);
      }
    where
      more : (test : ℕ → Bool) → count test (ids (add k (issue s) r s)) ≡ count test (ids s) + cond (test (issue s)) 1 0
      more test =
          let there = total_set (passes test) s.entries k r blank place in
          let none : passes test (get_or s.entries k blank) ≡ 0 = rw free in
          let one : passes test r ≡ cond (test (issue s)) 1 0 = rw (live, mine) in
          omega (arith, count_own test s.entries, count_own test (set s.entries k r))

  pub made : Sound (add k (issue s) r s) → Made s (add k (issue s) r s) r
  made after = record { new = new; here = here; others = others }
    where
      at_place : get_or (set s.entries k r) k blank ≡ r
      at_place = get_or-set_same s.entries k r blank place

      new : named (issue s) s ≡ blank
      new = named_none s sound (issue s) (λ j h. none_at (own_is (issue s)) s.entries j (omega (arith, sound.places)) (issue_unused s sound k found))

      here : named (issue s) (add k (issue s) r s) ≡ r
      here =
          named_is (add k (issue s) r s) after (issue s) k (found_place s sound is_free k found)
          (rw (at_place, own_equal (issue s) r, live, mine) (eqb_same (issue s))) ∙ at_place

      unowned : (i : ℕ) (x : Entry) → is_free x ≡ true → own_is i x ≡ false
      unowned i x t = rw (own_equal i x, t)

      others : (i : ℕ) → (i ≡ issue s → ⊥) → named i (add k (issue s) r s) ≡ named i s
      others i other =
          over s (add k (issue s) r s) sound after i (λ x y. y ≡ x) refl
          (λ j h its. get_or-set_other s.entries k j r blank (λ same. true≢false (sym its ∙ rw same (unowned i (get_or s.entries k blank) free))))
          (λ j h. inr
          (set_each (λ j x. own_is i x ≡ own_is i (get_or s.entries j blank)) s.entries k r place
          (rw (own_equal i r, live, mine, ne_eqb i (issue s) other) (sym (unowned i (get_or s.entries k blank) free)))
          (λ j _. refl) j))
