-- What the views of a station say of the places of its table.
use Rattle.std.specs.List.{list_any}
use Rattle.std.specs.Prelude.{Option}
use Prim.Native.Nat.{ℕ, zero, suc, ◌+◌, ◌≤◌, ◌<◌}
use mathlib.Core.Path.{◌≡◌, refl, sym, ap, ◌∙◌}
use mathlib.Core.Bool.{Bool, true, false, cond, true≢false, false≢true}
use mathlib.Core.Logic.{◌⊎◌, inl, inr, ⊎_elim}
use mathlib.Core.List.{List, [], ◌∷◌}
use native.Mathlib.Omega.{arith}
use lib.Dec.{eqb}
use lib.ListN.{length, get_or}
use Rattle.laws.proofs.Sums.{total_equal}
use Rattle.laws.specs.Sums.{total}
use Rattle.laws.proofs.Tests.{by_cases}
use Rattle.handover.specs.declared.Entry.{Entry}
use Rattle.table.specs.declared.Station.{Station}
use Rattle.handover.specs.Numbers.{is_free, blank, own, own_is, next_after, issue_from}
use Rattle.table.specs.Sound.{Sound, own_times}
use Rattle.table.specs.Table.{find}
use Rattle.promises.specs.Views.{count, times, own_ids, Walk, land, pass, record_at, named}
use Rattle.table.proofs.Counting.{own_equal}
use Rattle.places.proofs.Finding.{by_found, found_none}
use Rattle.table.proofs.Finding.{found_here}
use Rattle.promises.proofs.Orderless.{once_at}
use Rattle.table.proofs.Placing.{found_place}
use Rattle.table.proofs.Tally.{total_none_of, total_any, none_at}

-- ---- own IDs

-- one for a record whose own ID passes a test
abbrev pub passes : (ℕ → Bool) → Entry → ℕ
passes test r = cond (is_free r) 0 (cond (test (own r)) 1 0)

-- The own IDs that pass a test are counted record by record.
pub count_own : (test : ℕ → Bool) (rs : List Entry) → count test (own_ids rs) ≡ total (passes test) rs
unfolding count own_ids total
count_own test [] = refl
count_own test (r ∷ rs) = by_cases (is_free r) (λ t. rw t (omega (arith, count_own test rs))) (λ t. rw t (omega (arith, count_own test rs)))

-- There are as many own IDs as places that are not free.
pub own_length : (rs : List Entry) → length (own_ids rs) + total (λ r. cond (is_free r) 1 0) rs ≡ length rs
unfolding own_ids total
own_length [] = refl
own_length (r ∷ rs) = by_cases (is_free r) (λ t. rw t (omega (arith, own_length rs))) (λ t. rw t (omega (arith, own_length rs)))

-- The number of times that an own ID stands in the list is the number of records that have it.
own_passes : (i : ℕ) (r : Entry) → passes (eqb i) r ≡ own_times i r
own_passes i r = rw (own_equal i r) (by_cases (is_free r) (λ t. rw t) (λ t. rw t))

pub times_own : (i : ℕ) (rs : List Entry) → times i (own_ids rs) ≡ total (own_times i) rs
times_own i rs = count_own (eqb i) rs ∙ total_equal (passes (eqb i)) (own_times i) rs (own_passes i)

-- It does not stand there if no record has it, and does if one has.
unused_none : (i : ℕ) (rs : List Entry) → list_any (own_is i) rs ≡ false → times i (own_ids rs) ≡ 0
unused_none i rs t = times_own i rs ∙ total_none_of (own_times i) (own_is i) rs (λ r u. rw u) t

used_some : (i : ℕ) (rs : List Entry) → list_any (own_is i) rs ≡ true → 1 ≤ times i (own_ids rs)
used_some i rs t = omega (arith, times_own i rs, total_any (own_is i) rs t)

-- The search that ends at an own ID in no use is the walk to it.
pub walk_to : (n c : ℕ) (rs : List Entry) → list_any (own_is (issue_from n (next_after c) rs)) rs ≡ false → Walk (own_ids rs) c (issue_from n (next_after c) rs)
unfolding issue_from
walk_to zero c rs unused = land refl (unused_none (next_after c) rs unused)
walk_to (suc n) c rs unused =
    by_cases (list_any (own_is (next_after c)) rs)
    (λ t. rw t (pass (used_some (next_after c) rs t) (walk_to n (next_after c) rs (rw t at unused))))
    (λ t. rw t (land refl (unused_none (next_after c) rs t)))

-- ---- the record that has an own ID

module _ (s : Station) (sound : Sound s) (i : ℕ) where
  -- Some place of the table has it, or none has and a free place stands for it.
  pub named_at : ((j : ℕ) × (j < 64) × (own_is i (get_or s.entries j blank) ≡ true) × (named i s ≡ get_or s.entries j blank))
      ⊎ (((j : ℕ) → j < 64 → own_is i (get_or s.entries j blank) ≡ false) × (named i s ≡ blank))
  unfolding named
  named_at =
      by_found (find (own_is i) s)
      (λ none. inr (λ j h. none_at (own_is i) s.entries j (omega (arith, sound.places)) (found_none (own_is i) s.entries none), ap (λ (f : Option ℕ). record_at f s) none))
      (λ k found. inl (k, found_place s sound (own_is i) k found, (found_here (own_is i) s k found).1, ap (λ (f : Option ℕ). record_at f s) found))

  -- No two places have it.
  pub own_sole : (j k : ℕ) → j < 64 → k < 64 → own_is i (get_or s.entries j blank) ≡ true → own_is i (get_or s.entries k blank) ≡ true → j ≡ k
  own_sole j k h g one other =
      once_at (own_times i) s.entries j k refl (omega (arith, sound.places)) (omega (arith, sound.places)) (sound.distinct i) (rw one) (rw other)

  -- So what has it is the record that is found by it.
  pub named_is : (j : ℕ) → j < 64 → own_is i (get_or s.entries j blank) ≡ true → named i s ≡ get_or s.entries j blank
  named_is j h mine =
      ⊎_elim
      (λ there. there.3 ∙ ap (λ (n : ℕ). get_or s.entries n blank) (own_sole there.0 j there.1 h there.2 mine))
      (λ none. absurd (true≢false (sym mine ∙ none.0 j h)))
      named_at

  -- Where none has it, that is a free place.
  pub named_none : ((j : ℕ) → j < 64 → own_is i (get_or s.entries j blank) ≡ false) → named i s ≡ blank
  named_none none = ⊎_elim (λ there. absurd (true≢false (sym there.2 ∙ none there.0 there.1))) (λ so. so.1) named_at

  -- What is found by it has it, if it is a record.
  pub named_own : is_free (named i s) ≡ false → own_is i (named i s) ≡ true
  named_own used =
      ⊎_elim (λ there. rw there.3 there.2) (λ none. absurd (true≢false (rw none.1 at used))) named_at

-- One station goes over into another, at each place of the table: what holds of a free place, and of each record that has an own ID
-- before and what stands at its place afterwards, holds of the records found by that ID, if no other place comes to have it.
pub over : (s t : Station) → Sound s → Sound t → (i : ℕ) (R : Entry → Entry → Type 0) → R blank blank
    → ((j : ℕ) → j < 64 → own_is i (get_or s.entries j blank) ≡ true → R (get_or s.entries j blank) (get_or t.entries j blank))
    → ((j : ℕ) → j < 64 → (get_or t.entries j blank ≡ blank) ⊎ (own_is i (get_or t.entries j blank) ≡ own_is i (get_or s.entries j blank)))
    → R (named i s) (named i t)
over s t sound after i R free each kept =
    ⊎_elim
    (λ old.
    rw old.3
    (⊎_elim
    (λ new.
    let same = own_sole s sound i old.0 new.0 old.1 new.1 old.2 (was new.0 new.1 new.2) in
    rw (new.3, ← same) (each old.0 old.1 old.2))
    (λ none. rw none.1 (rw (gone old.0 old.1 old.2 (none.0 old.0 old.1)) at (each old.0 old.1 old.2)))
    (named_at t after i)))
    (λ none.
    rw none.1
    (⊎_elim
    (λ new. absurd (true≢false (sym (was new.0 new.1 new.2) ∙ none.0 new.0 new.1)))
    (λ still. rw still.1 free)
    (named_at t after i)))
    (named_at s sound i)
  where
    was : (k : ℕ) → k < 64 → own_is i (get_or t.entries k blank) ≡ true → own_is i (get_or s.entries k blank) ≡ true
    was k h mine =
        ⊎_elim (λ ended. absurd (false≢true (rw ended at mine))) (λ same. sym same ∙ mine) (kept k h)

    gone : (k : ℕ) → k < 64 → own_is i (get_or s.entries k blank) ≡ true → own_is i (get_or t.entries k blank) ≡ false → get_or t.entries k blank ≡ blank
    gone k h mine other =
        ⊎_elim (λ ended. ended) (λ same. absurd (true≢false (sym mine ∙ sym same ∙ other))) (kept k h)
