-- An own ID that is issued is in use by no record.
use Rattle.std.specs.List.{list_any}
use Rattle.std.specs.Prelude.{Some}
use Prim.Native.Nat.{ℕ, zero, suc, ◌+◌, ◌≤◌, ◌<◌}
use mathlib.Core.Path.{◌≡◌, refl, ◌∙◌, sym}
use mathlib.Core.Bool.{true, false, cond, not, ◌&&◌, or-false, true≢false}
use mathlib.Core.List.{List}
use borrow.Author.Tests.{ne_eqb, eqb-true, eqb-false, leb-true, leb-false, le-leb, lt-leb}
use store.Seg.{eqb_same}
use native.Mathlib.Omega.{arith}
use lib.Dec.{leb, eqb}
use lib.ListN.{get_or}
use Rattle.laws.proofs.Sums.{total_most, total_add, total_each}
use Rattle.laws.specs.Sums.{total}
use Rattle.laws.proofs.Tests.{by_cases, both_true, eqb_sym}
use Rattle.handover.specs.declared.Entry.{Entry}
use Rattle.table.specs.declared.Station.{Station}
use Rattle.handover.specs.Numbers.{is_free, blank, own, own_is, next_after, issue_from}
use Rattle.table.specs.Sound.{Fit, Sound, own_times}
use Rattle.table.specs.Step.{issue}
use Rattle.table.specs.Table.{find}
use Rattle.handover.proofs.Issuing.{next_small}
use Rattle.table.proofs.Tally.{total_any, total_found, total_none_of, once_le}

-- ---- numbers one after the other

-- a sum over so many numbers, from the given one on
unfoldable along : (ℕ → ℕ) → ℕ → ℕ → ℕ
along g zero c = 0
along g (suc n) c = g c + along g n (next_after c)

-- Such sums are at most others, or 0, where their numbers are.
along_le : (g h : ℕ → ℕ) (n c : ℕ) → ((k : ℕ) → g k ≤ h k) → along g n c ≤ along h n c
unfolding along
along_le g h zero c le = omega arith
along_le g h (suc n) c le = omega (arith, le c, along_le g h n (next_after c) le)

along_none : (g : ℕ → ℕ) (n c : ℕ) → ((k : ℕ) → g k ≡ 0) → along g n c ≡ 0
unfolding along
along_none g zero c none = refl
along_none g (suc n) c none = omega (arith, none c, along_none g n (next_after c) none)

-- The sum over the numbers of sums over the records is the sum over the records of sums over the numbers.
along_total : (f : ℕ → Entry → ℕ) (rs : List Entry) (n c : ℕ) → along (λ k. total (f k) rs) n c ≡ total (λ r. along (λ k. f k r) n c) rs
unfolding along
along_total f rs zero c = omega (arith, total_each 0 rs)
along_total f rs (suc n) c = omega (arith, along_total f rs n (next_after c), total_add (f c) (λ r. along (λ k. f k r) n (next_after c)) rs)

-- how often a number is passed
abbrev is : ℕ → ℕ → ℕ
is x k = cond (eqb k x) 1 0

-- The next number is 0 or one more.
next_is : (c : ℕ) → c < 4096 → (P : ℕ → Type 0) → (c ≡ 4095 → P 0) → (c < 4095 → P (c + 1)) → P (next_after c)
next_is c small P back more =
    by_cases (eqb c 4095)
    (λ t. rw t (back (eqb-true c 4095 t)))
    (λ t. rw t (more (omega (arith, eqb-false c 4095 t))))

-- A number that is not reached yet is not passed: it lies so far ahead, or behind and the ring is not gone round.
passed_never : (x n c : ℕ) → x < 4096 → c < 4096 → (c ≤ x → c + n ≤ x) → (x < c → c + n ≤ x + 4096) → along (is x) n c ≡ 0
unfolding along
passed_never x zero c xs cs ahead behind = refl
passed_never x (suc n) c xs cs ahead behind =
    let other : c ≡ x → ⊥ = λ e. omega (arith, ahead (omega arith)) in
    let later : along (is x) n (next_after c) ≡ 0 =
    next_is c cs (λ k. along (is x) n k ≡ 0)
    (λ e. passed_never x n 0 xs (omega arith) (λ h. omega (arith, behind (omega arith))) (λ h. absurd (omega arith)))
    (λ h. passed_never x n (c + 1) xs (omega arith) (λ k. omega (arith, ahead (omega arith))) (λ k. omega (arith, behind (omega arith)))) in
    rw (ne_eqb c x other) (omega arith)

-- Of as many numbers as the ring has, none is passed twice.
passed_once : (x n c : ℕ) → x < 4096 → c < 4096 → n ≤ 4096 → along (is x) n c ≤ 1
unfolding along
passed_once x zero c xs cs few = omega arith
passed_once x (suc n) c xs cs few =
    by_cases (eqb c x)
    (λ t.
    let same : c ≡ x = eqb-true c x t in
    let none : along (is x) n (next_after c) ≡ 0 =
    next_is c cs (λ k. along (is x) n k ≡ 0)
    (λ e. passed_never x n 0 xs (omega arith) (λ h. omega arith) (λ h. omega arith))
    (λ h. passed_never x n (c + 1) xs (omega arith) (λ k. omega arith) (λ k. omega arith)) in
    rw (t, none) (omega arith))
    (λ t. rw t (omega (arith, passed_once x n (next_after c) xs (next_small c cs) (omega arith))))

-- ---- own IDs

-- What is issued is an own ID.
issued_small : (n c : ℕ) (rs : List Entry) → c < 4096 → issue_from n c rs < 4096
unfolding issue_from
issued_small zero c rs h = h
issued_small (suc n) c rs h =
    by_cases (list_any (own_is c) rs) (λ t. rw t (issued_small n (next_after c) rs (next_small c h))) (λ t. rw t h)

-- If a record has the number at which the search ends, every number that it passed over is some record's.
all_used : (n c : ℕ) (rs : List Entry) → list_any (own_is (issue_from n c rs)) rs ≡ true → n ≤ along (λ k. total (own_times k) rs) n c
unfolding along issue_from
all_used zero c rs used = omega arith
all_used (suc n) c rs used =
    by_cases (list_any (own_is c) rs)
    (λ t. omega (arith, total_any (own_is c) rs t, all_used n (next_after c) rs (rw t at used)))
    (λ t. absurd (true≢false (sym (rw t at used) ∙ t)))

-- A record has one own ID, and a free place none.
pub own_equal : (k : ℕ) (r : Entry) → own_is k r ≡ (not (is_free r) && eqb k (own r))
own_equal k r =
    by_cases (is_free r) (λ t. rw (eqb-true r.state 0 t))
    (λ t.
    let some = le-leb 1 r.state (omega (arith, eqb-false r.state 0 t)) in
    by_cases (leb r.state 2)
    (λ u. rw (t, some, u, lt-leb 3 r.state (omega (arith, leb-true r.state 2 u))) (or-false (eqb r.old.0 k) ∙ eqb_sym r.old.0 k))
    (λ u. rw (t, some, u, le-leb 3 r.state (omega (arith, leb-false r.state 2 u))) (eqb_sym r.new.0 k)))

pub own_is_lem : (k : ℕ) (r : Entry) → own_is k r ≡ true → eqb k (own r) ≡ true
own_is_lem k r used = (both_true (not (is_free r)) (eqb k (own r)) (rw (own_equal k r) at used)).1

pub own_itself : (r : Entry) → is_free r ≡ false → own_times (own r) r ≡ 1
own_itself r used = rw (own_equal (own r) r, used, eqb_same (own r))

own_times_lem : (k : ℕ) (r : Entry) → own_times k r ≤ is (own r) k
own_times_lem k r = once_le (own_is k r) (eqb k (own r)) (own_is_lem k r)

-- Of the numbers passed a record has at most one for its own, and a free place none.
few_own : (n c : ℕ) (r : Entry) → Fit r → c < 4096 → n ≤ 4096 → along (λ k. own_times k r) n c + cond (is_free r) 1 0 ≤ 1
few_own n c r fit small few =
    by_cases (is_free r)
    (λ t. rw t (omega (arith, along_none (λ k. own_times k r) n c (λ k. rw (own_equal k r, t)))))
    (λ t.
    let one = along_le (λ k. own_times k r) (is (own r)) n c (λ k. own_times_lem k r) in
    rw t (omega (arith, one, passed_once (own r) n c fit.id small few)))

-- Own IDs stay distinct where a record is added whose own ID no other has.
pub own_once : (rs : List Entry) (r : Entry) (k : ℕ) → total (own_times k) rs ≤ 1 → list_any (own_is (own r)) rs ≡ false → total (own_times k) rs + own_times k r ≤ 1
own_once rs r k distinct unused =
    by_cases (eqb k (own r))
    (λ t.
    let none : total (own_times k) rs ≡ 0 = total_none_of (own_times k) (own_is k) rs (λ x u. rw u) (rw (eqb-true k (own r) t) unused) in
    omega (arith, rw t at (own_times_lem k r)))
    (λ t. omega (arith, rw t at (own_times_lem k r)))

module _ (s : Station) (sound : Sound s) where
  -- The own ID that is issued is one.
  pub issue_small : issue s < 4096
  issue_small = issued_small 64 (next_after s.last) s.entries (next_small s.last sound.last)

  -- Where a place of the table is free, no record has the own ID that is issued: 64 numbers are tried, and 63 records have one each
  -- at most.
  pub issue_unused : (i : ℕ) → find is_free s ≡ Some i → list_any (own_is (issue s)) s.entries ≡ false
  issue_unused i found =
      by_cases (list_any (own_is (issue s)) s.entries)
      (λ t.
      let c = next_after s.last in
      let times : Entry → ℕ = λ r. along (λ k. own_times k r) 64 c in
      let free : Entry → ℕ = λ r. cond (is_free r) 1 0 in
      let few = total_most (λ r. times r + free r) (λ r. 1) s.entries s.entries blank refl (λ j h. few_own 64 c (get_or s.entries j blank) (sound.fit j (omega (arith, sound.places))) (next_small s.last sound.last) (omega arith)) in
      absurd (omega (arith, total_found is_free s i found, total_each 1 s.entries, sound.places, total_add times free s.entries, all_used 64 c s.entries t, along_total own_times s.entries 64 c)))
      (λ t. t)
