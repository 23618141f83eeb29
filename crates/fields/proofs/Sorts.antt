-- The sorts of kinds, by tests of the whole table.
use Prim.Native.Nat.{ℕ}
use mathlib.Core.Path.{◌≡◌, refl}
use mathlib.Core.Bool.{Bool, true, false, not, ◌||◌}
use borrow.Author.Tests.{eqb-true, eqb-false}
use denote.Enum.Bare.{same_true, true_same}
use lib.Dec.{eqb}
use Rattle.laws.proofs.Tests.{by_cases, every, every_at, refuted}
use Rattle.records.specs.declared.Record.{Record}
use Rattle.fields.specs.declared.Sort.{Sort}
use Rattle.fields.specs.declared.Sort.TheVariants.{NoEvent, SoonestDue, NewRecord, Request}
use Rattle.fields.specs.contracts.Sort.{the_type}
use Rattle.fields.specs.Fields.{same_sort, kinds, no_kind, sort_of, well_formed, sort_of_event}

-- What the test of two sorts says.
module _ (a b : Sort) where
  pub sort_true : same_sort a b ≡ true → a ≡ b
  sort_true = same_true the_type tt a b

  pub eq_sort : a ≡ b → same_sort a b ≡ true
  eq_sort = true_same the_type a b

-- A test that holds of every kind of the table and its sort, and of no event, holds of any number and its sort.
pub every_kind : (test : ℕ → Sort → Bool) → every (λ k row. test k row.sort) kinds ≡ true → ((j : ℕ) → test j NoEvent ≡ true) → (k : ℕ) → test k (sort_of k) ≡ true
every_kind test all none k = every_at (λ i row. test i row.sort) kinds no_kind k all none

-- So a test that holds of every kind of a sort in the table holds of any kind of that sort.
pub every_of_sort : (sort : Sort) (test : ℕ → Bool) → same_sort NoEvent sort ≡ false → every (λ i row. not (same_sort row.sort sort) || test i) kinds ≡ true → (k : ℕ) → sort_of k ≡ sort → test k ≡ true
every_of_sort sort test some all k is = rw (is, eq_sort sort sort refl) at (every_kind (λ i x. not (same_sort x sort) || test i) all (λ j. rw some) k)

-- The sorts that one kind has alone.
module _ (k : ℕ) where
  pub request_kind : sort_of k ≡ Request → k ≡ 1
  request_kind is = eqb-true k 1 (every_of_sort Request (λ i. eqb i 1) refl refl k is)

  pub start_kind : sort_of k ≡ NewRecord → k ≡ 9
  start_kind is = eqb-true k 9 (every_of_sort NewRecord (λ i. eqb i 9) refl refl k is)

  pub tick_kind : sort_of k ≡ SoonestDue → k ≡ 15
  tick_kind is = eqb-true k 15 (every_of_sort SoonestDue (λ i. eqb i 15) refl refl k is)

-- An event of another kind is no request.
pub no_request : (e : Record) → eqb e.kind 1 ≡ false → same_sort (sort_of_event e) Request ≡ false
no_request e other =
    by_cases (well_formed e)
    (λ formed. rw formed (refuted (same_sort (sort_of e.kind) Request) (λ t. eqb-false e.kind 1 other (request_kind e.kind (sort_true (sort_of e.kind) Request t)))))
    (λ malformed. rw malformed)
