-- What a well-formed event has.
use Prim.Native.Nat.{ℕ, ◌≤◌}
use mathlib.Core.Path.{◌≡◌}
use mathlib.Core.Bool.{Bool, true, false, ◌&&◌, ◌||◌, not, false≢true}
use borrow.Author.Tests.{leb-true, le-leb, eqb-true, eq-eqb}
use native.Mathlib.Omega.{arith}
use lib.Dec.{leb, eqb}
use Rattle.laws.proofs.Tests.{by_cases, both_true, between}
use Rattle.records.specs.declared.Record.{Record}
use Rattle.fields.specs.Malformed.{used_by, is_absent, in_range, ids_in_range, values_in_range, others_zero, is_counted, well_formed}
use Rattle.fields.specs.declared.Sort.TheVariants.{NoEvent}
use Rattle.fields.specs.Kinds.{same_sort, sort_of}
use Rattle.fields.proofs.Agreeing.{only_requests}

-- A field in range is at most its greatest value.
at_most : (used most value : ℕ) → in_range used most value ≡ true → value ≤ most
at_most used most value t =
    by_cases (eqb value 0)
    (λ u. omega (arith, eqb-true value 0 u))
    (λ u. leb-true value most (both_true (eqb used 1) (leb value most) (rw u at t)).1)

-- A field that is used is in range up to its greatest value.
pub used_in_range : (most value : ℕ) → value ≤ most → in_range 1 most value ≡ true
used_in_range most value h = by_cases (eqb value 0) (λ u. rw u) (λ u. rw (u, le-leb value most h))

module _ (e : Record) (t : well_formed e ≡ true) where
  -- the range of a field, by its place in the table of uses
  abbrev range : ℕ → ℕ → ℕ → Bool
  range field most value = in_range (used_by e.kind field) most value

  -- Its IDs and its values are in range, and a request has a count.
  parts : (ids_in_range (used_by e.kind) e ≡ true) × (values_in_range (used_by e.kind) e ≡ true) × (is_counted e ≡ true)
  parts =
      let kind = not (same_sort (sort_of e.kind) NoEvent) in
      let ids = ids_in_range (used_by e.kind) e in
      let values = values_in_range (used_by e.kind) e in
      let four = both_true (kind && ids && values && others_zero e) (is_counted e) t in
      let two = both_true (kind && ids) values (both_true (kind && ids && values) (others_zero e) four.0).0 in
      ((both_true kind ids two.0).1, two.1, four.1)

  -- So its neighbour and its Old ID are in range, and its New ID but where a cancel has none, its first set, its number and its time, whatever
  -- its kind is.
  ids : (range 0 31 e.neighbour ≡ true) × (range 1 4095 e.old.0 ≡ true) × (range 2 4095 e.new.0 || is_absent e ≡ true)
  ids =
      let all = both_true (range 0 31 e.neighbour && range 1 4095 e.old.0) (range 2 4095 e.new.0 || is_absent e) parts.0 in
      let two = both_true (range 0 31 e.neighbour) (range 1 4095 e.old.0) all.0 in
      (two.0, two.1, all.1)

  pub neighbour_within : e.neighbour ≤ 31
  neighbour_within = at_most (used_by e.kind 0) 31 e.neighbour ids.0

  pub old_within : e.old.0 ≤ 4095
  old_within = at_most (used_by e.kind 1) 4095 e.old.0 ids.1

  pub new_within : eqb e.kind 6 ≡ false → e.new.0 ≤ 4095
  new_within six =
      by_cases (range 2 4095 e.new.0)
      (λ u. at_most (used_by e.kind 2) 4095 e.new.0 u)
      (λ u. absurd (false≢true (rw (u, six) at ids.2)))

  -- the tests of the sets, and of what stands before the number
  abbrev started : Bool
  started = not (eqb e.kind 9) || not (eqb e.first 0)

  abbrev rest : Bool
  rest = range 3 65535 e.first && started && range 4 65535 e.second && range 5 255 e.reason && eqb e.byte11 0

  values : (rest ≡ true) × (range 6 4294967295 e.number ≡ true) × (range 7 1000000000000 e.time ≡ true)
  values =
      let all = both_true (rest && range 6 4294967295 e.number) (range 7 1000000000000 e.time) parts.1 in
      let two = both_true rest (range 6 4294967295 e.number) all.0 in
      (two.0, two.1, all.1)

  pub time_within : e.time ≤ 1000000000000
  time_within = at_most (used_by e.kind 7) 1000000000000 e.time values.2

  pub number_within : e.number ≤ 256
  number_within =
      by_cases (eqb e.kind 1)
      (λ u. (between 1 256 e.number (rw u at parts.2)).1)
      (λ u. omega (arith, at_most 0 0 e.number (rw (only_requests e.kind u) at values.1)))

  pub request_counted : e.kind ≡ 1 → 1 ≤ e.number
  request_counted one = (between 1 256 e.number (rw (eq-eqb e.kind 1 one) at parts.2)).0

  pub first_within : e.first ≤ 65535
  first_within =
      let set = range 3 65535 e.first && started in
      let two = both_true (set && range 4 65535 e.second && range 5 255 e.reason) (eqb e.byte11 0) values.0 in
      let one = both_true set (range 4 65535 e.second) (both_true (set && range 4 65535 e.second) (range 5 255 e.reason) two.0).0 in
      at_most (used_by e.kind 3) 65535 e.first (both_true (range 3 65535 e.first) started one.0).0
