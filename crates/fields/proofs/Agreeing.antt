-- The limits of the table say what document 01's uses and ranges say: field by field, by a test of the two tables.
use Prim.Native.Nat.{ℕ}
use mathlib.Core.Path.{◌≡◌, refl, ◌∙◌, sym}
use mathlib.Core.Bool.{Bool, true, false, cond, not, ◌&&◌, ◌||◌, and_assoc, and-true, and_comm, or-false, or_comm}
use mathlib.Core.List.{List, [], ◌∷◌}
use mathlib.Core.Logic.{⊎_elim}
use borrow.Author.Tests.{eqb-true, eqb-false, le-leb, lt-leb, ltb-true, ltb-false}
use denote.Enum.Bare.{same_true}
use native.Mathlib.Omega.{arith}
use lib.Dec.{leb, ltb, eqb}
use lib.ListN.{get_or, replicate, get_or-eq_default}
use Rattle.laws.proofs.Tests.{by_cases, on_either, both_true, either_true, every, every_at, below_at}
use Rattle.records.specs.declared.Record.{Record}
use Rattle.fields.specs.declared.Sort.TheVariants.{NoEvent}
use Rattle.fields.specs.declared.kinds.Limit.{Limit}
use Rattle.fields.specs.declared.kinds.Limit.TheVariants.{Unused, Neighbour, Id, IdOrAbsent, Set, SomeSet, AnyByte, AnyNumber, Time}
use Rattle.fields.specs.declared.kinds.Row.{Row}
use Rattle.fields.specs.contracts.kinds.Limit.{the_type}
use Rattle.fields.specs.Fields.{same_sort, same_limit, most, fits, no_kind, kinds, row_of, limits_in, limits_of, sort_of, all_fit, values_of, is_bearer, sort_of_event}
use Rattle.fields.specs.Malformed.{uses, used_by, in_range, is_absent, is_counted, well_formed, bearer_formed}
use Rattle.fields.proofs.Sorts.{sort_true}

-- whether a field is used on both sides, with a limit, or on neither
abbrev same : Limit → ℕ → Limit → Bool
same limit used entry = same_limit entry Unused && eqb used 0 || same_limit entry limit && eqb used 1

-- the same for each field of a kind's row
abbrev agree : ℕ → Row → List Bool
agree k row =
    same Neighbour (used_by k 0) row.neighbour
    ∷ same Id (used_by k 1) row.old
    ∷ cond (eqb k 6) (same_limit row.new IdOrAbsent && eqb (used_by k 2) 1) (same Id (used_by k 2) row.new)
    ∷ cond (eqb k 9) (same_limit row.first SomeSet && eqb (used_by k 3) 1) (same Set (used_by k 3) row.first)
    ∷ same Set (used_by k 4) row.second
    ∷ same AnyByte (used_by k 5) row.reason
    ∷ same_limit row.byte11 Unused
    ∷ same AnyNumber (used_by k 6) row.number
    ∷ same Time (used_by k 7) row.time
    ∷ same_limit row.erab Unused
    ∷ same_limit row.qci Unused
    ∷ same_limit row.priority Unused
    ∷ same_limit row.flags Unused
    ∷ same_limit row.bytes28 Unused
    ∷ []

-- Requests alone have a number.
pub only_requests : (k : ℕ) → eqb k 1 ≡ false → used_by k 6 ≡ 0
only_requests k other =
    by_cases (ltb k 18)
    (λ t. eqb-true (used_by k 6) 0 (rw other at (below_at 18 (λ j. eqb j 1 || eqb (used_by j 6) 0) k refl (ltb-true k 18 t))))
    (λ t. rw (get_or-eq_default uses (replicate 8 0) (ltb-false k 18 t)))

-- Where a field is not used only zero is in range, where it is used what is at most its greatest value.
not_used : (value : ℕ) → (eqb value 0 || false) ≡ leb value 0
not_used value =
    rw or-false
    (by_cases (eqb value 0)
    (λ t. rw (t, eqb-true value 0 t))
    (λ t. rw t (sym (lt-leb value 0 (omega (arith, eqb-false value 0 t))))))

used : (most value : ℕ) → (eqb value 0 || leb value most) ≡ leb value most
used most value = by_cases (eqb value 0) (λ t. rw t (sym (le-leb value most (omega (arith, eqb-true value 0 t))))) (λ t. rw t)

pub only_zero : (value : ℕ) → eqb value 0 ≡ leb value 0
only_zero value = sym (or-false (eqb value 0)) ∙ not_used value

pub limit_true : (a b : Limit) → same_limit a b ≡ true → a ≡ b
limit_true a b = same_true the_type tt a b

in_limit : (limit : Limit) (users : ℕ) (entry : Limit) (value : ℕ) → fits limit value ≡ leb value (most limit) → same limit users entry ≡ true → in_range users (most limit) value ≡ fits entry value
in_limit limit users entry value plain t =
    ⊎_elim
    (λ none. let both = both_true (same_limit entry Unused) (eqb users 0) none in
    rw (limit_true entry Unused both.0, eqb-true users 0 both.1) (not_used value))
    (λ some. let both = both_true (same_limit entry limit) (eqb users 1) some in
    rw (limit_true entry limit both.0, eqb-true users 1 both.1, plain) (used (most limit) value))
    (either_true (same_limit entry Unused && eqb users 0) (same_limit entry limit && eqb users 1) t)

module _ (e : Record) (event : same_sort (sort_of e.kind) NoEvent ≡ false) where
  -- An event's row agrees with its uses.
  agrees : (field : ℕ) → get_or (agree e.kind (row_of e.kind)) field true ≡ true
  agrees field =
      every_at (λ _ (t : Bool). t) (agree e.kind (row_of e.kind)) true field
      (rw event at (every_at (λ k row. same_sort row.sort NoEvent || every (λ _ (t : Bool). t) (agree k row)) kinds no_kind e.kind refl (λ _. refl)))
      (λ _. refl)

  abbrev by : ℕ → ℕ
  by = used_by e.kind

  abbrev row : Row
  row = row_of e.kind

  zero_agrees : (limit : Limit) (value : ℕ) → same_limit limit Unused ≡ true → eqb value 0 ≡ fits limit value
  zero_agrees limit value t = rw (limit_true limit Unused t) (only_zero value)

  new_agrees : (in_range (by 2) 4095 e.new.0 || is_absent e) ≡ fits row.new e.new.0
  new_agrees =
      by_cases (eqb e.kind 6)
      (λ t. let both = both_true (same_limit row.new IdOrAbsent) (eqb (by 2) 1) (rw t at (agrees 2)) in
      rw (t, limit_true row.new IdOrAbsent both.0, eqb-true (by 2) 1 both.1, used 4095 e.new.0) (or_comm (leb e.new.0 4095) (eqb e.new.0 65535)))
      (λ t. rw (t, or-false) (in_limit Id (by 2) row.new e.new.0 refl (rw t at (agrees 2))))

  first_agrees : (in_range (by 3) 65535 e.first && (not (eqb e.kind 9) || not (eqb e.first 0))) ≡ fits row.first e.first
  first_agrees =
      by_cases (eqb e.kind 9)
      (λ t. let both = both_true (same_limit row.first SomeSet) (eqb (by 3) 1) (rw t at (agrees 3)) in
      rw (t, limit_true row.first SomeSet both.0, eqb-true (by 3) 1 both.1, used 65535 e.first) (and_comm (leb e.first 65535) (not (eqb e.first 0))))
      (λ t. rw (t, and-true) (in_limit Set (by 3) row.first e.first refl (rw t at (agrees 3))))

  -- So it is well formed exactly if all its fields fit their limits, and a request has a count.
  pub event_formed : well_formed e ≡ (all_fit (limits_of e.kind) (values_of e) && is_counted e)
  event_formed =
      rw (
        event,
        ← in_limit Neighbour (by 0) row.neighbour e.neighbour refl (agrees 0),
        ← in_limit Id (by 1) row.old e.old.0 refl (agrees 1),
        ← new_agrees,
        ← first_agrees,
        ← in_limit Set (by 4) row.second e.second refl (agrees 4),
        ← in_limit AnyByte (by 5) row.reason e.reason refl (agrees 5),
        ← zero_agrees row.byte11 e.byte11 (agrees 6),
        ← in_limit AnyNumber (by 6) row.number e.number refl (agrees 7),
        ← in_limit Time (by 7) row.time e.time refl (agrees 8),
        ← zero_agrees row.erab e.erab (agrees 9),
        ← zero_agrees row.qci e.qci (agrees 10),
        ← zero_agrees row.priority e.priority (agrees 11),
        ← zero_agrees row.flags e.flags (agrees 12),
        ← zero_agrees row.bytes28 e.bytes28 (agrees 13),
      )
      (simp (and_assoc, and-true))

-- A kind that is no event by itself is malformed.
pub no_event_malformed : (e : Record) → same_sort (sort_of e.kind) NoEvent ≡ true → well_formed e ≡ false
no_event_malformed e none = rw none

-- its sort by its limits is that by document 01
sort_by_limits : (e : Record) → cond (all_fit (limits_of e.kind) (values_of e) && is_counted e) (sort_of e.kind) NoEvent ≡ sort_of_event e
sort_by_limits e =
    let test = all_fit (limits_of e.kind) (values_of e) && is_counted e in
    by_cases (same_sort (sort_of e.kind) NoEvent)
    (λ t. rw (no_event_malformed e t, sort_true (sort_of e.kind) NoEvent t) (on_either test NoEvent))
    (λ t. rw (event_formed e t))

-- So it is by the tests of the code.
pub sort_if : (e : Record) (row : Row) (fit counted : Bool) → row ≡ row_of e.kind → fit ≡ all_fit (limits_in row) (values_of e) → counted ≡ is_counted e → cond (fit && counted) row.sort NoEvent ≡ sort_of_event e
sort_if e row fit counted is f c = rw (f, c, is) (sort_by_limits e)

-- A bearer's record by the row of kind 16 is one by document 01.
pub bearer_formed_lem : (r : Record) → bearer_formed r ≡ is_bearer r
bearer_formed_lem r =
    rw (
      only_zero r.neighbour,
      only_zero r.old.0,
      only_zero r.new.0,
      only_zero r.first,
      only_zero r.second,
      only_zero r.reason,
      only_zero r.byte11,
      only_zero r.time,
      only_zero r.bytes28,
    )
    (simp (and_assoc, and-true))
