-- What the fault of a record says of its fields.
use Prim.Native.Nat.{ℕ, suc, ◌+◌, ◌≤◌, ◌<◌}
use mathlib.Core.Path.{◌≡◌, refl, ◌∙◌, sym, ap, ap₂}
use mathlib.Core.Bool.{Bool, true, false, cond, not, ◌&&◌, and-false, and-true, not-not, true≢false}
use mathlib.Core.List.{List, [], ◌∷◌}
use mathlib.Core.Logic.{◌⊎◌, inl, inr, ⊎_elim}
use borrow.Author.Tests.{lt-ltb, not-true}
use native.Mathlib.Omega.{arith}
use lib.Dec.{ltb, eqb}
use lib.ListN.{length, get_or}
use Rattle.std.specs.Option.{option_or}
use Rattle.std.specs.List.{list_all, position, position_or_len, zip}
use Rattle.std.proofs.Common.{Option, Some, None, is_none, option_map}
use Rattle.std.proofs.lemmas.List.Folds.{list_all_at}
use Rattle.std.proofs.lemmas.List.Quantifiers.{position-Some}
use Rattle.std.proofs.lemmas.Option.{same_Some, none-some}
use Rattle.std.proofs.lemmas.Slice.Zip.{get_or-zip, length-zip}
use Rattle.laws.proofs.Tests.{by_cases, both_true, same_leb}
use Rattle.records.specs.declared.Record.{Record}
use Rattle.fields.specs.declared.Fault.{Fault}
use Rattle.fields.specs.declared.Sort.TheVariants.{NoEvent}
use Rattle.fields.specs.declared.kinds.Limit.{Limit}
use Rattle.fields.specs.declared.kinds.Limit.TheVariants.{Unused}
use Rattle.fields.specs.Fields.{same_sort, same_limit, fits, limits_of, sort_of, all_fit, values_of, offsets, is_out, is_stray, lowest, about_field, fault_in, fault_of, is_counted, well_formed}
use Rattle.fields.proofs.Agreeing.{only_zero, limit_true, event_formed, no_event_malformed}

-- ---- the search

-- a search that finds nothing is one in which the test fails throughout
fails : {A : Type 0} (test : A → Bool) (xs : List A) → not (ltb (position_or_len test xs) (length xs)) ≡ list_all (λ x. not (test x)) xs
fails test [] = refl
fails test (x ∷ xs) =
    let n = position_or_len test xs in
    by_cases (not (test x))
    (λ t. rw (t, same_leb (suc (1 + n)) (suc (length xs)) (suc n) (length xs) (λ h. omega arith) (λ h. omega arith)) (fails test xs))
    (λ t. let some = lt-ltb 0 (suc (length xs)) (omega arith) in rw (t, some))

nothing : {A : Type 0} (b : Bool) (x : A) → is_none (cond b (Some x) None) ≡ not b
nothing true x = refl
nothing false x = refl

finds_none : {A : Type 0} (test : A → Bool) (xs : List A) → is_none (position test xs) ≡ list_all (λ x. not (test x)) xs
finds_none test xs = nothing (ltb (position_or_len test xs) (length xs)) (position_or_len test xs) ∙ fails test xs

-- two tests hold throughout where both hold throughout
both_all : {A : Type 0} (p q : A → Bool) (xs : List A) → list_all (λ x. p x && q x) xs ≡ (list_all p xs && list_all q xs)
both_all p q [] = refl
both_all p q (x ∷ xs) = by_cases (p x) (λ t. by_cases (q x) (λ u. rw (t, u) (both_all p q xs)) (λ u. rw (t, u) (sym (and-false (list_all p xs))))) (λ t. rw t)

-- ---- the fault

-- an offset is that of a field that offends, and no lower field does
pub record Named (offends : Limit → ℕ → Bool) (limits : List Limit) (values : List ℕ) (offset : ℕ) : Type 0 where
  pub field : ℕ
  pub inside : field < 14
  pub at : offset ≡ get_or offsets field 0
  pub offending : offends (get_or limits field Unused) (get_or values field 0) ≡ true
  pub lowest : (j : ℕ) → j < field → offends (get_or limits j Unused) (get_or values j 0) ≡ false

-- A value fits exactly if it is neither out of range nor stray.
fits_tests : (limit : Limit) (value : ℕ) → fits limit value ≡ (not (is_out limit value) && not (is_stray limit value))
fits_tests limit value =
    by_cases (same_limit limit Unused)
    (λ t. rw (limit_true limit Unused t, not-not (eqb value 0)) (sym (only_zero value)))
    (λ t. rw (t, and-true) (sym (not-not (fits limit value))))

-- So all fit exactly if neither search finds one.
fit_search : (limits : List Limit) (values : List ℕ) → all_fit limits values ≡ (is_none (lowest is_out limits values) && is_none (lowest is_stray limits values))
fit_search limits values =
    let fields = zip limits values in
    let out : Limit × ℕ → Bool = λ (field : Limit × ℕ). is_out field.0 field.1 in
    let stray : Limit × ℕ → Bool = λ (field : Limit × ℕ). is_stray field.0 field.1 in
    ap (λ (test : Limit × ℕ → Bool). list_all test fields) (λ i field. fits_tests field.0 field.1 i)
    ∙ both_all (λ x. not (out x)) (λ x. not (stray x)) fields
    ∙ ap₂ ◌&&◌ (sym (finds_none out fields)) (sym (finds_none stray fields))

none_of : (out stray : Option ℕ) → is_none (option_or (option_map (about_field 11) out) (option_map (about_field 12) stray)) ≡ (is_none out && is_none stray)
none_of (Some field) stray = refl
none_of None (Some field) = refl
none_of None None = refl

-- There is no fault exactly if all fields fit their limits.
pub fit_exactly : (limits : List Limit) (values : List ℕ) → all_fit limits values ≡ is_none (fault_in limits values)
fit_exactly limits values = fit_search limits values ∙ sym (none_of (lowest is_out limits values) (lowest is_stray limits values))

-- What holds of all fields holds of each.
at_each : (test : Limit → ℕ → Bool) (limits : List Limit) (values : List ℕ) → list_all (λ (field : Limit × ℕ). test field.0 field.1) (zip limits values) ≡ true
    → (j : ℕ) → j < length limits → j < length values → test (get_or limits j Unused) (get_or values j 0) ≡ true
at_each test limits values t j there here =
    by_cases (test (get_or limits j Unused) (get_or values j 0))
    (λ u. u)
    (λ u.
    let inside : j < length (zip limits values) = rw length-zip (omega arith) in
    absurd (true≢false (sym t ∙ list_all_at (λ (field : Limit × ℕ). test field.0 field.1) (zip limits values) j (Unused, 0) inside (rw (get_or-zip limits values j (Unused, 0) there here) u))))

pub each_fits : (limits : List Limit) (values : List ℕ) → all_fit limits values ≡ true → (j : ℕ) → j < length limits → j < length values → fits (get_or limits j Unused) (get_or values j 0) ≡ true
each_fits = at_each fits

-- which of the two searches a fault is from
from_search : (out stray : Option ℕ) (fault : Fault) → option_or (option_map (about_field 11) out) (option_map (about_field 12) stray) ≡ Some fault
    → ((field : ℕ) × (out ≡ Some field) × (about_field 11 field ≡ fault)) ⊎ ((field : ℕ) × (out ≡ None) × (stray ≡ Some field) × (about_field 12 field ≡ fault))
from_search (Some field) stray fault e = inl (field, refl, same_Some (about_field 11 field) fault e)
from_search None (Some field) fault e = inr (field, refl, refl, same_Some (about_field 12 field) fault e)
from_search None None fault e = absurd (none-some fault e)

module _ (limits : List Limit) (values : List ℕ) (fault : Fault) (is : fault_in limits values ≡ Some fault) where
  -- What is wrong with a field is 11 or 12.
  pub field_listed : (11 ≤ fault.reply) × (fault.reply ≤ 12)
  field_listed =
      ⊎_elim
      (λ found. (omega (arith, ap (λ (f : Fault). f.reply) found.2), omega (arith, ap (λ (f : Fault). f.reply) found.2)))
      (λ found. (omega (arith, ap (λ (f : Fault). f.reply) found.3), omega (arith, ap (λ (f : Fault). f.reply) found.3)))
      (from_search (lowest is_out limits values) (lowest is_stray limits values) fault is)

  module _ (same : length limits ≡ 14) (fourteen : length values ≡ 14) where
    -- What a search finds is the lowest field that offends.
    named : (offends : Limit → ℕ → Bool) (reply field : ℕ) → lowest offends limits values ≡ Some field → about_field reply field ≡ fault → Named offends limits values fault.offset
    named offends reply field found about =
        let first = position-Some (λ (f : Limit × ℕ). offends f.0 f.1) (zip limits values) field (Unused, 0) found in
        let inside : field < 14 = omega (arith, first.0, length-zip limits values) in
        let pair : (j : ℕ) → j < 14 → get_or (zip limits values) j (Unused, 0) ≡ (get_or limits j Unused, get_or values j 0) =
        λ j h. get_or-zip limits values j (Unused, 0) (omega arith) (omega arith)
        in
        record {
          field = field;
          inside = inside;
          at = ap (λ (f : Fault). f.offset) (sym about);
          offending = rw (pair field inside) at first.1;
          lowest = λ j below. rw (pair j (omega arith)) at (first.2 j below);
        }

    -- Reply 11 names the lowest field that is out of range.
    pub names_out : fault.reply ≡ 11 → Named is_out limits values fault.offset
    names_out eleven =
        ⊎_elim
        (λ found. named is_out 11 found.0 found.1 found.2)
        (λ found. absurd (omega (arith, ap (λ (f : Fault). f.reply) found.3)))
        (from_search (lowest is_out limits values) (lowest is_stray limits values) fault is)

    -- Reply 12 names the lowest unused field that is not zero, and no field is out of range then.
    pub names_stray : fault.reply ≡ 12 → Named is_stray limits values fault.offset × ((j : ℕ) → j < 14 → is_out (get_or limits j Unused) (get_or values j 0) ≡ false)
    names_stray twelve =
        ⊎_elim
        (λ found. absurd (omega (arith, ap (λ (f : Fault). f.reply) found.2)))
        (λ found.
        let clean = sym (finds_none (λ (field : Limit × ℕ). is_out field.0 field.1) (zip limits values)) ∙ ap is_none found.1 in (
          named is_stray 12 found.0 found.2 found.3,
          λ j h. not-true (is_out (get_or limits j Unused) (get_or values j 0)) (at_each (λ limit value. not (is_out limit value)) limits values clean j (omega arith) (omega arith)),
        ))
        (from_search (lowest is_out limits values) (lowest is_stray limits values) fault is)

-- ---- document 01

-- An event is what document 01 calls malformed exactly if there is a fault in it or, of a request, its count is not 1 to 256.
pub malformed_exactly : (e : Record) → well_formed e ≡ (is_none (fault_of e) && is_counted e)
malformed_exactly e =
    by_cases (same_sort (sort_of e.kind) NoEvent)
    (λ t. no_event_malformed e t ∙ rw t)
    (λ t. event_formed e t ∙ rw (t, fit_exactly (limits_of e.kind) (values_of e)))

-- What is wrong with an event is 11 or 12, and with a kind 10.
pub fault_listed : (e : Record) (fault : Fault) → fault_of e ≡ Some fault → (10 ≤ fault.reply) × (fault.reply ≤ 12)
fault_listed e fault =
    by_cases (same_sort (sort_of e.kind) NoEvent)
    (λ t. rw t (λ is. let reply = ap (λ (f : Fault). f.reply) (same_Some _ fault is) in (omega arith, omega arith)))
    (λ t. rw t (λ is. let listed = field_listed (limits_of e.kind) (values_of e) fault is in (omega (arith, listed.0), listed.1)))

-- An event that is well formed has none.
absent : {A : Type 0} (o : Option A) → is_none o ≡ true → o ≡ None
absent None t = refl
absent (Some x) t = absurd (true≢false (sym t))

pub formed_faultless : (e : Record) → well_formed e ≡ true → fault_of e ≡ None
formed_faultless e formed = absent (fault_of e) (both_true (is_none (fault_of e)) (is_counted e) (sym (malformed_exactly e) ∙ formed)).0
