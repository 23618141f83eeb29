-- The bearers of a request, read one after the other.
use Prim.Native.Nat.{ℕ, zero, suc, ◌+◌, ◌/◌, ◌%◌, ◌≤◌, ◌<◌}
use mathlib.Core.Path.{◌≡◌, refl, sym, ap, subst}
use mathlib.Core.Bool.{true, false, ◌&&◌}
use mathlib.Core.List.{List, [], ◌∷◌, map}
use borrow.Author.Tests.{leb-true}
use native.Mathlib.Numerals.{add-one}
use native.Mathlib.Omega.{arith}
use lib.Dec.{leb, eqb}
use lib.ListN.{length, get_or, take, drop, drop_of_length-le, get_or-map, length-map}
use lib.Seq.{drop-cons}
use Rattle.std.specs.Simd.{first_chunks}
use Rattle.std.specs.List.{list_all}
use Rattle.std.specs.Option.{option_or}
use Rattle.std.proofs.Common.{Option, Some, None}
use Rattle.std.proofs.lemmas.Option.{cond_some, none-some}
use Rattle.laws.proofs.Tests.{both_true, refuted}
use Rattle.records.specs.declared.Record.{Record}
use Rattle.records.specs.Record.{record_of}
use Rattle.bearers.specs.declared.Bearer.{Bearer}
use Rattle.fields.specs.declared.Fault.{Fault}
use Rattle.fields.specs.Fields.{limits_of, all_fit, values_of, is_bearer, fault_of_bearer}
use Rattle.fields.proofs.Faults.{each_fits}
use Rattle.bearers.specs.Bearer.{bearer_of, parsed, records_in, bearers_in, all_bearers}
use Rattle.bearers.specs.Flaws.{is_list, all_of_kind, flaw_at, flaw_from}

-- Pieces of 32 bytes are the records of the bytes.
pub records_chunks : (n : ℕ) (bytes : List ℕ) → map record_of (first_chunks 32 n bytes) ≡ records_in n bytes
unfolding records_in
records_chunks zero bytes = refl
records_chunks (suc n) bytes = ap (λ (rs : List Record). record_of (take 32 bytes) ∷ rs) (records_chunks n (drop 32 bytes))

-- There are as many as were asked for.
pub length_bearers : (n : ℕ) (bytes : List ℕ) → length (bearers_in n bytes) ≡ n
unfolding records_in
length_bearers zero bytes = refl
length_bearers (suc n) bytes = ap suc (length_bearers n (drop 32 bytes))

pub length_records : (n : ℕ) (bytes : List ℕ) → length (records_in n bytes) ≡ n
unfolding records_in
length_records zero bytes = refl
length_records (suc n) bytes = ap suc (length_records n (drop 32 bytes))

-- what a bearer's record settles: its ID and its priority are at most 15
abbrev pub Formed : Bearer → Type 0
Formed b = (b.id < 16) × (b.priority ≤ 15)

pub formed : (r : Record) → is_bearer r ≡ true → Formed (bearer_of r)
formed r t =
    let all = (both_true (eqb r.kind 16) (all_fit (limits_of 16) (values_of r)) t).1 in (
      omega (arith, leb-true r.erab 15 (each_fits (limits_of 16) (values_of r) all 9 (omega arith) (omega arith))),
      leb-true r.priority 15 (each_fits (limits_of 16) (values_of r) all 11 (omega arith) (omega arith)),
    )

-- The test that each piece is put to is that of all records.
pub each_bearer : (parts : List (List ℕ)) → list_all (λ bytes. is_bearer (record_of bytes)) parts ≡ all_bearers (map record_of parts)
unfolding all_bearers
each_bearer [] = refl
each_bearer (bytes ∷ parts) = ap (λ t. is_bearer (record_of bytes) && t) (each_bearer parts)

pub each_of_kind : (parts : List (List ℕ)) → list_all (λ bytes. eqb (record_of bytes).kind 16) parts ≡ all_of_kind (map record_of parts)
unfolding all_of_kind
each_of_kind [] = refl
each_of_kind (bytes ∷ parts) = ap (λ t. eqb (record_of bytes).kind 16 && t) (each_of_kind parts)

-- the records of pieces of 32 bytes, of which the one at a place is looked at
module _ (parts : List (List ℕ)) (i : ℕ) where
  abbrev all : List Record
  all = map record_of parts

  -- At the end none is left.
  pub ended : length parts ≤ i → drop i all ≡ []
  ended end = drop_of_length-le all {i = i} (omega (arith, length-map parts record_of))

  module _ (r : Record) (here : r ≡ record_of (get_or parts i [])) (inside : i < length parts) where
    -- What is left from a place on begins with what stands there.
    next_records : drop i all ≡ r ∷ drop (i + 1) all
    next_records =
        let long : i < length all = omega (arith, length-map parts record_of) in
        rw (drop-cons all i (record_of []) long, add-one, get_or-map record_of parts i [], here)

    -- Where a bearer is read, the others are those after it.
    pub next : (b : Bearer) → Some b ≡ parsed r → (all_bearers (drop i all) ≡ all_bearers (drop (i + 1) all)) × (map bearer_of (drop i all) ≡ b ∷ map bearer_of (drop (i + 1) all)) × (b.id < 16)
    unfolding all_bearers
    next b e =
        let is = cond_some (is_bearer r) (bearer_of r) b (sym e) in
        (rw (next_records, is.0), rw (next_records, is.1), subst (λ (x : Bearer). x.id < 16) is.1 (formed r is.0).0)

    -- Where none is read, they are not all bearers.
    pub stop : None ≡ parsed r → all_bearers (drop i all) ≡ false
    unfolding all_bearers
    stop e = rw (next_records, refuted (is_bearer r) (λ t. none-some (bearer_of r) (rw t at e)))

    -- It has a fault or not.
    pub flaw_here : (fault : Option Fault) (place : ℕ) → fault ≡ fault_of_bearer r → flaw_from place (drop i all) ≡ option_or (flaw_at fault place) (flaw_from (suc place) (drop (i + 1) all))
    unfolding flaw_from
    flaw_here fault place is = rw (next_records, is)

-- What is a list is at most 256 records.
pub listed : (size : ℕ) → is_list size ≡ true → size / 32 ≤ 256
listed size t = leb-true (size / 32) 256 (both_true (eqb (size % 32) 0 && leb 1 (size / 32)) (leb (size / 32) 256) t).1
