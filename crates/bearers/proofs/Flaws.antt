-- What the flaw of a request's bearers says of them.
use Prim.Native.Nat.{ℕ, zero, suc, ◌+◌, ◌/◌, ◌≤◌, ◌<◌}
use mathlib.Core.Path.{◌≡◌, refl, ◌∙◌, sym, ap}
use mathlib.Core.Bool.{Bool, true, false, cond, ◌&&◌, and_assoc, and-false, and-true, and_comm, true≢false}
use mathlib.Core.List.{List, [], ◌∷◌, map}
use borrow.Author.Tests.{leb-true, lt-leb, le-leb, lt-ltb, ltb-true, ltb-false}
use native.Mathlib.Omega.{arith}
use lib.Dec.{leb, ltb, eqb}
use lib.ListN.{length, get_or, length-map}
use Rattle.std.specs.Option.{option_or}
use Rattle.std.specs.Simd.{first_chunks}
use Rattle.std.proofs.Common.{Option, Some, None, is_none}
use Rattle.std.proofs.lemmas.Option.{same_Some, none-some}
use Rattle.laws.proofs.Tests.{by_cases, both_true}
use Rattle.records.specs.declared.Record.{Record}
use Rattle.records.specs.Record.{zeros, record_of}
use Rattle.fields.specs.declared.Fault.{Fault}
use Rattle.fields.specs.Fields.{limits_of, values_of, fault_of_bearer}
use Rattle.fields.proofs.Faults.{fit_exactly, field_listed}
use Rattle.bearers.specs.declared.Flaw.{Flaw}
use Rattle.bearers.specs.Admission.{judgeable}
use Rattle.bearers.specs.Bearer.{records_in, all_bearers}
use Rattle.bearers.specs.Flaws.{is_list, all_of_kind, missing, short_for, placed_at, flaw_at, flaw_from, flaw_in, flaw_of}
use Rattle.bearers.proofs.Listing.{length_records, records_chunks}

-- ---- the first that offends

-- a flaw is that of the first record with a fault, and names its place, the first record being at the one given
pub record FirstWith (rs : List Record) (start : ℕ) (flaw : Flaw) : Type 0 where
  pub before : ℕ
  pub inside : before < length rs
  pub place : flaw.place ≡ start + before
  pub fault : flaw_at (fault_of_bearer (get_or rs before zeros)) (start + before) ≡ Some flaw
  pub others : (j : ℕ) → j < before → fault_of_bearer (get_or rs j zeros) ≡ None

pub first_with : (rs : List Record) (start : ℕ) (flaw : Flaw) → flaw_from start rs ≡ Some flaw → FirstWith rs start flaw
unfolding flaw_from
first_with [] start flaw e = absurd (none-some flaw e)
first_with (r ∷ rs) start flaw e = go (fault_of_bearer r) refl (first_with rs (suc start) flaw)
  where
    later : (n : ℕ) → fault_of_bearer r ≡ None → ((j : ℕ) → j < n → fault_of_bearer (get_or rs j zeros) ≡ None) → (j : ℕ) → j < suc n → fault_of_bearer (get_or (r ∷ rs) j zeros) ≡ None
    later n first others zero low = first
    later n first others (suc j) low = others j (omega arith)

    go : (fault : Option Fault) → fault_of_bearer r ≡ fault → (flaw_from (suc start) rs ≡ Some flaw → FirstWith rs (suc start) flaw) → FirstWith (r ∷ rs) start flaw
    go (Some fault) is further =
        let here : start + 0 ≡ start = omega arith in
        let found = same_Some (placed_at fault start) flaw (rw is at e) in
        record {
          before = 0;
          inside = omega arith;
          place = ap (λ (f : Flaw). f.place) (sym found) ∙ sym here;
          fault = rw (is, here, found);
          others = λ j low. absurd (omega arith);
        }
    go None is further =
        let next = further (rw is at e) in
        let here : suc start + next.before ≡ start + suc next.before = omega arith in
        record {
          before = suc next.before;
          inside = omega (arith, next.inside);
          place = next.place ∙ here;
          fault = rw here at next.fault;
          others = later next.before is next.others;
        }

-- ---- nothing wrong

-- All are bearers exactly if all are of the kind and none has a fault.
all_bearers_lem : (rs : List Record) (start : ℕ) → all_bearers rs ≡ (all_of_kind rs && is_none (flaw_from start rs))
unfolding all_bearers all_of_kind flaw_from
all_bearers_lem [] start = refl
all_bearers_lem (r ∷ rs) start = rw (fit_exactly (limits_of 16) (values_of r)) (go (fault_of_bearer r) (all_bearers_lem rs (suc start)))
  where
    go : (fault : Option Fault) → all_bearers rs ≡ (all_of_kind rs && is_none (flaw_from (suc start) rs))
        → ((eqb r.kind 16 && is_none fault) && all_bearers rs) ≡ ((eqb r.kind 16 && all_of_kind rs) && is_none (option_or (flaw_at fault start) (flaw_from (suc start) rs)))
    go (Some fault) further = simp and-false
    go None further = rw further (simp (and_assoc, and-true))

-- Of two faults neither is there where none of them is.
none_of : (a b : Option Flaw) → is_none (option_or a b) ≡ (is_none a && is_none b)
none_of (Some flaw) b = refl
none_of None b = refl

enough : (count room : ℕ) → is_none (short_for count room) ≡ leb count room
enough count room =
    by_cases (ltb room count)
    (λ t. rw (t, lt-leb count room (ltb-true room count t)))
    (λ t. rw (t, le-leb count room (ltb-false room count t)))

-- which replies there are
abbrev Listed : ℕ → Type 0
Listed reply = (11 ≤ reply) × (reply ≤ 15)

listed_missing : (flaw : Flaw) → Some missing ≡ Some flaw → Listed flaw.reply
listed_missing flaw e = let reply = ap (λ (f : Flaw). f.reply) (same_Some missing flaw e) in (omega arith, omega arith)

listed_at : (fault : Option Fault) (place : ℕ) (flaw : Flaw) → flaw_at fault place ≡ Some flaw → ((f : Fault) → fault ≡ Some f → (11 ≤ f.reply) × (f.reply ≤ 12)) → Listed flaw.reply
listed_at None place flaw e listed = absurd (none-some flaw e)
listed_at (Some fault) place flaw e listed =
    let its = listed fault refl in
    let reply = ap (λ (f : Flaw). f.reply) (same_Some (placed_at fault place) flaw e) in
    (omega (arith, its.0), omega (arith, its.1))

listed_from : (rs : List Record) (start : ℕ) (flaw : Flaw) → flaw_from start rs ≡ Some flaw → Listed flaw.reply
listed_from rs start flaw e =
    let first = first_with rs start flaw e in
    listed_at (fault_of_bearer (get_or rs first.before zeros)) (start + first.before) flaw first.fault
    (λ fault is. field_listed (limits_of 16) (values_of (get_or rs first.before zeros)) fault is)

listed_in : (first : Option Flaw) (short : Bool) (flaw : Flaw) → option_or first (cond short (Some (record { reply = 15; offset = 0; place = 0 })) None) ≡ Some flaw → (first ≡ Some flaw → Listed flaw.reply) → Listed flaw.reply
listed_in (Some other) short flaw e first = first e
listed_in None true flaw e first = let reply = ap (λ (f : Flaw). f.reply) (same_Some (record { reply = 15; offset = 0; place = 0 }) flaw e) in (omega arith, omega arith)
listed_in None false flaw e first = absurd (none-some flaw e)

absent : {A : Type 0} (o : Option A) → is_none o ≡ true → o ≡ None
absent None t = refl
absent (Some x) t = absurd (true≢false (sym t))

present : {A : Type 0} (o : Option A) → is_none o ≡ false → (x : A) × (o ≡ Some x)
present (Some x) t = (x, refl)
present None t = absurd (true≢false t)

-- Records have no flaw exactly if all are bearers and there is room for their verdicts.
none_in : (rs : List Record) (room : ℕ) → is_none (flaw_in rs room) ≡ (all_bearers rs && leb (length rs) room)
none_in rs room =
    rw (all_bearers_lem rs 1)
    (by_cases (all_of_kind rs)
    (λ k. rw (k, none_of (flaw_from 1 rs) (short_for (length rs) room), enough (length rs) room))
    (λ k. rw k))

pub other_flawed : (rs : List Record) (room : ℕ) → all_bearers rs ≡ false → (flaw : Flaw) × (flaw_in rs room ≡ Some flaw)
other_flawed rs room other = present (flaw_in rs room) (none_in rs room ∙ rw other)

pub short_flawed : (rs : List Record) (room : ℕ) → room < length rs → (flaw : Flaw) × (flaw_in rs room ≡ Some flaw)
short_flawed rs room short = present (flaw_in rs room) (none_in rs room ∙ rw (lt-leb (length rs) room short) (and-false (all_bearers rs)))

module _ (bytes : List ℕ) (room : ℕ) where
  abbrev count : ℕ
  count = length bytes / 32

  abbrev records : List Record
  records = records_in count bytes

  -- Where bearers are missing, or a record is of another kind, that is said of the request itself, whatever the others hold.
  pub missing_named : is_list (length bytes) && all_of_kind records ≡ false → flaw_of bytes room ≡ Some missing
  missing_named = by_cases (is_list (length bytes)) (λ l. rw l (λ k. rw k)) (λ l. rw l (λ _. refl))

  -- Else the first bearer that offends is named, whatever the room.
  pub first_named : is_list (length bytes) && all_of_kind records ≡ true → (flaw : Flaw) → flaw_from 1 records ≡ Some flaw → (flaw_of bytes room ≡ Some flaw) × FirstWith records 1 flaw
  first_named w flaw is = let both = both_true (is_list (length bytes)) (all_of_kind records) w in (rw (both.0, both.1, is), first_with records 1 flaw is)

  -- Else the room, if it is too short.
  pub short_named : is_list (length bytes) && all_of_kind records ≡ true → flaw_from 1 records ≡ None → room < count → flaw_of bytes room ≡ Some (record { reply = 15; offset = 0; place = 0 })
  short_named w none short =
      let both = both_true (is_list (length bytes)) (all_of_kind records) w in
      rw (both.0, both.1, none, length_records count bytes, lt-ltb room count short)

  -- Bearers can be judged exactly if nothing is wrong with them.
  pub judgeable_exactly : judgeable bytes room ≡ is_none (flaw_of bytes room)
  judgeable_exactly =
      by_cases (is_list (length bytes))
      (λ l. rw (l, none_in records room, length_records count bytes) (and_comm (leb count room) (all_bearers records)))
      (λ l. rw l)

  pub judgeable_flawless : judgeable bytes room ≡ true → flaw_of bytes room ≡ None
  judgeable_flawless t = absent (flaw_of bytes room) (sym judgeable_exactly ∙ t)

  -- Where they cannot be judged, something is.
  pub flawed : judgeable bytes room ≡ false → (flaw : Flaw) × (flaw_of bytes room ≡ Some flaw)
  flawed t = present (flaw_of bytes room) (sym judgeable_exactly ∙ t)

  -- The reply is one of 11, 12, 13 and 15.
  pub flaw_listed : (flaw : Flaw) → flaw_of bytes room ≡ Some flaw → (11 ≤ flaw.reply) × (flaw.reply ≤ 15)
  flaw_listed flaw =
      by_cases (is_list (length bytes))
      (λ l.
      rw l
      (by_cases (all_of_kind records)
      (λ k. rw k (λ e. listed_in (flaw_from 1 records) (ltb room (length records)) flaw e (λ first. listed_from records 1 flaw first)))
      (λ k. rw k (listed_missing flaw))))
      (λ l. rw l (listed_missing flaw))

-- ---- the records that were cut out of the bytes

module _ (bytes : List ℕ) (room : ℕ) (parts : List (List ℕ)) (list : is_list (length bytes) ≡ true) (cut : parts ≡ first_chunks 32 (length bytes / 32) bytes) where
  pub records_are : map record_of parts ≡ records_in (length bytes / 32) bytes
  records_are = rw cut (records_chunks (length bytes / 32) bytes)

  as_many : length parts ≡ length bytes / 32
  as_many = sym (length-map parts record_of) ∙ ap length records_are ∙ length_records (length bytes / 32) bytes

  -- What is wrong with them is what is wrong with the bytes.
  pub flaw_cut : flaw_in (map record_of parts) room ≡ flaw_of bytes room
  flaw_cut = rw (list, records_are)

  -- They can be judged where there is room and all are bearers, and else not.
  judgeable_cut : judgeable bytes room ≡ (leb (length parts) room && all_bearers (map record_of parts))
  judgeable_cut = rw (list, records_are, as_many)

  pub can_judge : length parts ≤ room → all_bearers (map record_of parts) ≡ true → judgeable bytes room ≡ true
  can_judge fits all = judgeable_cut ∙ rw (le-leb (length parts) room fits, all)

  pub no_bearers : all_bearers (map record_of parts) ≡ false → judgeable bytes room ≡ false
  no_bearers other = judgeable_cut ∙ rw other (and-false (leb (length parts) room))

  pub no_room : room < length parts → judgeable bytes room ≡ false
  no_room short = judgeable_cut ∙ rw (lt-leb (length parts) room short)

-- Where they can be judged there is room for a verdict each.
pub fitting : (bytes : List ℕ) (room : ℕ) → judgeable bytes room ≡ true → length bytes / 32 ≤ room
fitting bytes room t =
    let list = is_list (length bytes) in
    let fits = leb (length bytes / 32) room in
    leb-true (length bytes / 32) room (both_true list fits (both_true (list && fits) (all_bearers (records_in (length bytes / 32) bytes)) t).0).1

pub bearers_all : (bytes : List ℕ) (room : ℕ) → judgeable bytes room ≡ true → all_bearers (records_in (length bytes / 32) bytes) ≡ true
bearers_all bytes room t = (both_true (is_list (length bytes) && leb (length bytes / 32) room) (all_bearers (records_in (length bytes / 32) bytes)) t).1
