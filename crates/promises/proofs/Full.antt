-- "64 records in use, exactly then": when a start or a request gets reply 4; and kinds that are none.
use Rattle.std.specs.Prelude.{Some, None}
use Prim.Native.Nat.{ℕ, ◌+◌, ◌<◌}
use mathlib.Core.Path.{◌≡◌, refl, ◌∙◌}
use mathlib.Core.Bool.{Bool, true, false, cond}
use mathlib.Core.List.{List}
use borrow.Author.Tests.{eqb-false}
use native.Mathlib.Omega.{arith}
use lib.Dec.{eqb}
use Rattle.laws.proofs.Sums.{total_add, total_each, total_equal}
use Rattle.laws.specs.Sums.{total}
use Rattle.laws.proofs.Tests.{by_cases}
use Rattle.records.specs.declared.Record.{Record}
use Rattle.handover.specs.declared.Entry.{Entry}
use Rattle.table.specs.declared.Station.{Station}
use Rattle.handover.specs.Events.{about}
use Rattle.fields.proofs.Agreeing.{no_event_malformed}
use Rattle.fields.proofs.Sorts.{eq_sort}
use Rattle.fields.specs.declared.Sort.TheVariants.{NoEvent}
use Rattle.fields.specs.Fields.{sort_of, well_formed}
use Rattle.handover.specs.Numbers.{is_free}
use Rattle.table.specs.Sound.{Sound}
use Rattle.table.specs.Step.{refused, failure, admission, taken, complete, step_of}
use Rattle.table.specs.Table.{find}
use Rattle.places.proofs.Finding.{by_found, found_none}
use Rattle.promises.proofs.Rows.{malformed_step, start_step, full_step, crowded_step, empty_step, grant_step}
use Rattle.table.proofs.Tally.{total_found, total_none_of}

-- how many records are in use
abbrev free : Entry → ℕ
free r = cond (is_free r) 1 0

abbrev used : Entry → ℕ
used r = cond (is_free r) 0 1

abbrev pub in_use : Station → ℕ
in_use s = total used s.entries

one_of_two : (b : Bool) → cond b 0 1 + cond b 1 0 ≡ 1
one_of_two true = refl
one_of_two false = refl

module _ (s : Station) (sound : Sound s) where
  -- Each of the 64 places is free or in use.
  all_places : in_use s + total free s.entries ≡ 64
  all_places =
      let both = total_equal (λ r. used r + free r) (λ r. 1) s.entries (λ r. one_of_two (is_free r)) in
      omega (arith, total_add used free s.entries, both, total_each 1 s.entries, sound.places)

  -- No place is found free exactly where 64 records are in use.
  none_free : find is_free s ≡ None → in_use s ≡ 64
  none_free found =
      omega (arith, all_places, total_none_of free is_free s.entries (λ r t. rw t) (found_none is_free s.entries found))

  some_free : (i : ℕ) → find is_free s ≡ Some i → in_use s < 64
  some_free i found = omega (arith, all_places, total_found is_free s i found)

  module _ (e : Record) (bearers : List ℕ) (room : ℕ) (formed : well_formed e ≡ true) (kind : e.kind ≡ 9) where
    -- A start gets 4 where 64 records are in use, and else 0.
    pub full_exactly : in_use s ≡ 64 → step_of s e bearers room ≡ refused 4 s
    full_exactly full =
        by_found (find is_free s)
        (λ found. full_step s e bearers room formed kind found)
        (λ i found. absurd (omega (arith, some_free i found)))

    pub room_exactly : in_use s < 64 → (step_of s e bearers room).outcome.reply ≡ 0
    room_exactly less =
        by_found (find is_free s)
        (λ found. absurd (omega (arith, none_free found)))
        (λ i found. rw (start_step s e bearers room formed i kind found))

  module _ (e : Record) (bearers : List ℕ) (room : ℕ) (formed : well_formed e ≡ true) (kind : e.kind ≡ 1)
      (whole : complete e bearers room ≡ true) (new : find (about e) s ≡ None) where
    -- So does a request that is complete and repeats none: 4 and the failure where 64 are in use, and else another reply.
    pub crowded_exactly : in_use s ≡ 64 → step_of s e bearers room ≡ failure 4 e s
    crowded_exactly full =
        by_found (find is_free s)
        (λ found. crowded_step s e bearers room formed kind whole new found)
        (λ i found. absurd (omega (arith, some_free i found)))

    pub admits_exactly : in_use s < 64 → (step_of s e bearers room).outcome.reply ≡ 4 → ⊥
    admits_exactly less =
        by_found (find is_free s)
        (λ found. absurd (omega (arith, none_free found)))
        (λ i found. by_cases (eqb (admission (taken e bearers) s).admitted 0)
        (λ t. rw (empty_step s e bearers room formed kind whole i new found t) (eqb-false 5 4 refl))
        (λ t. rw (grant_step s e bearers room formed kind whole i new found t) (eqb-false 0 4 refl)))

-- "10 unknown or misplaced kind": 16 elsewhere, and any other that is not 1 to 15 or 17.
pub no_kind_step : (s : Station) (e : Record) (bearers : List ℕ) (room : ℕ) → sort_of e.kind ≡ NoEvent → step_of s e bearers room ≡ refused 10 s
no_kind_step s e bearers room t =
    malformed_step s e bearers room (no_event_malformed e (eq_sort (sort_of e.kind) NoEvent t)) ∙ rw t
