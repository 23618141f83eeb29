-- What is wrong with a record, by the limits of its kind; and of which sort an event is.
use Rattle.std.specs.Prelude.{ℕ, Bool, true, false, cond, not, ◌&&◌, List, [], ◌∷◌, eqb, get_or, Option, Some, option_map}
use Rattle.std.specs.Option.{option_or}
use Rattle.std.specs.List.{list_all, position, zip}
use Rattle.records.specs.declared.Record.{Record}
use Rattle.fields.specs.declared.Fault.{Fault}
use Rattle.fields.specs.declared.Sort.{Sort}
use Rattle.fields.specs.declared.Sort.TheVariants.{NoEvent}
use Rattle.fields.specs.declared.kinds.Limit.{Limit}
use Rattle.fields.specs.declared.kinds.Limit.TheVariants.{Unused}
pub use Rattle.fields.specs.Kinds.{same_sort, same_limit, most, fits, no_kind, kinds, row_of, limits_in, limits_of, limit_of, sort_of}
pub use Rattle.fields.specs.Malformed.{is_counted, well_formed}

-- ---- what is wrong with a record

-- its fields, lowest first, the kind apart; and the first byte of each
abbrev pub values_of : Record → List ℕ
values_of e =
    e.neighbour ∷ e.old.0 ∷ e.new.0 ∷ e.first ∷ e.second ∷ e.reason ∷ e.byte11 ∷ e.number ∷ e.time ∷ e.erab
    ∷ e.qci ∷ e.priority ∷ e.flags ∷ e.bytes28 ∷ []

abbrev pub offsets : List ℕ
offsets = 1 ∷ 2 ∷ 4 ∷ 6 ∷ 8 ∷ 10 ∷ 11 ∷ 12 ∷ 16 ∷ 24 ∷ 25 ∷ 26 ∷ 27 ∷ 28 ∷ []

-- a field that is used is out of range; one that is not is not zero
abbrev pub is_out : Limit → ℕ → Bool
is_out limit value = not (same_limit limit Unused) && not (fits limit value)

abbrev pub is_stray : Limit → ℕ → Bool
is_stray limit value = same_limit limit Unused && not (eqb value 0)

-- of the fields that are used, or of those that are not
abbrev pub offends : Bool → Limit → ℕ → Bool
offends true limit value = is_out limit value
offends false limit value = is_stray limit value

-- the lowest field whose limit and value pass a test, if one does
abbrev pub lowest : (Limit → ℕ → Bool) → List Limit → List ℕ → Option ℕ
lowest test limits values = position (λ (field : Limit × ℕ). test field.0 field.1) (zip limits values)

-- a reply about a field
abbrev pub about_field : ℕ → ℕ → Fault
about_field reply field = record { reply = reply; offset = get_or offsets field 0 }

-- "11 field out of range", the lowest; else "12 unused field not zero", the lowest
abbrev pub fault_in : List Limit → List ℕ → Option Fault
fault_in limits values =
    option_or (option_map (about_field 11) (lowest is_out limits values)) (option_map (about_field 12) (lowest is_stray limits values))

-- "10 unknown or misplaced kind": one that is no event by itself
abbrev pub fault_of : Record → Option Fault
fault_of e =
    cond (same_sort (sort_of e.kind) NoEvent) (Some (record { reply = 10; offset = 0 })) (fault_in (limits_of e.kind) (values_of e))

-- a bearer's record: "bearer records one by one, 11 then 12"
abbrev pub fault_of_bearer : Record → Option Fault
fault_of_bearer r = fault_in (limits_of 16) (values_of r)

-- whether all fields fit their limits
abbrev pub all_fit : List Limit → List ℕ → Bool
all_fit limits values = list_all (λ (field : Limit × ℕ). fits field.0 field.1) (zip limits values)

-- "16, bearer of the request before it", with nothing wrong in it
abbrev pub is_bearer : Record → Bool
is_bearer r = eqb r.kind 16 && all_fit (limits_of 16) (values_of r)

-- its sort, if it is well formed
abbrev pub sort_of_event : Record → Sort
sort_of_event e = cond (well_formed e) (sort_of e.kind) NoEvent
