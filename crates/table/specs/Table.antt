-- The table: how a record is found, and the ways in which a station changes.
use Rattle.std.specs.Prelude.{ℕ, ◌+◌, ◌-◌, ◌^◌, ◌<◌, ◌≤◌, ◌≡◌, Bool, cond, List, map, length, get_or, set, position, Option, None}
use Rattle.laws.specs.Sums.{total}
use Rattle.records.specs.declared.Record.{Record}
use Rattle.handover.specs.declared.Entry.{Entry}
use Rattle.table.specs.declared.Station.{Station}
use Rattle.handover.specs.Numbers.{blank}
use Rattle.handover.specs.Events.{resets}
use Rattle.places.specs.Places.{due_from}

-- ---- finding

-- the first place at which a test holds
abbrev pub find : (Entry → Bool) → Station → Option ℕ
find test s = position test s.entries

-- the place of the record that a tick is about
abbrev pub soonest : Record → Station → Option ℕ
soonest e s = due_from e None 0 s.entries

-- ---- the four ways in which a station changes

-- its clock alone
abbrev pub at : ℕ → Station → Station
at time s =
    record {
      entries = s.entries;
      clock = time;
      last = s.last;
      used = s.used;
      settings = s.settings;
    }

-- the other three change its records, the own ID last issued and the units in use
abbrev pub holding : List Entry → ℕ → ℕ → Station → Station
holding entries last used s =
    record {
      entries = entries;
      clock = s.clock;
      last = last;
      used = used;
      settings = s.settings;
    }

-- one record is replaced or ended; the units in use follow
abbrev pub put : ℕ → Entry → Station → Station
put i r s = holding (set s.entries i r) s.last (s.used - (get_or s.entries i blank).units + r.units) s

-- a place of the table, with units that can be taken back and given out
pub record Puts (i : ℕ) (r : Entry) (s : Station) : Type 0 where
  pub place : i < 64
  pub places : length s.entries ≡ 64
  pub back : (get_or s.entries i blank).units ≤ s.used
  pub out : s.used + r.units < 2 ^ 32

-- one record is made, with the own ID that is then the last issued
abbrev pub add : ℕ → ℕ → Entry → Station → Station
add i issued r s = holding (set s.entries i r) issued (s.used + r.units) s

-- "all outgoing and held records of that neighbour end": what a reset makes of a record, and the units that it takes back
abbrev pub left_of : Record → Entry → Entry
left_of e r = cond (resets e r) blank r

abbrev pub back_of : Record → Entry → ℕ
back_of e r = cond (resets e r) r.units 0

abbrev pub reset : Record → Station → Station
reset e s = holding (map (left_of e) s.entries) s.last (s.used - total (back_of e) s.entries) s
