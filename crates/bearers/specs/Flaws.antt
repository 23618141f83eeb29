-- What is wrong with the bearers of a request: "13 count not 1 to 256 or bearers missing, 15 verdict buffer too short; bearer records after 13,
-- one by one, 11 then 12".
use Rattle.std.specs.Prelude.{ℕ, suc, ◌/◌, ◌%◌, Bool, true, cond, ◌&&◌, List, [], ◌∷◌, leb, ltb, eqb, length, Option, Some, None}
use Rattle.std.specs.Option.{option_or}
use Rattle.records.specs.declared.Record.{Record}
use Rattle.fields.specs.declared.Fault.{Fault}
use Rattle.fields.specs.Fields.{fault_of_bearer}
use Rattle.bearers.specs.declared.Flaw.{Flaw}
use Rattle.bearers.specs.Bearer.{records_in}

-- so many bytes are 1 to 256 whole records
abbrev pub is_list : ℕ → Bool
is_list size = eqb (size % 32) 0 && leb 1 (size / 32) && leb (size / 32) 256

-- whether records are all of a bearer's kind
unfoldable pub all_of_kind : List Record → Bool
all_of_kind [] = true
all_of_kind (r ∷ rs) = eqb r.kind 16 && all_of_kind rs

-- "13 names 12", "0 for the request itself"
abbrev pub missing : Flaw
missing = record { reply = 13; offset = 12; place = 0 }

-- 15, of so many bearers and so much room
abbrev pub short_for : ℕ → ℕ → Option Flaw
short_for count room = cond (ltb room count) (Some (record { reply = 15; offset = 0; place = 0 })) None

-- the fault of the record at a place
abbrev pub placed_at : Fault → ℕ → Flaw
placed_at fault place = record { reply = fault.reply; offset = fault.offset; place = place }

abbrev pub flaw_at : Option Fault → ℕ → Option Flaw
flaw_at None place = None
flaw_at (Some fault) place = Some (placed_at fault place)

-- the first record with a fault, "the place of the bearer record" being counted from the one given
unfoldable pub flaw_from : ℕ → List Record → Option Flaw
flaw_from place [] = None
flaw_from place (r ∷ rs) = option_or (flaw_at (fault_of_bearer r) place) (flaw_from (suc place) rs)

-- a record of another kind, and then the bearers that are there are not looked at; else the first that offends; else the room for their verdicts
abbrev pub flaw_in : List Record → ℕ → Option Flaw
flaw_in records room = cond (all_of_kind records) (option_or (flaw_from 1 records) (short_for (length records) room)) (Some missing)

-- the bearers missing, else what is wrong with those that are there
abbrev pub flaw_of : List ℕ → ℕ → Option Flaw
flaw_of bytes room = cond (is_list (length bytes)) (flaw_in (records_in (length bytes / 32) bytes) room) (Some missing)
