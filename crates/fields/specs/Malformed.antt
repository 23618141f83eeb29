-- What document 01 calls malformed, a request's bearers apart: its own table of uses, and its own ranges. What is answered goes by the limits of
-- the other file; that both say the same is a law.
use Rattle.std.specs.Prelude.{ℕ, Bool, not, ◌&&◌, ◌||◌, List, [], ◌∷◌, leb, eqb, get_or, replicate}
use Rattle.records.specs.declared.Record.{Record}
use Rattle.fields.specs.declared.Sort.TheVariants.{NoEvent}
use Rattle.fields.specs.Kinds.{same_sort, sort_of}

-- by kind, "Uses": 1 for a field that it uses (neighbour, Old, New, first set, second set, reason, number, time)
abbrev pub uses : List (List ℕ)
uses =
    (0 ∷ 0 ∷ 0 ∷ 0 ∷ 0 ∷ 0 ∷ 0 ∷ 0 ∷ [])  -- 0 no kind
    ∷ (1 ∷ 1 ∷ 0 ∷ 0 ∷ 0 ∷ 0 ∷ 1 ∷ 0 ∷ [])  -- 1 handover request received
    ∷ (1 ∷ 1 ∷ 1 ∷ 1 ∷ 1 ∷ 0 ∷ 0 ∷ 0 ∷ [])  -- 2 request acknowledge received
    ∷ (1 ∷ 1 ∷ 0 ∷ 0 ∷ 0 ∷ 1 ∷ 0 ∷ 0 ∷ [])  -- 3 preparation failure received
    ∷ (1 ∷ 1 ∷ 1 ∷ 1 ∷ 0 ∷ 0 ∷ 0 ∷ 0 ∷ [])  -- 4 SN status transfer received
    ∷ (1 ∷ 1 ∷ 1 ∷ 0 ∷ 0 ∷ 0 ∷ 0 ∷ 0 ∷ [])  -- 5 UE context release received
    ∷ (1 ∷ 1 ∷ 1 ∷ 0 ∷ 0 ∷ 1 ∷ 0 ∷ 0 ∷ [])  -- 6 handover cancel received
    ∷ (1 ∷ 0 ∷ 0 ∷ 0 ∷ 0 ∷ 0 ∷ 0 ∷ 0 ∷ [])  -- 7 reset request received
    ∷ (1 ∷ 0 ∷ 0 ∷ 0 ∷ 0 ∷ 0 ∷ 0 ∷ 0 ∷ [])  -- 8 reset response received
    ∷ (1 ∷ 0 ∷ 0 ∷ 1 ∷ 0 ∷ 0 ∷ 0 ∷ 0 ∷ [])  -- 9 start a handover
    ∷ (0 ∷ 1 ∷ 0 ∷ 0 ∷ 0 ∷ 0 ∷ 0 ∷ 0 ∷ [])  -- 10 cancel
    ∷ (0 ∷ 0 ∷ 1 ∷ 0 ∷ 0 ∷ 0 ∷ 0 ∷ 0 ∷ [])  -- 11 UE arrived
    ∷ (0 ∷ 1 ∷ 0 ∷ 0 ∷ 0 ∷ 0 ∷ 0 ∷ 0 ∷ [])  -- 12 UE returned
    ∷ (0 ∷ 0 ∷ 1 ∷ 0 ∷ 0 ∷ 0 ∷ 0 ∷ 0 ∷ [])  -- 13 UE left
    ∷ (1 ∷ 0 ∷ 0 ∷ 0 ∷ 0 ∷ 0 ∷ 0 ∷ 0 ∷ [])  -- 14 reset a neighbour
    ∷ (0 ∷ 0 ∷ 0 ∷ 0 ∷ 0 ∷ 0 ∷ 0 ∷ 1 ∷ [])  -- 15 tick
    ∷ (0 ∷ 0 ∷ 0 ∷ 0 ∷ 0 ∷ 0 ∷ 0 ∷ 0 ∷ [])  -- 16 bearer
    ∷ (0 ∷ 1 ∷ 0 ∷ 1 ∷ 0 ∷ 0 ∷ 0 ∷ 0 ∷ [])  -- 17 send SN status
    ∷ []

abbrev pub used_by : ℕ → ℕ → ℕ
used_by kind field = get_or (get_or uses kind (replicate 8 0)) field 0

-- "a field that a kind does not use is zero", and one that it uses is at most its greatest value
abbrev pub in_range : ℕ → ℕ → ℕ → Bool
in_range used most value = eqb value 0 || eqb used 1 && leb value most

-- "New or absent": 65,535 in a cancel
abbrev pub is_absent : Record → Bool
is_absent e = eqb e.kind 6 && eqb e.new.0 65535

-- neighbour 0 to 31, Old and New 0 to 4,095
abbrev pub ids_in_range : (ℕ → ℕ) → Record → Bool
ids_in_range by e =
    in_range (by 0) 31 e.neighbour && in_range (by 1) 4095 e.old.0
    && (in_range (by 2) 4095 e.new.0 || is_absent e)

-- any sets, but a start's is "not empty"; any reason; byte 11 zero; any number where one is used; a time to 10^12
abbrev pub values_in_range : (ℕ → ℕ) → Record → Bool
values_in_range by e =
    in_range (by 3) 65535 e.first && (not (eqb e.kind 9) || not (eqb e.first 0)) && in_range (by 4) 65535 e.second
    && in_range (by 5) 255 e.reason && eqb e.byte11 0 && in_range (by 6) 4294967295 e.number
    && in_range (by 7) 1000000000000 e.time

-- bytes 24 to 31, which no kind but 16 uses
abbrev pub others_zero : Record → Bool
others_zero e = eqb e.erab 0 && eqb e.qci 0 && eqb e.priority 0 && eqb e.flags 0 && eqb e.bytes28 0

-- a request's count is 1 to 256
abbrev pub is_counted : Record → Bool
is_counted e = not (eqb e.kind 1) || leb 1 e.number && leb e.number 256

-- what is not malformed; "a kind 16 elsewhere is malformed", as every kind is that is no event by itself
abbrev pub formed_by : (ℕ → ℕ) → Record → Bool
formed_by by e = not (same_sort (sort_of e.kind) NoEvent) && ids_in_range by e && values_in_range by e && others_zero e && is_counted e

abbrev pub well_formed : Record → Bool
well_formed e = formed_by (used_by e.kind) e

-- "16, bearer of the request before it: number = units, bytes 24 to 27": units 0 to 1,000,000, E-RAB ID 0 to 15, QCI any byte, priority 0 to 15, of
-- byte 27 bit 0 alone
abbrev pub bearer_formed : Record → Bool
bearer_formed r =
    eqb r.kind 16 && eqb r.neighbour 0 && eqb r.old.0 0 && eqb r.new.0 0 && eqb r.first 0 && eqb r.second 0
    && eqb r.reason 0 && eqb r.byte11 0 && leb r.number 1000000 && eqb r.time 0 && leb r.erab 15
    && leb r.qci 255 && leb r.priority 15 && leb r.flags 1 && eqb r.bytes28 0
