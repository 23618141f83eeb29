-- What sort of event a kind is, which fields it uses, and within what limits: the column "Uses".
use Rattle.std.specs.Prelude.{ℕ, Bool, not, ◌&&◌, ◌||◌, List, [], ◌∷◌, leb, eqb, get_or}
use denote.Enum.Bare.{sameb}
use Rattle.fields.specs.declared.Sort.{Sort}
use Rattle.fields.specs.declared.Sort.TheVariants.{NoEvent, OneRecord, AllOfNeighbour, SoonestDue, NewRecord, Request, NoChange}
use Rattle.fields.specs.declared.kinds.Limit.{Limit}
use Rattle.fields.specs.declared.kinds.Limit.TheVariants.{Unused, Neighbour, Id, IdOrAbsent, Set, SomeSet, AnyByte, AnyNumber, Time, Units, Small, Bit}
use Rattle.fields.specs.declared.kinds.Row.{Row}
use Rattle.fields.specs.contracts.Sort as sorts
use Rattle.fields.specs.contracts.kinds.Limit as limits

-- whether two sorts of events are the same
abbrev pub same_sort : Sort → Sort → Bool
same_sort a b = sameb sorts.the_type a b

-- ---- the limits

abbrev pub same_limit : Limit → Limit → Bool
same_limit a b = sameb limits.the_type a b

-- the greatest value
abbrev pub most : Limit → ℕ
most Unused = 0
most Neighbour = 31
most Id = 4095
most IdOrAbsent = 4095
most Set = 65535
most SomeSet = 65535
most AnyByte = 255
most AnyNumber = 4294967295
most Time = 1000000000000
most Units = 1000000
most Small = 15
most Bit = 1

-- a value is at most the greatest; but "65,535 means that the New ID is absent", and a start's set is "not empty"
abbrev pub fits : Limit → ℕ → Bool
fits IdOrAbsent value = eqb value 65535 || leb value (most IdOrAbsent)
fits SomeSet value = not (eqb value 0) && leb value (most SomeSet)
fits limit value = leb value (most limit)

-- ---- the kinds

-- no kind: it uses no field
abbrev pub no_kind : Row
no_kind =
    record {
      neighbour = Unused;
      old = Unused;
      new = Unused;
      first = Unused;
      second = Unused;
      reason = Unused;
      byte11 = Unused;
      number = Unused;
      time = Unused;
      erab = Unused;
      qci = Unused;
      priority = Unused;
      flags = Unused;
      bytes28 = Unused;
      sort = NoEvent;
    }

-- by kind, "Uses": the limits of its fields, and its sort; of a request's number, its count, nothing is said here
abbrev pub kinds : List Row
kinds =
    no_kind  -- 0 no kind
    ∷ record no_kind { neighbour = Neighbour; old = Id; number = AnyNumber; sort = Request }  -- 1 handover request received
    ∷ record no_kind { neighbour = Neighbour; old = Id; new = Id; first = Set; second = Set; sort = OneRecord }  -- 2 request acknowledge received
    ∷ record no_kind { neighbour = Neighbour; old = Id; reason = AnyByte; sort = OneRecord }  -- 3 preparation failure received
    ∷ record no_kind { neighbour = Neighbour; old = Id; new = Id; first = Set; sort = OneRecord }  -- 4 SN status transfer received
    ∷ record no_kind { neighbour = Neighbour; old = Id; new = Id; sort = OneRecord }  -- 5 UE context release received
    ∷ record no_kind { neighbour = Neighbour; old = Id; new = IdOrAbsent; reason = AnyByte; sort = OneRecord }  -- 6 handover cancel received
    ∷ record no_kind { neighbour = Neighbour; sort = AllOfNeighbour }  -- 7 reset request received
    ∷ record no_kind { neighbour = Neighbour; sort = NoChange }  -- 8 reset response received
    ∷ record no_kind { neighbour = Neighbour; first = SomeSet; sort = NewRecord }  -- 9 start a handover
    ∷ record no_kind { old = Id; sort = OneRecord }  -- 10 cancel
    ∷ record no_kind { new = Id; sort = OneRecord }  -- 11 UE arrived
    ∷ record no_kind { old = Id; sort = OneRecord }  -- 12 UE returned
    ∷ record no_kind { new = Id; sort = OneRecord }  -- 13 UE left
    ∷ record no_kind { neighbour = Neighbour; sort = AllOfNeighbour }  -- 14 reset a neighbour
    ∷ record no_kind { time = Time; sort = SoonestDue }  -- 15 tick
    ∷ record no_kind { number = Units; erab = Small; qci = AnyByte; priority = Small; flags = Bit }  -- 16 bearer
    ∷ record no_kind { old = Id; first = Set; sort = OneRecord }  -- 17 send SN status
    ∷ []

-- a kind's row; a number that is no kind has that of none
abbrev pub row_of : ℕ → Row
row_of kind = get_or kinds kind no_kind

-- the limits of a row, lowest field first
abbrev pub limits_in : Row → List Limit
limits_in row =
    row.neighbour ∷ row.old ∷ row.new ∷ row.first ∷ row.second ∷ row.reason ∷ row.byte11 ∷ row.number ∷ row.time ∷ row.erab
    ∷ row.qci ∷ row.priority ∷ row.flags ∷ row.bytes28 ∷ []

abbrev pub limits_of : ℕ → List Limit
limits_of kind = limits_in (row_of kind)

abbrev pub limit_of : ℕ → ℕ → Limit
limit_of kind field = get_or (limits_of kind) field Unused

abbrev pub sort_of : ℕ → Sort
sort_of kind = (row_of kind).sort
