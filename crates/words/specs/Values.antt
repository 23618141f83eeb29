-- The fields of a record by number: word 17 + f is field f's, and field 0 is the kind.
use Rattle.std.specs.Prelude.{ℕ, ◌%◌, Bool, ◌||◌, List, [], ◌∷◌, eqb, get_or}
use Rattle.records.specs.declared.Record.{Record}

-- so many fields there are
abbrev pub field_count : ℕ
field_count = 15

-- the two sets are fields 4 and 5
abbrev pub is_set : ℕ → Bool
is_set f = eqb f 4 || eqb f 5

-- the fields of a record, in order
abbrev pub values_of : Record → List ℕ
values_of r =
    r.kind ∷ r.neighbour ∷ r.old.0 ∷ r.new.0 ∷ r.first ∷ r.second ∷ r.reason ∷ r.byte11 ∷ r.number ∷ r.time
    ∷ r.erab ∷ r.qci ∷ r.priority ∷ r.flags ∷ r.bytes28 ∷ []

-- the record of so many fields
abbrev pub record_from : List ℕ → Record
record_from v =
    record {
      kind = get_or v 0 0 % 256;
      neighbour = get_or v 1 0 % 256;
      old = record { 0 = get_or v 2 0 % 65536 };
      new = record { 0 = get_or v 3 0 % 65536 };
      first = get_or v 4 0 % 65536;
      second = get_or v 5 0 % 65536;
      reason = get_or v 6 0 % 256;
      byte11 = get_or v 7 0 % 256;
      number = get_or v 8 0 % 4294967296;
      time = get_or v 9 0;
      erab = get_or v 10 0 % 256;
      qci = get_or v 11 0 % 256;
      priority = get_or v 12 0 % 256;
      flags = get_or v 13 0 % 256;
      bytes28 = get_or v 14 0 % 4294967296;
    }
