-- What is read of a message, or why it is refused: "the earliest byte decides, then the lower number".
use Rattle.std.specs.Prelude.{ℕ, suc, ◌+◌, ◌*◌, cond, ◌&&◌, ◌||◌, Option, Some, None, unwrap_or, option_map, Result, Ok, Err, is_ok, List, [], ◌∷◌, leb, ltb, eqb, length, take, drop, get_or}
use Rattle.records.specs.declared.Record.{Record}
use Rattle.records.specs.Record.{zeros}
use Rattle.wire.specs.Rules.{allows, refusal_by}
use Rattle.wire.specs.Causes.{reason_of}
use Rattle.wire.specs.Parts.{none, kind_of, row_of, list_end, is_complete, part_of}
use Rattle.reading.specs.declared.Layout.{Layout}
use Rattle.wire.specs.declared.Part.{Part}
use Rattle.wire.specs.declared.Refusal.{Refusal}
use Rattle.wire.specs.declared.Shape.{Shape}
use Rattle.wire.specs.declared.Shape.TheVariants.{Release, Cancel, ShortCancel}
use Rattle.wire.specs.declared.rules.Rule.{Rule}

-- ---- what a message says of itself

-- a number of two octets, the higher first
abbrev pub number_at : List ℕ → ℕ → ℕ
number_at m at = 256 * get_or m at 0 + get_or m (at + 1) 0

-- which message it is: by its procedure code, and for a cancel by the id of its second IE
abbrev pub shape_of : List ℕ → Shape
shape_of m = cond (eqb (get_or m 1 0) 5) Release (cond (eqb (get_or m 14 0) 9) Cancel ShortCancel)

-- how many IEs it has
abbrev pub count_of : List ℕ → ℕ
count_of m = 256 * get_or m 5 0 + get_or m 6 0

-- where the list of IEs ends by its count, and the value by its length
abbrev pub layout_of : List ℕ → Layout
layout_of m =
    record {
      shape = shape_of m;
      list = list_end (shape_of m) (count_of m);
      value = 4 + get_or m 3 0;
      complete = is_complete (shape_of m) (count_of m);
    }

-- what is said of a byte after the list: it is left over (21), or an IE is missing (19)
abbrev pub beyond : Layout → ℕ
beyond l = cond l.complete 21 19

-- what may stand at a place: nothing where the value ends though the list goes on, which is 17, and nothing after the list
abbrev pub rule_in : Layout → ℕ → Rule
rule_in l place =
    cond (eqb place l.value && ltb place l.list) (none 17)
    (cond (ltb place l.list) (get_or (row_of l.shape) place (none 19)) (none (beyond l)))

-- how many octets at the front, the first of them at a place, are what may stand there
unfoldable pub passed : Layout → ℕ → List ℕ → ℕ
passed l place [] = 0
passed l place (octet ∷ rest) = cond (allows (rule_in l place) octet) (suc (passed l (suc place) rest)) 0

-- in order, or refused
abbrev pub Judgement : Type 0
Judgement = Result (Unit {0}) Refusal

-- a message that ends well so far: it is truncated (17) if its list or its length promises a byte more, or an IE is missing (19)
abbrev pub end_in : Layout → ℕ → Judgement
end_in l size =
    cond (ltb size l.list || ltb size l.value) (Err (record { reply = 17; at = size }))
    (cond l.complete (Ok tt) (Err (record { reply = 19; at = size })))

-- whether a message is in order, or its refusal, at the first octet that may not stand there, or at its end
abbrev pub judged_in : Layout → List ℕ → Judgement
judged_in l m =
    cond (ltb (passed l 0 m) (length m)) (Err (refusal_by (rule_in l (passed l 0 m)) (get_or m (passed l 0 m) 0) (passed l 0 m)))
    (end_in l (length m))

unfoldable pub judged_of : List ℕ → Judgement
judged_of m = judged_in (layout_of m) m

-- ---- what is read

-- an ID, by the part of the message that has it; 65,535 if it is absent
abbrev pub number_in : List ℕ → Option Part → ℕ
number_in m None = 65535
number_in m (Some p) = number_at m p.at

-- the reason of its Cause, and none, which is 0, for a release
abbrev pub reason_in : List ℕ → Option Part → ℕ
reason_in m None = 0
reason_in m (Some p) = unwrap_or (reason_of (get_or m p.at 0)) 0

-- the record of a message from a neighbour
abbrev pub record_in : Shape → List ℕ → ℕ → Record
record_in shape m neighbour =
    record zeros {
      kind = kind_of shape;
      neighbour = neighbour;
      old = record { 0 = number_in m (part_of shape 10) };
      new = record { 0 = number_in m (part_of shape 9) };
      reason = reason_in m (part_of shape 5);
    }

abbrev pub record_of : List ℕ → ℕ → Record
record_of m neighbour = record_in (shape_of m) m neighbour

-- what follows on a judgement: where it is a refusal, that
abbrev pub and_then : {A : Type 0} → Judgement → Result A Refusal → Result A Refusal
and_then (Ok _) next = next
and_then (Err e) next = Err e

-- "11 neighbour given out of range, first"
abbrev pub read_of : List ℕ → ℕ → Result Record Refusal
read_of m neighbour =
    cond (leb neighbour 31) (and_then (judged_of m) (Ok (record_of m neighbour))) (Err (record { reply = 11; at = 1 }))

-- "Asked for an IE by its id, the reader hands back its value bytes as the part of the received message that holds them (none if absent or
-- refused)"
abbrev pub part_taken : List ℕ → Part → List ℕ
part_taken m p = take p.size (drop p.at m)

abbrev pub value_of : List ℕ → ℕ → Option (List ℕ)
value_of m id = cond (is_ok (judged_of m)) (option_map (part_taken m) (part_of (shape_of m) id)) None
