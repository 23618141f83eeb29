-- UE CONTEXT RELEASE and HANDOVER CANCEL as lists of their parts, in aligned PER (TS 36.423 V8.4.0, clauses 9.1.1.5, 9.1.1.6 and 9.3).
use Rattle.std.specs.Prelude.{ℕ, ◌+◌, ◌/◌, ◌%◌, Bool, cond, Option, Some, None, option_to_list, List, [], ◌∷◌, ◌++◌, map, eqb, length, take}
use Rattle.records.specs.declared.Record.{Record}
use Rattle.wire.specs.Causes.{cause_of}
use Rattle.wire.specs.Numbers.{form_number}
use Rattle.wire.specs.declared.Part.{Part}
use Rattle.wire.specs.declared.Shape.{Shape}
use Rattle.wire.specs.declared.Shape.TheVariants.{Release, Cancel, ShortCancel}
use Rattle.wire.specs.declared.rules.Form.TheVariants.{Plain, Choice, Cause, IdEnd}
use Rattle.wire.specs.declared.rules.Rule.{Rule}

-- ---- what an octet may be

-- what an octet has more to it than its bounds: nothing, or it is the choice of the message, a Cause, or the second octet of an id
abbrev pub plain : ℕ
plain = form_number Plain

abbrev pub a_choice : ℕ
a_choice = form_number Choice

abbrev pub a_cause : ℕ
a_cause = form_number Cause

abbrev pub id_end : ℕ
id_end = form_number IdEnd

-- the rule of an octet: the least and the most that it may be, the refusal of another, and what it is
abbrev pub rule : ℕ → ℕ → ℕ → ℕ → Rule
rule least most reply form = record { least = least; most = most; reply = reply; form = form }

-- "value, criticality or form not allowed" is 20
abbrev pub exactly : ℕ → Rule
exactly octet = rule octet octet 20 plain

abbrev pub any : Rule
any = rule 0 255 20 plain

-- where no octet may stand
abbrev pub none : ℕ → Rule
none reply = rule 1 0 reply plain

-- ---- the IEs

-- "Criticality ::= ENUMERATED { reject, ignore, notify }": two bits, and zeros
abbrev pub reject : ℕ
reject = 0

abbrev pub ignore : ℕ
ignore = 64

-- an IE: its id, its criticality, and what its value's octets may be
pub record Ie : Type 0 where
  pub id : ℕ
  pub criticality : ℕ
  pub value : List Rule

-- "UE-X2AP-ID ::= INTEGER (0..4095)": two octets, the higher first
abbrev pub an_id : List Rule
an_id = rule 0 15 20 plain ∷ any ∷ []

-- "id-Old-eNB-UE-X2AP-ID 10", "id-New-eNB-UE-X2AP-ID 9", "id-Cause 5"
abbrev pub id_ie : ℕ → ℕ → Ie
id_ie id criticality = record { id = id; criticality = criticality; value = an_id }

abbrev pub old : Ie
old = id_ie 10 reject

abbrev pub new : ℕ → Ie
new criticality = id_ie 9 criticality

abbrev pub cause : Ie
cause = record { id = 5; criticality = ignore; value = rule 0 255 20 a_cause ∷ [] }

-- the IEs of a message stand "in the order (from top to bottom)" of the object set, each once; in a cancel the New ID is "PRESENCE optional"
abbrev pub ies_of : Shape → List Ie
ies_of Release = old ∷ new reject ∷ []
ies_of Cancel = old ∷ new ignore ∷ cause ∷ []
ies_of ShortCancel = old ∷ cause ∷ []

-- "id-uEContextRelease 5", "id-handoverCancel 1"
abbrev pub code_of : Shape → ℕ
code_of Release = 5
code_of Cancel = 1
code_of ShortCancel = 1

-- and the kinds of their records
abbrev pub kind_of : Shape → ℕ
kind_of Release = 5
kind_of Cancel = 6
kind_of ShortCancel = 6

-- ---- what may stand where

-- "X2AP-PDU ::= CHOICE { initiatingMessage, .. }", "procedureCode", "criticality ignore"; the length of the value, in one octet below 128;
-- the SEQUENCE of the message, without an extension; how many IEs there are, in two octets
abbrev pub header : Shape → List Rule
header shape =
    rule 0 0 20 a_choice ∷ rule (code_of shape) (code_of shape) 18 plain ∷ exactly ignore ∷ rule 0 127 20 plain ∷ exactly 0
    ∷ any ∷ any ∷ []

-- "ProtocolIE-Field ::= SEQUENCE { id, criticality, value }": an id has two octets, and a value its length before it
abbrev pub ie_rules : Ie → List Rule
ie_rules ie = rule 0 0 19 plain ∷ rule ie.id ie.id 19 id_end ∷ exactly ie.criticality ∷ exactly (length ie.value) ∷ ie.value

-- lists one after the other
abbrev pub joined : {A : Type 0} → List (List A) → List A
joined [] = []
joined (xs ∷ rest) = xs ++ joined rest

-- after the last IE none may stand: one too many is refused where it begins
abbrev pub listed : Shape → List (List Rule)
listed shape = map ie_rules (ies_of shape) ++ (none 19 ∷ []) ∷ []

abbrev pub row_of : Shape → List Rule
row_of shape = header shape ++ joined (listed shape)

-- where a list of so many IEs ends
abbrev pub list_end : Shape → ℕ → ℕ
list_end shape count = length (header shape ++ joined (take count (listed shape)))

-- whether so many are all
abbrev pub is_complete : Shape → ℕ → Bool
is_complete shape count = eqb count (length (ies_of shape))

-- the part of a message that is the value of an IE, by its id: where it begins and how many octets it has, if the message has it
abbrev pub part_in : List Ie → ℕ → ℕ → Option Part
part_in [] start id = None
part_in (ie ∷ rest) start id =
    cond (eqb id ie.id) (Some (record { at = start + 4; size = length ie.value }))
    (part_in rest (start + 4 + length ie.value) id)

abbrev pub part_of : Shape → ℕ → Option Part
part_of shape id = part_in (ies_of shape) 7 id

-- ---- the octets of a message

-- a record's message: of kind 5 a release, of kind 6 a cancel, "New or absent"
abbrev pub shape_for : Record → Shape
shape_for r = cond (eqb r.kind 5) Release (cond (eqb r.new.0 65535) ShortCancel Cancel)

abbrev pub id_octets : ℕ → List ℕ
id_octets id = id / 256 ∷ id % 256 ∷ []

-- the value of an IE; that of the Cause has no octet if the reason has no Cause
abbrev pub value_for : Record → ℕ → List ℕ
value_for r id = cond (eqb id 10) (id_octets r.old.0) (cond (eqb id 9) (id_octets r.new.0) (option_to_list (cause_of r.reason)))

abbrev pub ie_octets : Record → Ie → List ℕ
ie_octets r ie = 0 ∷ ie.id ∷ ie.criticality ∷ length (value_for r ie.id) ∷ value_for r ie.id

abbrev pub list_octets : Record → List Ie → List ℕ
list_octets r ies = 0 ∷ 0 ∷ length ies ∷ joined (map (ie_octets r) ies)

abbrev pub message_octets : Shape → Record → List ℕ
message_octets shape r =
    0 ∷ code_of shape ∷ ignore ∷ length (list_octets r (ies_of shape)) ∷ list_octets r (ies_of shape)

abbrev pub octets_of : Record → List ℕ
octets_of r = message_octets (shape_for r) r
