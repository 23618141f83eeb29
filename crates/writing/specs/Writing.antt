-- What is written for a record, or why it is refused.
use Rattle.std.specs.Prelude.{ℕ, Bool, cond, ◌&&◌, ◌||◌, Option, Some, None, Result, Ok, Err, ok_or, is_ok, is_some, List, ◌++◌, ltb, eqb, length, drop}
use Rattle.records.specs.declared.Record.{Record}
use Rattle.fields.specs.declared.Fault.{Fault}
use Rattle.fields.specs.Fields.{fault_of}
use Rattle.wire.specs.declared.Refusal.{Refusal}
use Rattle.wire.specs.Causes.{cause_of}
use Rattle.wire.specs.Parts.{octets_of}
use Rattle.reading.specs.Reading.{Judgement, and_then}

-- a UE CONTEXT RELEASE or a HANDOVER CANCEL
abbrev pub is_carried : Record → Bool
is_carried r = eqb r.kind 5 || eqb r.kind 6

-- "a reason without a Cause": a release has none to judge
abbrev pub has_cause : Record → Bool
has_cause r = eqb r.kind 5 || is_some (cause_of r.reason)

-- a refusal that names no byte
abbrev pub plainly : ℕ → Refusal
plainly reply = record { reply = reply; at = 0 }

-- a malformed record: the field that is named
abbrev pub named : Fault → Refusal
named fault = record { reply = fault.reply; at = fault.offset }

abbrev pub faultless : Option Fault → Judgement
faultless None = Ok tt
faultless (Some fault) = Err (named fault)

-- a record of neither kind (18), then a malformed one (11, 12)
unfoldable pub judged : Record → Judgement
judged r = cond (is_carried r) (faultless (fault_of r)) (Err (plainly 18))

abbrev pub cause_in : Record → Result ℕ Refusal
cause_in r = ok_or (cause_of r.reason) (plainly 20)

-- octets put at the front of a buffer, if it has room for them: the answer, which is how many, and what is left in it
unfoldable pub put_answer : List ℕ → ℕ → Result ℕ Refusal
put_answer octets room = cond (ltb room (length octets)) (Err (plainly 15)) (Ok (length octets))

unfoldable pub put_left : List ℕ → List ℕ → List ℕ
put_left octets buffer = cond (ltb (length buffer) (length octets)) buffer (octets ++ drop (length octets) buffer)

-- "A write refuses, in this order, a record of neither kind (18), a malformed one (11, 12), a reason without a Cause (20) and a short buffer
-- (15)"; else the answer is how many octets were written
abbrev pub written_of : Record → ℕ → Result ℕ Refusal
written_of r room = and_then (judged r) (cond (has_cause r) (put_answer (octets_of r) room) (Err (plainly 20)))

-- "leaving the buffer as found"; what stands behind the message stays
abbrev pub left_in : Record → List ℕ → List ℕ
left_in r buffer = cond (is_ok (judged r) && has_cause r) (put_left (octets_of r) buffer) buffer
