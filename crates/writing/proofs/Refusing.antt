-- What a write that is not refused has.
use Rattle.std.proofs.Common.{◌≡◌, ℕ, ◌≤◌, Bool, true, false, cond, Option, Some, None, Result, Ok, Err, List, length, ltb, refl}
use borrow.Author.Tests.{ltb-false, le-ltb}
use Rattle.laws.proofs.Tests.{by_cases, clash}
use Rattle.records.specs.declared.Record.{Record}
use Rattle.fields.specs.declared.Fault.{Fault}
use Rattle.fields.specs.Fields.{fault_of}
use Rattle.wire.specs.declared.Refusal.{Refusal}
use Rattle.wire.specs.Parts.{octets_of}
use Rattle.reading.proofs.RoundTrip.{passed_on}
use Rattle.writing.specs.Writing.{is_carried, has_cause, plainly, faultless, judged, put_answer, written_of}

no_fault : (carried : Bool) (fault : Option Fault) → cond carried (faultless fault) (Err (plainly 18)) ≡ Ok tt → (carried ≡ true) × (fault ≡ None)
no_fault true None e = (refl, refl)
no_fault true (Some fault) e = clash (cc e)
no_fault false fault e = clash (cc e)

of_cause : (caused : Bool) (next : Result ℕ Refusal) (n : ℕ) → cond caused next (Err (plainly 20)) ≡ Ok n → (caused ≡ true) × (next ≡ Ok n)
of_cause true next n e = (refl, e)
of_cause false next n e = clash (cc e)

has_room : (octets : List ℕ) (room n : ℕ) → put_answer octets room ≡ Ok n → length octets ≤ room
unfolding put_answer
has_room octets room n e =
    by_cases (ltb room (length octets))
    (λ t. clash (cc (rw t at e)))
    (λ t. ltb-false room (length octets) t)

module _ (r : Record) (room n : ℕ) (done : written_of r room ≡ Ok n) where
  after : (judged r ≡ Ok tt) × (has_cause r ≡ true) × (put_answer (octets_of r) room ≡ Ok n)
  after =
      let first = passed_on (judged r) _ n done in
      let last = of_cause (has_cause r) _ n first.1 in
      (first.0, last.0, last.1)

  tests : (is_carried r ≡ true) × (fault_of r ≡ None)
  unfolding judged
  tests = no_fault (is_carried r) (fault_of r) after.0

  -- It is of one of the two kinds and not malformed, a cancel's reason has a Cause, and there is room for its message.
  pub carried : is_carried r ≡ true
  carried = tests.0

  pub well : fault_of r ≡ None
  well = tests.1

  pub caused : has_cause r ≡ true
  caused = after.1

  pub fitting : length (octets_of r) ≤ room
  fitting = has_room (octets_of r) room n after.2

-- A record that has all that is written, and its message stands at the front of the buffer.
module _ (r : Record) (carried : is_carried r ≡ true) (well : fault_of r ≡ None) (caused : has_cause r ≡ true) where
  in_order : judged r ≡ Ok tt
  unfolding judged
  in_order = rw (carried, well)

  pub is_written_lem : (room : ℕ) → length (octets_of r) ≤ room → written_of r room ≡ Ok (length (octets_of r))
  unfolding put_answer
  is_written_lem room fits = rw (in_order, caused, le-ltb room (length (octets_of r)) fits)
