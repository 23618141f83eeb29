-- What is written reads back, and what is read can be written.
use Rattle.std.proofs.Common.{◌≡◌, ℕ, ◌≤◌, ◌<◌, false, None, Ok, Err, List, ◌∷◌, ◌++◌, length, take, eqb, ap, ◌∙◌, arith}
use mathlib.Core.Logic.{⊎_elim}
use borrow.Author.Tests.{eqb-true, eq-eqb, ne_eqb}
use Rattle.laws.proofs.Tests.{either_true}
use Rattle.records.specs.declared.Record.{Record}
use Rattle.fields.specs.Fields.{fault_of}
use Rattle.wire.specs.Causes.{cause_of}
use Rattle.wire.specs.Parts.{shape_for, message_octets, octets_of}
use Rattle.wire.specs.declared.Shape.{Shape}
use Rattle.wire.specs.declared.Shape.TheVariants.{Release, Cancel, ShortCancel}
use Rattle.reading.specs.Reading.{judged_of, record_of, read_of}
use Rattle.reading.proofs.Beginnings.{truncated, left_over}
use Rattle.reading.proofs.Order.{in_order}
use Rattle.reading.proofs.RoundTrip.{some_of, Caused, release_read, release_back, cancel_read, cancel_back, short_read, short_back, is_read_lem}
use Rattle.writing.specs.Writing.{written_of}
use Rattle.writing.proofs.Formed.{release_neighbour, release_old, release_new, release_reason, release_rest, cancel_neighbour, cancel_old, cancel_new, cancel_reason, cancel_rest}
use Rattle.writing.proofs.Refusing.{carried, well, caused}

-- the message of a record, by its shape
of_shape : (r : Record) {shape : Shape} → shape_for r ≡ shape → octets_of r ≡ message_octets shape r
of_shape r e = ap (λ (s : Shape). message_octets s r) e

-- a message that is read, as a record
pub record ReadsBack (r : Record) : Type 0 where
  pub order : judged_of (octets_of r) ≡ Ok tt
  pub same : record_of (octets_of r) r.neighbour ≡ r
  pub near : r.neighbour ≤ 31

-- of the message with its shape
back : (r : Record) (shape : Shape) → shape_for r ≡ shape → judged_of (message_octets shape r) ≡ Ok tt → record_of (message_octets shape r) r.neighbour ≡ r → r.neighbour ≤ 31 → ReadsBack r
back r shape is order same near =
    let m = of_shape r is in
    record {
      order = ap judged_of m ∙ order;
      same = ap (λ (x : List ℕ). record_of x r.neighbour) m ∙ same;
      near = near;
    }

module _ (r : Record) (room n : ℕ) (done : written_of r room ≡ Ok n) where
  none : fault_of r ≡ None
  none = well r room n done

  release : r.kind ≡ 5 → ReadsBack r
  release is =
      let rest = release_rest r none is in
      let old = release_old r none is in
      let new = release_new r none is in
      let reason = release_reason r none is in
      back r Release (rw (eq-eqb r.kind 5 is)) (release_read r rest old is new reason) (release_back r rest old is new reason) (release_neighbour r none is)

  with_cause : r.kind ≡ 6 → Caused r.reason
  with_cause is =
      let some = some_of (cause_of r.reason) (rw is at (caused r room n done)) in
      record { byte = cancel_reason r none is; octet = some.0; is = some.1 }

  cancel : r.kind ≡ 6 → ReadsBack r
  cancel is =
      let rest = cancel_rest r none is in
      let old = cancel_old r none is in
      let near = cancel_neighbour r none is in
      let why = with_cause is in
      let other : eqb r.kind 5 ≡ false = ne_eqb r.kind 5 (λ e. omega arith) in
      ⊎_elim
      (λ absent. back r ShortCancel (rw (other, eq-eqb r.new.0 65535 absent)) (short_read r rest old is why) (short_back r rest old is why absent) near)
      (λ new. back r Cancel (rw (other, ne_eqb r.new.0 65535 (λ e. omega arith))) (cancel_read r rest old is why new) (cancel_back r rest old is why) near)
      (cancel_new r none is)

  -- A record that is written is in order, and reads back.
  pub reads_back : ReadsBack r
  reads_back =
      ⊎_elim (λ t. release (eqb-true r.kind 5 t)) (λ t. cancel (eqb-true r.kind 6 t)) (either_true (eqb r.kind 5) (eqb r.kind 6) (carried r room n done))

  -- Every message that is written reads back to the same record, the neighbour being given beside it.
  pub read_written : read_of (octets_of r) r.neighbour ≡ Ok r
  read_written = is_read_lem (octets_of r) r.neighbour reads_back.near reads_back.order ∙ ap Ok reads_back.same

  -- Each proper beginning of it is truncated, and in each longer message bytes are left over.
  pub beginning : (b : ℕ) → b < length (octets_of r) → judged_of (take b (octets_of r)) ≡ Err (record { reply = 17; at = b })
  beginning b h = truncated (octets_of r) (in_order (octets_of r) reads_back.order) b h

  pub longer : (x : ℕ) (more : List ℕ) → judged_of (octets_of r ++ x ∷ more) ≡ Err (record { reply = 21; at = length (octets_of r) })
  longer x more = left_over (octets_of r) (in_order (octets_of r) reads_back.order) x more
