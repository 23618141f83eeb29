-- Every record of the two kinds that is well formed, its reason in the table, can be written; so can every record that is read.
use Rattle.std.proofs.Common.{◌≡◌, ℕ, ◌≤◌, true, None, Ok, List, length, get_or, refl, ap, subst, ◌∙◌, arith}
use Rattle.records.specs.declared.Record.{Record}
use Rattle.fields.specs.Fields.{fault_of, well_formed}
use Rattle.fields.proofs.Faults.{formed_faultless}
use Rattle.fields.proofs.Forms.{used_in_range}
use Rattle.wire.specs.Parts.{octets_of}
use Rattle.wire.specs.declared.Shape.{Shape}
use Rattle.wire.specs.declared.Shape.TheVariants.{Release, Cancel, ShortCancel}
use Rattle.wire.proofs.Reasons.{reason_byte}
use Rattle.reading.specs.Reading.{shape_of, number_at, record_in, read_of}
use Rattle.reading.proofs.Order.{InOrder}
use Rattle.reading.proofs.RoundTrip.{most, cause_read, was_read, octets_read}
use Rattle.writing.specs.Writing.{is_carried, has_cause, written_of}
use Rattle.writing.proofs.Refusing.{is_written_lem}

-- ---- a record that can be written

pub can_write : (r : Record) (room : ℕ) → is_carried r ≡ true → well_formed r ≡ true → has_cause r ≡ true → length (octets_of r) ≤ room → written_of r room ≡ Ok (length (octets_of r))
can_write r room carried formed caused fits = is_written_lem r carried (formed_faultless r formed) caused room fits

-- ---- a record that is read

-- what a write asks of it
pub record Writable (r : Record) : Type 0 where
  pub carried : is_carried r ≡ true
  pub well : fault_of r ≡ None
  pub caused : has_cause r ≡ true

module _ (m : List ℕ) (neighbour : ℕ) (near : neighbour ≤ 31) (order : InOrder m) where
  of_message_as : (shape : Shape) → shape_of m ≡ shape → Writable (record_in shape m neighbour)
  of_message_as Release is =
      let small = most m order Release is in
      record {
        carried = refl;
        well = formed_faultless (record_in Release m neighbour) (rw (used_in_range 31 neighbour near, used_in_range 4095 (number_at m 11) (omega (arith, small 11 refl, small 12 refl)), used_in_range 4095 (number_at m 17) (omega (arith, small 17 refl, small 18 refl))));
        caused = refl;
      }
  of_message_as Cancel is =
      let small = most m order Cancel is in
      let why = cause_read m order Cancel is 23 refl refl refl in
      let byte = reason_byte (get_or m 23 0) (omega (arith, small 23 refl)) why.0 why.1 in
      record {
        carried = refl;
        well = formed_faultless (record_in Cancel m neighbour) (rw (why.1, used_in_range 31 neighbour near, used_in_range 4095 (number_at m 11) (omega (arith, small 11 refl, small 12 refl)), used_in_range 4095 (number_at m 17) (omega (arith, small 17 refl, small 18 refl)), used_in_range 255 why.0 (omega (arith, byte))));
        caused = rw (why.1, why.2);
      }
  of_message_as ShortCancel is =
      let small = most m order ShortCancel is in
      let why = cause_read m order ShortCancel is 17 refl refl refl in
      let byte = reason_byte (get_or m 17 0) (omega (arith, small 17 refl)) why.0 why.1 in
      record {
        carried = refl;
        well = formed_faultless (record_in ShortCancel m neighbour) (rw (why.1, used_in_range 31 neighbour near, used_in_range 4095 (number_at m 11) (omega (arith, small 11 refl, small 12 refl)), used_in_range 255 why.0 (omega (arith, byte))));
        caused = rw (why.1, why.2);
      }

-- Whatever is read can be written, and is then the message that was read.
pub write_read : (m : List ℕ) (neighbour : ℕ) (r : Record) (room : ℕ) → read_of m neighbour ≡ Ok r → length m ≤ room → (written_of r room ≡ Ok (length m)) × (octets_of r ≡ m)
write_read m neighbour r room e fits =
    let was = was_read m neighbour r e in
    let same = octets_read m neighbour r e in
    let can : Writable r = subst Writable was.2 (of_message_as m neighbour was.0 was.1 (shape_of m) refl) in
    (is_written_lem r can.carried can.well can.caused room (omega (arith, ap length same)) ∙ ap (λ (x : List ℕ). Ok (length x)) same, same)
