-- Each field is what its bytes say.
use Rattle.records.specs.Record.{record_of}
use Rattle.records.proofs.Little.{byte_read, field_read}
use Rattle.records.proofs.Record.of.Goals as goal

pub returns : goal.returns
unfolding record_of
returns c =
    let bytes = c.args.bytes.now in
    λ i. record {
      kind = byte_read bytes 0 i;
      neighbour = byte_read bytes 1 i;
      old = record { 0 = field_read 1 bytes 2 c.part.ensures c.from_le_bytes.ensures i };
      new = record { 0 = field_read 1 bytes 4 c.part-2.ensures c.from_le_bytes-2.ensures i };
      first = field_read 1 bytes 6 c.part-3.ensures c.from_le_bytes-3.ensures i;
      second = field_read 1 bytes 8 c.part-4.ensures c.from_le_bytes-4.ensures i;
      reason = byte_read bytes 10 i;
      byte11 = byte_read bytes 11 i;
      number = field_read 3 bytes 12 c.part-5.ensures c.from_le_bytes-5.ensures i;
      time = field_read 7 bytes 16 c.part-6.ensures c.from_le_bytes-6.ensures i;
      erab = byte_read bytes 24 i;
      qci = byte_read bytes 25 i;
      priority = byte_read bytes 26 i;
      flags = byte_read bytes 27 i;
      bytes28 = field_read 3 bytes 28 c.part-7.ensures c.from_le_bytes-7.ensures i;
    }
