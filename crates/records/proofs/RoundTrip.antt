-- A record and its bytes say the same.
use Prim.Native.Nat.{ℕ, zero, suc, ◌+◌, ◌*◌, ◌%◌, ◌^◌, ◌≤◌, ◌<◌}
use mathlib.Core.Path.{◌≡◌, refl, sym, ◌∙◌, ap}
use mathlib.Core.Bool.{true}
use mathlib.Core.List.{List, [], ◌∷◌, ◌++◌, append_assoc}
use borrow.Author.Tests.{leb-true, le-leb}
use native.Mathlib.Omega.{arith}
use lib.Dec.{leb}
use lib.ListN.{length, take, drop, length-drop, take-append-drop, drop_of_length-le}
use lib.Seq.{get_or-drop, drop-drop, drop_at, take-append_seam, take-add, length-take-le, length-paste}
use Rattle.std.proofs.Common.{Some}
use Rattle.records.specs.Record.{little, little_of, field_at, record_of, bytes_of, record_at, room_at, read_at, written_at, AreBytes, InRange}
use Rattle.records.specs.declared.Record.{Record}
use Rattle.records.proofs.Little.{back, forth, fits}
use Rattle.records.proofs.Rest.{was_whole}

-- one byte is its own number
single : (b : ℕ) → little (b ∷ []) ≡ b
unfolding little
single b = omega arith

-- A record whose fields fit their widths is read back from its bytes.
pub read_back : (r : Record) → InRange r → record_of (bytes_of r) ≡ r
unfolding record_of
read_back r h =
    λ i. record {
      kind = single r.kind i;
      neighbour = single r.neighbour i;
      old = record { 0 = back 2 r.old.0 h.old i };
      new = record { 0 = back 2 r.new.0 h.new i };
      first = back 2 r.first h.first i;
      second = back 2 r.second h.second i;
      reason = single r.reason i;
      byte11 = single r.byte11 i;
      number = back 4 r.number h.number i;
      time = back 8 r.time h.time i;
      erab = single r.erab i;
      qci = single r.qci i;
      priority = single r.priority i;
      flags = single r.flags i;
      bytes28 = back 4 r.bytes28 h.bytes28 i;
    }

-- what was put at a place of a list stands there
put_there : (at : ℕ) (bytes new after : List ℕ) → at ≤ length bytes → take (length new) (drop at (take at bytes ++ new ++ after)) ≡ new
put_there at bytes new after room =
    rw (append_assoc (take at bytes) new after, drop_at (take at bytes) (new ++ after) at (length-take-le at bytes room)) (take-append_seam new after)

-- A record that was written where there is room is read there.
pub read_written : (r : Record) (bytes : List ℕ) (at : ℕ) → InRange r → at + 32 ≤ length bytes → read_at (written_at r bytes at) at ≡ Some r
read_written r bytes at h room =
    let now = take at bytes ++ bytes_of r ++ drop (at + 32) bytes in
    let fits : room_at now at ≡ true = le-leb (at + 32) (length now) (rw (length-paste bytes at (bytes_of r) 32 room (omega arith)) room) in
    rw (le-leb (at + 32) (length bytes) room, fits, put_there at bytes (bytes_of r) (drop (at + 32) bytes) (omega arith), read_back r h)

-- the bytes from a place on, and from a place within them
pub bytes_drop : (n : ℕ) (bytes : List ℕ) → AreBytes bytes → AreBytes (drop n bytes)
bytes_drop n bytes h i = rw get_or-drop (h (n + i))

pub bytes_take : (n : ℕ) (bytes : List ℕ) → AreBytes bytes → AreBytes (take n bytes)
bytes_take zero bytes h i = omega arith
bytes_take (suc n) [] h i = omega arith
bytes_take (suc n) (b ∷ bytes) h zero = h 0
bytes_take (suc n) (b ∷ bytes) h (suc i) = bytes_take n bytes (λ j. h (suc j)) i

-- The record that is read from bytes has fields that fit their widths.
pub in_range_lem : (bytes : List ℕ) → AreBytes bytes → InRange (record_of bytes)
unfolding record_of
in_range_lem bytes h =
    let field : (at width : ℕ) → field_at bytes at width < 2 ^ (8 * width) = λ at width. fits width (drop at bytes) (bytes_drop at bytes h) in
    record {
      kind = field 0 1;
      neighbour = field 1 1;
      old = field 2 2;
      new = field 4 2;
      first = field 6 2;
      second = field 8 2;
      reason = field 10 1;
      byte11 = field 11 1;
      number = field 12 4;
      time = field 16 8;
      erab = field 24 1;
      qci = field 25 1;
      priority = field 26 1;
      flags = field 27 1;
      bytes28 = field 28 4;
    }

-- one field's bytes, and those after it
module _ (bytes : List ℕ) (h : AreBytes bytes) (size : length bytes ≡ 32) where
  part : (at width : ℕ) → leb (at + width) 32 ≡ true → {rest : List ℕ} → rest ≡ drop (at + width) bytes → little_of width (field_at bytes at width) ++ rest ≡ drop at bytes
  part at width room e =
      let here : length (take width (drop at bytes)) ≡ width = length-take-le width (drop at bytes) (rw length-drop (omega (arith, leb-true (at + width) 32 room))) in
      let same : little_of width (field_at bytes at width) ≡ take width (drop at bytes) = rw here at (forth (take width (drop at bytes)) (bytes_take width (drop at bytes) (bytes_drop at bytes h))) in
      rw (same, e, ← drop-drop width at bytes) (take-append-drop width (drop at bytes))

  byte : (at : ℕ) → leb (at + 1) 32 ≡ true → {rest : List ℕ} → rest ≡ drop (at + 1) bytes → field_at bytes at 1 ∷ rest ≡ drop at bytes
  byte at room {rest} e =
      let low : field_at bytes at 1 % 256 ≡ field_at bytes at 1 = omega (arith, fits 1 (drop at bytes) (bytes_drop at bytes h)) in
      ap (λ (b : ℕ). b ∷ rest) (sym low) ∙ part at 1 room e

  -- The bytes of the record that is read from 32 bytes are these.
  pub bytes_back : bytes_of (record_of bytes) ≡ bytes
  unfolding record_of
  bytes_back =
      let none : [] ≡ drop 32 bytes = sym (drop_of_length-le bytes {i = 32} (omega arith)) in
      byte 0 refl (byte 1 refl (part 2 2 refl (part 4 2 refl (part 6 2 refl (part 8 2 refl (byte 10 refl (byte 11 refl (part 12 4 refl (part 16 8 refl (byte 24 refl (byte 25 refl (byte 26 refl (byte 27 refl (part 28 4 refl none))))))))))))))

-- Writing at a place what was read there leaves the bytes as they were.
pub write_read : (bytes : List ℕ) (at : ℕ) (r : Record) → AreBytes bytes → read_at bytes at ≡ Some r → written_at r bytes at ≡ bytes
write_read bytes at r h e =
    let there = take 32 (drop at bytes) in
    let was = was_whole (room_at bytes at) (record_at bytes at) r e in
    let room = leb-true (at + 32) (length bytes) was.0 in
    let size : length there ≡ 32 = length-take-le 32 (drop at bytes) (rw length-drop (omega arith)) in
    rw (was.0, ← was.1, bytes_back there (bytes_take 32 (drop at bytes) (bytes_drop at bytes h)) size, ← take-add at 32 bytes) (take-append-drop (at + 32) bytes)
