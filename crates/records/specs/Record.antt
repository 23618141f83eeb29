-- Records of 32 bytes.
use Rattle.std.specs.Prelude.{ℕ, zero, suc, ◌+◌, ◌*◌, ◌/◌, ◌%◌, ◌^◌, ◌<◌, Bool, cond, List, [], ◌∷◌, ◌++◌, leb, length, take, drop, get_or, Option, Some, None}
use Rattle.records.specs.declared.Record.{Record}

-- "numbers little-endian": the number that bytes stand for, the lowest byte first
unfoldable pub little : List ℕ → ℕ
little [] = 0
little (b ∷ bs) = b + 256 * little bs

-- and the bytes, so many, that stand for a number
abbrev pub little_of : ℕ → ℕ → List ℕ
little_of zero n = []
little_of (suc width) n = n % 256 ∷ little_of width (n / 256)

-- the field of so many bytes at an offset
abbrev pub field_at : List ℕ → ℕ → ℕ → ℕ
field_at bytes offset width = little (take width (drop offset bytes))

-- "Byte 0 kind; 1 neighbour; 2-3 Old ID; 4-5 New ID; 6-7 first set; 8-9 second set; 10 reason; 11 zero; 12-15 number;
-- 16-23 time; 24 E-RAB ID; 25 QCI; 26 priority; 27 bit 0 set if GBR QoS Information is present; 28-31 zero"
unfoldable pub record_of : List ℕ → Record
record_of bytes =
    record {
      kind = field_at bytes 0 1;
      neighbour = field_at bytes 1 1;
      old = record { 0 = field_at bytes 2 2 };
      new = record { 0 = field_at bytes 4 2 };
      first = field_at bytes 6 2;
      second = field_at bytes 8 2;
      reason = field_at bytes 10 1;
      byte11 = field_at bytes 11 1;
      number = field_at bytes 12 4;
      time = field_at bytes 16 8;
      erab = field_at bytes 24 1;
      qci = field_at bytes 25 1;
      priority = field_at bytes 26 1;
      flags = field_at bytes 27 1;
      bytes28 = field_at bytes 28 4;
    }

-- the same bytes, from the fields
abbrev pub bytes_of : Record → List ℕ
bytes_of r =
    r.kind ∷ r.neighbour ∷ little_of 2 r.old.0 ++ little_of 2 r.new.0 ++ little_of 2 r.first
    ++ little_of 2 r.second ++ r.reason ∷ r.byte11 ∷ little_of 4 r.number ++ little_of 8 r.time
    ++ r.erab ∷ r.qci ∷ r.priority ∷ r.flags ∷ little_of 4 r.bytes28

-- a record of zeros
abbrev pub zeros : Record
zeros =
    record {
      kind = 0;
      neighbour = 0;
      old = record { 0 = 0 };
      new = record { 0 = 0 };
      first = 0;
      second = 0;
      reason = 0;
      byte11 = 0;
      number = 0;
      time = 0;
      erab = 0;
      qci = 0;
      priority = 0;
      flags = 0;
      bytes28 = 0;
    }

-- whether a whole record stands at a place, or has room there
abbrev pub room_at : List ℕ → ℕ → Bool
room_at bytes at = leb (at + 32) (length bytes)

-- the record at a place
abbrev pub record_at : List ℕ → ℕ → Record
record_at bytes at = record_of (take 32 (drop at bytes))

-- what reading at a place gives
abbrev pub read_at : List ℕ → ℕ → Option Record
read_at bytes at = cond (room_at bytes at) (Some (record_at bytes at)) None

-- what writing at a place leaves: "a short buffer is left as found"
abbrev pub written_at : Record → List ℕ → ℕ → List ℕ
written_at r bytes at = cond (room_at bytes at) (take at bytes ++ bytes_of r ++ drop (at + 32) bytes) bytes

-- a list of bytes
abbrev pub AreBytes : List ℕ → Type 0
AreBytes bytes = (i : ℕ) → get_or bytes i 0 < 2 ^ 8

-- each field fits its width
pub record InRange (r : Record) : Type 0 where
  pub kind : r.kind < 2 ^ 8
  pub neighbour : r.neighbour < 2 ^ 8
  pub old : r.old.0 < 2 ^ 16
  pub new : r.new.0 < 2 ^ 16
  pub first : r.first < 2 ^ 16
  pub second : r.second < 2 ^ 16
  pub reason : r.reason < 2 ^ 8
  pub byte11 : r.byte11 < 2 ^ 8
  pub number : r.number < 2 ^ 32
  pub time : r.time < 2 ^ 64
  pub erab : r.erab < 2 ^ 8
  pub qci : r.qci < 2 ^ 8
  pub priority : r.priority < 2 ^ 8
  pub flags : r.flags < 2 ^ 8
  pub bytes28 : r.bytes28 < 2 ^ 32

-- a record that is as another but for its kind, neighbour, number and time
abbrev pub altered : ℕ → ℕ → ℕ → ℕ → Record → Record
altered kind neighbour number time r =
    record {
      kind = kind;
      neighbour = neighbour;
      old = r.old;
      new = r.new;
      first = r.first;
      second = r.second;
      reason = r.reason;
      byte11 = r.byte11;
      number = number;
      time = time;
      erab = r.erab;
      qci = r.qci;
      priority = r.priority;
      flags = r.flags;
      bytes28 = r.bytes28;
    }
