-- What stands at the front of a line's buffer, and how it grows.
use Prim.Native.Nat.{ℕ, ◌+◌, ◌%◌, ◌^◌, ◌≤◌, ◌<◌}
use mathlib.Core.Path.{◌≡◌, refl, sym, ◌∙◌, ap}
use mathlib.Core.List.{List, [], ◌++◌}
use native.Mathlib.Nat.{zero-add}
use native.Mathlib.Omega.{arith}
use borrow.Author.Tests.{le-leb}
use lib.ListN.{length, get_or, take, drop, length-append, length-drop, get_or-append}
use lib.Seq.{sets, sets-eq, take_at, get_or_at, get_or-take, length-take-le}
use Rattle.records.specs.Record.{bytes_of, written_at, InRange}
use Rattle.records.specs.declared.Record.{Record}
use Rattle.composing.specs.Composed.{longest_event}
use Rattle.words.specs.Values.{values_of, record_from}

-- so many bytes of the buffer are filled, and these are they
pub record Holds (staged : ℕ) (out bytes : List ℕ) : Type 0 where
  pub size : length out ≡ longest_event
  pub within : staged ≤ longest_event
  pub front : take staged out ≡ bytes

-- an empty buffer
pub holds_none : (out : List ℕ) → length out ≡ longest_event → Holds 0 out []
holds_none out h = record { size = h; within = omega arith; front = refl }

module _ {s : ℕ} {out bytes : List ℕ} (h : Holds s out bytes) where
  -- As many bytes are held as are filled.
  pub holds_length : length bytes ≡ s
  holds_length = rw (sym h.front) (length-take-le s out (omega arith))

  -- Each of them stands in its place.
  pub holds_at : (i : ℕ) → i < s → get_or out i 0 ≡ get_or bytes i 0
  holds_at i l = sym (get_or-take s out i 0 l) ∙ ap (λ (b : List ℕ). get_or b i 0) h.front

  -- Bytes that are put behind them are held too.
  holds_more : (k : ℕ) (new : List ℕ) → length new ≡ k → s + k ≤ longest_event → Holds (s + k) (take s out ++ new ++ drop (s + k) out) (bytes ++ new)
  holds_more k new e room =
      let here : length (take s out) ≡ s = length-take-le s out (omega arith) in
      let both : length (take s out ++ new) ≡ s + k = rw (length-append, here, e) in
      record {
        size = rw (length-append, both, length-drop) (omega (arith, h.size));
        within = room;
        front = take_at (take s out ++ new) (drop (s + k) out) (s + k) both ∙ ap (λ (b : List ℕ). b ++ new) h.front;
      }

  -- So is a record.
  pub holds_record : (r : Record) → s + 32 ≤ longest_event → Holds (s + 32) (written_at r out s) (bytes ++ bytes_of r)
  holds_record r room = rw (le-leb (s + 32) (length out) (omega arith)) (holds_more 32 (bytes_of r) refl room)

-- Bytes that are put at the front are held.
pub holds_bytes : (out bytes : List ℕ) → length out ≡ longest_event → length bytes ≤ longest_event → Holds (length bytes) (sets out 0 bytes) bytes
holds_bytes out bytes h room =
    let put : sets out 0 bytes ≡ take 0 out ++ bytes ++ drop (0 + length bytes) out = sets-eq bytes out 0 (omega arith) in
    rw (put, zero-add) (rw zero-add at (holds_more (holds_none out h) (length bytes) bytes refl (omega arith)))

-- A record that is written where there is room: the buffer is as long as before, the bytes before it stay, and its kind is its first.
module _ (r : Record) (out : List ℕ) (s : ℕ) (room : s + 32 ≤ length out) where
  here : length (take s out) ≡ s
  here = length-take-le s out (omega arith)

  pub written_size : length (written_at r out s) ≡ length out
  written_size = rw (le-leb (s + 32) (length out) room, length-append, length-append, here, length-drop) (omega arith)

  pub written_before : (i : ℕ) → i < s → get_or (written_at r out s) i 0 ≡ get_or out i 0
  written_before i h =
      rw (le-leb (s + 32) (length out) room)
      (get_or-append (take s out ++ bytes_of r) (drop (s + 32) out) 0 i (rw (length-append, here) (omega arith))
      ∙ get_or-append (take s out) (bytes_of r) 0 i (rw here h)
      ∙ get_or-take s out i 0 h)

  pub written_at_lem : get_or (written_at r out s) s 0 ≡ r.kind
  written_at_lem =
      rw (le-leb (s + 32) (length out) room)
      (get_or-append (take s out ++ bytes_of r) (drop (s + 32) out) 0 s (rw (length-append, here) (omega arith))
      ∙ get_or_at (take s out) r.kind (drop 1 (bytes_of r)) 0 s here)

-- The record of its fields is the record.
pub fields_back : (r : Record) → InRange r → record_from (values_of r) ≡ r
fields_back r h =
    let one : (n : ℕ) → n < 2 ^ 8 → n % 256 ≡ n = λ n l. omega arith in
    let two : (n : ℕ) → n < 2 ^ 16 → n % 65536 ≡ n = λ n l. omega arith in
    let four : (n : ℕ) → n < 2 ^ 32 → n % 4294967296 ≡ n = λ n l. omega arith in
    λ i. record {
      kind = one r.kind h.kind i;
      neighbour = one r.neighbour h.neighbour i;
      old = record { 0 = two r.old.0 h.old i };
      new = record { 0 = two r.new.0 h.new i };
      first = two r.first h.first i;
      second = two r.second h.second i;
      reason = one r.reason h.reason i;
      byte11 = one r.byte11 h.byte11 i;
      number = four r.number h.number i;
      time = r.time;
      erab = one r.erab h.erab i;
      qci = one r.qci h.qci i;
      priority = one r.priority h.priority i;
      flags = one r.flags h.flags i;
      bytes28 = four r.bytes28 h.bytes28 i;
    }
