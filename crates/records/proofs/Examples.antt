-- Where each field stands, and how a stream is cut, at examples written out byte by byte.
use Prim.Native.Nat.{ℕ}
use mathlib.Core.Path.{◌≡◌, refl}
use mathlib.Core.Bool.{true, false}
use mathlib.Core.List.{List, [], ◌∷◌, ◌++◌, map}
use lib.ListN.{drop, replicate}
use Rattle.records.specs.declared.Record.{Record}
use Rattle.records.specs.Record.{little, record_of, bytes_of, zeros}
use Rattle.records.specs.Stream.{bearers_in, piece_of}

-- ---- fields

-- the bytes 0 to 31, each its own offset, and the record that they are, the lowest byte of a number first
abbrev offsets : List ℕ
offsets =
    0 ∷ 1 ∷ 2 ∷ 3 ∷ 4 ∷ 5 ∷ 6 ∷ 7 ∷ 8 ∷ 9 ∷ 10 ∷ 11 ∷ 12 ∷ 13 ∷ 14 ∷ 15
    ∷ 16 ∷ 17 ∷ 18 ∷ 19 ∷ 20 ∷ 21 ∷ 22 ∷ 23 ∷ 24 ∷ 25 ∷ 26 ∷ 27 ∷ 28 ∷ 29 ∷ 30 ∷ 31
    ∷ []

abbrev at_offsets : Record
at_offsets =
    record {
      kind = 0;
      neighbour = 1;
      old = record { 0 = 770 };
      new = record { 0 = 1284 };
      first = 1798;
      second = 2312;
      reason = 10;
      byte11 = 11;
      number = 252579084;
      time = 1663540288323457296;
      erab = 24;
      qci = 25;
      priority = 26;
      flags = 27;
      bytes28 = 522067228;
    }

pub layout : (record_of offsets ≡ at_offsets) × (bytes_of at_offsets ≡ offsets)
unfolding record_of little
layout = (refl, refl)

-- the record of zeros is 32 of them
pub zeros_bytes : bytes_of zeros ≡ replicate 32 0
zeros_bytes = refl

-- ---- a stream

-- a record of a kind with a number, zeros else
abbrev plain : ℕ → ℕ → List ℕ
plain kind number = kind ∷ replicate 11 0 ++ number ∷ replicate 19 0

-- a request of two bearers, three bearer records, a request of two with one bearer and a tick after it, and five bytes
abbrev stream : List ℕ
stream = plain 1 2 ++ plain 16 0 ++ plain 16 0 ++ plain 16 0 ++ plain 1 2 ++ plain 16 0 ++ plain 15 0 ++ replicate 5 1

-- the event at each place: the first request takes two of the three bearers; the third is an event of its own; the second request has
-- one, and takes no more; and the rest is short
pub cuts :
    map (λ at. piece_of (drop at stream)) (0 ∷ 96 ∷ 128 ∷ 192 ∷ 224 ∷ 229 ∷ [])
    ≡ record { head = record_of (plain 1 2); size = 96; whole = true }
    ∷ record { head = record_of (plain 16 0); size = 32; whole = true }
    ∷ record { head = record_of (plain 1 2); size = 64; whole = true }
    ∷ record { head = record_of (plain 15 0); size = 32; whole = true }
    ∷ record { head = zeros; size = 5; whole = false }
    ∷ record { head = zeros; size = 0; whole = false }
    ∷ []
unfolding record_of little bearers_in
cuts = refl

-- a request of two with one bearer after it, and fewer bytes than a record has: it may take more
pub cuts_open : piece_of (plain 1 2 ++ plain 16 0 ++ replicate 31 1) ≡ record { head = record_of (plain 1 2); size = 64; whole = false }
unfolding record_of little bearers_in
cuts_open = refl

-- a request of 257 bearers
abbrev too_many : List ℕ
too_many = 1 ∷ replicate 11 0 ++ 1 ∷ 1 ∷ replicate 18 0

-- a count of 0 or of 257 takes none: each is an event of its own
pub cuts_none :
    map piece_of ((plain 1 0 ++ plain 16 0) ∷ (too_many ++ plain 16 0) ∷ [])
    ≡ record { head = record_of (plain 1 0); size = 32; whole = true }
    ∷ record { head = record_of too_many; size = 32; whole = true }
    ∷ []
unfolding record_of little bearers_in
cuts_none = refl
