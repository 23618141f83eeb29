-- Two results that satisfy a contract are equal: what each public entry gives is settled by its arguments.
use Prim.Native.Nat.{ℕ}
use mathlib.Core.Path.{◌≡◌, sym, ◌∙◌}
use mathlib.Core.Bool.{Bool}
use mathlib.Core.List.{List}
use Rattle.std.proofs.Common.{Option}
use Rattle.records.specs.declared.Record.{Record}
use Rattle.records.specs.declared.stream.Piece.{Piece}
use Rattle.records.specs.Record.{zeros, read_at, room_at, written_at}
use Rattle.records.specs.Stream.{piece_of}

-- There is one record of zeros.
pub zeros_once : (a b : Record) → a ≡ zeros → b ≡ zeros → a ≡ b
zeros_once a b p q = p ∙ sym q

-- Of the same bytes there is one event at the front.
pub cut_once : (bytes : List ℕ) (a b : Piece) → a ≡ piece_of bytes → b ≡ piece_of bytes → a ≡ b
cut_once bytes a b p q = p ∙ sym q

module _ (bytes : List ℕ) (at : ℕ) where
  -- Of the same bytes and place there is one reading.
  pub read_once : (a b : Option Record) → a ≡ read_at bytes at → b ≡ read_at bytes at → a ≡ b
  read_once a b p q = p ∙ sym q

  -- Of the same record, buffer and place there is one answer, and one buffer afterwards.
  pub write_once : (r : Record) (a b : Bool) (v w : List ℕ)
      → (a ≡ room_at bytes at) × (v ≡ written_at r bytes at)
      → (b ≡ room_at bytes at) × (w ≡ written_at r bytes at)
      → (a ≡ b) × (v ≡ w)
  write_once r a b v w p q = (p.0 ∙ sym q.0, p.1 ∙ sym q.1)
