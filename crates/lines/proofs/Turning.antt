-- What holds of a run at each event of a block: what it still does is, with what it did, what it does with the block.
use Rattle.std.proofs.Common.{◌≡◌, ℕ, suc, ◌+◌, ◌-◌, ◌%◌, ◌^◌, ◌<◌, ◌≤◌, Bool, true, false, ◌&&◌, leb, List, ◌++◌, length, take, drop, sym, ap, ◌∙◌, zero-add, arith, length-drop, take_all, leb-true}
use lib.Seq.{sets, length-sets}
use Rattle.laws.proofs.Tests.{both_true}
use Rattle.records.specs.Stream.{piece_of, first_of}
use Rattle.records.specs.declared.stream.Piece.{Piece}
use Rattle.records.proofs.Cutting as cutting
use Rattle.table.specs.declared.Answer.{Answer}
use Rattle.table.specs.declared.Station.{Station}
use Rattle.table.specs.Reached.{Reached}
use Rattle.lines.specs.declared.Run.{Run}
use Rattle.lines.specs.Lines.{longest, line_of, is_whole, answer_to, verdict_room, Work, goes_on, onward, work_on, work_of, progress}
use Rattle.lines.proofs.Longest.{line_most}
use Rattle.lines.proofs.Going.{some_byte, goes, stops}
use Rattle.buffers.specs.Buffers.{Writes}
use Rattle.buffers.proofs.Writing.{joined}

-- the part of a block from a place on
pub part : (bytes : List ℕ) (at : ℕ) → take (length bytes - at) (drop at bytes) ≡ drop at bytes
part bytes at = take_all (length bytes - at) (drop at bytes) (omega (arith, length-drop at bytes))

-- the run as it is
abbrev pub working : Station → ℕ → ℕ → List ℕ → Work
working station place taken text = record { run = record { station = station; place = place }; taken = taken; text = text }

-- the run at an event: what it wrote so far, and how many events more there may be at most
pub record Head (bytes : List ℕ) (ended : Bool) (buffer : List ℕ) (run : Run) (out : List ℕ) (station : Station) (place taken written : ℕ) (piece : Piece) : Type 0 where
  pub text : List ℕ
  pub most : ℕ
  pub front : piece ≡ piece_of (drop taken bytes)
  pub reached : Reached station
  pub within_block : taken ≤ length bytes
  pub enough : length bytes ≤ taken + most
  pub within_buffer : written ≤ length buffer
  pub wrote : Writes buffer out 0 text written
  pub goes_on_lem : work_on most ended (length buffer) bytes (working station place taken text) ≡ work_of ended (length buffer) bytes run

module _ {bytes : List ℕ} {ended : Bool} {buffer : List ℕ} {run : Run} {out : List ℕ} {station : Station} {place taken written : ℕ} {piece : Piece}
    (head : Head bytes ended buffer run out station place taken written piece) where
  pub size_left : piece.size ≤ length bytes - taken
  size_left = rw head.front (omega (arith, (cutting.onward (drop taken bytes)).0, length-drop taken bytes))

  size_written : written ≡ length head.text
  size_written = head.wrote.next ∙ zero-add _

  pub same_length : length out ≡ length buffer
  same_length = ap length head.wrote.bytes ∙ length-sets buffer 0 head.text

  -- What was found of the piece, and of the room with it, is the definition's test.
  module _ {whole : Bool} (found : whole ≡ is_whole ended piece) where
    tested : (whole && leb longest (length out - written)) ≡ goes_on ended (length buffer) bytes (working station place taken head.text)
    tested = rw (found, head.front, same_length, size_written)

    pub returned : (whole && leb longest (length out - written)) ≡ false
        → (record { run = record { station = station; place = place }; taken = taken; written = written } ≡ progress (work_of ended (length buffer) bytes run))
        × (out ≡ sets buffer 0 (work_of ended (length buffer) bytes run).text)
        × Reached station
    returned t =
        let done = sym (stops head.most ended (length buffer) bytes (working station place taken head.text) (sym tested ∙ t)) ∙ head.goes_on_lem in (
          ap (λ (k : ℕ). record { run = record { station = station; place = place }; taken = taken; written = k }) size_written ∙ ap progress done,
          head.wrote.bytes ∙ ap (λ (w : Work). sets buffer 0 w.text) done,
          head.reached,
        )

    module _ (t : (whole && leb longest (length out - written)) ≡ true) where
      both : (whole ≡ true) × (leb longest (length out - written) ≡ true)
      both = both_true whole (leb longest (length out - written)) t

      pub has_room : written + longest ≤ length out
      has_room = omega (arith, leb-true longest (length out - written) both.1)

      pub some : 0 < piece.size
      some = rw head.front (some_byte ended (drop taken bytes) (rw head.front at (sym found ∙ both.0)))

      -- One event: the next head, from what the turn's calls gave.
      pub turned : (left : List ℕ) (a : Answer) (room place' end : ℕ) (piece' : Piece) → room ≡ verdict_room
          → a ≡ answer_to room station (take (taken + piece.size - taken) (drop taken bytes)) → Reached a.station
          → Writes out left written (line_of place a.outcome) end
          → place' ≡ (place + 1) % 2 ^ 64
          → piece' ≡ piece_of (take (length bytes - (taken + piece.size)) (drop (taken + piece.size) bytes))
          → Head bytes ended buffer run left a.station place' (taken + piece.size) end piece'
      turned left a room place' end piece' lent answer reached wrote counts next =
          let rest = drop taken bytes in
          let size = piece.size in
          let line = line_of place a.outcome in
          let most = head.most - 1 in
          let w = working station place taken head.text in
          let sized : size ≡ (piece_of rest).size = ap (λ (p : Piece). p.size) head.front in
          let span : taken + size - taken ≡ (piece_of rest).size = omega arith in
          let event : take (taken + size - taken) rest ≡ first_of rest = ap (λ (k : ℕ). take k rest) span in
          let given : a ≡ answer_to verdict_room station (first_of rest) = answer ∙ rw (lent, event) in
          let further : head.most ≡ suc most = omega (arith, some, size_left) in
          let moved : working a.station place' (taken + size) (head.text ++ line) ≡ onward bytes w = rw (given, counts, sized) in
          record {
            text = head.text ++ line;
            most = most;
            front = next ∙ ap piece_of (part bytes (taken + size));
            reached = reached;
            within_block = omega (arith, size_left);
            enough = omega (arith, some);
            within_buffer = omega (arith, line_most place a.outcome, has_room, same_length);
            wrote = joined head.wrote wrote;
            goes_on_lem =
                ap (work_on most ended (length buffer) bytes) moved
                ∙ sym (goes most ended (length buffer) bytes w (sym tested ∙ t))
                ∙ sym (ap (λ (k : ℕ). work_on k ended (length buffer) bytes w) further)
                ∙ head.goes_on_lem;
          }
