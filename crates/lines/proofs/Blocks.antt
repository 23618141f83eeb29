-- How a stream is cut into blocks does not matter: what a run writes of a block, and then of what is left of it and all that comes
-- after, is what it writes of the stream.
use Rattle.std.proofs.Common.{◌≡◌, ℕ, zero, suc, ◌-◌, ◌<◌, ◌≤◌, Bool, true, false, leb, List, [], ◌++◌, length, take, drop, sym, refl, ap, ◌∙◌, ⊎_elim, append_assoc, append-nil, arith, length-append, length-drop, drop-drop, le-leb, leb-false}
use mathlib.Core.Bool.{false≢true}
use borrow.Author.Tests.{lt-leb}
use lib.Seq.{take-append-le, drop-append-le}
use Rattle.laws.proofs.Tests.{by_cases, both_true, either_true, on_false}
use Rattle.records.specs.Stream.{piece_of, first_of}
use Rattle.records.specs.declared.stream.Piece.{Piece}
use Rattle.records.proofs.Cutting as cutting
use Rattle.records.proofs.Whole.{same_piece}
use Rattle.lines.specs.declared.Run.{Run}
use Rattle.lines.specs.Lines.{is_whole, answer_to, verdict_room, after, line_for, Work, beginning, goes_on, onward, work_on, work_of, lines_in, lines_of}
use Rattle.lines.proofs.Going.{some_byte, goes, stops}

-- An event that is taken is the same with more behind it; at the end nothing is.
same_front : (ended : Bool) (rest more : List ℕ) → (ended ≡ true → more ≡ []) → is_whole ended (piece_of rest) ≡ true → piece_of (rest ++ more) ≡ piece_of rest
same_front true rest more none t = ap piece_of (ap (λ (l : List ℕ). rest ++ l) (none refl) ∙ append-nil rest)
same_front false rest more none t =
    ⊎_elim (same_piece rest more) (λ never. absurd (false≢true never)) (either_true (piece_of rest).whole false t)

-- ---- the lines of a stream, event by event

-- as many events as bytes are enough
enough : (k j : ℕ) (run : Run) (stream : List ℕ) → length stream ≤ k → length stream ≤ j → lines_in k run stream ≡ lines_in j run stream
unfolding lines_in
enough zero zero run stream h i = refl
enough zero (suc j) run stream h i = rw (le-leb (length stream) 0 h)
enough (suc k) zero run stream h i = rw (le-leb (length stream) 0 i)
enough (suc k) (suc j) run stream h i =
    by_cases (leb (length stream) 0)
    (λ t. rw t)
    (λ t.
    let size = (piece_of stream).size in
    let some : 0 < size = (cutting.onward stream).1 (leb-false (length stream) 0 t) in
    let rest = drop size stream in
    let fewer : length rest ≡ length stream - size = length-drop size stream in
    on_false _ _ _ t
    ∙ ap (λ (l : List ℕ). line_for run stream ++ l) (enough k j (after run stream) rest (omega arith) (omega arith))
    ∙ sym (on_false _ _ _ t))

-- the first event of a stream, and the others
first_event : (run : Run) (stream : List ℕ) → 0 < length stream
    → lines_of run stream ≡ line_for run stream ++ lines_of (after run stream) (drop (piece_of stream).size stream)
unfolding lines_in
first_event run stream h =
    let most = length stream - 1 in
    let size = (piece_of stream).size in
    let rest = drop size stream in
    let some : 0 < size = (cutting.onward stream).1 h in
    let long : length stream ≡ suc most = omega arith in
    ap (λ (k : ℕ). lines_in k run stream) long
    ∙ on_false _ _ _ (lt-leb (length stream) 0 h)
    ∙ ap (λ (l : List ℕ). line_for run stream ++ l) (enough most (length rest) (after run stream) rest (omega (arith, length-drop size stream)) (omega arith))

-- the same with more behind it
first_whole : (ended : Bool) (run : Run) (rest more : List ℕ) → (ended ≡ true → more ≡ []) → is_whole ended (piece_of rest) ≡ true
    → lines_of run (rest ++ more) ≡ line_for run rest ++ lines_of (after run rest) (drop (piece_of rest).size rest ++ more)
first_whole ended run rest more none t =
    let size = (piece_of rest).size in
    let within : size ≤ length rest = (cutting.onward rest).0 in
    let same : (piece_of (rest ++ more)).size ≡ size = ap (λ (p : Piece). p.size) (same_front ended rest more none t) in
    let event : first_of (rest ++ more) ≡ first_of rest = ap (λ (k : ℕ). take k (rest ++ more)) same ∙ take-append-le size rest more within in
    let left : drop (piece_of (rest ++ more)).size (rest ++ more) ≡ drop size rest ++ more = ap (λ (k : ℕ). drop k (rest ++ more)) same ∙ drop-append-le size rest more within in
    first_event run (rest ++ more) (omega (arith, length-append rest more, some_byte ended rest t))
    ∙ rw (ap (answer_to verdict_room run.station) event, left)

-- ---- blocks

module _ (ended : Bool) (room : ℕ) (bytes more : List ℕ) (none : ended ≡ true → more ≡ []) where
  -- what is written, and what the rest of the stream gives
  abbrev total : Work → List ℕ
  total w = w.text ++ lines_of w.run (drop w.taken bytes ++ more)

  one : (w : Work) → goes_on ended room bytes w ≡ true → total (onward bytes w) ≡ total w
  one w t =
      let rest = drop w.taken bytes in
      let size = (piece_of rest).size in
      let whole : is_whole ended (piece_of rest) ≡ true = (both_true _ _ t).0 in
      rw (sym (drop-drop size w.taken bytes))
      (append_assoc w.text (line_for w.run rest) (lines_of (after w.run rest) (drop size rest ++ more))
      ∙ ap (λ (l : List ℕ). w.text ++ l) (sym (first_whole ended w.run rest more none whole)))

  all : (most : ℕ) (w : Work) → total (work_on most ended room bytes w) ≡ total w
  unfolding work_on
  all zero w = refl
  all (suc most) w =
      by_cases (goes_on ended room bytes w)
      (λ t. ap total (goes most ended room bytes w t) ∙ all most (onward bytes w) ∙ one w t)
      (λ t. ap total (stops (suc most) ended room bytes w t))

  -- What a run writes of a block, and then of what is left of it with all that comes after, is what it writes of the whole.
  pub carried_on : (run : Run)
      → (work_of ended room bytes run).text ++ lines_of (work_of ended room bytes run).run (drop (work_of ended room bytes run).taken bytes ++ more) ≡ lines_of run (bytes ++ more)
  carried_on run = all (length bytes) (beginning run)
