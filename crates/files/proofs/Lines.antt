-- A line that ends gives the records that were read in it.
use Prim.Native.Nat.{ℕ, ◌+◌, ◌*◌, ◌≤◌}
use mathlib.Core.Path.{◌≡◌, refl, sym, ap}
use mathlib.Core.Bool.{Bool, true, false, ◌&&◌, false≢true}
use mathlib.Core.List.{List, [], ◌∷◌, ◌++◌}
use native.Mathlib.Omega.{arith}
use borrow.Author.Tests.{le-leb, eqb-true}
use lib.Dec.{leb, eqb}
use lib.ListN.{length, get_or, take, drop}
use Rattle.laws.proofs.Tests.{both_true, refuted, on_false}
use Rattle.records.specs.Record.{bytes_of, written_at, InRange}
use Rattle.records.specs.declared.Record.{Record}
use Rattle.composing.specs.declared.Word.{Word}
use Rattle.composing.specs.declared.Draft.{Draft}
use Rattle.composing.specs.Composed.{longest_event, Made, made, new_draft, empty_word, takes_bearer, lacks_count, finished, stage, settle, counted, close, step}
use Rattle.words.specs.Values.{values_of}
use Rattle.composing.proofs.Machine.{lacks, close_on, step_end}
use Rattle.files.specs.Files.{composed_from}
use Rattle.files.proofs.Leading.{at, resting}
use Rattle.files.proofs.Filling.{Holds, holds_at, holds_record, fields_back}

-- the four bytes of a request's count, together
abbrev pub count_of : List ℕ → ℕ
count_of line = get_or line 12 0 + get_or line 13 0 + get_or line 14 0 + get_or line 15 0

-- a line whose last record is one by its words, to which so many bearers may still be added
pub record Spoken (owed : ℕ) (m : Made) (line : List ℕ) : Type 0 where
  pub staged : ℕ
  pub field : ℕ
  pub out : List ℕ
  pub before : List ℕ
  pub last : Record
  pub range : InRange last
  pub reading : m.draft.mode ≤ 2
  pub settled : settle m ≡ resting (values_of last) field 1 staged out
  pub holds : Holds staged out before
  pub whole : before ++ bytes_of last ≡ line
  pub room : staged + 32 + 32 * owed ≤ longest_event
  pub counts : 1 ≤ staged + owed → 1 ≤ count_of line
  pub takes : 1 ≤ owed → takes_bearer (resting (values_of last) field 1 staged out).draft ≡ true

-- a text after which a line gives these bytes, and another begins
pub record Ends (text : List ℕ) (m : Made) (line : List ℕ) : Type 0 where
  pub left : List ℕ
  pub size : length left ≡ longest_event
  pub gives : (rest : List ℕ) → composed_from (text ++ rest) m ≡ line ++ composed_from rest (made new_draft left)

-- the last four of tests that hold together
four : (a b c d e : Bool) → (a && b && c && d && e) ≡ true → (b ≡ true) × (c ≡ true) × (d ≡ true) × (e ≡ true)
four true true true true e t = (refl, refl, refl, t)
four true true true false e t = absurd (false≢true t)
four true true false d e t = absurd (false≢true t)
four true false c d e t = absurd (false≢true t)
four false b c d e t = absurd (false≢true t)

-- No count is put in where the first record has one, or is the only one.
not_lacking : (d : Draft) (out line : List ℕ) → Holds d.staged out line → (64 ≤ d.staged → 1 ≤ count_of line) → lacks_count d out ≡ false
not_lacking d out line h some =
    refuted (lacks_count d out)
    (λ t.
    let long : 64 ≤ d.staged = (lacks d out t).1 in
    let zero = four (eqb d.mode 1 && leb 64 d.staged && eqb (get_or out 0 0) 1) (eqb (get_or out 12 0) 0) (eqb (get_or out 13 0) 0) (eqb (get_or out 14 0) 0) (eqb (get_or out 15 0) 0) (both_true (leb 64 (length out)) _ t).1 in
    omega (
      arith,
      some long,
      eqb-true (get_or out 12 0) 0 zero.0,
      eqb-true (get_or out 13 0) 0 zero.1,
      eqb-true (get_or out 14 0) 0 zero.2,
      eqb-true (get_or out 15 0) 0 zero.3,
      holds_at h 12 (omega arith),
      holds_at h 13 (omega arith),
      holds_at h 14 (omega arith),
      holds_at h 15 (omega arith),
    ))

-- A record by its words is written behind those before it.
pub written : (r : Record) → InRange r → (s f : ℕ) (w : Word) (out before : List ℕ) → Holds s out before → s + 32 ≤ longest_event
    → stage (at (values_of r) f 1 s w out) ≡ at (values_of r) f 1 (s + 32) w (written_at r out s)
unfolding stage
written r h s f w out before held room =
    let fits : leb (s + 32) (length out) ≡ true = le-leb (s + 32) (length out) (omega arith) in
    rw fits (ap (λ (q : Record). at (values_of r) f 1 (s + 32) w (take s out ++ bytes_of q ++ drop (s + 32) out)) (fields_back r h))

-- A line feed ends a line that is closed so.
fed : (m : Made) (d : Draft) (left line : List ℕ) → made d left ≡ close m → d.mode ≤ 3 → Holds d.staged left line → Ends (10 ∷ []) m line
unfolding composed_from
fed m d left line e mode h =
    let over : made (finished d) left ≡ step m 10 = step_end m 10 d (finished d) left refl e refl in
    record {
      left = left;
      size = h.size;
      gives = λ rest. rw (sym over, le-leb d.mode 3 mode, h.front);
    }

-- A line feed ends a line whose last record is one by its words.
pub spoken_ends : {owed : ℕ} {m : Made} {line : List ℕ} → Spoken owed m line → Ends (10 ∷ []) m line
unfolding counted
spoken_ends {owed} {m} {line} s =
    let last = s.last in
    let now : Made = at (values_of last) s.field 1 (s.staged + 32) empty_word (written_at last s.out s.staged) in
    let held : Holds (s.staged + 32) now.out line = rw (sym s.whole) (holds_record s.holds last (omega arith)) in
    let kept : now ≡ counted now = sym (on_false (lacks_count now.draft now.out) _ _ (not_lacking now.draft now.out line held (λ l. s.counts (omega arith)))) in
    let stood : now ≡ stage (resting (values_of last) s.field 1 s.staged s.out) =
    sym (written last s.range s.staged s.field empty_word s.out s.before s.holds (omega arith))
    in
    fed m now.draft now.out line (close_on m _ now now s.reading (sym s.settled) stood kept) (omega arith) held

-- A line of bytes, and one in which nothing stands yet, stay as they are.
still : (v : List ℕ) (f mode s : ℕ) (out : List ℕ) → length out ≡ longest_event → eqb mode 1 ≡ false → mode ≤ 2 → resting v f mode s out ≡ close (resting v f mode s out)
unfolding close settle stage counted
still v f mode s out h t u = rw (le-leb mode 2 u, t, le-leb 64 (length out) (omega arith), t)

-- A line feed ends a line of bytes.
pub raw_ends : {s : ℕ} {out line : List ℕ} → Holds s out line → (v : List ℕ) (f : ℕ) → Ends (10 ∷ []) (resting v f 2 s out) line
raw_ends {s} {out} {line} h v f =
    fed (resting v f 2 s out) (resting v f 2 s out).draft out line (still v f 2 s out h.size refl (omega arith)) (omega arith) h

-- The text ends where a line begins: that line gives nothing.
pub nothing_more : (out : List ℕ) → length out ≡ longest_event → composed_from [] (made new_draft out) ≡ []
unfolding composed_from
nothing_more out h =
    rw (sym (step_end (made new_draft out) 10 new_draft (finished new_draft) out refl (still _ 15 0 0 out h refl (omega arith)) refl))
