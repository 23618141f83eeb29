-- Showing a file and composing the text gives the same file, byte for byte.
use Prim.Native.Nat.{ℕ, zero, suc, ◌+◌, ◌*◌, ◌-◌, ◌/◌, ◌%◌, ◌≤◌}
use mathlib.Core.Path.{◌≡◌, refl, sym, ◌∙◌, ap}
use mathlib.Core.Bool.{true, false, cond, false≢true}
use mathlib.Core.List.{List, [], ◌∷◌, ◌++◌, append_assoc, append-nil}
use native.Mathlib.Omega.{arith}
use borrow.Author.Tests.{le-leb, leb-true, eq-eqb, eqb-true}
use lib.Dec.{leb, eqb}
use lib.ListN.{length, take, drop, length-drop, take-append-drop, get_or-append}
use lib.Seq.{length-take-le, take_all}
use Rattle.laws.proofs.Tests.{both_true, by_cases, on_false}
use Rattle.records.specs.Record.{record_of, bytes_of, written_at, AreBytes, InRange}
use Rattle.records.specs.Stream.{takes_bearers}
use Rattle.records.specs.declared.Record.{Record}
use Rattle.records.proofs.RoundTrip.{in_range_lem, bytes_back, bytes_take, bytes_drop}
use Rattle.showing.specs.declared.Sheet.{Sheet}
use Rattle.composing.specs.Composed.{longest_event, Made, made, new_draft, blank_values, takes_bearer, stage, step}
use Rattle.words.specs.Values.{values_of}
use Rattle.showing.specs.Shown.{end_text, joins, new_sheet, sheet_after, has_word, words_text, raw_text, record_text, event_text, rest_text}
use Rattle.laws.proofs.Tests.{between}
use Rattle.composing.proofs.Machine.{step_gap}
use Rattle.files.specs.Files.{shown_from, shown_file, composed_from, composed_in}
use Rattle.files.proofs.Leading.{resting, leads_on, leads_to, Reads}
use Rattle.files.proofs.Fields.{record_read}
use Rattle.files.proofs.Filling.{Holds, holds_none, holds_length, holds_record, holds_bytes}
use Rattle.files.proofs.Raw.{raw_read}
use Rattle.files.proofs.Lines.{count_of, Spoken, Ends, written, spoken_ends, raw_ends, nothing_more}

-- the line that is open on a sheet
record Open (s : Sheet) (m : Made) (line : List ℕ) : Type 0 where
  ends : Ends (end_text s.begun) m line
  spoken : 1 ≤ s.owed → Spoken s.owed m line

-- a text after which some lines have ended and one is open, with these bytes in all
record Onward (text : List ℕ) (m : Made) (s : Sheet) (bytes : List ℕ) : Type 0 where
  given : List ℕ
  line : List ℕ
  now : Made
  gives : (rest : List ℕ) → composed_from (text ++ rest) m ≡ given ++ composed_from rest now
  stands : Open s now line
  same : given ++ line ≡ bytes

-- A request's count is not lost on its line, whatever comes after the request.
count_kept : (line more : List ℕ) → 16 ≤ length line → count_of (line ++ more) ≡ count_of line
count_kept line more h =
    rw (get_or-append line more 0 12 (omega arith), get_or-append line more 0 13 (omega arith), get_or-append line more 0 14 (omega arith), get_or-append line more 0 15 (omega arith))

-- how many bearers may follow a record that begins a line
abbrev owed_by : Record → ℕ
owed_by r = cond (takes_bearers r) r.number 0

-- They have room, and they follow only a request with a count.
owed_facts : (r : Record) → (owed_by r ≤ 256) × (1 ≤ owed_by r → 1 ≤ count_of (bytes_of r)) × (1 ≤ owed_by r → eqb r.kind 1 ≡ true)
owed_facts r =
    by_cases (takes_bearers r)
    (λ t.
    let both = both_true (eqb r.kind 1) _ t in
    let some = between 1 256 r.number both.1 in
    let high : r.number / 256 % 256 ≡ r.number / 256 = omega arith in
    let low : 1 ≤ r.number % 256 + r.number / 256 = omega arith in
    rw t (some.1, λ h. omega arith, λ h. both.0))
    (λ t. rw t (omega arith, λ h. omega arith, λ h. absurd (omega arith)))

-- None follows a record of a kind without a word.
owed_none : (r : Record) → has_word r.kind ≡ false → owed_by r ≡ 0
owed_none r t =
    by_cases (takes_bearers r)
    (λ u. let one : r.kind ≡ 1 = eqb-true r.kind 1 (both_true (eqb r.kind 1) _ u).0 in absurd (false≢true (sym t ∙ ap has_word one)))
    (λ u. on_false (takes_bearers r) _ _ u)

-- A new line gives the bytes of a record of a kind without a word, and no bearer follows it.
raw_line : (bytes : List ℕ) → AreBytes bytes → length bytes ≡ 32 → has_word (record_of bytes).kind ≡ false → (out : List ℕ) → length out ≡ longest_event
    → Onward (raw_text bytes) (made new_draft out) record { owed = owed_by (record_of bytes); begun = true } bytes
raw_line bytes h size t out room =
    let held = holds_bytes out bytes room (omega arith) in
    record {
      given = [];
      line = bytes;
      now = _;
      gives = raw_read bytes h (blank_values 0) out 15 (omega arith) (omega arith);
      stands = record { ends = raw_ends held (blank_values 0) 15; spoken = λ l. absurd (omega (arith, owed_none (record_of bytes) t)) };
      same = refl;
    }

-- A line ends, and what begins after it is read on a new one.
after_end : (gap text : List ℕ) (m : Made) (s : Sheet) (line bytes : List ℕ) → Ends gap m line
    → ((out : List ℕ) → length out ≡ longest_event → Onward text (made new_draft out) s bytes) → Onward (gap ++ text) m s (line ++ bytes)
after_end gap text m s line bytes e begins =
    let next = begins e.left e.size in
    record {
      given = line ++ next.given;
      line = next.line;
      now = next.now;
      gives = λ rest. rw (append_assoc gap text rest, e.gives (text ++ rest), next.gives rest, append_assoc line next.given);
      stands = next.stands;
      same = rw (append_assoc line next.given next.line, next.same);
    }

-- What is left of a record is read back, and nothing comes after it.
rest_back : (rest : List ℕ) → AreBytes rest → length rest ≤ 32 → (out : List ℕ) → length out ≡ longest_event → composed_from (rest_text rest) (made new_draft out) ≡ rest
rest_back rest h size out room =
    by_cases (eqb (length rest) 0)
    (λ t. rw t (nothing_more out room ∙ take_all 0 rest (omega (arith, eqb-true (length rest) 0 t))))
    (λ t.
    let over = raw_ends (holds_bytes out rest room (omega arith)) (blank_values 0) 15 in
    rw t (raw_read rest h (blank_values 0) out 15 size (omega arith) (10 ∷ []) ∙ over.gives [] ∙ rw (nothing_more over.left over.size) (append-nil rest)))

-- After a record's words a line is open that gives the record too.
spoken_on : (text : List ℕ) (m : Made) (r : Record) (owed g s : ℕ) (out before : List ℕ) → InRange r → Holds s out before → s + 32 + 32 * owed ≤ longest_event
    → (1 ≤ s + owed → 1 ≤ count_of (before ++ bytes_of r)) → (1 ≤ owed → takes_bearer (resting (values_of r) g 1 s out).draft ≡ true) → Reads text m (resting (values_of r) g 1 s out)
    → Onward text m record { owed = owed; begun = true } (before ++ bytes_of r)
spoken_on text m r owed g s out before h held room counts takes read =
    let spoken : Spoken owed read.end (before ++ bytes_of r) =
    record {
      staged = s;
      field = g;
      out = out;
      before = before;
      last = r;
      range = h;
      reading = read.reading;
      settled = read.settled;
      holds = held;
      whole = refl;
      room = room;
      counts = counts;
      takes = takes;
    }
    in
    record {
      given = [];
      line = before ++ bytes_of r;
      now = read.end;
      gives = read.leads;
      stands = record { ends = spoken_ends spoken; spoken = λ l. spoken };
      same = refl;
    }

-- A record by its words begins a line.
words_line : (r : Record) → InRange r → has_word r.kind ≡ true → (out : List ℕ) → length out ≡ longest_event
    → Onward (words_text r) (made new_draft out) record { owed = owed_by r; begun = true } (bytes_of r)
unfolding stage
words_line r h t out room =
    let read = record_read r h (between 1 17 r.kind t).1 (blank_values 0) 15 0 0 0 out out (omega arith) refl (λ w. refl) in
    let facts = owed_facts r in
    spoken_on (words_text r) (made new_draft out) r (owed_by r) read.0 0 out [] h (holds_none out room) (omega (arith, facts.0)) (λ l. facts.1 (omega arith)) facts.2 read.1

-- A bearer joins the line of its request.
joined : (r : Record) → InRange r → r.kind ≡ 16 → {owed : ℕ} {m : Made} {line : List ℕ} → 1 ≤ owed → Spoken owed m line
    → Onward ((32 ∷ []) ++ words_text r) m record { owed = owed - 1; begun = true } (line ++ bytes_of r)
joined r h kind {owed} {m} {line} some s =
    let last = s.last in
    let then = written_at last s.out s.staged in
    let gap : resting (values_of last) s.field 1 s.staged s.out ≡ step m 32 = step_gap m 32 _ (λ e. omega arith) s.reading (λ e. omega arith) refl (sym s.settled) in
    let read = record_read r h (omega arith) (values_of last) s.field 1 s.staged (s.staged + 32) s.out then (omega arith) (rw (eq-eqb r.kind 16 kind) (s.takes some)) (λ w. written last s.range s.staged s.field w s.out s.before s.holds (omega arith)) in
    let held : Holds (s.staged + 32) then line = rw (sym s.whole) (holds_record s.holds last (omega arith)) in
    let counts : 1 ≤ count_of (line ++ bytes_of r) = rw (count_kept line (bytes_of r) (omega (arith, holds_length held))) (s.counts (omega arith)) in
    spoken_on ((32 ∷ []) ++ words_text r) m r (owed - 1) read.0 (s.staged + 32) then line h held (omega arith) (λ l. counts) (λ l. rw (le-leb 1 (s.staged + 32) (omega arith)))
    record {
      end = read.1.end;
      leads = leads_on (32 ∷ []) (words_text r) m _ _ (leads_to m _ 32 gap refl) read.1.leads;
      settled = read.1.settled;
      reading = read.1.reading;
    }

-- A record begins a line.
new_line : (bytes : List ℕ) → AreBytes bytes → length bytes ≡ 32 → (out : List ℕ) → length out ≡ longest_event
    → Onward (record_text bytes) (made new_draft out) record { owed = owed_by (record_of bytes); begun = true } bytes
new_line bytes h size out room =
    by_cases (has_word (record_of bytes).kind)
    (λ t. rw t (rw (bytes_back bytes h size) at (words_line (record_of bytes) (in_range_lem bytes h) t out room)))
    (λ t. rw t (raw_line bytes h size t out room))

-- Showing a record and composing the line gives that record.
pub one_back : (bytes out : List ℕ) → AreBytes bytes → length bytes ≡ 32 → length out ≡ longest_event → composed_in out (record_text bytes ++ (10 ∷ [])) ≡ bytes
one_back bytes out h size room =
    let shown = new_line bytes h size out room in
    let line = shown.stands.ends in
    shown.gives (10 ∷ [])
    ∙ ap (λ (more : List ℕ). shown.given ++ more) (line.gives [] ∙ rw (nothing_more line.left line.size, append-nil shown.line))
    ∙ shown.same

-- One record is read back, on the line that is open or on a new one.
record_back : (s : Sheet) (m : Made) (line bytes : List ℕ) → Open s m line → AreBytes bytes → length bytes ≡ 32
    → Onward (event_text s bytes) m (sheet_after s (record_of bytes)) (line ++ bytes)
record_back s m line bytes o h size =
    let r = record_of bytes in
    by_cases (joins s r)
    (λ j.
    let both = both_true (leb 1 s.owed) (eqb r.kind 16) j in
    let some = leb-true 1 s.owed both.0 in
    let kind : r.kind ≡ 16 = eqb-true r.kind 16 both.1 in
    rw (j, ap has_word kind) (rw (bytes_back bytes h size) at (joined r (in_range_lem bytes h) kind some (o.spoken some))))
    (λ j. rw j (after_end (end_text s.begun) (record_text bytes) m _ line bytes o.ends (new_line bytes h size)))

-- So are all records, and what is left after them.
records_back : (n : ℕ) (bytes : List ℕ) (s : Sheet) (m : Made) (line : List ℕ) → length bytes / 32 ≡ n → AreBytes bytes → Open s m line
    → composed_from (shown_from n bytes s) m ≡ line ++ bytes
unfolding shown_from
records_back zero bytes s m line e h o =
    rw (le-leb (length bytes) 31 (omega arith), o.ends.gives (rest_text bytes), rest_back bytes h (omega arith) o.ends.left o.ends.size)
records_back (suc n) bytes s m line e h o =
    let one = take 32 bytes in
    let rest = drop 32 bytes in
    let next = record_back s m line one o (bytes_take 32 bytes h) (length-take-le 32 bytes (omega arith)) in
    let more : composed_from (shown_from n rest (sheet_after s (record_of one))) next.now ≡ next.line ++ rest =
    records_back n rest _ next.now next.line (rw length-drop (omega arith)) (bytes_drop 32 bytes h) next.stands
    in
    let whole : (line ++ one) ++ rest ≡ line ++ bytes = rw (append_assoc line one rest, take-append-drop 32 bytes) in
    rw (le-leb 32 (length bytes) (omega arith), next.gives (shown_from n rest (sheet_after s (record_of one))), more, ← append_assoc next.given next.line rest, next.same) whole

-- Every file comes back; the buffer has room for the longest line, a request and 256 bearers.
pub file_back : (bytes out : List ℕ) → AreBytes bytes → length out ≡ longest_event → composed_in out (shown_file bytes) ≡ bytes
file_back bytes out h room =
    records_back (length bytes / 32) bytes new_sheet (made new_draft out) [] refl h
    record { ends = record { left = out; size = room; gives = λ rest. refl }; spoken = λ l. absurd (omega arith) }
