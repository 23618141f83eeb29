-- One event a line: words make no record, one, or a request and bearers after it, and bytes are at most a record's. The record that is being
-- filled behind others is a bearer, since only that word begins one there, and no word gives a record another kind but the one right after
-- `kind`.
use Prim.Native.Nat.{ℕ, suc, ◌+◌, ◌*◌, ◌≤◌, ◌<◌}
use mathlib.Core.Path.{◌≡◌, refl, sym, ◌∙◌, ap}
use mathlib.Core.Bool.{true, false, ◌&&◌, ◌||◌, true≢false}
use mathlib.Core.List.{List, [], ◌∷◌}
use native.Mathlib.Omega.{arith}
use borrow.Author.Tests.{leb-true, leb-false, eqb-true, eqb-false}
use lib.Dec.{leb, eqb}
use lib.ListN.{length, get_or, set, length-set}
use lib.Seq.{get_or-set_other}
use Rattle.std.specs.Prelude.{Option, Some, None}
use Rattle.laws.proofs.Tests.{by_cases, both_true, on_true, on_false, below_at}
use Rattle.records.specs.Record.{room_at, written_at}
use Rattle.records.specs.declared.Record.{Record}
use Rattle.composing.specs.declared.Draft.{Draft}
use Rattle.composing.specs.Composed.{Made, made, fields, limits, is_gap, is_pair, hex_value, with_byte, looked_up, takes_bearer, may_begin, lacks_count, new_draft, on_draft, put, begun, chosen, commented, stage, hex, counted, understood, settle, close, typed, step, read_from, with_word, pushed}
use Rattle.words.specs.Values.{record_from, is_set}
use Rattle.words.specs.Words.{place_of}
use Rattle.files.specs.Files.{Records, OneEvent}
use Rattle.files.proofs.Filling.{written_size, written_before, written_at_lem}

-- a line of words that goes on: the record that is being filled behind others is a bearer, and the first of them a request
record Filling (m : Made) : Type 0 where
  event : Records m.draft.staged m.out
  none : m.draft.mode ≡ 0 → m.draft.staged ≡ 0
  first : 1 ≤ m.draft.staged → get_or m.out 0 0 ≡ 1
  kind : 1 ≤ m.draft.staged → get_or m.draft.values 0 0 ≡ 16
  field : 1 ≤ m.draft.staged → 1 ≤ m.draft.field

-- a line of words or of bytes that goes on; nothing is said of one that is over
record Open (m : Made) : Type 0 where
  words : m.draft.mode ≤ 1 → Filling m
  bytes : m.draft.mode ≡ 2 → m.draft.staged ≤ 32

over : (m : Made) → 2 < m.draft.mode → Open m
over m h = record { words = λ low. absurd (omega arith); bytes = λ two. absurd (omega arith) }

-- ---- a record is written

module _ (r : Record) (out : List ℕ) (s : ℕ) (room : s + 32 ≤ length out) where
  -- What stands first is a request, if it was or is now written.
  written_first : (1 ≤ s → get_or out 0 0 ≡ 1) → (s ≡ 0 → r.kind ≡ 1) → get_or (written_at r out s) 0 0 ≡ 1
  written_first before now =
      by_cases (leb 1 s)
      (λ t. written_before r out s room 0 (leb-true 1 s t) ∙ before (leb-true 1 s t))
      (λ t.
      let none : s ≡ 0 = omega (arith, leb-false 1 s t) in
      ap (λ (i : ℕ). get_or (written_at r out s) i 0) (sym none) ∙ written_at_lem r out s room ∙ now none)

-- One record more, which is the first or a bearer of a request.
more : {out : List ℕ} {s : ℕ} (r : Record) → s + 32 ≤ length out → Records s out → (1 ≤ s → (get_or out 0 0 ≡ 1) × (r.kind ≡ 16)) → Records (s + 32) (written_at r out s)
more {out} {s} r room e joins =
    record {
      count = suc e.count;
      whole = omega (arith, e.whole);
      within = rw (written_size r out s room) room;
      request = λ h. written_before r out s room 0 (omega (arith, e.whole)) ∙ (joins (omega (arith, e.whole))).0;
      bearers =
          λ i h l.
          by_cases (eqb i e.count)
          (λ t. rw (eqb-true i e.count t, sym e.whole) (written_at_lem r out s room ∙ (joins (omega (arith, e.whole, eqb-true i e.count t))).1))
          (λ t. written_before r out s room (32 * i) (omega (arith, e.whole, eqb-false i e.count t)) ∙ e.bearers i h (omega (arith, eqb-false i e.count t)));
    }

-- ---- what a word does

put_open : (m : Made) (n : ℕ) → Open m → Open (on_draft (λ d. put d n) m)
unfolding put
put_open m n was =
    let d = m.draft in
    by_cases (leb d.field 14 && leb n (get_or limits d.field 0))
    (λ t.
    rw t
    record {
      words =
          λ low.
          let f = was.words low in
          record {
            event = f.event;
            none = f.none;
            first = f.first;
            kind = λ h. get_or-set_other d.values d.field 0 _ 0 (λ same. omega (arith, f.field h)) ∙ f.kind h;
            field = λ h. by_cases (is_set d.field) (λ u. rw u (f.field h)) (λ u. rw u (omega arith));
          };
      bytes = was.bytes;
    })
    (λ t. rw t (over _ (omega arith)))

-- No word of a field names the kind.
named : (k : ℕ) → 17 < k → k ≤ 34 → 1 ≤ get_or fields k 0
named k g h =
    let each = below_at 35 (λ i. leb i 17 || leb 1 (get_or fields i 0)) k refl (omega arith) in
    by_cases (leb k 17) (λ t. omega (arith, leb-true k 17 t)) (λ t. leb-true 1 (get_or fields k 0) (rw t at each))

chosen_open : (m : Made) (k : ℕ) → 17 < k → k ≤ 34 → Open m → Open (on_draft (λ d. chosen d k) m)
unfolding chosen
chosen_open m k g h was =
    by_cases (eqb m.draft.mode 1)
    (λ t.
    let f = was.words (omega (arith, eqb-true m.draft.mode 1 t)) in
    rw t
    record {
      words = λ low. record { event = f.event; none = λ z. omega arith; first = f.first; kind = f.kind; field = λ l. named k g h };
      bytes = λ two. absurd (omega arith);
    })
    (λ t. rw t (over _ (omega arith)))

-- A kind's word stands first, or it is a bearer's behind its request.
begun_first : (m : Made) (k : ℕ) → m.draft.mode ≡ 0 → Open m → Open (on_draft (λ d. begun d k) (stage m))
unfolding begun stage
begun_first m k z was =
    let f = was.words (omega (arith, z)) in
    let s : m.draft.staged ≡ 0 = f.none z in
    rw z
    record {
      words = λ low. record { event = f.event; none = λ o. omega arith; first = λ l. omega arith; kind = λ l. omega arith; field = λ l. omega arith };
      bytes = λ two. absurd (omega arith);
    }

begun_bearer : (m : Made) → m.draft.mode ≡ 1 → takes_bearer m.draft ≡ true → Open m → Open (on_draft (λ d. begun d 16) (stage m))
unfolding begun stage
begun_bearer m o t was =
    let d = m.draft in
    let f = was.words (omega (arith, o)) in
    by_cases (room_at m.out d.staged)
    (λ u.
    let room : d.staged + 32 ≤ length m.out = leb-true (d.staged + 32) (length m.out) u in
    let r : Record = record_from d.values in
    let lead : get_or (written_at r m.out d.staged) 0 0 ≡ 1 =
    written_first r m.out d.staged room f.first (λ none. let one : get_or d.values 0 0 ≡ 1 = eqb-true (get_or d.values 0 0) 1 (rw none at t) in rw one)
    in
    let grown : Records (d.staged + 32) (written_at r m.out d.staged) =
    more r room f.event (λ h. (f.first h, rw (f.kind h)))
    in
    rw (o, u)
    record {
      words = λ low. record { event = rw u at grown; none = λ z. omega arith; first = λ l. rw u at lead; kind = λ l. refl; field = λ l. omega arith };
      bytes = λ two. absurd (omega arith);
    })
    (λ u. rw (o, u) (over _ (omega arith)))

begins : (m : Made) (k : ℕ) → may_begin m.draft k ≡ true → Open m → Open (on_draft (λ d. begun d k) (stage m))
begins m k u was =
    let d = m.draft in
    by_cases (eqb d.mode 0)
    (λ z. begun_first m k (eqb-true d.mode 0 z) was)
    (λ z.
    let takes = both_true (eqb d.mode 1 && eqb k 16) (takes_bearer d) (rw z at u) in
    let bearer = both_true (eqb d.mode 1) (eqb k 16) takes.0 in
    rw (eqb-true k 16 bearer.1) (begun_bearer m (eqb-true d.mode 1 bearer.0) takes.1 was))

understood_open : (m : Made) (k : ℕ) → Open m → Open (understood m k)
unfolding understood
understood_open m k was =
    by_cases (leb k 17)
    (λ t. by_cases (may_begin m.draft k) (λ u. rw (t, u) (begins m k u was)) (λ u. rw (t, u) (over _ (omega arith))))
    (λ t.
    let g : 17 < k = leb-false k 17 t in
    by_cases (leb k 34)
    (λ u. rw (t, u) (chosen_open m k g (leb-true k 34 u) was))
    (λ u.
    by_cases (eqb k 35)
    (λ v. rw (t, u, v) (put_open m 65535 was))
    (λ v.
    by_cases (eqb k 36 && eqb m.draft.mode 0)
    (λ w.
    let new = eqb-true m.draft.mode 0 (both_true (eqb k 36) (eqb m.draft.mode 0) w).1 in
    rw (t, u, v, w) record { words = λ low. absurd (omega arith); bytes = λ two. omega (arith, (was.words (omega (arith, new))).none new) })
    (λ w. rw (t, u, v, w) (over _ (omega arith))))))

-- One byte more is taken where there were fewer than a record has.
byte_open : (m : Made) (byte : Option ℕ) → m.draft.mode ≡ 2 → Open (with_byte m byte)
byte_open m None two = over _ (omega arith)
byte_open m (Some byte) two =
    by_cases (leb m.draft.staged 31)
    (λ t.
    by_cases (leb (length m.out) m.draft.staged)
    (λ u. rw (t, u) (over _ (omega arith)))
    (λ u. rw (t, u) record { words = λ low. absurd (omega (arith, two)); bytes = λ _. omega (arith, leb-true m.draft.staged 31 t) }))
    (λ t. rw t (over _ (omega arith)))

hex_open : (m : Made) → m.draft.mode ≡ 2 → Open (hex m)
unfolding hex
hex_open m two = byte_open m (hex_value m.draft.word) two

word_open : (m : Made) (place : Option ℕ) → Open m → Open (looked_up m place)
word_open m None was = over _ (omega arith)
word_open m (Some k) was = understood_open m k was

settle_open : (m : Made) → Open m → Open (settle m)
unfolding settle
settle_open m was =
    let w = m.draft.word in
    by_cases (eqb w.size 0)
    (λ t. rw t was)
    (λ t.
    by_cases (eqb m.draft.mode 2)
    (λ u. rw (t, u) (hex_open m (eqb-true m.draft.mode 2 u)))
    (λ u.
    let number : Made = on_draft (λ d. put d w.value) m in
    let word : Made = looked_up m (place_of w.text) in
    by_cases w.number
    (λ v. rw (t, u, on_true w.number number word v) (put_open m w.value was))
    (λ v. rw (t, u, on_false w.number number word v) (word_open m (place_of w.text) was))))

-- ---- the end of a line, and its bytes before that

-- A count is put into the first record, and no record's kind changes.
untouched : (out : List ℕ) (x y j : ℕ) → (j ≡ 12 → ⊥) → (j ≡ 13 → ⊥) → get_or (set (set out 12 x) 13 y) j 0 ≡ get_or out j 0
untouched out x y j a b = get_or-set_other (set out 12 x) 13 j y 0 b ∙ get_or-set_other out 12 j x 0 a

counted_event : (m : Made) → OneEvent m → OneEvent (counted m)
unfolding counted
counted_event m e =
    by_cases (lacks_count m.draft m.out)
    (λ t.
    rw t
    record {
      words =
          λ low.
          let r = e.words low in
          record {
            count = r.count;
            whole = r.whole;
            within = rw (length-set, length-set) r.within;
            request = λ h. untouched m.out _ _ 0 (λ s. omega arith) (λ s. omega arith) ∙ r.request h;
            bearers = λ i h l. untouched m.out _ _ (32 * i) (λ s. omega arith) (λ s. omega arith) ∙ r.bearers i h l;
          };
      bytes = e.bytes;
    })
    (λ t. rw t e)

staged_event : (m : Made) → Open m → OneEvent (stage m)
unfolding stage
staged_event m was =
    let d = m.draft in
    by_cases (eqb d.mode 1)
    (λ t.
    let one = eqb-true d.mode 1 t in
    by_cases (room_at m.out d.staged)
    (λ u.
    let f = was.words (omega (arith, one)) in
    let grown = more (record_from d.values) (leb-true (d.staged + 32) (length m.out) u) f.event (λ h. (f.first h, rw (f.kind h))) in
    rw (t, u) record { words = λ low. rw u at grown; bytes = λ two. absurd (omega (arith, one)) })
    (λ u. rw (t, u) record { words = λ low. absurd (omega arith); bytes = λ two. absurd (omega arith) }))
    (λ t. rw t record { words = λ low. (was.words low).event; bytes = was.bytes })

closed_event : (m : Made) → Open m → OneEvent (close m)
unfolding close
closed_event m was =
    by_cases (leb m.draft.mode 2)
    (λ t. rw t (counted_event (stage (settle m)) (staged_event (settle m) (settle_open m was))))
    (λ t.
    let high = leb-false m.draft.mode 2 t in
    rw t record { words = λ low. absurd (omega (arith, high)); bytes = λ two. absurd (omega (arith, high)) })

commented_over : (d : Draft) → 2 < (commented d).mode
commented_over d =
    by_cases (leb d.mode 2) (λ t. rw t (omega arith)) (λ t. rw t (leb-false d.mode 2 t))

typed_open : (m : Made) (b : ℕ) → Open m → Open (typed m b)
unfolding typed
typed_open m b was =
    let next = on_draft (λ d. with_word d (pushed d.word b)) m in
    by_cases (is_pair next.draft)
    (λ t. rw t (hex_open next (eqb-true m.draft.mode 2 (both_true (eqb m.draft.mode 2) _ t).0)))
    (λ t.
    rw t
    record {
      words = λ low. let f = was.words low in record { event = f.event; none = f.none; first = f.first; kind = f.kind; field = f.field };
      bytes = was.bytes;
    })

stepped : (m : Made) (b : ℕ) → Open m → (step m b).draft.ended ≡ false → Open (step m b)
unfolding step
stepped m b was =
    by_cases (eqb b 10)
    (λ t. rw t (λ going. absurd (true≢false going)))
    (λ t.
    by_cases (leb m.draft.mode 2)
    (λ u.
    by_cases (eqb b 35)
    (λ v. rw (t, u, v) (λ going. over _ (commented_over (close m).draft)))
    (λ v. by_cases (is_gap b) (λ w. rw (t, u, v, w) (λ going. settle_open m was)) (λ w. rw (t, u, v, w) (λ going. typed_open m b was))))
    (λ u. rw (t, u) (λ going. was)))

abbrev Going : Made → Type 0
Going m = m.draft.ended ≡ false → Open m

reading : (text : List ℕ) (m : Made) → Going m → Going (read_from text m)
unfolding read_from
reading [] m r = r
reading (b ∷ bs) m r =
    by_cases m.draft.ended
    (λ t. rw (on_true m.draft.ended m (read_from bs (step m b)) t) r)
    (λ t. rw (on_false m.draft.ended m (read_from bs (step m b)) t) (reading bs (step m b) (stepped m b (r t))))

-- Whatever stands in a line, once it is closed, by a line feed or by a comment, it makes one event.
pub one_event : (text out : List ℕ) → let m = read_from text (made new_draft out) in m.draft.ended ≡ false → OneEvent (close m)
one_event text out going =
    let none : Records 0 out = record { count = 0; whole = refl; within = omega arith; request = λ h. absurd (omega arith); bearers = λ i h l. absurd (omega arith) } in
    let empty : Filling (made new_draft out) =
    record { event = none; none = λ z. refl; first = λ h. absurd (omega arith); kind = λ h. absurd (omega arith); field = λ h. omega arith }
    in
    let start : Open (made new_draft out) = record { words = λ low. empty; bytes = λ two. absurd (omega arith) } in
    closed_event (read_from text (made new_draft out)) (reading text (made new_draft out) (λ e. start) going)
