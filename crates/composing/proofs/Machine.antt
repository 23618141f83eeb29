-- The machine, one case after the other: what each of its functions is where its tests are known.
use Prim.Native.Nat.{ℕ, suc, ◌+◌, ◌≤◌, ◌<◌}
use mathlib.Core.Path.{◌≡◌, refl, sym, ◌∙◌, ap}
use mathlib.Core.Bool.{Bool, true, false, ◌&&◌, false≢true}
use mathlib.Core.List.{List}
use native.Mathlib.Numerals.{add-one}
use native.Mathlib.Omega.{arith}
use borrow.Author.Tests.{leb-true, le-leb, lt-leb, ltb-true, ltb-false, eq-eqb, eqb-true, ne_eqb}
use lib.Dec.{leb, ltb, eqb}
use lib.ListN.{length, get_or, drop, drop_of_length-le, set}
use lib.Seq.{drop-cons}
use Rattle.std.specs.Prelude.{Some}
use Rattle.laws.proofs.Tests.{by_cases, both_true, on_true, on_false}
use Rattle.composing.specs.declared.Draft.{Draft}
use Rattle.composing.specs.Composed.{hex_value, appended, may_begin, Made, made, on_draft, begun, chosen, put, pushed, with_word, is_pair, is_gap, lacks_count, counted, stage, hex, understood, looked_up, settle, close, finished, typed, passes, step, read_from, taken_from}
use Rattle.words.specs.Words.{last_kind, last_field, place_of}

-- no space is the beginning of a comment
no_hash : (byte : ℕ) → is_gap byte ≡ true → eqb byte 35 ≡ false
no_hash byte g = by_cases (eqb byte 35) (λ t. absurd (false≢true (rw (eqb-true byte 35 t) at g))) (λ t. t)

-- a word of the table
module _ (m : Made) (k : ℕ) where
  pub a_kind : (d e : Draft) (left : List ℕ) → k ≤ last_kind → may_begin m.draft k ≡ true → made d left ≡ stage m → e ≡ begun d k → made e left ≡ understood m k
  unfolding understood
  a_kind d e left h t s b = rw (le-leb k last_kind h, b) (ap (on_draft (λ x. begun x k)) s ∙ sym (on_true (may_begin m.draft k) _ _ t))

  pub a_field : (e : Draft) → last_kind < k → k ≤ last_field → e ≡ chosen m.draft k → made e m.out ≡ understood m k
  unfolding understood
  a_field e g h b = rw (lt-leb k last_kind g, le-leb k last_field h, b)

-- a word that has ended
module _ (m : Made) where
  pub settle_number : (e : Draft) → (m.draft.word.size ≡ 0 → ⊥) → (m.draft.mode ≡ 2 → ⊥) → m.draft.word.number ≡ true → e ≡ put m.draft m.draft.word.value → made e m.out ≡ settle m
  unfolding settle
  settle_number e h i t b = rw (ne_eqb m.draft.word.size 0 h, ne_eqb m.draft.mode 2 i, b) (sym (on_true m.draft.word.number _ _ t))

  pub settle_word : (k : ℕ) (last : Made) → (m.draft.word.size ≡ 0 → ⊥) → (m.draft.mode ≡ 2 → ⊥) → m.draft.word.number ≡ false → Some k ≡ place_of m.draft.word.text → last ≡ understood m k → last ≡ settle m
  unfolding settle
  settle_word k last h i t e f = rw (ne_eqb m.draft.word.size 0 h, ne_eqb m.draft.mode 2 i) (f ∙ ap (looked_up m) e ∙ sym (on_false m.draft.word.number _ _ t))

  -- a line whose words have ended
  pub close_on : (a b last : Made) → m.draft.mode ≤ 2 → a ≡ settle m → b ≡ stage a → last ≡ counted b → last ≡ close m
  unfolding close
  close_on a b last h e f g = rw (le-leb m.draft.mode 2 h) (g ∙ ap counted (f ∙ ap stage e))

  -- a byte of a word
  pub typed_pair : (byte : ℕ) (d : Draft) (last : Made) → d ≡ with_word m.draft (pushed m.draft.word byte) → is_pair d ≡ true → last ≡ hex (made d m.out) → last ≡ typed m byte
  unfolding typed
  typed_pair byte d last e t f = rw (ap is_pair (sym e) ∙ t) (f ∙ ap (λ (x : Draft). hex (made x m.out)) e)

  pub typed_on : (byte : ℕ) (d : Draft) → d ≡ with_word m.draft (pushed m.draft.word byte) → is_pair d ≡ false → made d m.out ≡ typed m byte
  unfolding typed
  typed_on byte d e t = rw (ap is_pair (sym e) ∙ t) (ap (λ (x : Draft). made x m.out) e)

  -- a byte of the text
  pub step_end : (byte : ℕ) (d e : Draft) (left : List ℕ) → byte ≡ 10 → made d left ≡ close m → e ≡ finished d → made e left ≡ step m byte
  unfolding step
  step_end byte d e left h s b = rw (eq-eqb byte 10 h, b) (ap (on_draft finished) s)

  pub step_gap : (byte : ℕ) (last : Made) → (byte ≡ 10 → ⊥) → m.draft.mode ≤ 2 → (byte ≡ 35 → ⊥) → is_gap byte ≡ true → last ≡ settle m → last ≡ step m byte
  unfolding step
  step_gap byte last h i j t e = rw (ne_eqb byte 10 h, le-leb m.draft.mode 2 i, ne_eqb byte 35 j, t) e

  pub step_typed : (byte : ℕ) (last : Made) → (byte ≡ 10 → ⊥) → m.draft.mode ≤ 2 → (byte ≡ 35 → ⊥) → is_gap byte ≡ false → last ≡ typed m byte → last ≡ step m byte
  unfolding step
  step_typed byte last h i j t e = rw (ne_eqb byte 10 h, le-leb m.draft.mode 2 i, ne_eqb byte 35 j, t) e

  -- a byte that changes nothing
  pub step_passed : (byte : ℕ) → passes m.draft byte ≡ true → m ≡ step m byte
  unfolding step settle
  step_passed byte p =
      by_cases (eqb byte 10)
      (λ t. absurd (false≢true (rw t at p)))
      (λ t. by_cases (ltb 2 m.draft.mode)
      (λ o. rw (t, lt-leb m.draft.mode 2 (ltb-true 2 m.draft.mode o)) refl)
      (λ o.
      let parts = both_true (is_gap byte) (eqb m.draft.word.size 0) (rw (t, o) at p) in
      rw (t, le-leb m.draft.mode 2 (ltb-false 2 m.draft.mode o), no_hash byte parts.0, parts.0, parts.1) refl))

-- A byte of two hexadecimal digits, where a record has room for it.
pub hex_on : (m : Made) (byte : ℕ) (e : Draft) → Some byte ≡ hex_value m.draft.word → m.draft.staged ≤ 31 → m.draft.staged < length m.out → e ≡ appended m.draft → made e (set m.out m.draft.staged byte) ≡ hex m
unfolding hex
hex_on m byte e v few room b = rw (sym v, le-leb m.draft.staged 31 few, lt-leb (length m.out) m.draft.staged room, b)

-- the second of seven tests that hold together
second : (a b c d e f g : Bool) → (a && b && c && d && e && f && g) ≡ true → b ≡ true
second true true c d e f g t = refl
second true false c d e f g t = t
second false b c d e f g t = absurd (false≢true t)

-- Where a request lacks its count, the buffer and what stands in it hold two records.
pub lacks : (d : Draft) (out : List ℕ) → lacks_count d out ≡ true → (64 ≤ length out) × (64 ≤ d.staged)
lacks d out t =
    let whole = both_true (leb 64 (length out)) _ t in
    let more = second (eqb d.mode 1) (leb 64 d.staged) (eqb (get_or out 0 0) 1) (eqb (get_or out 12 0) 0) (eqb (get_or out 13 0) 0) (eqb (get_or out 14 0) 0) (eqb (get_or out 15 0) 0) whole.1 in
    (leb-true 64 (length out) whole.0, leb-true 64 d.staged more)

-- One byte of a line, and those after it.
module _ (bytes : List ℕ) (taken : ℕ) (m : Made) where
  pub read_on : (next : Made) → taken < length bytes → m.draft.ended ≡ false → next ≡ step m (get_or bytes taken 0)
      → (read_from (drop (taken + 1) bytes) next ≡ read_from (drop taken bytes) m) × (taken + 1 + taken_from (drop (taken + 1) bytes) next ≡ taken + taken_from (drop taken bytes) m)
  unfolding read_from taken_from
  read_on next h t e =
      let one : taken_from (drop taken bytes) m ≡ suc (taken_from (drop (taken + 1) bytes) next) = rw (drop-cons bytes taken 0 h, e, add-one taken) (on_false m.draft.ended _ _ t) in
      (rw (drop-cons bytes taken 0 h, e, add-one taken) (sym (on_false m.draft.ended _ _ t)), omega (arith, one))

  -- Nothing more is read where the line has ended, or where no byte is left.
  pub read_over : taken < length bytes → m.draft.ended ≡ true → (m ≡ read_from (drop taken bytes) m) × (taken ≡ taken + taken_from (drop taken bytes) m)
  unfolding read_from taken_from
  read_over h t =
      let none : taken_from (drop taken bytes) m ≡ 0 = rw (drop-cons bytes taken 0 h) (on_true m.draft.ended _ _ t) in
      (rw (drop-cons bytes taken 0 h) (sym (on_true m.draft.ended _ _ t)), omega (arith, none))

  pub read_out : length bytes ≤ taken → (m ≡ read_from (drop taken bytes) m) × (taken ≡ taken + taken_from (drop taken bytes) m)
  unfolding read_from taken_from
  read_out h =
      let none : taken_from (drop taken bytes) m ≡ 0 = rw (drop_of_length-le bytes {i = taken} h) in
      (rw (drop_of_length-le bytes {i = taken} h), omega (arith, none))
