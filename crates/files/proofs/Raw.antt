-- Hexadecimal digits: the bytes that they were written for are read back.
use Prim.Native.Nat.{ℕ, suc, ◌+◌, ◌*◌, ◌-◌, ◌/◌, ◌%◌, ◌≤◌, ◌<◌}
use mathlib.Core.Path.{◌≡◌, refl, sym, ◌∙◌, ap}
use mathlib.Core.List.{List, [], ◌∷◌, ◌++◌}
use native.Mathlib.Nat.{zero-add}
use native.Mathlib.Numerals.{add-one}
use native.Mathlib.Omega.{arith}
use borrow.Author.Tests.{leb-true, leb-false, le-leb, lt-leb}
use lib.Dec.{leb}
use lib.ListN.{length, set, length-set}
use lib.Seq.{sets}
use Rattle.std.specs.Prelude.{Some}
use Rattle.laws.proofs.Tests.{by_cases}
use Rattle.records.specs.Record.{AreBytes}
use Rattle.composing.specs.Composed.{empty_word, pushed, nibble, hex_value, hex, understood, settle, typed, step}
use Rattle.showing.specs.Shown.{hex_digit, bytes_text, raw_text}
use Rattle.words.specs.Words.{word_at, trimmed, place_of}
use Rattle.composing.proofs.Machine.{hex_on, typed_on, typed_pair, step_typed}
use Rattle.files.specs.Files.{composed_from}
use Rattle.files.proofs.Leading.{at, resting, Leads, leads_on, leads_to, no_gap}

-- A digit stands for the number that it was written for.
digit_back : (n : ℕ) → n < 16 → nibble (hex_digit n) ≡ Some n
unfolding nibble
digit_back n h =
    by_cases (leb n 9)
    (λ t.
    let low : n ≤ 9 = leb-true n 9 t in
    let same : 48 + n - 48 ≡ n = omega arith in
    rw (t, le-leb 48 (48 + n) (omega arith), le-leb (48 + n) 57 (omega arith)) (ap Some same))
    (λ t.
    let high : 9 < n = leb-false n 9 t in
    let same : 87 + n - 87 ≡ n = omega arith in
    rw (t, le-leb 48 (87 + n) (omega arith), lt-leb (87 + n) 57 (omega arith), le-leb 97 (87 + n) (omega arith), le-leb (87 + n) 102 (omega arith)) (ap Some same))

-- A digit is past every byte that ends a word.
digit_past : (n : ℕ) → 48 ≤ hex_digit n
digit_past n = by_cases (leb n 9) (λ t. rw t (omega arith)) (λ t. rw t (omega arith))

-- Two digits are the byte that they were written for.
pair_back : (b : ℕ) → b < 256 → hex_value (pushed (pushed empty_word (hex_digit (b / 16))) (hex_digit (b % 16))) ≡ Some b
unfolding hex_value
pair_back b h =
    let same : b / 16 * 16 + b % 16 ≡ b = omega arith in
    rw (digit_back (b / 16) (omega arith), digit_back (b % 16) (omega arith)) (ap Some same)

-- One byte is read behind those that stand in the buffer.
byte_read : (b : ℕ) → b < 256 → (v : List ℕ) (f s : ℕ) (out : List ℕ) → s < 32 → s < length out
    → Leads (hex_digit (b / 16) ∷ hex_digit (b % 16) ∷ []) (resting v f 2 s out) (resting v f 2 (s + 1) (set out s b))
byte_read b h v f s out few room =
    let high = hex_digit (b / 16) in
    let low = hex_digit (b % 16) in
    let empty = resting v f 2 s out in
    let half = at v f 2 s (pushed empty_word high) out in
    let full = at v f 2 s (pushed (pushed empty_word high) low) out in
    let past : 48 ≤ high = digit_past (b / 16) in
    let past' : 48 ≤ low = digit_past (b % 16) in
    let first : half ≡ step empty high =
    step_typed empty high half (λ e. omega arith) (omega arith) (λ e. omega arith) (no_gap high past) (typed_on empty high half.draft refl refl)
    in
    let stored : resting v f 2 (s + 1) (set out s b) ≡ hex full =
    hex_on full b (resting v f 2 (s + 1) out).draft (sym (pair_back b h)) (omega arith) room refl
    in
    let second : resting v f 2 (s + 1) (set out s b) ≡ step half low =
    step_typed half low _ (λ e. omega arith) (omega arith) (λ e. omega arith) (no_gap low past') (typed_pair half low full.draft _ refl refl stored)
    in
    leads_on (high ∷ []) (low ∷ []) empty half _ (leads_to empty half high first refl) (leads_to half _ low second refl)

-- So are all bytes of a record or of a piece of one.
bytes_read : (bytes : List ℕ) → AreBytes bytes → (v : List ℕ) (f s : ℕ) (out : List ℕ) → s + length bytes ≤ 32 → s + length bytes ≤ length out
    → Leads (bytes_text bytes) (resting v f 2 s out) (resting v f 2 (s + length bytes) (sets out s bytes))
unfolding bytes_text
bytes_read [] h v f s out few room = λ rest. ap (λ (k : ℕ). composed_from rest (resting v f 2 k out)) (omega arith)
bytes_read (b ∷ bytes) h v f s out few room = λ rest.
    let end : s + suc (length bytes) ≡ suc s + length bytes = omega arith in
    let one : composed_from (bytes_text (b ∷ bytes) ++ rest) (resting v f 2 s out) ≡ composed_from (bytes_text bytes ++ rest) (resting v f 2 (suc s) (set out s b)) =
    byte_read b (h 0) v f s out (omega arith) (omega arith) (bytes_text bytes ++ rest) ∙ rw (add-one s)
    in
    rw end (one ∙ bytes_read bytes (λ i. h (suc i)) v f (suc s) (set out s b) (omega arith) (rw length-set (omega arith)) rest)

-- The word before them makes a new line one of bytes.
raw_word_lem : (v out : List ℕ) (f : ℕ) → Leads (word_at 36 ++ (32 ∷ [])) (resting v f 0 0 out) (resting v 15 2 0 out)
unfolding composed_from step typed settle understood word_at trimmed place_of
raw_word_lem v out f rest = refl

-- A new line takes the bytes of such a text to the front of the buffer.
pub raw_read : (bytes : List ℕ) → AreBytes bytes → (v out : List ℕ) (f : ℕ) → length bytes ≤ 32 → length bytes ≤ length out
    → Leads (raw_text bytes) (resting v f 0 0 out) (resting v 15 2 (length bytes) (sets out 0 bytes))
unfolding word_at trimmed
raw_read bytes h v out f few room rest =
    raw_word_lem v out f (bytes_text bytes ++ rest) ∙ rw zero-add at (bytes_read bytes h v 15 0 out (omega arith) (omega arith) rest)
