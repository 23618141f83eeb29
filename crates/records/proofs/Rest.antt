-- Laws of what is left of a stream from a place on.
use Prim.Native.Nat.{ℕ, zero, suc, ◌+◌, ◌-◌, ◌*◌, ◌/◌, ◌≤◌, ◌<◌}
use mathlib.Core.Path.{◌≡◌, refl, ◌∙◌, ap}
use mathlib.Core.Bool.{Bool, true, false, cond}
use mathlib.Core.List.{List, [], ◌∷◌}
use mathlib.Core.Logic.{◌⊎◌, inl, inr}
use borrow.Author.Tests.{le-leb}
use native.Mathlib.Omega.{arith}
use lib.Dec.{eqb}
use lib.ListN.{length, take, drop, get_or, length-drop}
use lib.Seq.{drop-drop}
use Rattle.std.specs.List.{slice_range}
use Rattle.std.specs.Simd.{first_chunks}
use Rattle.std.proofs.Common.{Some, None}
use Rattle.std.proofs.lemmas.Slice.{between_to_end}
use Rattle.laws.proofs.Tests.{by_cases, clash}
use Rattle.records.specs.Record.{record_of, record_at, room_at, read_at}
use Rattle.records.specs.declared.Record.{Record}
use Rattle.records.specs.Stream.{takes_bearers, bearer_first, bearers_in, event_of, piece_of}

-- The record that is found at the front of what is left is the one at the place.
pub read_here : (bytes : List ℕ) (at : ℕ) {rest found : List ℕ} → at ≤ length bytes → rest ≡ slice_range bytes at (length bytes) → 32 ≤ length rest → found ≡ take 32 rest → Some (record_of found) ≡ read_at bytes at
read_here bytes at inside e long f =
    let left = e ∙ between_to_end bytes at (length bytes) (omega arith) in
    let room : at + 32 ≤ length bytes = omega (arith, length-drop at bytes, ap length left) in
    rw (le-leb (at + 32) (length bytes) room, f, left)

-- A record that is cut off whole from the front is a bearer's where a bearer stands there.
same_first : (rest : List ℕ) → 32 ≤ length rest → eqb (get_or (take 32 rest) 0 0) 16 ≡ bearer_first rest
same_first [] h = absurd (omega arith)
same_first (b ∷ rest) h = rw (le-leb 32 (length (b ∷ rest)) h)

-- A record that is cut off whole is the part of the bytes at its place.
pub chunk_at : (count i : ℕ) (bytes : List ℕ) → i < count → get_or (first_chunks 32 count bytes) i [] ≡ take 32 (drop (i * 32) bytes)
chunk_at zero i bytes h = absurd (omega arith)
chunk_at (suc count) zero bytes h = refl
chunk_at (suc count) (suc i) bytes h =
    let further : suc i * 32 ≡ 32 + i * 32 = omega arith in
    rw (chunk_at count i (drop 32 bytes) (omega arith), drop-drop (i * 32) 32 bytes, further)

-- So its kind says whether a bearer stands there.
pub bearer_at : {records : List (List ℕ)} (rest : List ℕ) (i : ℕ) → records ≡ first_chunks 32 (length rest / 32) rest → i < length rest / 32 → eqb (get_or (get_or records i []) 0 0) 16 ≡ bearer_first (drop (i * 32) rest)
bearer_at rest i e h =
    let long : 32 ≤ length (drop (i * 32) rest) = rw length-drop (omega arith) in
    rw (e, chunk_at (length rest / 32) i rest h) (same_first (drop (i * 32) rest) long)

-- A bearer at a place is passed.
pub pass : (most i : ℕ) (rest : List ℕ) → i < most → bearer_first (drop (i * 32) rest) ≡ true
    → i + 1 + bearers_in (most - (i + 1)) (drop ((i + 1) * 32) rest) ≡ i + bearers_in (most - i) (drop (i * 32) rest)
unfolding bearers_in
pass most i rest h here =
    let more : most - i ≡ suc (most - (i + 1)) = omega arith in
    let next : (i + 1) * 32 ≡ i * 32 + 32 = omega arith in
    rw (more, here, next, ← drop-drop 32 (i * 32) rest) (omega arith)

-- Where no bearer stands, or none may be taken, there is nothing to pass.
pub stop : (left : ℕ) (rest : List ℕ) → (left ≡ 0) ⊎ (bearer_first rest ≡ false) → bearers_in left rest ≡ 0
unfolding bearers_in
stop zero rest none = refl
stop (suc left) rest (inl none) = absurd (omega arith)
stop (suc left) rest (inr none) = rw none

-- What was read says that there was room, and which record it is.
pub was_whole : (room : Bool) (there r : Record) → cond room (Some there) None ≡ Some r → (room ≡ true) × (there ≡ r)
was_whole true there r e = (refl, cc)
was_whole false there r e = clash cc

-- Where a record was read, the event is that record's.
pub piece_whole : (bytes : List ℕ) (r : Record) → read_at bytes 0 ≡ Some r → piece_of bytes ≡ event_of r bytes
piece_whole bytes r e = let was = was_whole (room_at bytes 0) (record_at bytes 0) r e in rw (was.0, was.1)

-- A record that was read is the event's, whether it takes bearers or not.
pub head_whole : (bytes : List ℕ) (r : Record) → read_at bytes 0 ≡ Some r → (piece_of bytes).head ≡ r
head_whole bytes r e = rw (piece_whole bytes r e) (by_cases (takes_bearers r) (λ takes. rw takes) (λ single. rw single))
