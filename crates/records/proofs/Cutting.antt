-- A stream is cut into events with no byte left out and none taken twice.
use Prim.Native.Nat.{ℕ, zero, suc, ◌*◌, ◌-◌, ◌≤◌, ◌<◌}
use mathlib.Core.Path.{◌≡◌, sym, ap}
use mathlib.Core.List.Memᴰ
use mathlib.Core.List.{List, flatten, Memᴰ}
use mathlib.Core.Logic.{⊎_elim}
use borrow.Author.Tests.{leb-true, leb-false}
use native.Mathlib.Omega.{arith}
use lib.Dec.{leb}
use lib.ListN.{length, drop, length-take, length-drop, take-append-drop, drop_of_length-le}
use Rattle.laws.proofs.Tests.{by_cases, both_true}
use Rattle.records.specs.Record.{record_at, room_at}
use Rattle.records.specs.Stream.{takes_bearers, bearer_first, bearers_in, piece_of, events_in, events}

-- The bearers that are taken stand in the stream.
pub bearers_within : (most : ℕ) (rest : List ℕ) → 32 * bearers_in most rest ≤ length rest
unfolding bearers_in
bearers_within zero rest = omega arith
bearers_within (suc most) rest =
    let further : 32 * bearers_in most (drop 32 rest) ≤ length rest - 32 = rw length-drop at (bearers_within most (drop 32 rest)) in
    by_cases (bearer_first rest)
    (λ t. rw t (omega (arith, leb-true 32 (length rest) (both_true (leb 32 (length rest)) _ t).0)))
    (λ t. rw t (omega arith))

-- An event lies within the bytes, and has one of them at least, if there is one: whoever goes on from event to event comes to the end.
pub onward : (bytes : List ℕ) → ((piece_of bytes).size ≤ length bytes) × (0 < length bytes → 0 < (piece_of bytes).size)
onward bytes =
    let r = record_at bytes 0 in
    by_cases (room_at bytes 0)
    (λ room.
    let long = leb-true 32 (length bytes) room in
    by_cases (takes_bearers r)
    (λ takes. rw (room, takes) (omega (arith, rw length-drop at (bearers_within r.number (drop 32 bytes))), λ some. omega arith))
    (λ single. rw (room, single) (long, λ some. omega arith)))
    (λ short. rw short (omega arith, λ some. some))

-- The events of a stream, put together, are the stream, where as many steps as bytes are taken.
together_in : (steps : ℕ) (bytes : List ℕ) → length bytes ≤ steps → flatten (events_in steps bytes) ≡ bytes
unfolding flatten events_in
together_in zero bytes h = sym (drop_of_length-le bytes {i = 0} h)
together_in (suc steps) bytes h =
    let size = (piece_of bytes).size in
    by_cases (leb (length bytes) 0)
    (λ none. rw none (sym (drop_of_length-le bytes {i = 0} (leb-true (length bytes) 0 none))))
    (λ some.
    let shorter : length (drop size bytes) ≤ steps = omega (arith, length-drop size bytes, (onward bytes).1 (leb-false (length bytes) 0 some)) in
    rw (some, together_in steps (drop size bytes) shorter) (take-append-drop size bytes))

-- Each byte of a stream belongs to exactly one event.
pub together : (bytes : List ℕ) → flatten (events bytes) ≡ bytes
together bytes = together_in (length bytes) bytes (omega arith)

-- each is cut from bytes that are left, so that it has one
some_in : (steps : ℕ) (bytes event : List ℕ) → Memᴰ event (events_in steps bytes) → 0 < length event
unfolding events_in
some_in zero bytes event m = absurd (Memᴰ.not-nil m)
some_in (suc steps) bytes event m =
    let size = (piece_of bytes).size in
    by_cases (leb (length bytes) 0)
    (λ none. absurd (Memᴰ.not-nil (rw none at m)))
    (λ some.
    let here = (onward bytes).1 (leb-false (length bytes) 0 some) in
    ⊎_elim (λ e. omega (arith, rw length-take at (ap length e), leb-false (length bytes) 0 some)) (some_in steps (drop size bytes) event) (Memᴰ.cases_cons (rw some at m)))

-- No event of a stream is empty.
pub some_byte : (bytes event : List ℕ) → Memᴰ event (events bytes) → 0 < length event
some_byte bytes = some_in (length bytes) bytes
