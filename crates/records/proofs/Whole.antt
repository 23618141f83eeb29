-- An event that is whole is the same whatever comes after.
use Prim.Native.Nat.{ℕ, zero, suc, ◌+◌, ◌*◌, ◌-◌, ◌≤◌}
use mathlib.Core.Path.{◌≡◌, refl, sym, ap, ◌∙◌}
use mathlib.Core.Bool.{true, false≢true}
use mathlib.Core.List.{List, [], ◌∷◌, ◌++◌}
use mathlib.Core.Logic.{◌⊎◌, inl, inr, ⊎_elim}
use borrow.Author.Tests.{leb-true, le-leb, eqb-true}
use native.Mathlib.Omega.{arith}
use lib.Dec.{leb, eqb}
use lib.ListN.{length, take, drop, length-append, length-drop}
use lib.Seq.{take-append-le, drop-append-le}
use Rattle.laws.proofs.Tests.{by_cases, both_true}
use Rattle.records.specs.Record.{record_of}
use Rattle.records.specs.Stream.{takes_bearers, bearer_first, bearers_in, request_in, event_of, piece_of}
use Rattle.records.specs.declared.Record.{Record}

-- a bearer record at the front is one with more behind it, where a whole record stands there
same_first : (xs more : List ℕ) → 32 ≤ length xs → bearer_first (xs ++ more) ≡ bearer_first xs
same_first [] more h = absurd (omega arith)
same_first (x ∷ xs) more h =
    let longer : 32 ≤ length (x ∷ xs ++ more) = omega (arith, length-append xs more) in
    rw (le-leb 32 (length (x ∷ xs)) h, le-leb 32 (length (x ∷ xs ++ more)) longer)

-- so are all that a request takes, if it takes its count or a whole record stands after them
same_bearers : (most : ℕ) (xs more : List ℕ) → (bearers_in most xs ≡ most) ⊎ (32 * bearers_in most xs + 32 ≤ length xs)
    → bearers_in most (xs ++ more) ≡ bearers_in most xs
unfolding bearers_in
same_bearers zero xs more h = refl
same_bearers (suc most) xs more h =
    by_cases (bearer_first xs)
    (λ t.
    let long : 32 ≤ length xs = leb-true 32 (length xs) (both_true _ _ t).0 in
    let fewer : (bearers_in most (drop 32 xs) ≡ most) ⊎ (32 * bearers_in most (drop 32 xs) + 32 ≤ length (drop 32 xs)) =
    ⊎_elim (λ e. inl (omega arith)) (λ e. inr (omega (arith, length-drop 32 xs))) (rw t at h)
    in
    rw (same_first xs more long, t, drop-append-le 32 xs more long) (ap suc (same_bearers most (drop 32 xs) more fewer)))
    (λ t.
    let long : 32 ≤ length xs = ⊎_elim (λ e. absurd (omega arith)) (λ e. omega arith) (rw t at h) in
    rw (same_first xs more long, t))

-- a request that is whole is so at the front of more bytes
same_request : (r : Record) (size less more : ℕ) → less ≤ more → (request_in r size less).whole ≡ true → request_in r size more ≡ request_in r size less
same_request r size less more h t =
    by_cases (eqb size (32 + r.number * 32))
    (λ full. rw full)
    (λ fewer.
    let another : leb 32 (less - size) ≡ true = rw fewer at t in
    rw (fewer, another, le-leb 32 (more - size) (omega (arith, leb-true 32 (less - size) another))))

same_event : (r : Record) (bytes more : List ℕ) → 32 ≤ length bytes → (event_of r bytes).whole ≡ true → event_of r (bytes ++ more) ≡ event_of r bytes
same_event r bytes more h t =
    by_cases (takes_bearers r)
    (λ takes.
    let xs = drop 32 bytes in
    let count = bearers_in r.number xs in
    let size = 32 + 32 * count in
    let whole : (request_in r size (length bytes)).whole ≡ true = rw takes at t in
    let reason : (count ≡ r.number) ⊎ (32 * count + 32 ≤ length xs) =
    by_cases (eqb size (32 + r.number * 32))
    (λ full. inl (omega (arith, eqb-true size (32 + r.number * 32) full)))
    (λ fewer. inr (omega (arith, length-drop 32 bytes, leb-true 32 (length bytes - size) (rw fewer at whole))))
    in
    rw (takes, drop-append-le 32 bytes more h, same_bearers r.number xs more reason)
    (same_request r size (length bytes) (length (bytes ++ more)) (omega (arith, length-append bytes more)) whole))
    (λ single. rw single)

-- what stands at the front where a whole record does
front : (bytes : List ℕ) → 32 ≤ length bytes → piece_of bytes ≡ event_of (record_of (take 32 bytes)) bytes
front bytes h = rw (le-leb 32 (length bytes) h)

-- An event that is whole has a whole record.
pub has_record : (bytes : List ℕ) → (piece_of bytes).whole ≡ true → 32 ≤ length bytes
has_record bytes t = by_cases (leb 32 (length bytes)) (leb-true 32 (length bytes)) (λ short. absurd (false≢true (rw short at t)))

-- It is the same with more behind it.
pub same_piece : (bytes more : List ℕ) → (piece_of bytes).whole ≡ true → piece_of (bytes ++ more) ≡ piece_of bytes
same_piece bytes more t =
    let long = has_record bytes t in
    front (bytes ++ more) (omega (arith, length-append bytes more))
    ∙ rw (take-append-le 32 bytes more long) (same_event (record_of (take 32 bytes)) bytes more long (rw (front bytes long) at t))
    ∙ sym (front bytes long)
