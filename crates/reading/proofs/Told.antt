-- A message that is told to be in order by its octets is.
use Rattle.std.proofs.Common.{◌≡◌, ℕ, ◌+◌, ◌<◌, true, ◌&&◌, Ok, List, length, get_or, leb, eqb, is_some, sym, arith}
use mathlib.Core.Bool.{false≢true}
use borrow.Author.Tests.{leb-true, eqb-true}
use Rattle.laws.proofs.Tests.{by_cases, both_true}
use Rattle.wire.specs.Causes.{reason_of}
use Rattle.reading.specs.Reading.{judged_of}
use Rattle.reading.specs.Whole.{begins, heads, has_id, has_cause, is_release, is_cancel, is_short, is_whole}
use Rattle.reading.proofs.RoundTrip.{in_full, within}

module _ (m : List ℕ) where
  -- the octets that the tests name
  begun : (code size count : ℕ) → begins m code size count ≡ true → (get_or m 0 0 ≡ 0) × (get_or m 1 0 ≡ code) × (get_or m 2 0 ≡ 64) × (get_or m 3 0 ≡ size) × (get_or m 4 0 ≡ 0) × (get_or m 5 0 ≡ 0) × (get_or m 6 0 ≡ count)
  begun code size count t =
      let a = eqb (get_or m 0 0) 0 in
      let b = eqb (get_or m 1 0) code in
      let c = eqb (get_or m 2 0) 64 in
      let d = eqb (get_or m 3 0) size in
      let e = eqb (get_or m 4 0) 0 in
      let f = eqb (get_or m 5 0) 0 in
      let g = both_true (a && b && c && d && e && f) (eqb (get_or m 6 0) count) t in
      let f2 = both_true (a && b && c && d && e) f g.0 in
      let e2 = both_true (a && b && c && d) e f2.0 in
      let d2 = both_true (a && b && c) d e2.0 in
      let c2 = both_true (a && b) c d2.0 in
      let b2 = both_true a b c2.0 in (
        eqb-true (get_or m 0 0) 0 b2.0,
        eqb-true (get_or m 1 0) code b2.1,
        eqb-true (get_or m 2 0) 64 c2.1,
        eqb-true (get_or m 3 0) size d2.1,
        eqb-true (get_or m 4 0) 0 e2.1,
        eqb-true (get_or m 5 0) 0 f2.1,
        eqb-true (get_or m 6 0) count g.1,
      )

  headed : (at id criticality size : ℕ) → heads m at id criticality size ≡ true → (get_or m at 0 ≡ 0) × (get_or m (at + 1) 0 ≡ id) × (get_or m (at + 2) 0 ≡ criticality) × (get_or m (at + 3) 0 ≡ size)
  headed at id criticality size t =
      let a = eqb (get_or m at 0) 0 in
      let b = eqb (get_or m (at + 1) 0) id in
      let c = eqb (get_or m (at + 2) 0) criticality in
      let d2 = both_true (a && b && c) (eqb (get_or m (at + 3) 0) size) t in
      let c2 = both_true (a && b) c d2.0 in
      let b2 = both_true a b c2.0 in
      (eqb-true (get_or m at 0) 0 b2.0, eqb-true (get_or m (at + 1) 0) id b2.1, eqb-true (get_or m (at + 2) 0) criticality c2.1, eqb-true (get_or m (at + 3) 0) size d2.1)

  module _ (bytes : (k : ℕ) → get_or m k 0 < 256) where
    byte : (k : ℕ) → (leb 0 (get_or m k 0) && leb (get_or m k 0) 255) ≡ true
    byte k = within (get_or m k 0) 255 (omega (arith, bytes k))

    high : (at id criticality : ℕ) → has_id m at id criticality ≡ true → (leb 0 (get_or m (at + 4) 0) && leb (get_or m (at + 4) 0) 15) ≡ true
    high at id criticality t =
        within (get_or m (at + 4) 0) 15 (leb-true (get_or m (at + 4) 0) 15 (both_true (heads m at id criticality 2) (leb (get_or m (at + 4) 0) 15) t).1)

    id_head : (at id criticality : ℕ) → has_id m at id criticality ≡ true → (get_or m at 0 ≡ 0) × (get_or m (at + 1) 0 ≡ id) × (get_or m (at + 2) 0 ≡ criticality) × (get_or m (at + 3) 0 ≡ 2)
    id_head at id criticality t = headed at id criticality 2 (both_true (heads m at id criticality 2) (leb (get_or m (at + 4) 0) 15) t).0

    cause_head : (at : ℕ) → has_cause m at ≡ true → (get_or m at 0 ≡ 0) × (get_or m (at + 1) 0 ≡ 5) × (get_or m (at + 2) 0 ≡ 64) × (get_or m (at + 3) 0 ≡ 1)
    cause_head at t = headed at 5 64 1 (both_true (heads m at 5 64 1) (is_some (reason_of (get_or m (at + 4) 0))) t).0

    some_cause : (at : ℕ) → has_cause m at ≡ true → is_some (reason_of (get_or m (at + 4) 0)) ≡ true
    some_cause at t = (both_true (heads m at 5 64 1) (is_some (reason_of (get_or m (at + 4) 0))) t).1

    release : length m ≡ 19 → is_release m ≡ true → judged_of m ≡ Ok tt
    release size t =
        let b = both_true (begins m 5 15 2 && has_id m 7 10 0) (has_id m 13 9 0) t in
        let a = both_true (begins m 5 15 2) (has_id m 7 10 0) b.0 in
        let f = begun 5 15 2 a.0 in
        let old = id_head 7 10 0 a.1 in
        let new = id_head 13 9 0 b.1 in
        in_full m
        (rw (size, f.0, f.1, f.2, f.3, f.4, f.5, f.6, old.0, old.1, old.2, old.3, new.0, new.1, new.2, new.3, high 7 10 0 a.1, byte 12, high 13 9 0 b.1, byte 18))
        (rw (size, f.1, f.3, f.5, f.6))

    cancel : length m ≡ 24 → is_cancel m ≡ true → judged_of m ≡ Ok tt
    cancel size t =
        let c = both_true (begins m 1 20 3 && has_id m 7 10 0 && has_id m 13 9 64) (has_cause m 19) t in
        let b = both_true (begins m 1 20 3 && has_id m 7 10 0) (has_id m 13 9 64) c.0 in
        let a = both_true (begins m 1 20 3) (has_id m 7 10 0) b.0 in
        let f = begun 1 20 3 a.0 in
        let old = id_head 7 10 0 a.1 in
        let new = id_head 13 9 64 b.1 in
        let why = cause_head 19 c.1 in
        in_full m
        (rw (size, f.0, f.1, f.2, f.3, f.4, f.5, f.6, old.0, old.1, old.2, old.3, new.0, new.1, new.2, new.3, why.0, why.1, why.2, why.3, high 7 10 0 a.1, byte 12, high 13 9 64 b.1, byte 18, byte 23, some_cause 19 c.1))
        (rw (size, f.1, f.3, f.5, f.6, new.1))

    short : length m ≡ 18 → is_short m ≡ true → judged_of m ≡ Ok tt
    short size t =
        let b = both_true (begins m 1 14 2 && has_id m 7 10 0) (has_cause m 13) t in
        let a = both_true (begins m 1 14 2) (has_id m 7 10 0) b.0 in
        let f = begun 1 14 2 a.0 in
        let old = id_head 7 10 0 a.1 in
        let why = cause_head 13 b.1 in
        in_full m
        (rw (size, f.0, f.1, f.2, f.3, f.4, f.5, f.6, old.0, old.1, old.2, old.3, why.0, why.1, why.2, why.3, high 7 10 0 a.1, byte 12, byte 17, some_cause 13 b.1))
        (rw (size, f.1, f.3, f.5, f.6, why.1))

    pub whole_judged : is_whole m ≡ true → Ok tt ≡ judged_of m
    whole_judged t =
        by_cases (eqb (length m) 19)
        (λ a. sym (release (eqb-true (length m) 19 a) (rw a at t)))
        (λ a. by_cases (eqb (length m) 24)
        (λ b. sym (cancel (eqb-true (length m) 24 b) (rw (a, b) at t)))
        (λ b. by_cases (eqb (length m) 18)
        (λ c. sym (short (eqb-true (length m) 18 c) (rw (a, b, c) at t)))
        (λ c. absurd (false≢true (rw (a, b, c) at t)))))
