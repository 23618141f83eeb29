-- A message that is in order, told by its octets alone.
use Rattle.std.specs.Prelude.{ℕ, ◌+◌, Bool, false, cond, ◌&&◌, List, leb, eqb, length, get_or, is_some}
use Rattle.wire.specs.Causes.{reason_of}

abbrev pub begins : List ℕ → ℕ → ℕ → ℕ → Bool
begins m code size count =
    eqb (get_or m 0 0) 0 && eqb (get_or m 1 0) code && eqb (get_or m 2 0) 64 && eqb (get_or m 3 0) size && eqb (get_or m 4 0) 0
    && eqb (get_or m 5 0) 0 && eqb (get_or m 6 0) count

abbrev pub heads : List ℕ → ℕ → ℕ → ℕ → ℕ → Bool
heads m at id criticality size =
    eqb (get_or m at 0) 0 && eqb (get_or m (at + 1) 0) id && eqb (get_or m (at + 2) 0) criticality
    && eqb (get_or m (at + 3) 0) size

abbrev pub has_id : List ℕ → ℕ → ℕ → ℕ → Bool
has_id m at id criticality = heads m at id criticality 2 && leb (get_or m (at + 4) 0) 15

abbrev pub has_cause : List ℕ → ℕ → Bool
has_cause m at = heads m at 5 64 1 && is_some (reason_of (get_or m (at + 4) 0))

abbrev pub is_release : List ℕ → Bool
is_release m = begins m 5 15 2 && has_id m 7 10 0 && has_id m 13 9 0

abbrev pub is_cancel : List ℕ → Bool
is_cancel m = begins m 1 20 3 && has_id m 7 10 0 && has_id m 13 9 64 && has_cause m 19

abbrev pub is_short : List ℕ → Bool
is_short m = begins m 1 14 2 && has_id m 7 10 0 && has_cause m 13

abbrev pub is_whole : List ℕ → Bool
is_whole m =
    cond (eqb (length m) 19) (is_release m)
    (cond (eqb (length m) 24) (is_cancel m) (cond (eqb (length m) 18) (is_short m) false))
