-- The messages that are worked out by hand, read, and what is refused of them.
use Prim.Native.Nat.{ℕ}
use mathlib.Core.Path.{◌≡◌, refl}
use mathlib.Core.Bool.{Bool, true, false, ◌&&◌}
use Rattle.std.proofs.Common.{Some, None, Ok, Err}
use mathlib.Core.List.{List, [], ◌∷◌, ◌++◌}
use lib.Dec.{eqb}
use lib.ListN.{take, drop, get_or, set}
use Rattle.laws.proofs.Tests.{every}
use Rattle.wire.specs.Causes.{reason_of}
use Rattle.wire.proofs.Examples.{release, cancel, short, told}
use Rattle.reading.specs.Reading.{passed, Judgement, judged_of, read_of, value_of}

pub read : (read_of release 3 ≡ Ok (told 5 2748 0)) × (read_of cancel 3 ≡ Ok (told 6 2748 2)) × (read_of short 3 ≡ Ok (told 6 65535 1))
unfolding judged_of passed reason_of
read = (refl, refl, refl)

-- A neighbour out of range comes before anything in the message.
pub far : (read_of release 32 ≡ Err (record { reply = 11; at = 1 })) × (read_of [] 32 ≡ Err (record { reply = 11; at = 1 }))
far = (refl, refl)

-- the values of their IEs: Old ID, New ID and Cause, and none where there is none
pub values : (value_of release 10 ≡ Some (0 ∷ 7 ∷ [])) × (value_of cancel 9 ≡ Some (10 ∷ 188 ∷ [])) × (value_of short 5 ≡ Some (104 ∷ [])) × (value_of short 9 ≡ None) × (value_of (take 18 release) 10 ≡ None)
unfolding judged_of passed reason_of
values = (refl, refl, refl, refl, refl)

-- ---- what is refused: the number, the byte, and the message

-- the IEs of the samples by themselves
abbrev old_ie : List ℕ
old_ie = take 6 (drop 7 release)

abbrev new_ie : List ℕ
new_ie = take 6 (drop 13 cancel)

abbrev cause_ie : List ℕ
cause_ie = drop 19 cancel

-- a message with another octet at a place
abbrev refusals : List (List ℕ)
refusals =
    (17 ∷ 0 ∷ [])  -- nothing
    ∷ (18 ∷ 0 ∷ set (set release 0 33) 1 7)  -- another choice, another procedure code and padding
    ∷ (20 ∷ 0 ∷ set (set release 0 1) 1 7)  -- padding before another procedure code
    ∷ (18 ∷ 1 ∷ set (set release 1 7) 2 0)  -- of an unknown procedure's criticality nothing can be said
    ∷ (20 ∷ 3 ∷ set release 3 128)  -- a length of two octets
    ∷ (20 ∷ 4 ∷ set release 4 128)  -- an extension
    ∷ (17 ∷ 13 ∷ take 13 release)  -- truncated between two IEs
    ∷ (17 ∷ 13 ∷ set release 3 9)  -- the value ends where the second IE is promised
    ∷ (17 ∷ 19 ∷ set release 3 16)  -- the length promises a byte more
    ∷ (21 ∷ 19 ∷ set release 3 16 ++ 0 ∷ [])  -- which is there, and left over
    ∷ (21 ∷ 19 ∷ set release 3 17 ++ 0 ∷ [])  -- left over before it is truncated
    ∷ (21 ∷ 19 ∷ release ++ 0 ∷ [])
    ∷ (19 ∷ 13 ∷ set release 6 1)  -- missing before it is left over
    ∷ (19 ∷ 13 ∷ take 13 (set (set release 6 1) 3 9))  -- missing at the end
    ∷ (17 ∷ 13 ∷ take 13 (set release 6 1))  -- truncated before it is missing
    ∷ (17 ∷ 13 ∷ take 13 (set release 3 9))
    ∷ (17 ∷ 19 ∷ set release 6 3)  -- a third IE is promised
    ∷ (17 ∷ 19 ∷ set release 5 1)  -- and 255 more
    ∷ (19 ∷ 19 ∷ set (set release 6 3) 3 16 ++ 0 ∷ [])  -- one too many
    ∷ (19 ∷ 7 ∷ take 7 (set (set release 6 0) 3 3))  -- no IE at all
    ∷ (17 ∷ 7 ∷ take 7 (set release 6 0))
    ∷ (19 ∷ 13 ∷ set release 14 10)  -- repeated
    ∷ (19 ∷ 7 ∷ set (set release 8 9) 9 128)  -- out of order, whatever its criticality
    ∷ (19 ∷ 7 ∷ take 8 (set release 7 1))  -- no id begins so
    ∷ (20 ∷ 9 ∷ take 13 (set (set (set release 6 1) 3 9) 9 64))  -- criticality before what is missing
    ∷ (20 ∷ 10 ∷ set release 10 3)  -- the length of a value
    ∷ (20 ∷ 11 ∷ set release 11 16 ++ 0 ∷ [])  -- an ID of 4,103, before what is left over
    ∷ (20 ∷ 15 ∷ set release 15 64)  -- the New ID's criticality in a release
    ∷ (20 ∷ 15 ∷ set cancel 15 0)  -- and in a cancel
    ∷ (19 ∷ 13 ∷ take 13 (set release 3 14) ++ cause_ie)  -- a Cause in a release
    ∷ (19 ∷ 18 ∷ take 7 (set cancel 3 20) ++ old_ie ++ cause_ie ++ new_ie)  -- out of order in a cancel
    ∷ (19 ∷ 19 ∷ take 19 (set (set cancel 6 2) 3 15))  -- a cancel without a Cause
    ∷ (19 ∷ 24 ∷ set (set cancel 6 4) 3 25 ++ cause_ie)  -- one with two
    ∷ (17 ∷ 18 ∷ set short 6 3)
    ∷ (19 ∷ 19 ∷ set cancel 6 2)
    ∷ (20 ∷ 16 ∷ set (set short 16 2) 17 5 ++ 0 ∷ [])  -- a Cause of two octets
    ∷ (20 ∷ 17 ∷ set short 17 106)  -- misc 5
    ∷ []

abbrev is_refused : Judgement → ℕ → ℕ → Bool
is_refused (Ok _) reply at = false
is_refused (Err e) reply at = eqb e.reply reply && eqb e.at at

pub refused : every (λ i case. is_refused (judged_of (drop 2 case)) (get_or case 0 0) (get_or case 1 0)) refusals ≡ true
unfolding judged_of passed reason_of
refused = refl
