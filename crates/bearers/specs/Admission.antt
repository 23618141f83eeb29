-- Admission at the target. What bearers are judged by is a list of them, in the order of the request; which QCIs are GBR
-- classes is a parameter, `gbr`.
use Rattle.std.specs.Prelude.{ℕ, zero, suc, ◌+◌, ◌-◌, ◌/◌, Bool, cond, not, ◌&&◌, List, [], ◌∷◌, ◌++◌, map, leb, ltb, eqb, length, drop, replicate, Option, Some, None, Result, Ok, Err}
use Rattle.std.specs.Int.Count.{ones}
use Rattle.laws.specs.Sums.{total}
use Rattle.bearers.specs.declared.Admission.{Admission}
use Rattle.bearers.specs.declared.Bearer.{Bearer}
use Rattle.bearers.specs.declared.Flaw.{Flaw}
use Rattle.bearers.specs.Bearer.{records_in, bearers_in, all_bearers}
use Rattle.bearers.specs.Flaws.{is_list, flaw_of}
use Rattle.sets.specs.Sets.{set_of}

-- the bearers that pass a test, in their order
unfoldable pub those : (Bearer → Bool) → List Bearer → List Bearer
those test [] = []
those test (b ∷ bs) = cond (test b) (b ∷ those test bs) (those test bs)

-- how often an E-RAB ID occurs
abbrev pub occurs : ℕ → List Bearer → ℕ
occurs k bs = total (λ b. cond (eqb b.id k) 1 0) bs

-- "Verdict per bearer, first that applies: 1 its E-RAB ID occurs more than once in the request; 2 priority 0; 3 QCI 1 to 4
-- without GBR information"; 0 stands here for none of these, given how often its ID occurs
abbrev pub standing : (ℕ → Bool) → ℕ → Bearer → ℕ
standing gbr times b = cond (ltb 1 times) 1 (cond (eqb b.priority 0) 2 (cond (gbr b.qci && not b.gbr) 3 0))

-- whether a bearer has a turn
abbrev pub has_turn : (ℕ → Bool) → List Bearer → Bearer → Bool
has_turn gbr bs b = eqb (standing gbr (occurs b.id bs) b) 0

-- "Turns: priority 1 first, 15 last, ties by place in the request": so many priorities, from the given one on
unfoldable pub turns_from : ℕ → ℕ → List Bearer → List Bearer
turns_from zero p bs = []
turns_from (suc n) p bs = those (λ b. eqb b.priority p) bs ++ turns_from n (p + 1) bs

abbrev pub turns : (ℕ → Bool) → List Bearer → List Bearer
turns gbr bs = turns_from 15 1 (those (has_turn gbr bs) bs)

-- the free units after a turn: "a bearer that does not fit is passed over and the next tried"
abbrev pub after : ℕ → Bearer → ℕ
after free b = cond (leb b.units free) (free - b.units) free

-- the free units at the turn of the bearer with an ID (where it has a turn, its ID stands once in the request)
unfoldable pub free_at : List Bearer → ℕ → ℕ → ℕ
free_at [] k free = free
free_at (t ∷ ts) k free = cond (eqb t.id k) free (free_at ts k (after free t))

-- "4 its units exceed the free units at its turn; 0 admitted"
unfoldable pub verdict : (ℕ → Bool) → ℕ → List Bearer → Bearer → ℕ
verdict gbr free bs b =
    cond (has_turn gbr bs b) (cond (leb b.units (free_at (turns gbr bs) b.id free)) 0 4)
    (standing gbr (occurs b.id bs) b)

-- those with verdict 0
abbrev pub admitted : (ℕ → Bool) → ℕ → List Bearer → List Bearer
admitted gbr free bs = those (λ b. eqb (verdict gbr free bs b) 0) bs

-- and the others
abbrev pub refused : (ℕ → Bool) → ℕ → List Bearer → List Bearer
refused gbr free bs = those (λ b. not (eqb (verdict gbr free bs b) 0)) bs

-- the set of the IDs of some bearers
abbrev pub ids_of : List Bearer → ℕ
ids_of bs = set_of (map (λ b. b.id) bs)

-- what is answered for a request: "the answer also counts the bearers admitted, which is the number of ones in the
-- admitted set"
abbrev pub admission_of : (ℕ → Bool) → ℕ → List Bearer → Admission
admission_of gbr free bs =
    record {
      admitted = ids_of (admitted gbr free bs);
      refused = ids_of (refused gbr free bs);
      units = total (λ b. b.units) (admitted gbr free bs);
      count = ones (ids_of (admitted gbr free bs));
    }

-- QCI 1 to 4, the GBR classes of Release 8
abbrev pub release8 : ℕ → Bool
release8 qci = leb 1 qci && leb qci 4

-- so many bytes are 1 to 256 whole records, with room for a verdict each
abbrev pub countable : ℕ → ℕ → Bool
countable size room = is_list size && leb (size / 32) room

-- and each is a bearer's
abbrev pub judgeable : List ℕ → ℕ → Bool
judgeable bytes room = countable (length bytes) room && all_bearers (records_in (length bytes / 32) bytes)

-- what is wrong, or else what is admitted
abbrev pub judged : Option Flaw → Admission → Result Admission Flaw
judged (Some flaw) a = Err flaw
judged None a = Ok a

abbrev pub judgement_of : List ℕ → ℕ → ℕ → Result Admission Flaw
judgement_of bytes free room = judged (flaw_of bytes room) (admission_of release8 free (bearers_in (length bytes / 32) bytes))

-- its number among the replies, and the count with it: "no bearer admitted", 5, else done, 0; or what is wrong with the bearers
abbrev pub reply_of : Result Admission Flaw → ℕ
reply_of (Ok a) = cond (eqb a.admitted 0) 5 0
reply_of (Err flaw) = flaw.reply

abbrev pub count_of : Result Admission Flaw → ℕ
count_of (Ok a) = a.count
count_of (Err flaw) = 0

-- "Verdicts go to a lent buffer, one byte per bearer in request order, the rest untouched."
abbrev pub verdicts_in : List ℕ → ℕ → List ℕ → List ℕ
verdicts_in bytes free buffer =
    let bs = bearers_in (length bytes / 32) bytes in
    cond (judgeable bytes (length buffer)) (map (verdict release8 free bs) bs ++ drop (length bs) buffer) buffer

-- the verdicts of a request that finds the table full: "writes verdict 5 for each bearer"
abbrev pub all_five : ℕ → List ℕ → List ℕ
all_five count buffer = cond (leb count (length buffer)) (replicate count 5 ++ drop count buffer) buffer
