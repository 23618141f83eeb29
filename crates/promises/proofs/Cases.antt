-- The worked cases hold: each is the step's own definition, computed.
use Rattle.std.specs.List.{list_any}
use Rattle.std.specs.Prelude.{Some}
use Prim.Native.Nat.{ℕ, zero, suc, ◌+◌, ◌≤◌, ◌<◌}
use mathlib.Core.Path.{◌≡◌, refl, ap, subst, ◌∙◌}
use mathlib.Core.Bool.{Bool, true, false, cond, ◌&&◌, ◌||◌}
use mathlib.Core.List.{List, [], ◌∷◌, map}
use borrow.Author.Rules.{rules}
use borrow.Author.Tests.{ne_eqb}
use store.Seg.{eqb_same}
use native.Mathlib.Omega.{arith}
use lib.Count.{ones, ones_in}
use lib.ListN.{length, get_or, replicate}
use Rattle.laws.specs.Sums.{total}
use Rattle.laws.proofs.Tests.{same_at}
use Rattle.records.specs.declared.Record.{Record}
use Rattle.records.specs.Record.{little, record_of, InRange}
use Rattle.bearers.specs.Flaws.{all_of_kind, flaw_from}
use Rattle.bearers.specs.Bearer.{records_in, all_bearers}
use Rattle.bearers.specs.Admission.{those, turns_from, free_at, verdict}
use Rattle.sets.specs.Sets as sets
use Rattle.table.specs.declared.Answer.{Answer}
use Rattle.table.specs.declared.Settings.{Settings}
use Rattle.table.specs.declared.Station.{Station}
use Rattle.handover.specs.Events.{message}
use Rattle.fields.specs.Fields.{well_formed}
use Rattle.handover.specs.Numbers.{is_free, blank, own_is, next_after, issue_from}
use Rattle.table.specs.Reached.{Reached, born, stepped}
use Rattle.table.specs.Step.{step_of, issue, least, birth_of}
use Rattle.places.specs.Places.{due_from}
use Rattle.table.specs.Table.{find}
use Rattle.fields.proofs.Forms.{used_in_range}
use Rattle.handover.proofs.Issuing.{issue_free, issue_used}
use Rattle.promises.proofs.Rows.{row_step, start_step}
use Rattle.promises.specs.Cases.{Seen, Case, settings, freshly, preparing, station_with, issued_last, start_of, bytes_in, runs, Holds, request, start, cancel, cases, no_case}

-- ---- a station that issued 4,095 last

-- Where 4,095 was issued last, 0 is in use and 1 is not, the next own ID is 1; so it is in the request that a start sends.
pub issue_wraps : (s : Station) → s.last ≡ 4095 → list_any (own_is 0) s.entries ≡ true → list_any (own_is 1) s.entries ≡ false → issue s ≡ 1
issue_wraps s last used unused =
    ap (λ (k : ℕ). issue_from 64 (next_after k) s.entries) last
    ∙ issue_used 63 0 s.entries used
    ∙ issue_free 63 1 s.entries unused

pub start_wraps : (s : Station) (e : Record) (bearers : List ℕ) (room i : ℕ) → well_formed e ≡ true → e.kind ≡ 9 → find is_free s ≡ Some i
    → s.last ≡ 4095 → list_any (own_is 0) s.entries ≡ true → list_any (own_is 1) s.entries ≡ false
    → (step_of s e bearers room).outcome.message ≡ message 1 e.neighbour 1 0 e.first 0 0
start_wraps s e bearers room i formed kind found last used unused =
    rw (start_step s e bearers room formed i kind found, issue_wraps s last used unused)

-- What is handed in is in range.
pub start_small : InRange start.event
start_small = search rules

cancel_small : (n : ℕ) → n ≤ 4095 → InRange (cancel n).event
cancel_small n h = search rules

pub request_small : (bearers : List Record) → length bearers ≤ 255 → InRange (request bearers).event
request_small bearers h = search rules

pub fresh_reached : Reached freshly
fresh_reached = born settings

-- A fresh station comes to one: a start leaves own 0 preparing; and each start and its cancel after it issue one number more.

-- with a second record, that issued the number last
abbrev two_from : ℕ → Station
two_from k = station_with (preparing 0 ∷ preparing k ∷ replicate 62 blank) k

next_issued : (n : ℕ) → n < 4095 → issue (issued_last n) ≡ suc n
next_issued n h =
    ap (λ (b : Bool). issue_from 64 (cond b 0 (n + 1)) (issued_last 0).entries) (ne_eqb n 4095 (λ e. omega arith))
    ∙ issue_free 64 (n + 1) (issued_last 0).entries (ap (λ (b : Bool). b || false || false) (ne_eqb 0 (n + 1) (λ e. omega arith)))
    ∙ omega arith

started_second : (n : ℕ) → n < 4095 → (step_of (issued_last n) start.event [] 0).station ≡ two_from (suc n)
started_second n h = ap two_from (next_issued n h)

cancelled_second : (n : ℕ) → n < 4095 → (step_of (two_from (suc n)) (cancel (suc n)).event [] 0).station ≡ issued_last (suc n)
cancelled_second n h =
    ap (λ (a : Answer). a.station)
    (row_step (two_from (suc n)) (cancel (suc n)).event [] 0 (ap (λ (b : Bool). b && true && true && true && true) (used_in_range 4095 (suc n) h)) 1 8 refl
    (rw (ne_eqb 0 (suc n) (λ e. omega arith), eqb_same (suc n))) refl)

pub issued : (n : ℕ) → n ≤ 4095 → Reached (issued_last n)
unfolding issue_from
issued zero h = stepped fresh_reached start.event start_small [] 0
issued (suc n) h =
    subst Reached (cancelled_second n h)
    (stepped (subst Reached (started_second n h) (stepped (issued n (omega arith)) start.event start_small [] 0)) (cancel (suc n)).event (cancel_small (suc n) h) [] 0)

-- ---- the cases

-- what a case shows, and what it must show
abbrev shows : Case → List Seen
shows c = runs (start_of c) c.events

abbrev must : Case → List Seen
must c = c.seen

-- All cases show what they must, by computation.
all_shown : map shows cases ≡ map must cases
unfolding ones ones_in runs bytes_in all_of_kind flaw_from due_from issue_from little record_of records_in all_bearers total those turns_from free_at verdict sets.add sets.set_of
all_shown = refl

none_shown : shows no_case ≡ must no_case
unfolding runs
none_shown = refl

start_reached : (wrapped : Bool) → Reached (cond wrapped (issued_last 4095) freshly)
start_reached true = issued 4095 (omega arith)
start_reached false = fresh_reached

-- Each case of the table holds.
pub all_cases : (n : ℕ) → Holds (get_or cases n no_case)
all_cases n =
    record {
      reached = start_reached (get_or cases n no_case).wrapped;
      shown = same_at shows must cases no_case n all_shown none_shown;
    }

-- ---- births

-- The least and the greatest settings are taken, and one less or one more of any is not, by computation.
abbrev settings_of : ℕ → ℕ → ℕ → ℕ → Settings
settings_of capacity prep overall guard = record { capacity = capacity; prep = prep; overall = overall; guard = guard }

abbrev reply_to : ℕ → ℕ → ℕ → ℕ → ℕ
reply_to capacity prep overall guard = (birth_of (settings_of capacity prep overall guard)).reply

pub birth_limits :
    reply_to 0 1 1 1
    ∷ reply_to 1000000000 600000 600000 600000
    ∷ reply_to 1000000001 1 1 1
    ∷ reply_to 0 0 1 1
    ∷ reply_to 0 600001 1 1
    ∷ reply_to 0 1 0 1
    ∷ reply_to 0 1 600001 1
    ∷ reply_to 0 1 1 0
    ∷ reply_to 0 1 1 600001
    ∷ []
    ≡ 0
    ∷ 0
    ∷ 16
    ∷ 16
    ∷ 16
    ∷ 16
    ∷ 16
    ∷ 16
    ∷ 16
    ∷ []
birth_limits = refl

-- One setting out of range replaces all four.
pub birth_refused : (birth_of (settings_of 100 0 2000 3000)).station ≡ (birth_of least).station
birth_refused = refl
