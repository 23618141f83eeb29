-- Every step takes the station and hands the next station back.
use Rattle.std.specs.Prelude.{ℕ, ◌+◌, ◌-◌, ◌*◌, ◌/◌, Bool, cond, ◌&&◌, List, leb, ltb, eqb, length, get_or, take, replicate, Option, Some, None}
use Rattle.records.specs.declared.Record.{Record}
use Rattle.bearers.specs.declared.Admission.{Admission}
use Rattle.bearers.specs.declared.Flaw.{Flaw}
use Rattle.bearers.specs.Admission.{release8, admission_of, judgeable, verdicts_in, all_five}
use Rattle.bearers.specs.Flaws.{flaw_of}
use Rattle.bearers.specs.Bearer as bearer
use Rattle.table.specs.declared.Answer.{Answer}
use Rattle.table.specs.declared.Birth.{Birth}
use Rattle.handover.specs.declared.Action.TheVariants.{Started, Held}
use Rattle.handover.specs.declared.Decision.{Decision}
use Rattle.handover.specs.declared.Entry.{Entry}
use Rattle.answers.specs.Answers.{said, refusal, flaw_in, missing}
use Rattle.table.specs.declared.Settings.{Settings}
use Rattle.table.specs.declared.Station.{Station}
use Rattle.handover.specs.Numbers.{is_free, blank, preparing, held, next_after, issue_from}
use Rattle.fields.specs.declared.Sort.{Sort}
use Rattle.fields.specs.declared.Sort.TheVariants.{NoEvent, OneRecord, AllOfNeighbour, SoonestDue, NewRecord, Request, NoChange}
use Rattle.fields.specs.Fields.{same_sort, sort_of_event}
use Rattle.handover.specs.Events.{about, action_of, same_action, message, silence, decide}
use Rattle.table.specs.Table.{find, soonest, at, put, add, reset}

-- an answer: reply, ending, admitted count and message, beside the next station
abbrev pub answer : ℕ → ℕ → ℕ → Record → Station → Answer
answer reply ending count sent s = record { outcome = said reply ending count sent; station = s }

-- "Any reply but 0 has ending 0": a refusal that changes nothing and sends nothing
abbrev pub refused : ℕ → Station → Answer
refused reply s = answer reply 0 0 silence s

-- one that says what is wrong with an event
abbrev pub malformed : Flaw → Station → Answer
malformed f s = record { outcome = refusal f; station = s }

-- a decision about the record at a place, carried out
abbrev pub carried : ℕ → Decision → Station → Answer
carried i d s = answer d.reply d.ending 0 d.message (put i d.entry s)

-- "1, 2, 6, 7 for the rest"
abbrev pub about_one : Record → Option ℕ → Station → Answer
about_one e (Some i) s = carried i (decide e (get_or s.entries i blank) (s.clock + s.settings.overall)) s
about_one e None s = refused 2 s

-- "7 and 14: all outgoing and held records of that neighbour end; 7 sends 8, 14 sends 7; ending 10 even if there was none"
abbrev pub reset_of : Record → Station → Answer
reset_of e s = answer 0 10 0 (message (cond (eqb e.kind 7) 8 7) e.neighbour 0 0 0 0 0) (reset e s)

-- the own ID that is issued next
abbrev pub issue : Station → ℕ
issue s = issue_from 64 (next_after s.last) s.entries

-- "9: preparing, sends kind 1 with Old and the set, deadline clock plus prep"; "1, 4 for starts"
abbrev pub started : Record → Station → Entry
started e s = preparing e.neighbour (issue s) e.first (s.clock + s.settings.prep)

abbrev pub starting : Record → ℕ → Station → Answer
starting e i s = answer 0 0 0 (message 1 e.neighbour (issue s) 0 e.first 0 0) (add i (issue s) (started e s) s)

-- where a place is free, the table says whether it is so used
abbrev pub start_at : Record → Option ℕ → Station → Answer
start_at e None s = refused 4 s
start_at e (Some i) s = cond (same_action (action_of e.kind 0) Started) (starting e i s) (refused 6 s)

-- "15: the clock becomes the time"; "1, 8, 9 for ticks"
abbrev pub tick_at : Record → Option ℕ → Station → Answer
tick_at e None s = refused 9 s
tick_at e (Some i) s = carried i (decide e (get_or s.entries i blank) 0) s

abbrev pub tick_of : Record → Station → Answer
tick_of e s =
    cond (ltb e.time s.clock) (refused 8 s)
    (tick_at e (soonest e s) (at e.time s))

-- ---- requests

-- the bearers that a request takes of the bytes after it
abbrev pub taken : Record → List ℕ → List ℕ
taken e bearers = take (e.number * 32) bearers

-- as many whole bearer records as it counts, each well formed, and room for their verdicts
abbrev pub complete : Record → List ℕ → ℕ → Bool
complete e bearers room = leb (e.number * 32) (length bearers) && judgeable (taken e bearers) room

-- what is wrong with it where they are not
abbrev pub flaw_at : Record → List ℕ → ℕ → Option Flaw
flaw_at e bearers room = cond (leb (e.number * 32) (length bearers)) (flaw_of (taken e bearers) room) (Some missing)

-- what is malformed is told ahead of all others
abbrev pub unless : Option Flaw → Answer → Station → Answer
unless (Some flaw) other s = malformed flaw s
unless None other s = other

-- "the free units are the capacity less these"
abbrev pub free_units : Station → ℕ
free_units s = s.settings.capacity - s.used

-- what is admitted of bearers
abbrev pub admission : List ℕ → Station → Admission
admission bearers s = admission_of release8 (free_units s) (bearer.bearers_in (length bearers / 32) bearers)

-- "1, done: a held record, deadline clock plus guard"
abbrev pub held_for : Record → Admission → Station → Entry
held_for e a s = held e.neighbour e.old.0 (issue s) a.admitted a.units (s.clock + s.settings.guard)

-- "for a request sends 3", the reason being the reply number
abbrev pub failure : ℕ → Record → Station → Answer
failure reply e s = answer reply 0 0 (message 3 e.neighbour e.old.0 0 0 0 reply) s

-- what is admitted is held at a place, if it is anything
abbrev pub granted : Record → Admission → ℕ → Station → Answer
granted e a i s =
    answer 0 0 a.count (message 2 e.neighbour e.old.0 (issue s) a.admitted a.refused 0)
    (add i (issue s) (held_for e a s) s)

abbrev pub grant_at : Record → Admission → ℕ → Station → Answer
grant_at e a i s =
    cond (eqb a.admitted 0) (failure 5 e s)
    (cond (same_action (action_of e.kind 0) Held) (granted e a i s) (refused 6 s))

-- with its bearers at hand and a free place, if there is one; and what it leaves in the verdict buffer
abbrev pub admitted_at : Record → List ℕ → Option ℕ → Station → Answer
admitted_at e bearers None s = failure 4 e s
admitted_at e bearers (Some i) s = grant_at e (admission bearers s) i s

abbrev pub verdicts_at : List ℕ → Option ℕ → Station → List ℕ → List ℕ
verdicts_at bearers None s buffer = all_five (length bearers / 32) buffer
verdicts_at bearers (Some i) s buffer = verdicts_in bearers (free_units s) buffer

-- a held record that has its neighbour and Old ID, if there is one
abbrev pub repeat_of : Record → List ℕ → Option ℕ → Station → Answer
repeat_of e bearers (Some i) s = refused 3 s
repeat_of e bearers None s = admitted_at e bearers (find is_free s) s

abbrev pub verdicts_repeat : List ℕ → Option ℕ → Station → List ℕ → List ℕ
verdicts_repeat bearers (Some i) s buffer = buffer
verdicts_repeat bearers None s buffer = verdicts_at bearers (find is_free s) s buffer

-- "3, 4, 5 for requests", what is malformed ahead of them
abbrev pub request_of : Record → List ℕ → ℕ → Station → Answer
request_of e bearers room s =
    unless (flaw_at e bearers room) (repeat_of e (taken e bearers) (find (about e) s) s) s

abbrev pub request_verdicts : Record → List ℕ → Station → List ℕ → List ℕ
request_verdicts e bearers s buffer =
    cond (complete e bearers (length buffer)) (verdicts_repeat (taken e bearers) (find (about e) s) s buffer) buffer

-- ---- the step

-- what an event does, by its sort; a kind that is no event by itself is malformed
abbrev pub by_sort : Sort → Record → List ℕ → ℕ → Station → Answer
by_sort OneRecord e bearers room s = about_one e (find (about e) s) s
by_sort SoonestDue e bearers room s = tick_of e s
by_sort NewRecord e bearers room s = start_at e (find is_free s) s
by_sort AllOfNeighbour e bearers room s = reset_of e s
by_sort Request e bearers room s = request_of e bearers room s
by_sort NoChange e bearers room s = answer 0 0 0 silence s
by_sort NoEvent e bearers room s = malformed (flaw_in e) s

-- one event with the bytes that follow it and so much room for verdicts: what is malformed ahead of all others
abbrev pub step_of : Station → Record → List ℕ → ℕ → Answer
step_of s e bearers room = by_sort (sort_of_event e) e bearers room s

-- the verdict buffer after it
abbrev pub verdicts_of : Station → Record → List ℕ → List ℕ → List ℕ
verdicts_of s e bearers buffer = cond (same_sort (sort_of_event e) Request) (request_verdicts e bearers s buffer) buffer

-- ---- birth

-- a fresh station: "clock 0"; "before any issue it is as if 4,095 had been issued"
abbrev pub fresh : Settings → Station
fresh settings = record { entries = replicate 64 blank; clock = 0; last = 4095; used = 0; settings = settings }

-- a timer is 1 to 600,000 ms, the capacity at most 1,000,000,000 units
abbrev pub is_timer : ℕ → Bool
is_timer t = leb 1 t && leb t 600000

abbrev pub settled : Settings → Bool
settled x = leb x.capacity 1000000000 && is_timer x.prep && is_timer x.overall && is_timer x.guard

-- "16 setting out of range", and then "a fresh station of capacity 0 with all three timers 1 ms"
abbrev pub least : Settings
least = record { capacity = 0; prep = 1; overall = 1; guard = 1 }

abbrev pub born_of : Settings → Station
born_of settings = fresh (cond (settled settings) settings least)

abbrev pub birth_of : Settings → Birth
birth_of settings = record { reply = cond (settled settings) 0 16; station = born_of settings }
