-- The worked cases of the rules that are proved: events one after the other, and what must come out of each.
use Rattle.std.specs.Prelude.{ℕ, ◌≡◌, Bool, true, false, cond, List, [], ◌∷◌, ◌++◌, length, replicate}
use Rattle.records.specs.declared.Record.{Record}
use Rattle.records.specs.Record.{bytes_of}
use Rattle.handover.specs.declared.Entry.{Entry}
use Rattle.table.specs.declared.Settings.{Settings}
use Rattle.table.specs.declared.Station.{Station}
use Rattle.handover.specs.Events.{message, silence}
use Rattle.handover.specs.Numbers.{blank}
use Rattle.table.specs.Reached.{Reached}
use Rattle.table.specs.Step.{step_of, verdicts_of, born_of}
use Rattle.table.specs.Table.{holding}
use Rattle.records.specs.Record.{altered}

-- an event, and the bearers that follow it
pub record Event : Type 0 where
  pub event : Record
  pub bearers : List Record

-- what is seen of a step: its reply and ending, which field of which bearer was wrong, how many bearers it admitted, the message that it sends,
-- and the verdicts
pub record Seen : Type 0 where
  pub reply : ℕ
  pub ending : ℕ
  pub offset : ℕ
  pub place : ℕ
  pub count : ℕ
  pub message : Record
  pub verdicts : List ℕ

-- a case: whether it starts where all own IDs were issued once, else fresh; its events; and what must be seen of each
pub record Case : Type 0 where
  pub wrapped : Bool
  pub events : List Event
  pub seen : List Seen

-- ---- where cases start

-- "Capacity 100, prep 50, overall 2,000, guard 3,000"
abbrev pub settings : Settings
settings = record { capacity = 100; prep = 50; overall = 2000; guard = 3000 }

abbrev pub freshly : Station
freshly = born_of settings

-- what a start towards neighbour 3 with bearer 5 leaves there, with an own ID
abbrev pub preparing : ℕ → Entry
preparing id =
    record {
      state = 1;
      neighbour = 3;
      old = record { 0 = id };
      new = record { 0 = 0 };
      requested = 32;
      admitted = 0;
      status = 0;
      units = 0;
      deadline = 50;
    }

-- such a station with these records, that issued a number last
abbrev pub station_with : List Entry → ℕ → Station
station_with entries last = holding entries last 0 freshly

-- its own 0 is preparing, and it issued another number last
abbrev pub issued_last : ℕ → Station
issued_last last = station_with (preparing 0 ∷ replicate 63 blank) last

abbrev pub start_of : Case → Station
start_of c = cond c.wrapped (issued_last 4095) freshly

-- ---- what a case shows

-- bearers as they stand after their request, one record after the other
unfoldable pub bytes_in : List Record → List ℕ
bytes_in [] = []
bytes_in (b ∷ bs) = bytes_of b ++ bytes_in bs

-- a buffer for their verdicts: 9, which is none
abbrev pub buffer : Event → List ℕ
buffer e = replicate (length e.bearers) 9

abbrev pub seen_of : Station → Event → Seen
seen_of s e =
    let a = step_of s e.event (bytes_in e.bearers) (length (buffer e)) in
    record {
      reply = a.outcome.reply;
      ending = a.outcome.ending;
      offset = a.outcome.offset;
      place = a.outcome.place;
      count = a.outcome.count;
      message = a.outcome.message;
      verdicts = verdicts_of s e.event (bytes_in e.bearers) (buffer e);
    }

abbrev pub next : Station → Event → Station
next s e = (step_of s e.event (bytes_in e.bearers) (length (buffer e))).station

-- events one after the other
unfoldable pub runs : Station → List Event → List Seen
runs s [] = []
runs s (e ∷ es) = seen_of s e ∷ runs (next s e) es

-- A case holds: it starts where a fresh station comes to, and what must be seen is seen.
pub record Holds (c : Case) : Type 0 where
  pub reached : Reached (start_of c)
  pub shown : runs (start_of c) c.events ≡ c.seen

-- ---- how cases are written

-- a record with a number and a time
abbrev pub numbered : ℕ → ℕ → Record → Record
numbered number time m = altered m.kind m.neighbour number time m

-- a bearer without GBR information: its ID, QCI, priority and units
abbrev pub bearer : ℕ → ℕ → ℕ → ℕ → Record
bearer id qci priority units =
    record {
      kind = 16;
      neighbour = 0;
      old = record { 0 = 0 };
      new = record { 0 = 0 };
      first = 0;
      second = 0;
      reason = 0;
      byte11 = 0;
      number = units;
      time = 0;
      erab = id;
      qci = qci;
      priority = priority;
      flags = 0;
      bytes28 = 0;
    }

-- a request from neighbour 3 with Old ID 7
abbrev pub request : List Record → Event
request bearers = record { event = numbered (length bearers) 0 (message 1 3 7 0 0 0 0); bearers = bearers }

-- an event without bearers: a tick, a start towards neighbour 3 with bearer 5, and a cancel
abbrev pub alone : Record → Event
alone e = record { event = e; bearers = [] }

abbrev pub tick : ℕ → Event
tick time = alone (numbered 0 time (message 15 0 0 0 0 0 0))

abbrev pub start : Event
start = alone (message 9 3 0 0 32 0 0)

abbrev pub cancel : ℕ → Event
cancel old = alone (message 10 0 old 0 0 0 0)

-- what is seen: of a request, with no ending, how many bearers it admitted; of another event, with no verdicts, the ending
abbrev pub judged : ℕ → ℕ → Record → List ℕ → Seen
judged reply count sent verdicts = record { reply = reply; ending = 0; offset = 0; place = 0; count = count; message = sent; verdicts = verdicts }

abbrev pub seeing : ℕ → ℕ → Record → Seen
seeing reply ending sent = record { reply = reply; ending = ending; offset = 0; place = 0; count = 0; message = sent; verdicts = [] }

-- of a request with a bearer that is malformed, which field of which one, and no verdict
abbrev pub wrong : ℕ → ℕ → ℕ → Seen
wrong reply offset place = record { reply = reply; ending = 0; offset = offset; place = place; count = 0; message = silence; verdicts = 9 ∷ [] }

-- the acknowledge of the request, with New ID 0, and its failure
abbrev pub acknowledge : ℕ → ℕ → Record
acknowledge admitted refused = message 2 3 7 0 admitted refused 0

abbrev pub failure : ℕ → Record
failure reason = message 3 3 7 0 0 0 reason

-- a request at a fresh station, and what is seen of it
abbrev pub asked : List Record → Seen → Case
asked bearers seen = record { wrapped = false; events = request bearers ∷ []; seen = seen ∷ [] }

-- ---- the cases, in the order of the rules; "QCI is 9 and priority 1 where none is named"

abbrev pub cases : List Case
cases =
    -- "bearers (ID 1, priority 5, 70 units), (2, 3, 60), (3, 5, 40): verdicts 4, 0, 0"
    asked (bearer 1 9 5 70 ∷ bearer 2 9 3 60 ∷ bearer 3 9 5 40 ∷ []) (judged 0 2 (acknowledge 12 2) (4 ∷ 0 ∷ 0 ∷ []))
    -- "IDs 5, 5, 6, all fitting: 1, 1, 0"
    ∷ asked (bearer 5 9 1 10 ∷ bearer 5 9 1 10 ∷ bearer 6 9 1 10 ∷ []) (judged 0 1 (acknowledge 64 32) (1 ∷ 1 ∷ 0 ∷ []))
    -- "one bearer of 100: 0"
    ∷ asked (bearer 5 9 1 100 ∷ []) (judged 0 1 (acknowledge 32 0) (0 ∷ []))
    -- "of 101: 4, reply 5"
    ∷ asked (bearer 5 9 1 101 ∷ []) (judged 5 0 (failure 5) (4 ∷ []))
    -- "priority 0 and QCI 1 without information: 2"
    ∷ asked (bearer 5 1 0 10 ∷ []) (judged 5 0 (failure 5) (2 ∷ []))
    -- "QCI 4 without: 3"
    ∷ asked (bearer 5 4 1 10 ∷ []) (judged 5 0 (failure 5) (3 ∷ []))
    -- "QCI 5 without: 0"
    ∷ asked (bearer 5 5 1 10 ∷ []) (judged 0 1 (acknowledge 32 0) (0 ∷ []))
    -- "priority 16": reply 11 at offset 26, place 1
    ∷ asked (bearer 5 9 16 10 ∷ []) (wrong 11 26 1)
    -- "start at clock 0, tick 49: 9"
    ∷ record {
      wrapped = false;
      events = start ∷ tick 49 ∷ [];
      seen = seeing 0 0 (message 1 3 0 0 32 0 0) ∷ seeing 9 0 silence ∷ [];
    }
    -- "then tick 50: 0, cancel with New absent; the late acknowledge: 2"
    ∷ record {
      wrapped = false;
      events = start ∷ tick 49 ∷ tick 50 ∷ alone (message 2 3 0 0 32 0 0) ∷ [];
      seen = seeing 0 0 (message 1 3 0 0 32 0 0)
          ∷ seeing 9 0 silence
          ∷ seeing 0 2 (message 6 3 0 65535 0 0 2)
          ∷ seeing 2 0 silence
          ∷ [];
    }
    -- "last issued 4,095, own 0 in use: next is 1"
    ∷ record {
      wrapped = true;
      events = start ∷ [];
      seen = seeing 0 0 (message 1 3 1 0 32 0 0) ∷ [];
    }
    ∷ []

-- what is read beyond the last: nothing happens, and nothing is seen
abbrev pub no_case : Case
no_case = record { wrapped = false; events = []; seen = [] }
