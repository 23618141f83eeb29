-- Numbers of the station.
use Rattle.std.specs.Prelude.{ℕ, zero, suc, ◌+◌, Bool, cond, ◌&&◌, ◌||◌, List, leb, eqb}
use Rattle.std.specs.List.{list_any}
use Rattle.records.specs.declared.Kind.{Kind}
use Rattle.records.specs.declared.Kind.TheVariants as kinds
use Rattle.handover.specs.declared.Entry.{Entry}
use Rattle.handover.specs.declared.Reply.{Reply}
use Rattle.handover.specs.declared.Reply.TheVariants.{Done, NoRecord, Repeated, Full, NoneAdmitted, Untaken, Unfit, Early, NoneDue, BadSetting}
use Rattle.handover.specs.declared.events.Reason.{Reason}
use Rattle.handover.specs.declared.events.Reason.TheVariants.{Decided, TimedOut, Returned}

-- "A record is outgoing (preparing, prepared) or incoming (held, serving)": the states are numbered 1 to 4 in this order,
-- and 0 is a free place
abbrev pub is_free : Entry → Bool
is_free r = eqb r.state 0

abbrev pub is_outgoing : Entry → Bool
is_outgoing r = leb 1 r.state && leb r.state 2

abbrev pub is_incoming : Entry → Bool
is_incoming r = leb 3 r.state

abbrev pub is_held : Entry → Bool
is_held r = eqb r.state 3

-- what a free place holds
abbrev pub blank : Entry
blank =
    record {
      state = 0;
      neighbour = 0;
      old = record { 0 = 0 };
      new = record { 0 = 0 };
      requested = 0;
      admitted = 0;
      status = 0;
      units = 0;
      deadline = 0;
    }

-- what a start makes, and what an admitted request makes
abbrev pub preparing : ℕ → ℕ → ℕ → ℕ → Entry
preparing neighbour id set deadline =
    record {
      state = 1;
      neighbour = neighbour;
      old = record { 0 = id };
      new = record { 0 = 0 };
      requested = set;
      admitted = 0;
      status = 0;
      units = 0;
      deadline = deadline;
    }

abbrev pub held : ℕ → ℕ → ℕ → ℕ → ℕ → ℕ → Entry
held neighbour old id admitted units deadline =
    record {
      state = 3;
      neighbour = neighbour;
      old = record { 0 = old };
      new = record { 0 = id };
      requested = 0;
      admitted = admitted;
      status = 0;
      units = units;
      deadline = deadline;
    }

-- "Own IDs serve both roles": an outgoing record's own ID is its Old ID, an incoming one's its New ID
abbrev pub own_is : ℕ → Entry → Bool
own_is i r = is_outgoing r && eqb r.old.0 i || is_incoming r && eqb r.new.0 i

abbrev pub own : Entry → ℕ
own r = cond (is_outgoing r) r.old.0 r.new.0

-- "each next is the first after the last issued, 4,095 being followed by 0, that no record of this station uses as its own"
abbrev pub next_after : ℕ → ℕ
next_after i = cond (eqb i 4095) 0 (i + 1)

-- the search passes over so many numbers in use at the most: 64 are more than there can be
unfoldable pub issue_from : ℕ → ℕ → List Entry → ℕ
issue_from zero i rs = i
issue_from (suc most) i rs = cond (list_any (own_is i) rs) (issue_from most (next_after i) rs) i

-- the number of a kind
abbrev pub kind_number : Kind → ℕ
kind_number kinds.Request = 1
kind_number kinds.Acknowledge = 2
kind_number kinds.Failure = 3
kind_number kinds.StatusTransfer = 4
kind_number kinds.ContextRelease = 5
kind_number kinds.HandoverCancel = 6
kind_number kinds.ResetRequest = 7
kind_number kinds.ResetResponse = 8
kind_number kinds.Start = 9
kind_number kinds.Cancel = 10
kind_number kinds.Arrived = 11
kind_number kinds.Returned = 12
kind_number kinds.Left = 13
kind_number kinds.Reset = 14
kind_number kinds.Tick = 15
kind_number kinds.Bearer = 16
kind_number kinds.SendStatus = 17
kind_number kinds.ReleaseUe = 20

-- the number of a reply
abbrev pub reply_number : Reply → ℕ
reply_number Done = 0
reply_number NoRecord = 2
reply_number Repeated = 3
reply_number Full = 4
reply_number NoneAdmitted = 5
reply_number Untaken = 6
reply_number Unfit = 7
reply_number Early = 8
reply_number NoneDue = 9
reply_number BadSetting = 16

-- the number of a cancel's reason
abbrev pub reason_number : Reason → ℕ
reason_number Decided = 1
reason_number TimedOut = 2
reason_number Returned = 3
