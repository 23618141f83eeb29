-- A record of another kind than a request's has no use for bearers and verdicts, so that a step alone answers it.
use Rattle.std.proofs.Common.{◌≡◌, ℕ, ◌≤◌, false, eqb, Some, List, [], length, drop, sym, ◌∙◌, le-ltb, ne_eqb, leb-true}
use Rattle.records.specs.Record.{record_at, room_at, read_at}
use Rattle.records.specs.declared.Record.{Record}
use Rattle.records.proofs.Rest.{was_whole, head_whole}
use Rattle.table.specs.declared.Answer.{Answer}
use Rattle.table.specs.declared.Station.{Station}
use Rattle.table.specs.Reached.{Reached}
use Rattle.table.specs.Step.{step_of}
use Rattle.table.proofs.Requests.{alone_step, alone_verdicts}
use Rattle.fields.proofs.Sorts.{no_request}
use Rattle.lines.specs.Lines.{answer_to, verdicts_to}
use Rattle.lines.proofs.Turning.{part}
use Rattle.lines.proofs.answered.Goals as goal

module _ (event : List ℕ) (r : Record) (read : read_at event 0 ≡ Some r) where
  -- the bytes of a record that was read
  long : 32 ≤ length event
  long = leb-true 32 (length event) (was_whole (room_at event 0) (record_at event 0) r read).0

  -- the answer to a record that is no request
  alone : (s : Station) (buffer : List ℕ) (a : Answer) → eqb r.kind 1 ≡ false → a ≡ step_of s r [] 0 → Reached a.station
      → (a ≡ answer_to (length buffer) s event) × (buffer ≡ verdicts_to s event buffer) × Reached a.station
  alone s buffer a other answer reached =
      let plain = no_request r other in
      rw (le-ltb (length event) 32 long, head_whole event r read) (answer ∙ alone_step s r (drop 32 event) (length buffer) plain, sym (alone_verdicts s r (drop 32 event) buffer plain), reached)

pub returns-in-Some : goal.returns-in-Some
returns-in-Some c =
    let event = c.args.event.now in
    let read = sym c.in-Some.ensures in
    rw (le-ltb (length event) 32 (long event c.in-Some.r read), head_whole event c.in-Some.r read, ← part event 32) c.request.ensures

pub returns-in-Some-2 : goal.returns-in-Some-2
returns-in-Some-2 c =
    let r = c.in-Some.r in
    alone c.args.event.now r (sym c.in-Some.ensures) c.args.station c.args.verdicts.now c.step.result (ne_eqb r.kind 1 c.if-r.false) c.step.ensures.0 c.step.ensures.1
