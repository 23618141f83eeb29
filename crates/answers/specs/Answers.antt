-- What a station answers to an event.
use Rattle.std.specs.Prelude.{ℕ}
use Rattle.std.specs.Option.{unwrap_or}
use Rattle.records.specs.declared.Record.{Record}
use Rattle.fields.specs.Fields.{fault_of}
use Rattle.bearers.specs.declared.Flaw.{Flaw}
use Rattle.bearers.specs.Flaws.{flaw_at}
pub use Rattle.bearers.specs.Flaws.{missing}
use Rattle.handover.specs.Events.{silence}
use Rattle.answers.specs.declared.Outcome.{Outcome}

-- a reply that says what is wrong, changes nothing and sends nothing: "Any reply but 0 has ending 0"
abbrev pub refusal : Flaw → Outcome
refusal f = record { reply = f.reply; ending = 0; offset = f.offset; place = f.place; count = 0; message = silence }

-- one that is for no field: "0 where none"
abbrev pub said : ℕ → ℕ → ℕ → Record → Outcome
said reply ending count sent = record { reply = reply; ending = ending; offset = 0; place = 0; count = count; message = sent }

abbrev pub quiet : ℕ → Outcome
quiet reply = said reply 0 0 silence

-- what is wrong with a malformed event by itself: its kind or a field, else a request's count or its bearers; "0 for the request itself"
abbrev pub flaw_in : Record → Flaw
flaw_in e = unwrap_or (flaw_at (fault_of e) 0) missing
