-- What an octet's rule says of it.
use Rattle.std.specs.Prelude.{ℕ, ◌-◌, Bool, cond, not, ◌&&◌, ◌||◌, leb, eqb, is_some}
use Rattle.wire.specs.Causes.{reason_of}
use Rattle.wire.specs.Parts.{a_choice, a_cause, id_end}
use Rattle.wire.specs.declared.Refusal.{Refusal}
use Rattle.wire.specs.declared.rules.Rule.{Rule}

-- whether it may stand there: it is within its bounds, and a Cause is one of 9.2.6
abbrev pub allows : Rule → ℕ → Bool
allows r octet =
    leb r.least octet && leb octet r.most && (not (eqb r.form a_cause) || is_some (reason_of octet))

-- what is said of one that may not: a choice of another message, in the upper three bits, is 18
abbrev pub reply_by : Rule → ℕ → ℕ
reply_by r octet = cond (eqb r.form a_choice && leb 32 octet) 18 r.reply

-- and where: of an id at its first octet
abbrev pub refusal_by : Rule → ℕ → ℕ → Refusal
refusal_by r octet at = record { reply = reply_by r octet; at = at - cond (eqb r.form id_end) 1 0 }
