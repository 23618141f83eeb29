-- What is wrong with an event by itself has one of four replies.
use Prim.Native.Nat.{◌≤◌}
use mathlib.Core.Path.{◌≡◌, refl}
use mathlib.Core.Bool.{true}
use native.Mathlib.Omega.{arith}
use Rattle.std.specs.Option.{unwrap_or}
use Rattle.std.proofs.Common.{Option, Some, None}
use Rattle.records.specs.declared.Record.{Record}
use Rattle.fields.specs.declared.Fault.{Fault}
use Rattle.fields.specs.Fields.{fault_of, well_formed}
use Rattle.fields.proofs.Faults.{fault_listed, formed_faultless}
use Rattle.bearers.specs.Flaws.{flaw_at}
use Rattle.answers.specs.Answers.{flaw_in, missing}

pub flaw_in_listed : (e : Record) → (10 ≤ (flaw_in e).reply) × ((flaw_in e).reply ≤ 13)
flaw_in_listed e = listed (fault_of e) refl
  where
    listed : (fault : Option Fault) → fault_of e ≡ fault → let flaw = unwrap_or (flaw_at fault 0) missing in (10 ≤ flaw.reply) × (flaw.reply ≤ 13)
    listed None is = (omega arith, omega arith)
    listed (Some fault) is = let its = fault_listed e fault is in (its.0, omega (arith, its.1))

-- Of one that is well formed, a request without its bearers, it is that they are missing.
pub bearers_missing : (e : Record) → well_formed e ≡ true → flaw_in e ≡ missing
bearers_missing e formed = rw (formed_faultless e formed)
