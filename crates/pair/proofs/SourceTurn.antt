-- A turn of the source keeps the invariant of the direction: clause by clause.
use Prim.Native.Nat.{ℕ}
use mathlib.Core.List.{List}
use Rattle.std.specs.Prelude.{Option}
use Rattle.records.specs.declared.Record.{Record}
use Rattle.table.specs.declared.Answer.{Answer}
use Rattle.promises.specs.Views.{issued}
use Rattle.pair.specs.World.{Side, Envelope}
use Rattle.pair.proofs.Directions.{Direction, source_after, SourceStep}
use Rattle.pair.proofs.Invariant.{Invariant}
use Rattle.pair.proofs.Ledger.{used_kept, issued_kept, ledger_kept}
use Rattle.pair.proofs.SourceQueues.{new_kept, requests_kept, once_kept, acknowledges_kept, failures_kept, releases_kept, held_kept, order_kept, held_acknowledge_kept}
use Rattle.pair.proofs.SourceTables.{prepared_kept, release_prepared_kept, held_prepared_kept, live_kept}
use Rattle.pair.proofs.SourceHistory.{ended_kept, moved_kept, while_prepared_kept, failed_kept}

pub source_turn : (s : Side) (d : Direction) (e : Record) (a : Answer) (taken : Option Envelope) (rest : List Envelope) (stamp : Side → ℕ) (fixed : ℕ → ℕ)
    → SourceStep s d e a taken rest stamp fixed → Invariant s d → Invariant s (source_after s d e a taken rest stamp fixed)
source_turn s d e a taken rest stamp fixed x inv =
    record {
      used = used_kept d.numbers (issued a) x.step.issue x.step.no_issue inv.used;
      issued = issued_kept d.numbers (issued a) x.step.issue x.laws inv.issued;
      ledger = ledger_kept d.numbers (issued a) x.step.issue x.step.no_issue x.laws inv.issued inv.ledger;
      new = new_kept x inv;
      requests = requests_kept x inv;
      once = once_kept x inv;
      acknowledges = acknowledges_kept x inv;
      failures = failures_kept x inv;
      releases = releases_kept x inv;
      held = held_kept x inv;
      prepared = prepared_kept x inv;
      order = order_kept x inv;
      release_prepared = release_prepared_kept x inv;
      held_acknowledge = held_acknowledge_kept x inv;
      held_prepared = held_prepared_kept x inv;
      live = live_kept x inv;
      ended = ended_kept x inv;
      moved = moved_kept x inv;
      while_prepared = while_prepared_kept x inv;
      failed = failed_kept x inv;
      arrived = inv.arrived;
    }
