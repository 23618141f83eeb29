-- In every station that a fresh one reached, the records have neighbours below 32 and IDs below 4,096.
use Prim.Native.Nat.{ℕ, ◌≤◌, ◌<◌}
use borrow.Author.Tests.{ne_eqb}
use native.Mathlib.Omega.{arith}
use lib.ListN.{length, get_or, get_or-replicate}
use Rattle.records.specs.declared.Record.{Record}
use Rattle.table.specs.declared.Answer.{Answer}
use Rattle.handover.specs.declared.Entry.{Entry}
use Rattle.table.specs.declared.Station.{Station}
use Rattle.handover.specs.Numbers.{is_free, blank}
use Rattle.table.specs.Reached.{Reached, born, stepped}
use Rattle.table.specs.Sound.{Sound}
use Rattle.table.specs.Step.{issue, started, held_for}
use Rattle.table.specs.Table.{add}
use Rattle.table.proofs.Counting.{issue_small}
use Rattle.table.proofs.Finding.{found_here, set_each}
use Rattle.fields.proofs.Forms.{neighbour_within, old_within, new_within}
use Rattle.table.proofs.Soundness.{sound}
use Rattle.promises.proofs.Turns.{Turn, starts, admits, turns, Change, stays, stores, prepares, serves, ends, turn}

abbrev pub Bounded : Entry → Type 0
Bounded r = (r.neighbour ≤ 31) × (r.old.0 ≤ 4095) × (r.new.0 ≤ 4095)

-- A record that changes keeps its bounds: an acknowledge has a New ID below 4,096.
change_bounded : {e : Record} {z : ℕ} {x y : Entry} → Change e z x y → Bounded x → Bounded y
change_bounded stays b = b
change_bounded stores b = b
change_bounded {e} (prepares deadline formed two _ _ _) b = (b.0, b.1, new_within e formed (ne_eqb e.kind 6 (λ six. omega arith)))
change_bounded (serves _) b = b
change_bounded (ends _ _) b = (omega arith, omega arith, omega arith)

module _ (s : Station) (sound : Sound s) (all : (j : ℕ) → j < 64 → Bounded (get_or s.entries j blank)) where
  -- So does a table in which one is made that has them.
  made_bounded : (k : ℕ) (r : Entry) → k < length s.entries → Bounded r → (j : ℕ) → j < 64 → Bounded (get_or (add k (issue s) r s).entries j blank)
  made_bounded k r place b = set_each (λ j x. j < 64 → Bounded x) s.entries k r place (λ _. b) (λ j _. all j)

  turn_bounded : {e : Record} {a : Answer} → Turn s e a → (j : ℕ) → j < 64 → Bounded (get_or a.station.entries j blank)
  turn_bounded {e} (starts k found formed nine) = made_bounded k (started e s) (found_here is_free s k found).0 (neighbour_within e formed, omega (arith, issue_small s sound), omega arith)
  turn_bounded {e} (admits k found formed one a) = made_bounded k (held_for e a s) (found_here is_free s k found).0 (neighbour_within e formed, old_within e formed, omega (arith, issue_small s sound))
  turn_bounded (turns t) = λ j h. change_bounded (t.change j h) (all j h)

pub bounded : {s : Station} → Reached s → (j : ℕ) → j < 64 → Bounded (get_or s.entries j blank)
bounded (born settings) = λ j h. rw (get_or-replicate 64 j blank blank h) (omega arith, omega arith, omega arith)
bounded (stepped {s} before e _ bearers room) =
    turn_bounded s (sound before) (bounded before) (turn s (sound before) e bearers room)
