-- How the record that is due the soonest is found.
use Rattle.std.specs.Prelude.{ℕ, ◌+◌, Bool, true, cond, ◌&&◌, List, [], ◌∷◌, Option, Some, None}
use Rattle.records.specs.declared.Record.{Record}
use Rattle.handover.specs.declared.Entry.{Entry}
use Rattle.handover.specs.Events.{key, due_by, sooner}
use Rattle.places.specs.declared.Best.{Best}

-- whether a record is sooner than the soonest so far, if there is one
abbrev pub beats : Entry → Option Best → Bool
beats r None = true
beats r (Some best) = sooner r best.entry

-- the soonest so far after one record more, and the place of the soonest once all were looked at
abbrev pub better_by : (ℕ → ℕ) → Record → ℕ → Entry → Option Best → Option Best
better_by by e i r best = cond (due_by by e r && beats r best) (Some (record { place = i; entry = r })) best

abbrev pub place_of : Option Best → Option ℕ
place_of None = None
place_of (Some best) = Some best.place

unfoldable pub due_from : Record → Option Best → ℕ → List Entry → Option ℕ
due_from e best i [] = place_of best
due_from e best i (r ∷ rs) = due_from e (better_by (key e.kind) e i r best) (i + 1) rs
