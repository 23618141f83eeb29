-- What a sound station lets a step do at a place of its table.
use Rattle.std.specs.Prelude.{Some, None}
use Prim.Native.Nat.{ℕ, ◌<◌}
use mathlib.Core.Bool.{Bool}
use mathlib.Core.Path.{◌≡◌}
use native.Mathlib.Omega.{arith}
use lib.ListN.{get_or}
use Rattle.laws.proofs.Sums.{total_at}
use Rattle.records.specs.declared.Record.{Record}
use Rattle.handover.specs.declared.Decision.{Decision}
use Rattle.handover.specs.declared.Entry.{Entry}
use Rattle.table.specs.declared.Station.{Station}
use Rattle.handover.specs.Events.{decide}
use Rattle.handover.specs.Numbers.{blank}
use Rattle.table.specs.Sound.{Sound}
use Rattle.table.specs.Table.{find, soonest, at, Puts}
use Rattle.handover.proofs.Deciding.{decide_units}
use Rattle.places.proofs.Finding.{due_at}
use Rattle.table.proofs.Finding.{found_here}

module _ (s : Station) (sound : Sound s) where
  -- A place that is found is one of the 64.
  pub found_place : (test : Entry → Bool) (k : ℕ) → find test s ≡ Some k → k < 64
  found_place test k found = omega (arith, (found_here test s k found).0, sound.places)

  pub due_place : (e : Record) (k : ℕ) → soonest e s ≡ Some k → k < 64
  due_place e k found =
      omega (arith, due_at e s.entries None 0 k (λ b none. absurd cc) found, sound.places)

  -- A decision about a record can be carried out, whatever the clock.
  pub decided_puts : (e : Record) (i deadline time : ℕ) (d : Decision) → i < 64 → d ≡ decide e (get_or s.entries i blank) deadline → Puts i d.entry (at time s)
  decided_puts e i deadline time d here is =
      let units = total_at (λ r. r.units) s.entries i blank (omega (arith, sound.places)) in
      let fewer = decide_units e (get_or s.entries i blank) deadline in
      record {
        place = here;
        places = sound.places;
        back = omega (arith, units, sound.sum);
        out = rw is (omega (arith, units, fewer, sound.sum, sound.used, sound.settings.capacity));
      }
