-- Two fresh stations with nothing under way and no history: no record is there, and nothing is told, so each clause speaks of nothing.
use Prim.Native.Nat.{ℕ}
use mathlib.Core.Path.{◌≡◌, refl, ap}
use mathlib.Core.Bool.{true, false≢true}
use mathlib.Core.List.{nil≢cons}
use mathlib.Core.Logic.{inl, inr, ◌⊎◌}
use native.Mathlib.Omega.{arith}
use Rattle.table.specs.declared.Station.{Station}
use Rattle.table.specs.Reached.{Reached, born}
use Rattle.promises.specs.Views.{count, times, ids, some_out, some_held, out, held}
use Rattle.promises.proofs.Interface.{fresh, laws}
use Rattle.pair.specs.World.{Side, nothing, other, start, Fresh}
use Rattle.pair.proofs.Lists.{no_pair}
use Rattle.pair.proofs.Directions.{direction}
use Rattle.pair.proofs.Invariant.{Invariant}

pub fresh_reached : (x : Station) → Fresh x → Reached x
fresh_reached x f = rw f.born (born f.settings)

-- A fresh station has no record.
no_id : (x : Station) → Fresh x → (i : ℕ) → times i (ids x) ≡ 0
unfolding count
no_id x f i = rw (f.born, (fresh f.settings).0)

empty : (x : Station) → Fresh x → (p i : ℕ) → (some_out (out x p i) ≡ true) ⊎ (some_held (held x p i) ≡ true) → ⊥
empty x f p i there = omega (arith, (laws (fresh_reached x f)).view p i there, no_id x f i)

pub beginning : (peer : Side → ℕ) (stations : Side → Station) → ((s : Side) → Fresh (stations s)) → (s : Side) → Invariant s (direction peer (start stations) s)
beginning peer stations f s =
    record {
      used = λ i there. absurd (omega (arith, no_id (stations s) (f s) i));
      issued = λ i was. absurd (omega arith);
      ledger = λ i was. absurd (omega arith);
      new = λ h later. refl;
      requests = nothing;
      once = no_pair;
      acknowledges = nothing;
      failures = nothing;
      releases = nothing;
      held = λ n old set is. absurd (empty (stations (other s)) (f (other s)) (peer (other s)) n (inr (ap some_held is)));
      prepared = λ i n set is. absurd (empty (stations s) (f s) (peer s) i (inl (ap some_out is)));
      order = no_pair;
      release_prepared = nothing;
      held_acknowledge = nothing;
      held_prepared = λ old n set admitted is was. absurd (empty (stations s) (f s) (peer s) old (inl (ap some_out was)));
      live = λ i is. absurd (empty (stations s) (f s) (peer s) i (inl is));
      ended = λ h asked. absurd (false≢true asked);
      moved = λ h. (λ ended. absurd (nil≢cons ended), λ released. absurd (false≢true released));
      while_prepared = λ h released. absurd (false≢true released);
      failed = λ h ended. absurd (nil≢cons ended);
      arrived = λ h arrived. absurd (false≢true arrived);
    }
