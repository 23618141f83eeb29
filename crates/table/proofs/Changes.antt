-- The four ways in which a station changes leave it sound.
use Prim.Native.Nat.{ℕ, ◌+◌, ◌≤◌, ◌<◌}
use mathlib.Core.Path.{◌≡◌, refl, ◌∙◌}
use mathlib.Core.Bool.{true}
use mathlib.Core.List.{map}
use native.Mathlib.Omega.{arith}
use lib.ListN.{length, get_or, set, length-set, length-map}
use Rattle.laws.proofs.Sums.{total_at, total_set, total_map, total_equal, total_le, total_add}
use Rattle.laws.specs.Sums.{total}
use Rattle.laws.proofs.Tests.{by_cases}
use Rattle.records.specs.declared.Record.{Record}
use Rattle.handover.specs.declared.Entry.{Entry}
use Rattle.table.specs.declared.Station.{Station}
use Rattle.handover.specs.Events.{resets}
use Rattle.handover.specs.Numbers.{is_free, blank}
use Rattle.table.specs.Sound.{Fit, Sound, own_times, held_times}
use Rattle.table.specs.Table.{at, put, add, left_of, back_of, reset}
use Rattle.table.proofs.Finding.{set_each}
use Rattle.table.proofs.Fits.{fit_blank}
use Rattle.table.proofs.Resetting.{reset_at}

module _ (s : Station) (sound : Sound s) where
  -- The clock may be any time up to the greatest.
  pub sound_at : (time : ℕ) → time ≤ 1000000000000 → Sound (at time s)
  sound_at time small =
      record {
        places = sound.places;
        fit = sound.fit;
        distinct = sound.distinct;
        unique = sound.unique;
        sum = sound.sum;
        used = sound.used;
        clock = small;
        last = sound.last;
        settings = sound.settings;
      }

  module _ (i : ℕ) (r : Entry) (place : i < 64) (fit : Fit r) where
    inside : i < length s.entries
    inside = omega (arith, sound.places)

    -- Where one record is replaced by one that fits, every record does.
    fit_set : (j : ℕ) → j < 64 → Fit (get_or (set s.entries i r) j blank)
    fit_set = set_each (λ j x. j < 64 → Fit x) s.entries i r inside (λ _. fit) (λ j _. sound.fit j)

    -- A record may be replaced by one that has no other own ID, is not newly held and has no more units.
    pub sound_put :
        ((k : ℕ) → own_times k r ≤ own_times k (get_or s.entries i blank))
        → ((n o : ℕ) → held_times n o r ≤ held_times n o (get_or s.entries i blank))
        → r.units ≤ (get_or s.entries i blank).units
        → Sound (put i r s)
    sound_put own held units =
        let changed = total_set (λ x. x.units) s.entries i r blank inside in
        let back = total_at (λ x. x.units) s.entries i blank inside in
        record {
          places = length-set s.entries i r ∙ sound.places;
          fit = fit_set;
          distinct = λ k. omega (arith, own k, sound.distinct k, total_set (own_times k) s.entries i r blank inside);
          unique = λ n o. omega (arith, held n o, sound.unique n o, total_set (held_times n o) s.entries i r blank inside);
          sum = omega (arith, sound.sum);
          used = omega (arith, sound.sum, sound.used);
          clock = sound.clock;
          last = sound.last;
          settings = sound.settings;
        }

    -- A record may be made at a free place, whose own ID, and if it is held whose neighbour and Old ID, no other has, and whose
    -- units are free.
    pub sound_add : (issued : ℕ) → issued < 4096 → is_free (get_or s.entries i blank) ≡ true
        → ((k : ℕ) → total (own_times k) s.entries + own_times k r ≤ 1)
        → ((n o : ℕ) → total (held_times n o) s.entries + held_times n o r ≤ 1)
        → s.used + r.units ≤ s.settings.capacity
        → Sound (add i issued r s)
    sound_add issued small free own held units =
        let changed = total_set (λ x. x.units) s.entries i r blank inside in
        let empty = (sound.fit i place).idle free in
        record {
          places = length-set s.entries i r ∙ sound.places;
          fit = fit_set;
          distinct = λ k. omega (arith, own k, total_set (own_times k) s.entries i r blank inside);
          unique = λ n o. omega (arith, held n o, total_set (held_times n o) s.entries i r blank inside);
          sum = omega (arith, sound.sum, rw empty at changed);
          used = units;
          clock = sound.clock;
          last = small;
          settings = sound.settings;
        }

  -- The records of a neighbour may end.
  pub sound_reset : (e : Record) → Sound (reset e s)
  sound_reset e =
      record {
        places = length-map s.entries (left_of e) ∙ sound.places;
        fit = λ i h. rw (reset_at e s i) (left_fits (get_or s.entries i blank) (sound.fit i h));
        distinct = λ k. omega (arith, sound.distinct k, fewer (own_times k) refl);
        unique = λ n o. omega (arith, sound.unique n o, fewer (held_times n o) refl);
        sum = omega (arith, sound.sum, parts);
        used = omega (arith, sound.used);
        clock = sound.clock;
        last = sound.last;
        settings = sound.settings;
      }
    where
      left_fits : (r : Entry) → Fit r → Fit (left_of e r)
      left_fits r fit = by_cases (resets e r) (λ t. rw t fit_blank) (λ t. rw t fit)

      fewer : (f : Entry → ℕ) → f blank ≡ 0 → total f (map (left_of e) s.entries) ≤ total f s.entries
      fewer f none =
          rw (total_map f (left_of e) s.entries)
          (total_le (λ r. f (left_of e r)) f s.entries (λ r. by_cases (resets e r) (λ t. rw t (omega arith)) (λ t. rw t (omega arith))))

      parts : total (λ r. r.units) s.entries ≡ total (back_of e) s.entries + total (λ r. r.units) (map (left_of e) s.entries)
      parts =
          let each = total_equal (λ r. r.units) (λ r. back_of e r + (left_of e r).units) s.entries (λ r. by_cases (resets e r) (λ t. rw t (omega arith)) (λ t. rw t (omega arith))) in
          omega (arith, total_add (back_of e) (λ r. (left_of e r).units) s.entries, total_map (λ r. r.units) (left_of e) s.entries)
