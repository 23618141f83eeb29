-- "Units in use are all units admitted since birth, less those of incoming records that have ended": over a whole run.
use Prim.Native.Nat.{ℕ, suc, ◌+◌, ◌<◌}
use mathlib.Core.Path.{◌≡◌, refl}
use mathlib.Core.Bool.{false, cond, ◌&&◌, and-false}
use mathlib.Core.List.{List, [], ◌∷◌}
use borrow.Author.Tests.{eqb-true}
use native.Mathlib.Omega.{arith}
use lib.Dec.{eqb}
use lib.ListN.{length, get_or, set}
use Rattle.laws.specs.Sums.{total}
use Rattle.laws.proofs.Tests.{by_cases}
use Rattle.records.specs.declared.Record.{Record}
use Rattle.handover.specs.declared.Entry.{Entry}
use Rattle.handover.specs.Numbers.{is_free, is_incoming, blank}
use Rattle.table.specs.declared.Answer.{Answer}
use Rattle.table.specs.declared.Station.{Station}
use Rattle.table.specs.Reached.{Reached, born, stepped}
use Rattle.table.specs.Sound.{Fit, Sound}
use Rattle.table.specs.Step.{step_of, started, held_for}
use Rattle.table.proofs.Finding.{found_here, set_each}
use Rattle.table.proofs.Soundness.{sound, sound_step}
use Rattle.promises.proofs.Turns.{Change, stays, stores, prepares, serves, ends, Turn, starts, admits, turns, turn}
use Rattle.promises.proofs.Units.{given_out, Accounts, accounts, none_out, none_back}

-- ---- what ends

-- the units of an incoming record that ends: it stood at a place that is free afterwards
abbrev pub ended_at : Entry → Entry → ℕ
ended_at r after = cond (is_incoming r && is_free after) r.units 0

unfoldable pub ended_in : List Entry → List Entry → ℕ
ended_in [] after = 0
ended_in (r ∷ rs) [] = 0
ended_in (r ∷ rs) (x ∷ xs) = ended_at r x + ended_in rs xs

-- over a run from birth on: all units admitted, and all units of incoming records that have ended
unfoldable pub admitted_since : {s : Station} → Reached s → ℕ
admitted_since (born settings) = 0
admitted_since (stepped {s} before e small bearers room) = admitted_since before + given_out (step_of s e bearers room) e bearers s

unfoldable pub ended_since : {s : Station} → Reached s → ℕ
ended_since (born settings) = 0
ended_since (stepped {s} before e small bearers room) = ended_since before + ended_in s.entries (step_of s e bearers room).station.entries

-- ---- one place

-- An incoming record is not free.
not_both : (r : Entry) → (is_incoming r && is_free r) ≡ false
not_both r = by_cases (is_free r) (λ t. rw (eqb-true r.state 0 t)) (λ t. by_cases (is_incoming r) (λ u. rw (u, t)) (λ u. rw u))

-- A record keeps its units, or ends with them; an outgoing one has none.
changed_units : {e : Record} {z : ℕ} {r after : Entry} → Fit r → Change e z r after → after.units + ended_at r after ≡ r.units
changed_units {r = r} fit stays = rw (not_both r) (omega arith)
changed_units {r = r} fit stores = rw (not_both r) (omega arith)
changed_units {r = r} fit (prepares _ _ _ one _ _) = rw one (omega arith)
changed_units {r = r} fit (serves three) = rw three (omega arith)
changed_units {r = r} fit (ends _ _) = by_cases (is_incoming r) (λ t. rw t (omega arith)) (λ t. rw t (omega (arith, fit.units t)))

-- ---- one table and the next

-- Where each place keeps or ends its units, so does the table.
changed_sum : (rs xs : List Entry) → length rs ≡ length xs → ((j : ℕ) → j < length rs → (get_or xs j blank).units + ended_at (get_or rs j blank) (get_or xs j blank) ≡ (get_or rs j blank).units)
    → total (λ r. r.units) xs + ended_in rs xs ≡ total (λ r. r.units) rs
unfolding total ended_in
changed_sum [] [] same each = refl
changed_sum [] (x ∷ xs) same each = absurd (omega arith)
changed_sum (r ∷ rs) [] same each = absurd (omega arith)
changed_sum (r ∷ rs) (x ∷ xs) same each =
    omega (arith, each 0 (omega arith), changed_sum rs xs (omega arith) (λ j h. each (suc j) (omega arith)))

-- Where no place ends an incoming record, nothing ends.
none_ended : (rs xs : List Entry) → ((j : ℕ) → (is_incoming (get_or rs j blank) && is_free (get_or xs j blank)) ≡ false) → ended_in rs xs ≡ 0
unfolding ended_in
none_ended [] xs none = refl
none_ended (r ∷ rs) [] none = refl
none_ended (r ∷ rs) (x ∷ xs) none = rw (none 0, none_ended rs xs (λ j. none (suc j)))

-- So it is where a record is made.
made_ended : (rs : List Entry) (k : ℕ) (r : Entry) → k < length rs → is_free r ≡ false → ended_in rs (set rs k r) ≡ 0
made_ended rs k r place live =
    none_ended rs (set rs k r)
    (set_each (λ j x. (is_incoming (get_or rs j blank) && is_free x) ≡ false) rs k r place (rw (live, and-false)) (λ j _. not_both (get_or rs j blank)))

-- ---- one step

module _ (s : Station) (sound : Sound s) (e : Record) (bearers : List ℕ) where
  balance_of : {a : Answer} → Turn s e a → Accounts a e bearers s → Sound a.station → a.station.used + ended_in s.entries a.station.entries ≡ s.used + given_out a e bearers s
  balance_of {a} (starts k free _ nine) account after =
      omega (arith, made_ended s.entries k (started e s) (found_here is_free s k free).0 refl, none_out a e bearers s account (rw nine))
  balance_of {a} (admits k free _ one admission) account after =
      omega (arith, made_ended s.entries k (held_for e admission s) (found_here is_free s k free).0 refl, account.units, none_back a e bearers s account (rw one))
  balance_of {a} (turns t) account after =
      let ended = changed_sum s.entries a.station.entries (omega (arith, sound.places, after.places))
      (λ j h. let place : j < 64 = omega (arith, sound.places) in changed_units (sound.fit j place) (t.change j place)) in
      by_cases (eqb e.kind 1)
      (λ one. omega (arith, ended, sound.sum, after.sum, account.units, none_back a e bearers s account (rw (eqb-true e.kind 1 one))))
      (λ other. omega (arith, ended, sound.sum, after.sum, none_out a e bearers s account other))

  -- A step adds to the units in use what it admits, and takes off what the incoming records had that it ends.
  pub balance : (room : ℕ) → let a = step_of s e bearers room in a.station.used + ended_in s.entries a.station.entries ≡ s.used + given_out a e bearers s
  balance room = balance_of (turn s sound e bearers room) (accounts s sound e bearers room) (sound_step sound e bearers room)

-- ---- the run

-- So the units in use are all units admitted since birth, less those of incoming records that have ended.
pub units_since : {s : Station} (run : Reached s) → s.used + ended_since run ≡ admitted_since run
unfolding admitted_since ended_since
units_since (born settings) = refl
units_since (stepped {s} before e small bearers room) = omega (arith, units_since before, balance s (sound before) e bearers room)
