-- A table of which the first records have been reset.
use Prim.Native.Nat.{ℕ, suc, ◌+◌, ◌≤◌, ◌<◌}
use mathlib.Core.Path.{◌≡◌, ◌∙◌, sym, ap, subst}
use mathlib.Core.Bool.{true, false}
use mathlib.Core.List.{List, [], ◌∷◌, ◌++◌, map, map-append}
use native.Mathlib.Numerals.{add-one}
use native.Mathlib.Omega.{arith}
use lib.ListN.{length, get_or, set, take, drop, length-map, take-append-drop, get_or-map}
use lib.Seq.{take-suc, drop-cons, set_at, get_or_at, length-take-le, append_snoc}
use Rattle.laws.proofs.Sums.{total_append, total_le}
use Rattle.laws.specs.Sums.{total}
use Rattle.laws.proofs.Tests.{by_cases, on_either}
use Rattle.records.specs.declared.Record.{Record}
use Rattle.handover.specs.declared.Entry.{Entry}
use Rattle.handover.specs.Events.{resets}
use Rattle.handover.specs.Numbers.{blank}
use Rattle.table.specs.declared.Station.{Station}
use Rattle.table.specs.Table.{holding, left_of, back_of, reset}

-- A reset's table holds at each place what the reset makes of the record there.
pub reset_at : (e : Record) (s : Station) (i : ℕ) → get_or (reset e s).entries i blank ≡ left_of e (get_or s.entries i blank)
reset_at e s i =
    subst (λ d. get_or (map (left_of e) s.entries) i d ≡ left_of e (get_or s.entries i blank)) (on_either (resets e blank) blank) (get_or-map (left_of e) s.entries i blank)

-- It takes back no more than the record's units.
pub back_le : (e : Record) (r : Entry) → back_of e r ≤ r.units
back_le e r = by_cases (resets e r) (λ t. rw t (omega arith)) (λ t. rw t (omega arith))

-- Two stations are the same where their records and the units in use are.
pub same_station : (s : Station) {xs ys : List Entry} {m n : ℕ} → xs ≡ ys → m ≡ n → holding xs s.last m s ≡ holding ys s.last n s
same_station s p q = λ i. holding (p i) s.last (q i) s

-- the records with those before a place reset, and the units that these give back
abbrev pub passed : Record → ℕ → List Entry → List Entry
passed e i es = map (left_of e) (take i es) ++ drop i es

abbrev pub given_back : Record → ℕ → List Entry → ℕ
given_back e i es = total (back_of e) (take i es)

module _ (e : Record) (es : List Entry) (i : ℕ) (here : i < length es) where
  before : length (map (left_of e) (take i es)) ≡ i
  before = length-map (take i es) (left_of e) ∙ length-take-le i es (omega (arith, here))

  left : drop i es ≡ get_or es i blank ∷ drop (i + 1) es
  left = rw (add-one i) (drop-cons es i blank here)

  -- The record at the place is still what it was.
  pub passed_here : get_or (passed e i es) i blank ≡ get_or es i blank
  passed_here = rw left (get_or_at (map (left_of e) (take i es)) (get_or es i blank) (drop (i + 1) es) blank i before)

  -- One place more is passed, where the record is ended or where it stays.
  next : (r : Entry) → left_of e (get_or es i blank) ≡ r → map (left_of e) (take i es) ++ r ∷ drop (i + 1) es ≡ passed e (i + 1) es
  next r is =
      rw (← is, add-one, take-suc es i blank here, map-append) (sym (append_snoc (map (left_of e) (take i es)) (left_of e (get_or es i blank)) (drop (suc i) es)))

  pub passed_ended : resets e (get_or es i blank) ≡ true → set (passed e i es) i blank ≡ passed e (i + 1) es
  passed_ended t = rw left (set_at (map (left_of e) (take i es)) (get_or es i blank) (drop (i + 1) es) blank i before) ∙ next blank (rw t)

  pub passed_kept : resets e (get_or es i blank) ≡ false → passed e i es ≡ passed e (i + 1) es
  passed_kept t = rw left (next (get_or es i blank) (rw t))

  -- The units given back grow by the record's, if it is ended.
  pub given_next : given_back e (i + 1) es ≡ given_back e i es + back_of e (get_or es i blank)
  unfolding total
  given_next = rw (add-one, take-suc es i blank here, total_append (back_of e) (take i es) (get_or es i blank ∷ [])) (omega arith)

  -- Those given back so far and the record's are in use.
  pub given_within : given_back e i es + (get_or es i blank).units ≤ total (λ r. r.units) es
  unfolding total
  given_within =
      let units : Entry → ℕ = λ r. r.units in
      let split = ap (total units) (take-append-drop i es) in
      let rest : total units (drop i es) ≡ (get_or es i blank).units + total units (drop (i + 1) es) = ap (total units) left in
      omega (arith, split, rest, total_append units (take i es) (drop i es), total_le (back_of e) units (take i es) (back_le e))
