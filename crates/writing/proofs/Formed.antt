-- What a record of the two kinds has in which nothing is wrong.
use Rattle.std.proofs.Common.{◌≡◌, ℕ, ◌≤◌, ◌<◌, Bool, true, false, ◌||◌, ◌⊎◌, inl, inr, None, is_none, length, get_or, leb, ltb, eqb, refl, sym, ap, ◌∙◌, arith}
use mathlib.Core.Logic.{⊎_elim}
use borrow.Author.Tests.{leb-true, ltb-true, eqb-true}
use Rattle.laws.proofs.Tests.{either_true, below, below_at}
use Rattle.records.specs.declared.Record.{Record}
use Rattle.fields.specs.declared.Sort.TheVariants.{NoEvent}
use Rattle.fields.specs.declared.kinds.Limit.{Limit}
use Rattle.fields.specs.declared.kinds.Limit.TheVariants.{Unused}
use Rattle.fields.specs.Fields.{same_sort, same_limit, fits, limits_of, sort_of, values_of, fault_in, fault_of}
use Rattle.fields.proofs.Agreeing.{limit_true}
use Rattle.fields.proofs.Faults.{fit_exactly, each_fits}
use Rattle.reading.proofs.RoundTrip.{carried}

-- the fields that both kinds use: neighbour, Old ID, New ID and reason
abbrev used : ℕ → Bool
used j = ltb j 3 || eqb j 5

abbrev others_unused : ℕ → ℕ → Bool
others_unused kind j = used j || same_limit (get_or (limits_of kind) j Unused) Unused

module _ (r : Record) (none : fault_of r ≡ None) (kind : ℕ) (is : r.kind ≡ kind) (event : same_sort (sort_of kind) NoEvent ≡ false) (fourteen : length (limits_of kind) ≡ 14) where
  -- Each of its fields fits the limit of its kind.
  field_fits : (j : ℕ) → ltb j 14 ≡ true → fits (get_or (limits_of kind) j Unused) (get_or (values_of r) j 0) ≡ true
  field_fits j inside =
      let clean : fault_in (limits_of kind) (values_of r) ≡ None = rw (is, event) at none in
      let here = ltb-true j 14 inside in
      each_fits (limits_of kind) (values_of r) (fit_exactly (limits_of kind) (values_of r) ∙ ap is_none clean) j (omega (arith, here)) here

  module _ (others : below 14 (others_unused kind) ≡ true) where
    zero : (j : ℕ) → ltb j 14 ≡ true → used j ≡ false → 0 ≡ get_or (values_of r) j 0
    zero j inside other =
        let unused = limit_true (get_or (limits_of kind) j Unused) Unused (rw other at (below_at 14 (others_unused kind) j others (ltb-true j 14 inside))) in
        let small : leb (get_or (values_of r) j 0) 0 ≡ true = ap (λ (l : Limit). fits l (get_or (values_of r) j 0)) (sym unused) ∙ field_fits j inside in
        omega (arith, leb-true (get_or (values_of r) j 0) 0 small)

    rest : carried r ≡ r
    rest =
        λ i. record r {
          first = zero 3 refl refl i;
          second = zero 4 refl refl i;
          byte11 = zero 6 refl refl i;
          number = zero 7 refl refl i;
          time = zero 8 refl refl i;
          erab = zero 9 refl refl i;
          qci = zero 10 refl refl i;
          priority = zero 11 refl refl i;
          flags = zero 12 refl refl i;
          bytes28 = zero 13 refl refl i;
        }

module _ (r : Record) (none : fault_of r ≡ None) where
  -- A release.
  module _ (is : r.kind ≡ 5) where
    f5 : (j : ℕ) → ltb j 14 ≡ true → fits (get_or (limits_of 5) j Unused) (get_or (values_of r) j 0) ≡ true
    f5 = field_fits r none 5 is refl refl

    pub release_neighbour : r.neighbour ≤ 31
    release_neighbour = leb-true r.neighbour 31 (f5 0 refl)

    pub release_old : r.old.0 ≤ 4095
    release_old = leb-true r.old.0 4095 (f5 1 refl)

    pub release_new : r.new.0 ≤ 4095
    release_new = leb-true r.new.0 4095 (f5 2 refl)

    pub release_reason : r.reason ≡ 0
    release_reason = omega (arith, leb-true r.reason 0 (f5 5 refl))

    pub release_rest : carried r ≡ r
    release_rest = rest r none 5 is refl refl refl

  -- A cancel.
  module _ (is : r.kind ≡ 6) where
    f6 : (j : ℕ) → ltb j 14 ≡ true → fits (get_or (limits_of 6) j Unused) (get_or (values_of r) j 0) ≡ true
    f6 = field_fits r none 6 is refl refl

    pub cancel_neighbour : r.neighbour ≤ 31
    cancel_neighbour = leb-true r.neighbour 31 (f6 0 refl)

    pub cancel_old : r.old.0 ≤ 4095
    cancel_old = leb-true r.old.0 4095 (f6 1 refl)

    pub cancel_new : (r.new.0 ≡ 65535) ⊎ (r.new.0 ≤ 4095)
    cancel_new = ⊎_elim (λ t. inl (eqb-true r.new.0 65535 t)) (λ t. inr (leb-true r.new.0 4095 t)) (either_true (eqb r.new.0 65535) (leb r.new.0 4095) (f6 2 refl))

    pub cancel_reason : r.reason < 256
    cancel_reason = omega (arith, leb-true r.reason 255 (f6 5 refl))

    pub cancel_rest : carried r ≡ r
    cancel_rest = rest r none 6 is refl refl refl
