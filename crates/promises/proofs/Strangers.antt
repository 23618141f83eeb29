-- A message that matches no record of its sender is refused.
use Rattle.std.specs.Prelude.{Option}
use Prim.Native.Nat.{ℕ, ◌≤◌, ◌<◌}
use mathlib.Core.Path.{◌≡◌, refl, ◌∙◌, sym, ap}
use mathlib.Core.Bool.{true, false, not, ◌||◌, true≢false}
use mathlib.Core.List.{List}
use borrow.Author.Tests.{le-leb}
use native.Mathlib.Omega.{arith}
use lib.Dec.{leb}
use lib.ListN.{length, get_or}
use Rattle.laws.proofs.Tests.{below_at}
use Rattle.records.specs.declared.Record.{Record}
use Rattle.table.specs.declared.Station.{Station}
use Rattle.handover.specs.Events.{about}
use Rattle.fields.specs.declared.Sort.TheVariants.{OneRecord}
use Rattle.fields.specs.Fields.{same_sort, sort_of, well_formed}
use Rattle.fields.proofs.Sorts.{sort_true}
use Rattle.handover.specs.Numbers.{blank}
use Rattle.table.specs.Step.{refused, about_one, step_of}
use Rattle.table.specs.Table.{find}
use Rattle.places.proofs.Finding.{by_found}
use Rattle.table.proofs.Finding.{found_here}
use Rattle.promises.proofs.Rows.{by_sort_lem}
use Rattle.handover.proofs.Keys.{is_of}
use Rattle.handover.proofs.Senders.{concerns_neighbour, about_of, about_neighbour}

-- Each of the kinds 2 to 6 concerns a neighbour.
pub answers_concern : (k : ℕ) → 2 ≤ k → k ≤ 6 → concerns_neighbour k ≡ true
answers_concern k low high = rw (le-leb 1 k (omega arith), le-leb k 7 (omega arith))

-- And is about one record.
answers_sort : (k : ℕ) → 2 ≤ k → k ≤ 6 → sort_of k ≡ OneRecord
answers_sort k low high =
    sort_true (sort_of k) OneRecord (rw (le-leb 2 k low) at (below_at 7 (λ j. not (leb 2 j) || same_sort (sort_of j) OneRecord) k refl (omega arith)))

module _ (s : Station) (e : Record) (bearers : List ℕ) (room : ℕ) (formed : well_formed e ≡ true) (low : 2 ≤ e.kind) (high : e.kind ≤ 6) where
  -- An event of these kinds is about one record.
  pub step_about : step_of s e bearers room ≡ about_one e (find (about e) s) s
  step_about = by_sort_lem s e bearers room formed OneRecord (answers_sort e.kind low high)

  -- An acknowledge, failure, status, release or cancel that matches no record of its sender is refused with 2, and changes nothing.
  pub stranger_refused :
      ((i : ℕ) → i < length s.entries → (get_or s.entries i blank).neighbour ≡ e.neighbour → about e (get_or s.entries i blank) ≡ true → ⊥)
      → step_of s e bearers room ≡ refused 2 s
  stranger_refused none =
      step_about
      ∙ by_found (find (about e) s)
      (λ found. ap (λ (f : Option ℕ). about_one e f s) found)
      (λ i found.
      let here = found_here (about e) s i found in
      absurd (none i here.0 (about_neighbour e (get_or s.entries i blank) (answers_concern e.kind low high) here.1) here.1))

  -- So is any such message of a neighbour that has no record here.
  pub unknown_refused :
      ((i : ℕ) → i < length s.entries → is_of e.neighbour (get_or s.entries i blank) ≡ false) → step_of s e bearers room ≡ refused 2 s
  unknown_refused none =
      stranger_refused (λ i h _ t. true≢false (sym (about_of e (get_or s.entries i blank) (answers_concern e.kind low high) t) ∙ none i h))
