-- Sums over the records of a table.
use Rattle.std.specs.List.{list_any}
use Rattle.std.specs.Prelude.{Some}
use Prim.Native.Nat.{ℕ, ◌≤◌, ◌<◌}
use mathlib.Core.Path.{◌≡◌, refl}
use mathlib.Core.Bool.{Bool, true, false, cond, true≢false, false≢true}
use mathlib.Core.List.{List, [], ◌∷◌}
use native.Mathlib.Omega.{arith}
use lib.ListN.{length, get_or}
use Rattle.laws.specs.Sums.{total}
use Rattle.laws.proofs.Sums.{total_at}
use Rattle.laws.proofs.Tests.{by_cases}
use Rattle.handover.specs.declared.Entry.{Entry}
use Rattle.table.specs.declared.Station.{Station}
use Rattle.handover.specs.Numbers.{blank}
use Rattle.table.specs.Table.{find}
use Rattle.table.proofs.Finding.{found_here}

-- What counts one where a test holds is at most what counts one where another holds that follows from it.
pub once_le : (a b : Bool) → (a ≡ true → b ≡ true) → cond a 1 0 ≤ cond b 1 0
once_le true b follows = rw (follows refl) (omega arith)
once_le false b follows = omega arith

-- Where a test holds of no record, what counts only those of which it holds counts none.
pub total_none_of : (f : Entry → ℕ) (test : Entry → Bool) (rs : List Entry) → ((r : Entry) → test r ≡ false → f r ≡ 0) → list_any test rs ≡ false → total f rs ≡ 0
unfolding total
total_none_of f test [] zero_where none = refl
total_none_of f test (r ∷ rs) zero_where none =
    by_cases (test r)
    (λ t. absurd (true≢false (rw t at none)))
    (λ t. omega (arith, zero_where r t, total_none_of f test rs zero_where (rw t at none)))

-- Where it holds of one, what counts it counts at least one.
pub total_any : (test : Entry → Bool) (rs : List Entry) → list_any test rs ≡ true → 1 ≤ total (λ r. cond (test r) 1 0) rs
unfolding total
total_any test [] some = absurd (false≢true some)
total_any test (r ∷ rs) some =
    by_cases (test r)
    (λ t. rw t (omega arith))
    (λ t. rw t (omega (arith, total_any test rs (rw t at some))))

-- So it does where it finds one.
pub total_found : (test : Entry → Bool) (s : Station) (k : ℕ) → find test s ≡ Some k → 1 ≤ total (λ r. cond (test r) 1 0) s.entries
total_found test s k found =
    let here = found_here test s k found in
    rw here.1 at (total_at (λ r. cond (test r) 1 0) s.entries k blank here.0)

-- Where it holds of no record, it fails at every place.
pub none_at : (test : Entry → Bool) (rs : List Entry) (i : ℕ) → i < length rs → list_any test rs ≡ false → test (get_or rs i blank) ≡ false
none_at test rs i h none =
    by_cases (test (get_or rs i blank))
    (λ t.
    let zero = total_none_of (λ r. cond (test r) 1 0) test rs (λ r u. rw u) none in
    absurd (omega (arith, rw t at (total_at (λ r. cond (test r) 1 0) rs i blank h))))
    (λ t. t)
