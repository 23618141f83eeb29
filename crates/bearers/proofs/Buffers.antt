-- What stands in the verdict buffer afterwards: one byte per bearer in request order, the rest untouched.
use Prim.Native.Nat.{ℕ, ◌/◌, ◌≤◌, ◌<◌}
use mathlib.Core.Path.{◌≡◌, ◌∙◌}
use mathlib.Core.Bool.{true}
use mathlib.Core.List.{List, map}
use borrow.Author.Tests.{le-leb}
use native.Mathlib.Omega.{arith}
use lib.Dec.{leb}
use lib.ListN.{length, get_or, drop, replicate, length-replicate, get_or-replicate, length-map, get_or-append, get_or-map}
use lib.Seq.{drop_at}
use Rattle.laws.proofs.Tests.{by_cases}
use Rattle.bearers.specs.declared.Bearer.{Bearer}
use Rattle.bearers.specs.Admission.{release8, verdict, judgeable, verdicts_in, all_five}
use Rattle.bearers.specs.Bearer.{bearers_in}
use Rattle.bearers.proofs.Listing.{length_bearers}

module _ (bytes : List ℕ) (free : ℕ) (buffer : List ℕ) where
  -- The byte at a bearer's place is its verdict.
  pub verdict_at : (i : ℕ) (d : Bearer) → judgeable bytes (length buffer) ≡ true → i < length bytes / 32
      → let bs = bearers_in (length bytes / 32) bytes in get_or (verdicts_in bytes free buffer) i (verdict release8 free bs d) ≡ verdict release8 free bs (get_or bs i d)
  verdict_at i d judged h =
      let bs = bearers_in (length bytes / 32) bytes in
      rw judged
      (get_or-append (map (verdict release8 free bs) bs) (drop (length bs) buffer) (verdict release8 free bs d) i
      (omega (arith, length-map bs (verdict release8 free bs), length_bearers (length bytes / 32) bytes))
      ∙ get_or-map (verdict release8 free bs) bs i d)

  -- What is past the bearers is as it was.
  pub verdicts_rest : drop (length bytes / 32) (verdicts_in bytes free buffer) ≡ drop (length bytes / 32) buffer
  verdicts_rest =
      let bs = bearers_in (length bytes / 32) bytes in
      let many = length_bearers (length bytes / 32) bytes in
      by_cases (judgeable bytes (length buffer))
      (λ t. rw t (drop_at (map (verdict release8 free bs) bs) (drop (length bs) buffer) (length bytes / 32) (length-map bs (verdict release8 free bs) ∙ many) ∙ rw many))
      (λ t. rw t)

module _ (count : ℕ) (buffer : List ℕ) where
  -- Of a request that finds the table full each has 5, and the rest is as it was.
  pub five_at : (i : ℕ) → count ≤ length buffer → i < count → get_or (all_five count buffer) i 0 ≡ 5
  five_at i room h =
      rw (le-leb count (length buffer) room)
      (get_or-append (replicate count 5) (drop count buffer) 0 i (omega (arith, length-replicate {A = ℕ} count 5)) ∙ get_or-replicate count i 5 0 h)

  pub five_rest : drop count (all_five count buffer) ≡ drop count buffer
  five_rest =
      by_cases (leb count (length buffer))
      (λ t. rw t (drop_at (replicate count 5) (drop count buffer) count (length-replicate {A = ℕ} count 5)))
      (λ t. rw t)
