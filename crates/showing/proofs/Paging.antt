-- Texts on a page, one after the other.
use Prim.Native.Nat.{ℕ, ◌+◌, ◌≤◌}
use mathlib.Core.Path.{refl, ◌∙◌}
use mathlib.Core.List.{List, [], ◌++◌}
use native.Mathlib.Omega.{arith}
use Rattle.buffers.proofs.Writing.{nothing, joined}
use Rattle.showing.specs.declared.Page.{Page}
use Rattle.showing.specs.Paging.{Adds}

-- Nothing is written by itself.
pub none : (p : Page) (most : ℕ) → Adds p p [] most
none p most = record { same = refl; size = refl; written = nothing p.out.now p.at; within = omega arith }

-- Two texts are the two put together.
pub both : {p q r : Page} {xs ys : List ℕ} {m n : ℕ} (most : ℕ) → m + n ≤ most → Adds p q xs m → Adds q r ys n → Adds p r (xs ++ ys) most
both most h first then =
    record {
      same = then.same ∙ first.same;
      size = then.size ∙ first.size;
      written = joined first.written then.written;
      within = omega (arith, first.within, then.within);
    }
