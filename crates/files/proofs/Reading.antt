-- Line by line: what a text makes is what its lines make, as `Draft::read` reads them one after the other, in pieces cut anywhere.
use Prim.Native.Nat.{ℕ, suc, ◌+◌}
use mathlib.Core.Path.{◌≡◌, refl, sym, ◌∙◌, ap}
use mathlib.Core.Bool.{Bool, true, false, false≢true}
use mathlib.Core.List.{List, [], ◌∷◌, ◌++◌}
use native.Mathlib.Nat.{zero-add}
use native.Mathlib.Omega.{arith}
use lib.ListN.{drop}
use Rattle.laws.proofs.Tests.{by_cases, on_true, on_false}
use Rattle.composing.specs.Composed.{Made, step, read_from, taken_from}
use Rattle.files.specs.Files.{line_bytes, next_line, composed_from}

-- whether a line has ended
abbrev ended : Made → Bool
ended m = m.draft.ended

-- Once a line has ended nothing more of it is read.
over : (bs : List ℕ) (m : Made) → ended m ≡ true → (read_from bs m ≡ m) × (taken_from bs m ≡ 0)
unfolding read_from taken_from
over [] m t = (refl, refl)
over (b ∷ bs) m t = (on_true (ended m) _ _ t, on_true (ended m) _ _ t)

-- Of no bytes nothing is read.
none : (m : Made) → read_from [] m ≡ m
unfolding read_from
none m = refl

-- One byte of a line that has not ended.
further : (b : ℕ) (bs : List ℕ) (m : Made) → ended m ≡ false → (read_from (b ∷ bs) m ≡ read_from bs (step m b)) × (taken_from (b ∷ bs) m ≡ suc (taken_from bs (step m b)))
unfolding read_from taken_from
further b bs m t = (on_false (ended m) _ _ t, on_false (ended m) _ _ t)

-- How a line is cut into pieces does not matter: the next piece is read on where the one before it left the line.
pub in_pieces : (piece more : List ℕ) (m : Made) → (read_from (piece ++ more) m ≡ read_from more (read_from piece m)) × (taken_from (piece ++ more) m ≡ taken_from piece m + taken_from more (read_from piece m))
unfolding taken_from
in_pieces [] more m = rw (none m, zero-add (taken_from more m)) (refl, refl)
in_pieces (b ∷ bs) more m =
    by_cases (ended m)
    (λ t. rw ((over (b ∷ bs ++ more) m t).0, (over (b ∷ bs ++ more) m t).1, (over (b ∷ bs) m t).0, (over (b ∷ bs) m t).1, (over more m t).0, (over more m t).1) (refl, refl))
    (λ t.
    let one = further b bs m t in
    let all = further b (bs ++ more) m t in
    let rest = in_pieces bs more (step m b) in
    rw (one.0, one.1) (all.0 ∙ rest.0, all.1 ∙ omega (arith, rest.1)))

-- A text that ends a line makes its records, and then what the rest makes from a new line on.
pub line_ends : (bs : List ℕ) (m : Made) → ended m ≡ false → ended (read_from bs m) ≡ true
    → composed_from bs m ≡ line_bytes (read_from bs m) ++ composed_from (drop (taken_from bs m) bs) (next_line (read_from bs m))
unfolding composed_from
line_ends [] m t u = absurd (false≢true (sym t ∙ ap ended (sym (none m)) ∙ u))
line_ends (b ∷ bs) m t u =
    let next = step m b in
    let one = further b bs m t in
    rw (one.0, one.1)
    (by_cases (ended next)
    (λ v. on_true (ended next) _ _ v ∙ rw ((over bs next v).0, (over bs next v).1))
    (λ v. on_false (ended next) _ _ v ∙ line_ends bs next v (ap ended (sym one.0) ∙ u)))

-- A text that ends none makes what it makes where a line feed ends it.
pub line_left : (bs : List ℕ) (m : Made) → ended (read_from bs m) ≡ false → composed_from bs m ≡ line_bytes (step (read_from bs m) 10)
unfolding composed_from
line_left [] m u = rw (none m)
line_left (b ∷ bs) m u =
    by_cases (ended m)
    (λ t. absurd (false≢true (sym u ∙ ap ended (over (b ∷ bs) m t).0 ∙ t)))
    (λ t.
    let next = step m b in
    let one = further b bs m t in
    let still : ended (read_from bs next) ≡ false = ap ended (sym one.0) ∙ u in
    by_cases (ended next)
    (λ v. absurd (false≢true (sym still ∙ ap ended (over bs next v).0 ∙ v)))
    (λ v. rw one.0 (on_false (ended next) _ _ v ∙ line_left bs next still)))
