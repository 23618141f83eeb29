-- How far a message is what may stand there.
use Prim.Native.Nat.{ℕ, zero, suc, ◌+◌, ◌≤◌, ◌<◌}
use mathlib.Core.Path.{◌≡◌, refl, sym, ap, ◌∙◌}
use mathlib.Core.Bool.{true, false}
use mathlib.Core.List.{List, [], ◌∷◌}
use native.Mathlib.Omega.{arith}
use borrow.Author.Tests.{lt-ltb, le-ltb}
use lib.ListN.{length, get_or}
use Rattle.wire.specs.Rules.{allows, refusal_by}
use Rattle.std.proofs.Common.{Err}
use Rattle.reading.specs.Reading.{layout_of, rule_in, passed, end_in, judged_in, judged_of}
use Rattle.wire.specs.declared.rules.Rule.{Rule}
use Rattle.reading.specs.declared.Layout.{Layout}

-- What may stand at a place may stand at the same place.
pub moved : (l : Layout) (p q octet : ℕ) → p ≡ q → allows (rule_in l p) octet ≡ allows (rule_in l q) octet
moved l p q octet e = ap (λ (x : ℕ). allows (rule_in l x) octet) e

-- Where every octet up to a place is what may stand there, and the one at it is not or the message ends there, so many are passed.
pub passed_to : (l : Layout) (start : ℕ) (m : List ℕ) (i : ℕ) → i ≤ length m → ((k : ℕ) → k < i → allows (rule_in l (start + k)) (get_or m k 0) ≡ true)
    → (i < length m → allows (rule_in l (start + i)) (get_or m i 0) ≡ false) → passed l start m ≡ i
unfolding passed
passed_to l start [] zero h all stop = refl
passed_to l start [] (suc i) h all stop = absurd (omega arith)
passed_to l start (o ∷ m) zero h all stop = rw (moved l start (start + 0) o (omega arith) ∙ stop (omega arith))
passed_to l start (o ∷ m) (suc i) h all stop =
    rw (moved l start (start + 0) o (omega arith) ∙ all 0 (omega arith))
    (ap suc
    (passed_to l (suc start) m i (omega arith)
    (λ k below. moved l (suc start + k) (start + suc k) (get_or m k 0) (omega arith) ∙ all (suc k) (omega arith))
    (λ inside. moved l (suc start + i) (start + suc i) (get_or m i 0) (omega arith) ∙ stop (omega arith))))

pub passed_stop : (l : Layout) (m : List ℕ) (i : ℕ) → i ≤ length m → ((k : ℕ) → k < i → allows (rule_in l k) (get_or m k 0) ≡ true)
    → (i < length m → allows (rule_in l i) (get_or m i 0) ≡ false) → passed l 0 m ≡ i
passed_stop l m i h all stop =
    passed_to l 0 m i h
    (λ k below. moved l (0 + k) k (get_or m k 0) (omega arith) ∙ all k below)
    (λ inside. moved l (0 + i) i (get_or m i 0) (omega arith) ∙ stop inside)

-- A message is refused at an octet that is not passed, or judged at its end.
module _ (l : Layout) (m : List ℕ) (i : ℕ) (far : i ≡ passed l 0 m) where
  pub judged_octet : i < length m → Err (refusal_by (rule_in l i) (get_or m i 0) i) ≡ judged_in l m
  judged_octet inside = rw (← far, lt-ltb i (length m) inside)

  pub judged_end : length m ≤ i → end_in l (length m) ≡ judged_in l m
  judged_end outside = rw (← far, le-ltb i (length m) outside)

-- As a message is judged: by its layout, after so many octets that may all stand where they do.
module _ (m : List ℕ) (l : Layout) (is : l ≡ layout_of m) (i : ℕ) (all : (k : ℕ) → k < i → allows (rule_in l k) (get_or m k 0) ≡ true) where
  pub refused_at : i < length m → (r : Rule) → r ≡ rule_in l i → allows r (get_or m i 0) ≡ false → Err (refusal_by r (get_or m i 0) i) ≡ judged_of m
  unfolding judged_of
  refused_at inside r rule stop =
      let far = passed_stop l m i (omega arith) all (λ _. rw rule at stop) in
      ap (λ (x : Rule). Err (refusal_by x (get_or m i 0) i)) rule ∙ judged_octet l m i (sym far) inside ∙ ap (λ (x : Layout). judged_in x m) is

  pub ended_at : length m ≡ i → end_in l (length m) ≡ judged_of m
  unfolding judged_of
  ended_at whole =
      let far = passed_stop l m i (omega arith) all (λ inside. absurd (omega arith)) in
      judged_end l m i (sym far) (omega arith) ∙ ap (λ (x : Layout). judged_in x m) is
