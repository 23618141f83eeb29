-- Stores one after the other: what a buffer holds after two texts, and after one whose last byte is stored first.
use Prim.Native.Nat.{ℕ, suc, ◌+◌, ◌≤◌}
use mathlib.Core.Path.{◌≡◌, refl, sym, ap, ◌∙◌}
use mathlib.Core.List.{List, [], ◌∷◌, ◌++◌}
use native.Mathlib.Nat.{add-zero, add_assoc}
use native.Mathlib.Omega.{arith}
use borrow.Rule.Slice.PartMut.{put_mid}
use lib.ListN.{length, length-append, set, take, drop}
use lib.Seq.{sets, sets-eq, set_comm}
use Rattle.std.proofs.lemmas.List.{take_all}
use Rattle.std.proofs.lemmas.Slice.{put_mid-paste}
use Rattle.buffers.specs.Buffers.{Writes}

-- A text and then another are the two put together.
pub sets_append : (l : List ℕ) (i : ℕ) (xs ys : List ℕ) → sets l i (xs ++ ys) ≡ sets (sets l i xs) (i + length xs) ys
sets_append l i [] ys = ap (λ (k : ℕ). sets l k ys) (sym (add-zero i))
sets_append l i (x ∷ xs) ys =
    let there : suc i + length xs ≡ i + suc (length xs) = omega arith in
    sets_append (set l i x) (suc i) xs ys ∙ ap (λ (k : ℕ). sets (sets (set l i x) (suc i) xs) k ys) there

-- The last byte of a text may be stored before the others.
pub last_first : (l : List ℕ) (i : ℕ) (xs : List ℕ) (y : ℕ) → sets l i (xs ++ (y ∷ [])) ≡ sets (set l (i + length xs) y) i xs
last_first l i [] y = ap (λ (k : ℕ). set l k y) (sym (add-zero i))
last_first l i (x ∷ xs) y =
    let there : suc i + length xs ≡ i + suc (length xs) = omega arith in
    last_first (set l i x) (suc i) xs y
    ∙ ap (λ (m : List ℕ). sets m (suc i) xs) (set_comm l i (suc i + length xs) x y (λ e. omega arith) ∙ ap (λ (k : ℕ). set (set l k y) i x) there)

-- A text that is copied over a part of a buffer is stored there.
pub copied : (out : List ℕ) (at k : ℕ) (text : List ℕ) → k ≡ length text → at + k ≤ length out → put_mid at k out text ≡ sets out at text
copied out at k text size room =
    let whole : take (length text) text ≡ text = take_all (length text) text (omega arith) in
    put_mid-paste at k out text text (length text) refl (sym size) refl
    ∙ ap (λ (xs : List ℕ). take at out ++ xs ++ drop (at + length text) out) whole
    ∙ sym (sets-eq text out at (omega arith))

-- What is stored is written; nothing is written by itself.
pub stored : (out : List ℕ) (at : ℕ) (text : List ℕ) → Writes out (sets out at text) at text (at + length text)
stored out at text = record { next = refl; bytes = refl }

pub nothing : (out : List ℕ) (at : ℕ) → Writes out out at [] at
nothing out at = record { next = omega arith; bytes = refl }

-- Two texts, the second where the first ended, are the two put together.
pub joined : {before middle after : List ℕ} {at next end : ℕ} {xs ys : List ℕ} → Writes before middle at xs next → Writes middle after next ys end
    → Writes before after at (xs ++ ys) end
joined {before} {at = at} {xs = xs} {ys = ys} first then =
    record {
      next = then.next ∙ rw (first.next, length-append xs ys) (add_assoc at (length xs) (length ys));
      bytes = then.bytes ∙ rw (first.bytes, first.next) (sym (sets_append before at xs ys));
    }

-- the rest of a text, written from here on, completes it
abbrev pub Completes : List ℕ → List ℕ → ℕ → List ℕ → ℕ → List ℕ → Type 0
Completes before now at whole here rest = Writes before (sets now here rest) at whole (here + length rest)

module _ {before now : List ℕ} {at : ℕ} {whole : List ℕ} {here : ℕ} where
  -- One part of the rest is written.
  pub onward : {left : List ℕ} {there : ℕ} {part : List ℕ} (rest : List ℕ) → Completes before now at whole here (part ++ rest)
      → Writes now left here part there → Completes before left at whole there rest
  onward {left} {there} rest owed part =
      let both = joined part (stored left there rest) in
      record { next = both.next ∙ owed.next; bytes = both.bytes ∙ owed.bytes }

  -- Nothing of it is left.
  pub completed : Completes before now at whole here [] → Writes before now at whole here
  completed owed = record { next = omega (arith, owed.next); bytes = owed.bytes }
