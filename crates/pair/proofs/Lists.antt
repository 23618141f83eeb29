-- What holds of all entries of a list, or of any two in order, holds when entries go, and when one that fits is put at the end.
use Prim.Native.Nat.{ℕ, suc}
use mathlib.Core.Path.{◌≡◌}
use mathlib.Core.Bool.{Bool, true}
use mathlib.Core.List.{List, [], ◌∷◌, ◌++◌}
use Rattle.laws.proofs.Tests.{both_true, every}
use Rattle.pair.specs.World.{All, nothing, more}

-- what holds of any two entries, the first standing before the second
pub data Pairs {T : Type 0} (P : T → T → Type 0) : List T → Type 0 where
  no_pair : Pairs P []
  pairs : {x : T} {xs : List T} → All (P x) xs → Pairs P xs → Pairs P (x ∷ xs)

module _ {T : Type 0} where
  -- ---- all entries

  pub all_head : {P : T → Type 0} {x : T} {xs : List T} → All P (x ∷ xs) → P x
  all_head (more p ps) = p

  pub all_tail : {P : T → Type 0} {x : T} {xs : List T} → All P (x ∷ xs) → All P xs
  all_tail (more p ps) = ps

  -- What always holds; and one follows from another.
  pub all_any : {P : T → Type 0} → ((x : T) → P x) → (xs : List T) → All P xs
  all_any f [] = nothing
  all_any f (x ∷ xs) = more (f x) (all_any f xs)

  pub all_map : {P Q : T → Type 0} {xs : List T} → ((x : T) → P x → Q x) → All P xs → All Q xs
  all_map f nothing = nothing
  all_map f (more {x = x} p ps) = more (f x p) (all_map f ps)

  pub all_both : {P Q R : T → Type 0} {xs : List T} → ((x : T) → P x → Q x → R x) → All P xs → All Q xs → All R xs
  all_both f nothing qs = nothing
  all_both f (more {x = x} p ps) qs = more (f x p (all_head qs)) (all_both f ps (all_tail qs))

  -- A test of every entry, and what follows of each if it holds.
  pub all_pass : {P : T → Type 0} (test : ℕ → T → Bool) → ((i : ℕ) (x : T) → test i x ≡ true → P x) → (xs : List T) → every test xs ≡ true → All P xs
  all_pass test f [] t = nothing
  all_pass test f (x ∷ xs) t =
      let both = both_true (test 0 x) (every (λ i. test (suc i)) xs) t in
      more (f 0 x both.0) (all_pass (λ i. test (suc i)) (λ i. f (suc i)) xs both.1)

  -- An entry is put at the end, or lists are joined.
  pub all_append : {P : T → Type 0} {xs ys : List T} → All P xs → All P ys → All P (xs ++ ys)
  all_append nothing qs = qs
  all_append (more p ps) qs = more p (all_append ps qs)

  pub all_front : {P : T → Type 0} (xs ys : List T) → All P (xs ++ ys) → All P xs
  all_front [] ys ps = nothing
  all_front (x ∷ xs) ys ps = more (all_head ps) (all_front xs ys (all_tail ps))

  pub all_back : {P : T → Type 0} (xs : List T) {ys : List T} → All P (xs ++ ys) → All P ys
  all_back [] ps = ps
  all_back (x ∷ xs) ps = all_back xs (all_tail ps)

  -- Any entry goes.
  pub all_without : {P : T → Type 0} (xs : List T) (y : T) (ys : List T) → All P (xs ++ (y ∷ ys)) → All P (xs ++ ys)
  all_without xs y ys ps = all_append (all_front xs (y ∷ ys) ps) (all_tail (all_back xs ps))

  -- ---- any two in order

  pub pairs_head : {P : T → T → Type 0} {x : T} {xs : List T} → Pairs P (x ∷ xs) → All (P x) xs
  pairs_head (pairs p ps) = p

  pub pairs_tail : {P : T → T → Type 0} {x : T} {xs : List T} → Pairs P (x ∷ xs) → Pairs P xs
  pairs_tail (pairs p ps) = ps

  -- An entry is put at the end: it fits every one before it.
  pub pairs_append : {P : T → T → Type 0} {xs : List T} {y : T} → Pairs P xs → All (λ x. P x y) xs → Pairs P (xs ++ (y ∷ []))
  pairs_append no_pair fits = pairs nothing no_pair
  pairs_append (pairs p ps) fits = pairs (all_append p (more (all_head fits) nothing)) (pairs_append ps (all_tail fits))

  -- Any entry goes.
  pub pairs_without : {P : T → T → Type 0} (xs : List T) (y : T) (ys : List T) → Pairs P (xs ++ (y ∷ ys)) → Pairs P (xs ++ ys)
  pairs_without [] y ys ps = pairs_tail ps
  pairs_without (x ∷ xs) y ys ps = pairs (all_without xs y ys (pairs_head ps)) (pairs_without xs y ys (pairs_tail ps))
