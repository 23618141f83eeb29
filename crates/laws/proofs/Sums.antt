-- Sums over lists.
use Prim.Native.Nat.{ℕ, zero, suc, ◌+◌, ◌*◌, ◌≤◌, ◌<◌}
use mathlib.Core.Path.{◌≡◌, refl, ap}
use mathlib.Core.List.{List, [], ◌∷◌, ◌++◌, map}
use native.Mathlib.Omega.{arith}
use lib.ListN.{length, get_or, set, replicate}
use Rattle.laws.specs.Sums.{total}

module _ {A : Type 0} where
  -- One number is at most the sum.
  pub total_at : (f : A → ℕ) (xs : List A) (i : ℕ) (d : A) → i < length xs → f (get_or xs i d) ≤ total f xs
  unfolding total
  total_at f [] i d h = absurd (omega arith)
  total_at f (x ∷ xs) zero d h = omega arith
  total_at f (x ∷ xs) (suc i) d h = omega (arith, total_at f xs i d (omega arith))

  -- Where one is replaced, the sum loses its number and gains the new one's.
  pub total_set : (f : A → ℕ) (xs : List A) (i : ℕ) (new d : A) → i < length xs → total f (set xs i new) + f (get_or xs i d) ≡ total f xs + f new
  unfolding total
  total_set f [] i new d h = absurd (omega arith)
  total_set f (x ∷ xs) zero new d h = omega arith
  total_set f (x ∷ xs) (suc i) new d h = omega (arith, total_set f xs i new d (omega arith))

  -- Where each is changed, it is the sum of the changed numbers.
  pub total_map : {B : Type 0} (f : B → ℕ) (g : A → B) (xs : List A) → total f (map g xs) ≡ total (λ x. f (g x)) xs
  unfolding total
  total_map f g [] = refl
  total_map f g (x ∷ xs) = ap (λ (n : ℕ). f (g x) + n) (total_map f g xs)

  -- Where at each place one list has at most another's number, it has at most the other's sum.
  pub total_most : (f g : A → ℕ) (xs ys : List A) (d : A) → length xs ≡ length ys → ((i : ℕ) → i < length xs → f (get_or xs i d) ≤ g (get_or ys i d)) → total f xs ≤ total g ys
  unfolding total
  total_most f g [] ys d same le = omega arith
  total_most f g (x ∷ xs) [] d same le = absurd (omega arith)
  total_most f g (x ∷ xs) (y ∷ ys) d same le =
      omega (arith, le 0 (omega arith), total_most f g xs ys d (omega arith) (λ i h. le (suc i) (omega arith)))

  -- So two numbers that agree at each place have the same sum.
  pub total_throughout : (f g : A → ℕ) (xs : List A) (d : A) → ((i : ℕ) → i < length xs → f (get_or xs i d) ≡ g (get_or xs i d)) → total f xs ≡ total g xs
  total_throughout f g xs d same =
      omega (arith, total_most f g xs xs d refl (λ i h. omega (arith, same i h)), total_most g f xs xs d refl (λ i h. omega (arith, same i h)))

  -- A number that is at most another, or the same, whatever it is of.
  pub total_le : (f g : A → ℕ) (xs : List A) → ((x : A) → f x ≤ g x) → total f xs ≤ total g xs
  unfolding total
  total_le f g [] le = omega arith
  total_le f g (x ∷ xs) le = omega (arith, le x, total_le f g xs le)

  pub total_equal : (f g : A → ℕ) (xs : List A) → ((x : A) → f x ≡ g x) → total f xs ≡ total g xs
  total_equal f g xs same = λ i. total (λ x. same x i) xs

  -- A number that is 0 of each has the sum 0.
  pub total_none : (f : A → ℕ) (xs : List A) → ((x : A) → f x ≡ 0) → total f xs ≡ 0
  unfolding total
  total_none f [] none = refl
  total_none f (x ∷ xs) none = omega (arith, none x, total_none f xs none)

  -- One number for each, as often as there are any.
  pub total_each : (n : ℕ) (xs : List A) → total (λ x. n) xs ≡ length xs * n
  unfolding total
  total_each n [] = omega arith
  total_each n (x ∷ xs) = omega (arith, total_each n xs)

  -- A list of one thing alone, of number 0, has the sum 0.
  pub total_replicate : (f : A → ℕ) (n : ℕ) (x : A) → f x ≡ 0 → total f (replicate n x) ≡ 0
  unfolding total
  total_replicate f zero x e = refl
  total_replicate f (suc n) x e = omega (arith, total_replicate f n x e)

  -- The sum over two lists, and of two numbers.
  pub total_append : (f : A → ℕ) (xs ys : List A) → total f (xs ++ ys) ≡ total f xs + total f ys
  unfolding total
  total_append f [] ys = omega arith
  total_append f (x ∷ xs) ys = omega (arith, total_append f xs ys)

  pub total_add : (f g : A → ℕ) (xs : List A) → total (λ x. f x + g x) xs ≡ total f xs + total g xs
  unfolding total
  total_add f g [] = refl
  total_add f g (x ∷ xs) = omega (arith, total_add f g xs)
