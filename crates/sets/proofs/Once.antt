-- Two results that satisfy a contract are equal: what each public entry gives is settled by its arguments.
use Prim.Native.Nat.{ℕ}
use mathlib.Core.Path.{◌≡◌, sym, ◌∙◌}
use mathlib.Core.Bool.{Bool}
use Rattle.sets.specs.Sets.{member, add, union, disjoint, within}

-- Of the same sets and ID there is one answer of each operation.
module _ (s t : ℕ) where
  pub member_once : (a b : Bool) → a ≡ member s t → b ≡ member s t → a ≡ b
  member_once a b p q = p ∙ sym q

  pub add_once : (a b : ℕ) → a ≡ add s t → b ≡ add s t → a ≡ b
  add_once a b p q = p ∙ sym q

  pub union_once : (a b : ℕ) → a ≡ union s t → b ≡ union s t → a ≡ b
  union_once a b p q = p ∙ sym q

  pub disjoint_once : (a b : Bool) → a ≡ disjoint s t → b ≡ disjoint s t → a ≡ b
  disjoint_once a b p q = p ∙ sym q

  pub within_once : (a b : Bool) → a ≡ within s t → b ≡ within s t → a ≡ b
  within_once a b p q = p ∙ sym q
