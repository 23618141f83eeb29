-- What holds of all messages under way, or of any two, holds of them with what a step sends, if it fits.
use Prim.Native.Nat.{ℕ}
use mathlib.Core.Path.{◌≡◌}
use mathlib.Core.Bool.{true, ◌&&◌}
use mathlib.Core.List.{List, ◌++◌, append-nil}
use borrow.Author.Tests.{eq-eqb}
use lib.Dec.{leb, eqb}
use Rattle.laws.proofs.Tests.{by_cases, both_true}
use Rattle.table.specs.declared.Answer.{Answer}
use Rattle.promises.specs.Views.{sent, to}
use Rattle.pair.specs.World.{Envelope, is_message, posted, All, nothing, more}
use Rattle.pair.proofs.Lists.{Pairs, all_append, pairs_append}

-- A message of a kind that goes to the other station.
pub posted_to : (p : ℕ) (a : Answer) (k : ℕ) → is_message p (sent a) ≡ true → (sent a).kind ≡ k → to k p a ≡ true
posted_to p a k t kind = rw (eq-eqb (sent a).kind k kind, (both_true (leb 1 (sent a).kind && leb (sent a).kind 8) (eqb (sent a).neighbour p) t).1)

module _ (p : ℕ) (m : Envelope) (xs : List Envelope) where
  pub all_posted : {P : Envelope → Type 0} → All P xs → (is_message p m.message ≡ true → P m) → All P (xs ++ posted p m)
  all_posted ps fits = all_append ps (by_cases (is_message p m.message) (λ t. rw t (more (fits t) nothing)) (λ t. rw t nothing))

  pub pairs_posted : {P : Envelope → Envelope → Type 0} → Pairs P xs → (is_message p m.message ≡ true → All (λ x. P x m) xs) → Pairs P (xs ++ posted p m)
  pairs_posted ps fits = by_cases (is_message p m.message) (λ t. rw t (pairs_append ps (fits t))) (λ t. rw (t, append-nil xs) ps)
