-- Sets: the IDs of a set, read one after the other, make that set.
use Prim.Native.Nat.{ℕ, zero, suc, ◌+◌, ◌%◌, ◌^◌, ◌≤◌, ◌<◌}
use mathlib.Core.Path.{◌≡◌, refl, ◌∙◌}
use mathlib.Core.Bool.{Bool, true, false, ◌&&◌}
use mathlib.Core.List.{List, ◌∷◌, ◌++◌}
use native.Mathlib.Omega.{arith}
use borrow.Author.Tests.{lt-ltb, le-ltb, ltb-true, ltb-false, eqb-true, eqb-false}
use lib.Dec.{ltb, eqb}
use lib.ListN.{length, get_or}
use lib.Seq.{set_at, get_or_at}
use Rattle.laws.proofs.Tests.{by_cases}
use Rattle.sets.specs.Sets.{member, add}
use Rattle.sets.proofs.Membership.{member_add, member_none, member_beyond, add_fits, same_members}
use Rattle.buffers.specs.Digits.{size, digits}
use Rattle.showing.specs.Shown.{number_text, id_text, ids_text}
use Rattle.composing.specs.Composed.{limits, Made}
use Rattle.words.specs.Values.{is_set}
use Rattle.files.proofs.Leading.{resting}
use Rattle.files.proofs.Typing.{Adds, adds_none, adds_on, adds_word, number_read}

-- a set has the members of another that are below a number
abbrev Below : ℕ → ℕ → ℕ → Type 0
Below s w k = (j : ℕ) → member w j ≡ (member s j && ltb j k)

-- One number more, which is a member or not.
module _ (s w k : ℕ) (below : Below s w k) where
  -- Any other is below as before.
  other : (j : ℕ) → eqb j k ≡ false → member w j ≡ (member s j && ltb j (suc k))
  other j t =
      below j
      ∙ by_cases (ltb j k)
      (λ u. rw (u, lt-ltb j (suc k) (omega (arith, ltb-true j k u))))
      (λ u. rw (u, le-ltb j (suc k) (omega (arith, ltb-false j k u, eqb-false j k t))))

  -- A member is added.
  with_member : k < 16 → member s k ≡ true → Below s (add w k) (suc k)
  with_member h t j =
      member_add w k j h
      ∙ by_cases (eqb j k)
      (λ e. rw (e, eqb-true j k e, t, lt-ltb k (suc k) (omega arith)))
      (λ e. rw e (other j e))

  -- Any other number adds nothing.
  without_member : member s k ≡ false → Below s w (suc k)
  without_member t j =
      by_cases (eqb j k)
      (λ e. rw (eqb-true j k e, t) (below k ∙ rw t))
      (λ e. other j e)

-- With the members below 16 it is that set.
all_below : (s w : ℕ) → s < 2 ^ 16 → Below s w 16 → w ≡ s
all_below s w h below =
    same_members w s
    (λ j. below j ∙ by_cases (ltb j 16) (λ t. rw t (with_true (member s j))) (λ t. rw (member_beyond s j h (ltb-false j 16 t))))
  where
    with_true : (b : Bool) → (b && true) ≡ b
    with_true true = refl
    with_true false = refl

-- A set's field takes the IDs up to 15.
takes_ids : (f : ℕ) → is_set f ≡ true → (f ≤ 14) × (15 ≤ get_or limits f 0)
takes_ids f t =
    by_cases (eqb f 4)
    (λ e. rw (eqb-true f 4 e) (omega arith, omega arith))
    (λ e. rw (eqb-true f 5 (rw e at t)) (omega arith, omega arith))

-- a line whose field f takes IDs
module _ (done rest : List ℕ) (mode staged : ℕ) (out : List ℕ) (words : mode ≤ 1) (f : ℕ) (here : length done ≡ f) (sets : is_set f ≡ true) where
  abbrev having : ℕ → Made
  having w = resting (done ++ w ∷ rest) f mode staged out

  -- An ID is added.
  one_id : (k w : ℕ) → k < 16 → w < 2 ^ 16 → Adds (number_text k) (having w) (having (add w k))
  one_id k w h small =
      let takes = takes_ids f sets in
      let whole : w % 65536 ≡ w = omega arith in
      let id : k % 256 ≡ k = omega arith in
      adds_word (digits (size k) k) (having w) (having (add w k)) refl
      (rw (get_or_at done w rest 0 f here, sets, whole, id, set_at done w rest (add w k) f here)
      at (number_read (done ++ w ∷ rest) f mode staged out words k (omega arith) takes.0 (omega (arith, takes.1))))

  -- a set, of which the IDs below one were read
  module _ (s : ℕ) (fits : s < 2 ^ 16) where
    -- The next ID is read where it is a member.
    next_id : (k w : ℕ) → k < 16 → w < 2 ^ 16 → Below s w k → (next : ℕ) × (next < 2 ^ 16) × Below s next (suc k) × Adds (id_text s k) (having w) (having next)
    next_id k w h small below =
        by_cases (member s k)
        (λ t. (add w k, add_fits w k small, with_member s w k below h t, rw t (one_id k w h small)))
        (λ t. (w, small, without_member s w k below t, rw t (adds_none (having w))))

    -- So are all from one on, and then it is that set.
    ids_from : (n k w : ℕ) → k + n ≡ 16 → w < 2 ^ 16 → Below s w k → Adds (ids_text s k n) (having w) (having s)
    unfolding ids_text
    ids_from zero k w e small below =
        let last : k ≡ 16 = omega arith in
        rw (all_below s w fits (rw last at below)) (adds_none (having s))
    ids_from (suc n) k w e small below =
        let one = next_id k w (omega arith) small below in
        adds_on (id_text s k) (ids_text s (suc k) n) (having w) (having one.0) (having s) one.3
        (ids_from n (suc k) one.0 (omega arith) one.1 one.2)

    -- The IDs of a set make it of the empty one.
    pub ids_read : Adds (ids_text s 0 16) (having 0) (having s)
    ids_read = ids_from 16 0 0 refl (omega arith) (λ j. member_none j ∙ by_cases (member s j) (λ t. rw (t, le-ltb j 0 (omega arith))) (λ t. rw t))
