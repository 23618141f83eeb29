-- Sums over bearers, and the lists that they are taken of.
use Prim.Native.Nat.{ℕ, zero, suc, ◌+◌, ◌≤◌, ◌<◌}
use mathlib.Core.Path.{◌≡◌, refl, ◌∙◌, sym, ap₂, subst}
use mathlib.Core.Bool.{Bool, true, false, cond, not, ◌&&◌}
use mathlib.Core.List.{List, [], ◌∷◌, ◌++◌, map}
use borrow.Author.Tests.{ne_eqb, eqb-true, eqb-false, le-leb, lt-leb, lt-ltb, le-ltb, leb-true, leb-false}
use store.Seg.{eqb_same}
use native.Mathlib.Omega.{arith}
use lib.Dec.{leb, ltb, eqb}
use lib.ListN.{length, get_or}
use lib.Seq.{append_snoc}
use Rattle.laws.proofs.Sums.{total_equal, total_none, total_append, total_add}
use Rattle.laws.specs.Sums.{total}
use Rattle.laws.proofs.Tests.{by_cases, on_either}
use Rattle.bearers.specs.declared.Bearer.{Bearer}
use Rattle.bearers.specs.Admission.{those, occurs, turns_from}

-- what holds of each bearer of a list
abbrev pub Each : (Bearer → Type 0) → List Bearer → Type 0
Each P [] = Unit {0}
Each P (b ∷ bs) = P b × Each P bs

-- Two numbers that agree for each bearer have the same sum.
pub total_same : {P : Bearer → Type 0} (f g : Bearer → ℕ) (bs : List Bearer) → Each P bs → ((b : Bearer) → P b → f b ≡ g b) → total f bs ≡ total g bs
unfolding total
total_same f g [] each same = refl
total_same f g (b ∷ bs) each same = ap₂ ◌+◌ (same b each.0) (total_same f g bs each.1 same)

pub total_those : (f : Bearer → ℕ) (test : Bearer → Bool) (bs : List Bearer) → total f (those test bs) ≡ total (λ b. cond (test b) (f b) 0) bs
unfolding total those
total_those f test [] = refl
total_those f test (b ∷ bs) = by_cases (test b) (λ t. rw t (omega (arith, total_those f test bs))) (λ t. rw t (omega (arith, total_those f test bs)))

-- With the sum over those that fail the test it is the sum over all, so it is at most that.
pub those_others : (f : Bearer → ℕ) (test : Bearer → Bool) (bs : List Bearer) → total f (those test bs) + total f (those (λ b. not (test b)) bs) ≡ total f bs
unfolding total those
those_others f test [] = refl
those_others f test (b ∷ bs) = by_cases (test b) (λ t. rw t (omega (arith, those_others f test bs))) (λ t. rw t (omega (arith, those_others f test bs)))

pub those_le : (f : Bearer → ℕ) (test : Bearer → Bool) (bs : List Bearer) → total f (those test bs) ≤ total f bs
those_le f test bs = omega (arith, those_others f test bs)

-- ---- how often an ID occurs

-- what a bearer counts among those with an ID
abbrev pub once : ℕ → Bearer → ℕ
once k b = cond (eqb b.id k) 1 0

-- It counts for its own ID, and for no other.
pub once_own : (b : Bearer) → once b.id b ≡ 1
once_own b = rw (eqb_same b.id)

pub once_other : (k : ℕ) (b : Bearer) → (b.id ≡ k → ⊥) → once k b ≡ 0
once_other k b other = rw (ne_eqb b.id k other)

-- Where a test comes out the same for all bearers with an ID, all of that ID pass or none.
pub occurs_those : (k : ℕ) (test : Bearer → Bool) (kept : Bool) (bs : List Bearer) → ((b : Bearer) → b.id ≡ k → test b ≡ kept) → occurs k (those test bs) ≡ cond kept (occurs k bs) 0
occurs_those k test kept bs same = total_those (once k) test bs ∙ total_equal _ (λ b. cond kept (once k b) 0) bs each ∙ all kept
  where
    each : (b : Bearer) → cond (test b) (once k b) 0 ≡ cond kept (once k b) 0
    each b =
        by_cases (eqb b.id k)
        (λ t. rw (same b (eqb-true b.id k t)))
        (λ t. rw t (on_either (test b) 0 ∙ sym (on_either kept 0)))

    all : (kept : Bool) → total (λ b. cond kept (once k b) 0) bs ≡ cond kept (occurs k bs) 0
    all true = refl
    all false = total_none _ bs (λ b. refl)

-- ---- turns

-- The sum over the turns of some priorities is that over the bearers with such a priority.
abbrev pub within : ℕ → ℕ → Bearer → Bool
within p n b = leb p b.priority && ltb b.priority (p + n)

within_more : (f : Bearer → ℕ) (p n : ℕ) (b : Bearer) → cond (eqb b.priority p) (f b) 0 + cond (within (p + 1) n b) (f b) 0 ≡ cond (within p (suc n) b) (f b) 0
within_more f p n b =
    let x = b.priority in
    by_cases (eqb x p)
    (λ t. let same : x ≡ p = eqb-true x p t in
    rw (t, lt-leb (p + 1) x (omega arith), le-leb p x (omega arith), lt-ltb x (p + suc n) (omega arith)) (omega arith))
    (λ t. let other : x ≡ p → ⊥ = eqb-false x p t in
    by_cases (leb p x)
    (λ u. let above : p < x = omega (arith, leb-true p x u) in
    let end : p + 1 + n ≡ p + suc n = omega arith in
    rw (t, u, le-leb (p + 1) x (omega arith), end) (omega arith))
    (λ u. let below : x < p = leb-false p x u in
    rw (t, u, lt-leb (p + 1) x (omega arith)) (omega arith)))

pub total_turns : (f : Bearer → ℕ) (n p : ℕ) (bs : List Bearer) → total f (turns_from n p bs) ≡ total (λ b. cond (within p n b) (f b) 0) bs
unfolding turns_from total
total_turns f zero p bs = sym (total_none _ bs none)
  where
    none : (b : Bearer) → cond (within p 0 b) (f b) 0 ≡ 0
    none b =
        by_cases (leb p b.priority)
        (λ t. rw (t, le-ltb b.priority (p + 0) (omega (arith, leb-true p b.priority t))))
        (λ t. rw t)
total_turns f (suc n) p bs =
    total_append f (those (λ b. eqb b.priority p) bs) (turns_from n (p + 1) bs)
    ∙ ap₂ ◌+◌ (total_those f (λ b. eqb b.priority p) bs) (total_turns f n (p + 1) bs)
    ∙ sym (total_add (λ b. cond (eqb b.priority p) (f b) 0) (λ b. cond (within (p + 1) n b) (f b) 0) bs)
    ∙ total_equal _ _ bs (within_more f p n)

-- ---- what holds of each bearer

-- What holds wherever the list is split holds of each.
pub each_split : (P : Bearer → Type 0) (bs : List Bearer) → ((before : List Bearer) (b : Bearer) (later : List Bearer) → bs ≡ before ++ b ∷ later → P b) → Each P bs
each_split P bs holds = go [] bs refl
  where
    go : (before left : List Bearer) → bs ≡ before ++ left → Each P left
    go before [] e = tt
    go before (b ∷ left) e = (holds before b left e, go (before ++ b ∷ []) left (e ∙ sym (append_snoc before b left)))

-- What holds of each place holds of each bearer, and the other way.
pub each_place : (P : Bearer → Type 0) (bs : List Bearer) → ((j : ℕ) (d : Bearer) → j < length bs → P (get_or bs j d)) → Each P bs
each_place P [] holds = tt
each_place P (b ∷ bs) holds = (holds 0 b (omega arith), each_place P bs (λ j d h. holds (suc j) d (omega arith)))

pub each_at : (P : Bearer → Type 0) (bs : List Bearer) → Each P bs → (i : ℕ) (d : Bearer) → i < length bs → P (get_or bs i d)
each_at P [] each i d h = absurd (omega arith)
each_at P (b ∷ bs) each zero d h = each.0
each_at P (b ∷ bs) each (suc i) d h = each_at P bs each.1 i d (omega arith)

-- What holds of each bearer holds of the one at which the list is split, and what follows from it holds of each.
pub each_here : (P : Bearer → Type 0) {bs : List Bearer} (before : List Bearer) (b : Bearer) (later : List Bearer) → bs ≡ before ++ b ∷ later → Each P bs → P b
each_here P before b later e each = go before (subst (Each P) e each)
  where
    go : (before : List Bearer) → Each P (before ++ b ∷ later) → P b
    go [] each = each.0
    go (x ∷ before) each = go before each.1

pub each_map : (P Q : Bearer → Type 0) (bs : List Bearer) → ((b : Bearer) → P b → Q b) → Each P bs → Each Q bs
each_map P Q [] f each = tt
each_map P Q (b ∷ bs) f each = (f b each.0, each_map P Q bs f each.1)

-- Where two functions agree on each bearer, the lists that they make are the same.
pub map_each : (f g : Bearer → ℕ) (bs : List Bearer) → Each (λ b. f b ≡ g b) bs → map f bs ≡ map g bs
map_each f g [] same = refl
map_each f g (b ∷ bs) same = ap₂ ◌∷◌ same.0 (map_each f g bs same.1)

pub those_each : (p q : Bearer → Bool) (bs : List Bearer) → Each (λ b. p b ≡ q b) bs → those p bs ≡ those q bs
unfolding those
those_each p q [] same = refl
those_each p q (b ∷ bs) same = rw (same.0, those_each p q bs same.1)

-- Those that pass a test are among those that pass a wider one.
pub those_wider : (p q : Bearer → Bool) (bs : List Bearer) → ((b : Bearer) → p b ≡ true → q b ≡ true) → those p (those q bs) ≡ those p bs
unfolding those
those_wider p q [] wider = refl
those_wider p q (b ∷ bs) wider =
    by_cases (p b)
    (λ t. rw (wider b t, t, those_wider p q bs wider))
    (λ t. by_cases (q b) (λ u. rw (u, t, those_wider p q bs wider)) (λ u. rw (u, t, those_wider p q bs wider)))

-- What follows for a bearer that passes a test holds of each of those that pass it.
pub each_those : (P Q : Bearer → Type 0) (test : Bearer → Bool) (bs : List Bearer) → ((b : Bearer) → P b → test b ≡ true → Q b) → Each P bs → Each Q (those test bs)
unfolding those
each_those P Q test [] f each = tt
each_those P Q test (b ∷ bs) f each =
    by_cases (test b)
    (λ t. rw t (f b each.0 t, each_those P Q test bs f each.1))
    (λ t. rw t (each_those P Q test bs f each.1))

-- What holds of each bearer of two lists holds of each of both together.
pub each_append : (P : Bearer → Type 0) (xs ys : List Bearer) → Each P xs → Each P ys → Each P (xs ++ ys)
each_append P [] ys left right = right
each_append P (x ∷ xs) ys left right = (left.0, each_append P xs ys left.1 right)

-- What holds of a bearer whose ID occurs in a list holds of each bearer of it; so two tests that agree there pick the same.
pub each_occurs : (P : Bearer → Type 0) (bs : List Bearer) → ((b : Bearer) → 0 < occurs b.id bs → P b) → Each P bs
unfolding total
each_occurs P [] holds = tt
each_occurs P (b ∷ bs) holds = (holds b (rw (once_own b) (omega arith)), each_occurs P bs (λ x h. holds x (omega arith)))

pub those_same : (p q : Bearer → Bool) (bs : List Bearer) → ((b : Bearer) → 0 < occurs b.id bs → p b ≡ q b) → those p bs ≡ those q bs
those_same p q bs same = those_each p q bs (each_occurs _ bs same)

-- Those of two lists are those of the one and those of the other.
pub those_append : (test : Bearer → Bool) (xs ys : List Bearer) → those test (xs ++ ys) ≡ those test xs ++ those test ys
unfolding those
those_append test [] ys = refl
those_append test (x ∷ xs) ys = by_cases (test x) (λ t. rw (t, those_append test xs ys)) (λ t. rw (t, those_append test xs ys))
