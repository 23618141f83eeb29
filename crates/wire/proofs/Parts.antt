-- What stands where in a message.
use Rattle.std.proofs.Common.{◌≡◌, ℕ, zero, suc, ◌+◌, ◌-◌, ◌<◌, ◌≤◌, false, IfSome, List, [], ◌∷◌, ◌++◌, length, get_or, refl, sym, ◌∙◌, ap, arith, eqb}
use Rattle.std.proofs.Math.ListN.{get_or-append}
use Rattle.std.proofs.Math.Seq.{get_or-append_right}
use Rattle.std.proofs.lemmas.List.{get_or-append-add}
use borrow.Author.Tests.{eqb-true}
use Rattle.laws.proofs.Tests.{by_cases}
use Rattle.wire.specs.Parts.{reject, ignore, none, old, new, cause, ies_of, header, ie_rules, row_of, list_end, part_of}
use Rattle.wire.specs.declared.rules.Rule.{Rule}
use Rattle.wire.specs.declared.Shape.{Shape}
use Rattle.wire.specs.declared.Shape.TheVariants.{Release, Cancel, ShortCancel}

-- ---- the rules, IE by IE

-- what is read where nothing may stand is read beyond it too
last : {A : Type 0} (xs : List A) (d : A) (i : ℕ) → get_or xs i d ≡ get_or (xs ++ d ∷ []) i d
last [] d zero = refl
last [] d (suc i) = refl
last (x ∷ xs) d zero = refl
last (x ∷ xs) d (suc i) = last xs d i

-- behind the Old ID
later : Shape → List Rule
later Release = ie_rules (new reject) ++ none 19 ∷ []
later Cancel = ie_rules (new ignore) ++ ie_rules cause ++ none 19 ∷ []
later ShortCancel = ie_rules cause ++ none 19 ∷ []

pub old_rule : (shape : Shape) (place : ℕ) → 7 ≤ place → place < 13 → get_or (ie_rules old) (place - 7) (none 19) ≡ get_or (row_of shape) place (none 19)
unfolding later
old_rule Release place h k = sym (get_or-append_right (header Release) (ie_rules old ++ later Release) place (none 19) h ∙ get_or-append (ie_rules old) (later Release) (none 19) (place - 7) (omega arith))
old_rule Cancel place h k = sym (get_or-append_right (header Cancel) (ie_rules old ++ later Cancel) place (none 19) h ∙ get_or-append (ie_rules old) (later Cancel) (none 19) (place - 7) (omega arith))
old_rule ShortCancel place h k = sym (get_or-append_right (header ShortCancel) (ie_rules old ++ later ShortCancel) place (none 19) h ∙ get_or-append (ie_rules old) (later ShortCancel) (none 19) (place - 7) (omega arith))

pub release_rule : (at : ℕ) → get_or (ie_rules (new reject)) at (none 19) ≡ get_or (row_of Release) (13 + at) (none 19)
release_rule at = last (ie_rules (new reject)) (none 19) at ∙ sym (get_or-append-add (header Release ++ ie_rules old) (ie_rules (new reject) ++ none 19 ∷ []) at (none 19))

pub cancel_rule : (at : ℕ) → 6 ≤ at → get_or (ie_rules cause) (at - 6) (none 19) ≡ get_or (row_of Cancel) (13 + at) (none 19)
cancel_rule at h =
    last (ie_rules cause) (none 19) (at - 6)
    ∙ sym (get_or-append_right (header Cancel ++ ie_rules old ++ ie_rules (new ignore)) (ie_rules cause ++ none 19 ∷ []) (13 + at) (none 19) (omega arith) ∙ ap (λ (i : ℕ). get_or (ie_rules cause ++ none 19 ∷ []) i (none 19)) (omega arith))

-- ---- the parts that are values

-- An id is one of the three, or another.
pub by_id : {G : Type 0} (id : ℕ) → (id ≡ 10 → G) → (id ≡ 9 → G) → (id ≡ 5 → G) → (eqb id 10 ≡ false → eqb id 9 ≡ false → eqb id 5 ≡ false → G) → G
by_id id old new cause other =
    by_cases (eqb id 10)
    (λ a. old (eqb-true id 10 a))
    (λ a. by_cases (eqb id 9)
    (λ b. new (eqb-true id 9 b))
    (λ b. by_cases (eqb id 5) (λ d. cause (eqb-true id 5 d)) (other a b)))

-- how many octets a message has
abbrev pub whole : Shape → ℕ
whole shape = list_end shape (length (ies_of shape))

-- A value stands inside the list.
pub part_inside : (shape : Shape) (id : ℕ) → IfSome (part_of shape id) (λ p. p.at + p.size ≤ whole shape)
part_inside Release id = by_id id (λ e. rw e (omega arith)) (λ e. rw e (omega arith)) (λ e. rw e tt) (λ a b d. rw (a, b) tt)
part_inside Cancel id = by_id id (λ e. rw e (omega arith)) (λ e. rw e (omega arith)) (λ e. rw e (omega arith)) (λ a b d. rw (a, b, d) tt)
part_inside ShortCancel id = by_id id (λ e. rw e (omega arith)) (λ e. rw e tt) (λ e. rw e (omega arith)) (λ a b d. rw (a, d) tt)
