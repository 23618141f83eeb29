-- What a message that is not refused has.
use Prim.Native.Nat.{ℕ, zero, suc, ◌+◌, ◌≤◌, ◌<◌}
use mathlib.Core.Path.{◌≡◌, refl, sym, ◌∙◌}
use mathlib.Core.Bool.{Bool, true, false, cond, ◌&&◌, ◌||◌, and-false, false≢true}
use mathlib.Core.List.{List, [], ◌∷◌}
use native.Mathlib.Omega.{arith}
use Rattle.std.proofs.Common.{ap, Ok, Err}
use borrow.Author.Tests.{lt-leb, ltb-true, ltb-false, lt-ltb, le-ltb, eqb-true}
use lib.Dec.{leb, ltb, eqb}
use lib.ListN.{length, get_or}
use store.Seg.{eqb_same}
use Rattle.laws.proofs.Tests.{by_cases, both_true, neither, clash, every, every_at}
use Rattle.wire.specs.Parts.{none, ies_of, row_of, list_end}
use Rattle.wire.specs.Rules.{allows, refusal_by}
use Rattle.reading.specs.Reading.{shape_of, count_of, layout_of, rule_in, passed, Judgement, judged_of}
use Rattle.reading.specs.declared.Layout.{Layout}
use Rattle.wire.specs.declared.Refusal.{Refusal}
use Rattle.wire.specs.declared.Shape.{Shape}
use Rattle.wire.specs.declared.Shape.TheVariants.{Release, Cancel, ShortCancel}
use Rattle.wire.specs.declared.rules.Rule.{Rule}
use Rattle.reading.proofs.Walk.{moved}

-- ---- how far it is passed

-- No more octets are passed than there are, and each that is passed may stand there.
pub passed_most : (l : Layout) (start : ℕ) (m : List ℕ) → passed l start m ≤ length m
unfolding passed
passed_most l start [] = omega arith
passed_most l start (o ∷ m) =
    by_cases (allows (rule_in l start) o)
    (λ t. rw t (omega (arith, passed_most l (suc start) m)))
    (λ t. rw t (omega arith))

passed_from : (l : Layout) (start : ℕ) (m : List ℕ) (k : ℕ) → k < passed l start m → allows (rule_in l (start + k)) (get_or m k 0) ≡ true
unfolding passed
passed_from l start [] k h = absurd (omega arith)
passed_from l start (o ∷ m) zero h =
    by_cases (allows (rule_in l start) o)
    (λ t. moved l (start + 0) start o (omega arith) ∙ t)
    (λ t. absurd (omega (arith, rw t at h)))
passed_from l start (o ∷ m) (suc k) h =
    by_cases (allows (rule_in l start) o)
    (λ t. moved l (start + suc k) (suc start + k) (get_or m k 0) (omega arith) ∙ passed_from l (suc start) m k (omega (arith, rw t at h)))
    (λ t. absurd (omega (arith, rw t at h)))

pub passed_each : (l : Layout) (m : List ℕ) (k : ℕ) → k < passed l 0 m → allows (rule_in l k) (get_or m k 0) ≡ true
passed_each l m k h = moved l k (0 + k) (get_or m k 0) (omega arith) ∙ passed_from l 0 m k h

-- and the one after them may not
passed_next : (l : Layout) (start : ℕ) (m : List ℕ) → passed l start m < length m → allows (rule_in l (start + passed l start m)) (get_or m (passed l start m) 0) ≡ false
unfolding passed
passed_next l start [] h = absurd (omega arith)
passed_next l start (o ∷ m) h =
    by_cases (allows (rule_in l start) o)
    (λ t. rw t (moved l (start + suc (passed l (suc start) m)) (suc start + passed l (suc start) m) (get_or m (passed l (suc start) m) 0) (omega arith) ∙ passed_next l (suc start) m (omega (arith, rw t at h))))
    (λ t. rw t (moved l (start + 0) start o (omega arith) ∙ t))

pub passed_last : (l : Layout) (m : List ℕ) → passed l 0 m < length m → allows (rule_in l (passed l 0 m)) (get_or m (passed l 0 m) 0) ≡ false
passed_last l m h = moved l (passed l 0 m) (0 + passed l 0 m) (get_or m (passed l 0 m) 0) (omega arith) ∙ passed_next l 0 m h

-- ---- what is said

-- Nothing may stand where nothing may.
pub none_allows : (reply octet : ℕ) → allows (none reply) octet ≡ false
none_allows reply zero = refl
none_allows reply (suc octet) = rw (lt-leb (suc octet) 0 (omega arith), and-false (leb 1 (suc octet)))

-- whether a test holds of each rule of a message, and where nothing may stand
abbrev in_row : (Rule → Bool) → Shape → Bool
in_row test shape = every (λ i. test) (row_of shape)

abbrev pub of_rules : (Rule → Bool) → Bool
of_rules test =
    test (none 17) && test (none 19) && test (none 21) && in_row test Release && in_row test Cancel && in_row test ShortCancel

-- Then it holds of what may stand at any place.
pub every_rule : (test : Rule → Bool) → of_rules test ≡ true → (m : List ℕ) (place : ℕ) → test (rule_in (layout_of m) place) ≡ true
every_rule test all m place =
    let l = layout_of m in
    let e = both_true (test (none 17) && test (none 19) && test (none 21) && in_row test Release && in_row test Cancel) (in_row test ShortCancel) all in
    let d = both_true (test (none 17) && test (none 19) && test (none 21) && in_row test Release) (in_row test Cancel) e.0 in
    let c = both_true (test (none 17) && test (none 19) && test (none 21)) (in_row test Release) d.0 in
    let b = both_true (test (none 17) && test (none 19)) (test (none 21)) c.0 in
    let a = both_true (test (none 17)) (test (none 19)) b.0 in
    let row : (s : Shape) → in_row test s ≡ true = λ s. elim s as (λ s. in_row test s ≡ true) [ Release ↦ c.1 | Cancel ↦ d.1 | ShortCancel ↦ e.1 ] in
    by_cases (eqb place l.value && ltb place l.list)
    (λ t. rw t a.0)
    (λ t. by_cases (ltb place l.list)
    (λ u. rw (t, u) (every_at (λ i. test) (row_of l.shape) (none 19) place (row l.shape) (λ j. a.1)))
    (λ u. rw (t, u) (by_cases l.complete (λ v. rw v b.1) (λ v. rw v a.1))))

-- ---- which refusal it is

pub same_error : (a e : Refusal) → ◌≡◌ {A = Judgement} (Err a) (Err e) → a ≡ e
same_error a e is = cc

-- at the end
end_error : (short all : Bool) (size : ℕ) (e : Refusal) → ◌≡◌ {A = Judgement} (cond short (Err (record { reply = 17; at = size })) (cond all (Ok tt) (Err (record { reply = 19; at = size })))) (Err e) → e.at ≡ size
end_error true all size e is = ap (λ (x : Refusal). x.at) (sym (same_error _ e is))
end_error false true size e is = clash (cc is)
end_error false false size e is = ap (λ (x : Refusal). x.at) (sym (same_error _ e is))

-- A message is refused at an octet that may not stand there, or where it ends.
pub refused_where : {G : Type 0} (m : List ℕ) (e : Refusal) → judged_of m ≡ Err e
    → (passed (layout_of m) 0 m < length m → refusal_by (rule_in (layout_of m) (passed (layout_of m) 0 m)) (get_or m (passed (layout_of m) 0 m) 0) (passed (layout_of m) 0 m) ≡ e → G)
    → (length m ≤ passed (layout_of m) 0 m → e.at ≡ length m → G) → G
unfolding judged_of
refused_where m e is octet ended =
    let l = layout_of m in
    let p = passed l 0 m in
    by_cases (ltb p (length m))
    (λ t. octet (ltb-true p (length m) t) (same_error _ e (rw t at is)))
    (λ t. ended (ltb-false p (length m) t) (end_error (ltb (length m) l.list || ltb (length m) l.value) l.complete (length m) e (rw t at is)))

-- ---- a message in order

pub record InOrder (m : List ℕ) : Type 0 where
  -- it has all its IEs
  pub complete : count_of m ≡ length (ies_of (shape_of m))
  -- it ends where its list and its value do
  pub size : length m ≡ list_end (shape_of m) (count_of m)
  pub value : length m ≡ 4 + get_or m 3 0
  -- and each octet may stand where it does
  pub each : (k : ℕ) → k < length m → allows (rule_in (layout_of m) k) (get_or m k 0) ≡ true

-- Nothing may stand after the list, nor where the value ends before it.
beyond_allows : (m : List ℕ) (place octet : ℕ) → (layout_of m).list ≤ place → allows (rule_in (layout_of m) place) octet ≡ false
beyond_allows m place octet h =
    let l = layout_of m in
    let out : ltb place l.list ≡ false = le-ltb place l.list h in
    rw (out, and-false (eqb place l.value)) (none_allows (cond l.complete 21 19) octet)

value_allows : (m : List ℕ) (octet : ℕ) → (layout_of m).value < (layout_of m).list → allows (rule_in (layout_of m) (layout_of m).value) octet ≡ false
value_allows m octet h =
    let l = layout_of m in
    rw (eqb_same l.value, lt-ltb l.value l.list h) (none_allows 17 octet)

-- what an end without a refusal says
no_more : (short all : Bool) (size : ℕ) → ◌≡◌ {A = Judgement} (cond short (Err (record { reply = 17; at = size })) (cond all (Ok tt) (Err (record { reply = 19; at = size })))) (Ok tt) → (short ≡ false) × (all ≡ true)
no_more true all size e = clash (cc e)
no_more false true size e = (refl, refl)
no_more false false size e = clash (cc e)

module _ (m : List ℕ) (each : (k : ℕ) → k < length m → allows (rule_in (layout_of m) k) (get_or m k 0) ≡ true) where
  -- it does not go on after its list, nor after its value
  list_last : length m ≤ (layout_of m).list
  list_last =
      by_cases (ltb (layout_of m).list (length m))
      (λ t. absurd (false≢true (sym (beyond_allows m (layout_of m).list (get_or m (layout_of m).list 0) (omega arith)) ∙ each (layout_of m).list (ltb-true (layout_of m).list (length m) t))))
      (λ t. ltb-false (layout_of m).list (length m) t)

  value_last : (layout_of m).list ≤ length m → length m ≤ (layout_of m).value
  value_last whole =
      by_cases (ltb (layout_of m).value (length m))
      (λ t. absurd (false≢true (sym (value_allows m (get_or m (layout_of m).value 0) (omega (arith, list_last, ltb-true (layout_of m).value (length m) t))) ∙ each (layout_of m).value (ltb-true (layout_of m).value (length m) t))))
      (λ t. ltb-false (layout_of m).value (length m) t)

  ends_well : (layout_of m).list ≤ length m → (layout_of m).value ≤ length m → (layout_of m).complete ≡ true → InOrder m
  ends_well whole long all =
      record {
        complete = eqb-true (count_of m) (length (ies_of (shape_of m))) all;
        size = omega (arith, list_last);
        value = omega (arith, value_last whole);
        each = each;
      }

-- A message that is not refused is in order.
pub in_order : (m : List ℕ) → judged_of m ≡ Ok tt → InOrder m
unfolding judged_of
in_order m e =
    let l = layout_of m in
    let p = passed l 0 m in
    by_cases (ltb p (length m))
    (λ t. clash (cc (rw t at e)))
    (λ t.
    let last = no_more (ltb (length m) l.list || ltb (length m) l.value) l.complete (length m) (rw t at e) in
    let ends = neither (ltb (length m) l.list) (ltb (length m) l.value) last.0 in
    ends_well m
    (λ k h. passed_each l m k (omega (arith, ltb-false p (length m) t)))
    (ltb-false (length m) l.list ends.0) (ltb-false (length m) l.value ends.1) last.1)
