-- A message cut short, and one that goes on.
use Rattle.std.proofs.Common.{◌≡◌, ℕ, zero, suc, ◌≤◌, ◌<◌, true, false, ◌||◌, ◌⊎◌, inl, inr, Ok, Err, List, ◌∷◌, ◌++◌, length, take, get_or, leb, ltb, eqb, sym, ap, ◌∙◌, arith}
use mathlib.Core.Bool.{and-false, false≢true}
use borrow.Author.Tests.{leb-true, leb-false, ltb-true, ltb-false, lt-ltb, le-ltb, eq-eqb}
use lib.ListN.{length-append, get_or-append}
use lib.Seq.{get_or-take, length-take-le, take_all}
use Rattle.laws.proofs.Tests.{by_cases, clash}
use Rattle.wire.specs.Parts.{none, ies_of, list_end}
use Rattle.wire.specs.Rules.{allows, refusal_by}
use Rattle.wire.specs.declared.Refusal.{Refusal}
use Rattle.wire.specs.declared.Shape.{Shape}
use Rattle.wire.specs.declared.Shape.TheVariants.{Release, Cancel, ShortCancel}
use Rattle.wire.specs.declared.rules.Rule.{Rule}
use Rattle.reading.specs.Reading.{shape_of, count_of, layout_of, rule_in, passed, Judgement, end_in, judged_of}
use Rattle.reading.specs.declared.Layout.{Layout}
use Rattle.reading.proofs.Deciding.{each_same}
use Rattle.reading.proofs.Order.{passed_most, passed_each, none_allows, InOrder, in_order, refused_where}
use Rattle.reading.proofs.Same.{seven, same_layout}
use Rattle.reading.proofs.Walk.{passed_stop, judged_octet, judged_end}

-- ---- a message that is passed to its end is judged there

pub all_passed : (m : List ℕ) → ((k : ℕ) → k < length m → allows (rule_in (layout_of m) k) (get_or m k 0) ≡ true) → judged_of m ≡ end_in (layout_of m) (length m)
unfolding judged_of
all_passed m each =
    let far = passed_stop (layout_of m) m (length m) (omega arith) each (λ inside. absurd (omega arith)) in
    sym (judged_end (layout_of m) m (length m) (sym far) (omega arith))

-- its beginning too
cut_octet : (b : ℕ) (m : List ℕ) (j : ℕ) → j < b → get_or m j 0 ≡ get_or (take b m) j 0
cut_octet b m j h = sym (get_or-take b m j 0 h)

pub cut_judged : (m : List ℕ) (b : ℕ) → b ≤ length m → ((k : ℕ) → k < b → allows (rule_in (layout_of m) k) (get_or m k 0) ≡ true)
    → judged_of (take b m) ≡ end_in (layout_of (take b m)) b
cut_judged m b h each =
    let size = length-take-le b m h in
    let short = each_same m (take b m) b (cut_octet b m) each in
    all_passed (take b m) (λ k below. short k (omega arith)) ∙ ap (end_in (layout_of (take b m))) size

-- ---- each proper beginning of a message in order is truncated

-- a list of two IEs or more goes on to 18 octets
two_ies : (shape : Shape) (count : ℕ) → 2 ≤ count → 18 ≤ list_end shape count
two_ies shape zero many = absurd (omega arith)
two_ies shape (suc zero) many = absurd (omega arith)
two_ies Release (suc (suc count)) many = omega arith
two_ies Cancel (suc (suc count)) many = omega arith
two_ies ShortCancel (suc (suc count)) many = omega arith

-- every message has two IEs at least
some_ies : (shape : Shape) → 2 ≤ length (ies_of shape)
some_ies Release = omega arith
some_ies Cancel = omega arith
some_ies ShortCancel = omega arith

-- a byte after the message
nothing_there : (r : Rule) (octet place : ℕ) → r ≡ none 21 → ◌≡◌ {A = Judgement} (Err (refusal_by r octet place)) (Err (record { reply = 21; at = place }))
nothing_there r octet place is = rw is (ap (λ (at : ℕ). Err (record { reply = 21; at = at })) (omega arith))

module _ (m : List ℕ) (order : InOrder m) where
  many : 2 ≤ count_of m
  many = omega (arith, order.complete, some_ies (shape_of m))

  pub long : 18 ≤ length m
  long = omega (arith, order.size, two_ies (shape_of m) (count_of m) many)

  -- its list promises more
  promised : (b : ℕ) → b < length m → b < (layout_of (take b m)).list
  promised b h =
      let cut = take b m in
      by_cases (leb 15 b)
      (λ t.
      let same = same_layout m cut 14 (λ j below. cut_octet b m j (omega (arith, leb-true 15 b t))) (omega arith) in
      omega (arith, order.size, ap (λ (l : Layout). l.list) same))
      (λ t. by_cases (leb 7 b)
      (λ u.
      let high = cut_octet b m 5 (omega (arith, leb-true 7 b u)) in
      let low = cut_octet b m 6 (omega (arith, leb-true 7 b u)) in
      omega (arith, leb-false 15 b t, many, two_ies (shape_of cut) (count_of cut) (omega (arith, many))))
      (λ u. omega (arith, leb-false 7 b u, seven (shape_of cut) (count_of cut))))

  pub truncated : (b : ℕ) → b < length m → judged_of (take b m) ≡ Err (record { reply = 17; at = b })
  truncated b h = cut_judged m b (omega arith) (λ k below. order.each k (omega arith)) ∙ rw (lt-ltb b (layout_of (take b m)).list (promised b h))

  -- ---- and in each longer one bytes are left over

  -- nothing may stand after it
  end_rule : rule_in (layout_of m) (length m) ≡ none 21
  end_rule =
      let over : ltb (length m) (layout_of m).list ≡ false = le-ltb (length m) (layout_of m).list (omega (arith, order.size)) in
      rw (over, and-false (eqb (length m) (layout_of m).value), eq-eqb (count_of m) (length (ies_of (shape_of m))) order.complete)

  pub left_over : (x : ℕ) (more : List ℕ) → judged_of (m ++ x ∷ more) ≡ Err (record { reply = 21; at = length m })
  unfolding judged_of
  left_over x more =
      let n = m ++ x ∷ more in
      let agree : (j : ℕ) → j < length m → get_or m j 0 ≡ get_or n j 0 = λ j h. sym (get_or-append m (x ∷ more) 0 j h) in
      let same = same_layout m n 14 (λ j h. agree j (omega (arith, long))) (omega arith) in
      let rule : rule_in (layout_of n) (length m) ≡ none 21 = ap (λ (l : Layout). rule_in l (length m)) (sym same) ∙ end_rule in
      let inside : length m < length n = omega (arith, length-append m (x ∷ more)) in
      let stop : allows (rule_in (layout_of n) (length m)) (get_or n (length m) 0) ≡ false = rw rule (none_allows 21 (get_or n (length m) 0)) in
      let far = passed_stop (layout_of n) n (length m) (omega arith) (each_same m n (length m) agree order.each) (λ _. stop) in
      sym (judged_octet (layout_of n) n (length m) (sym far) inside) ∙ nothing_there (rule_in (layout_of n) (length m)) (get_or n (length m) 0) (length m) rule

-- ---- nothing before the deciding byte was wrong

module _ (m : List ℕ) (e : Refusal) (is : judged_of m ≡ Err e) where
  -- every octet before it may stand there
  at_passed : e.at ≤ passed (layout_of m) 0 m
  at_passed = refused_where m e is (λ inside same. omega (arith, ap (λ (x : Refusal). x.at) same)) (λ all end. omega arith)

  within : e.at ≤ length m
  within = omega (arith, at_passed, passed_most (layout_of m) 0 m)

  -- where nothing may stand because the message is over, bytes are left over
  over : e.at < length m → rule_in (layout_of m) e.at ≡ none 21 → e.reply ≡ 21
  over inside rule =
      let p = passed (layout_of m) 0 m in
      let low : p ≤ e.at =
      by_cases (leb p e.at)
      (λ t. leb-true p e.at t)
      (λ t. absurd (false≢true (sym (none_allows 21 (get_or m e.at 0)) ∙ sym (ap (λ (r : Rule). allows r (get_or m e.at 0)) rule) ∙ passed_each (layout_of m) m e.at (leb-false p e.at t))))
      in
      let here : e.at ≡ p = omega (arith, at_passed) in
      refused_where m e is
      (λ inside same. ap (λ (x : Refusal). x.reply) (sym same) ∙ rw (ap (rule_in (layout_of m)) (sym here) ∙ rule))
      (λ all end. absurd (omega arith))

  ended : judged_of (take e.at m) ≡ end_in (layout_of (take e.at m)) e.at
  ended = cut_judged m e.at within (λ k below. passed_each (layout_of m) m k (omega (arith, at_passed)))

  -- one that is read goes on with bytes that are left over
  read_before : judged_of (take e.at m) ≡ Ok tt → e.reply ≡ 21
  read_before read =
      let cut = take e.at m in
      let size : length cut ≡ e.at = length-take-le e.at m within in
      let order = in_order cut read in
      let same = same_layout m cut 14 (λ j h. cut_octet e.at m j (omega (arith, long cut order))) (omega arith) in
      let rule : rule_in (layout_of m) e.at ≡ none 21 = ap (λ (l : Layout). rule_in l e.at) same ∙ ap (rule_in (layout_of cut)) (sym size) ∙ end_rule cut order in
      by_cases (ltb e.at (length m))
      (λ t. over (ltb-true e.at (length m) t) rule)
      (λ t. clash (cc (sym is ∙ ap judged_of (sym (take_all e.at m (ltb-false e.at (length m) t))) ∙ read)))

  -- A refused message, cut to the bytes before the one that decided, is refused at the same place, as truncated or for want of an IE; it is in
  -- order only where bytes were left over.
  pub nothing_before : (judged_of (take e.at m) ≡ Err (record { reply = 17; at = e.at }))
      ⊎ (judged_of (take e.at m) ≡ Err (record { reply = 19; at = e.at }))
      ⊎ ((judged_of (take e.at m) ≡ Ok tt) × (e.reply ≡ 21))
  nothing_before =
      let l = layout_of (take e.at m) in
      by_cases (ltb e.at l.list || ltb e.at l.value)
      (λ t. inl (ended ∙ rw t))
      (λ t. by_cases l.complete
      (λ u. inr (inr (ended ∙ rw (t, u), read_before (ended ∙ rw (t, u)))))
      (λ u. inr (inl (ended ∙ rw (t, u)))))
