-- "The earliest byte decides": nothing behind it matters, and nothing before it was wrong.
use Rattle.std.proofs.Common.{◌≡◌, ℕ, ◌+◌, ◌<◌, ◌≤◌, min, Bool, true, false, cond, not, ◌&&◌, ◌||◌, Err, List, length, take, get_or, leb, eqb, refl, sym, ap, ◌∙◌, arith}
use Rattle.std.proofs.Math.ListN.{length-take}
use lib.Seq.{get_or-take}
use borrow.Author.Tests.{eqb-true}
use Rattle.laws.proofs.Tests.{by_cases}
use Rattle.wire.specs.Parts.{a_choice, id_end}
use Rattle.wire.specs.Rules.{allows, reply_by, refusal_by}
use Rattle.wire.specs.declared.Refusal.{Refusal}
use Rattle.wire.specs.declared.rules.Rule.{Rule}
use Rattle.reading.specs.Reading.{layout_of, rule_in, passed, judged_of, read_of}
use Rattle.reading.proofs.Order.{passed_each, passed_last, every_rule, refused_where}
use Rattle.reading.proofs.Same.{same_rule}
use Rattle.reading.proofs.Walk.{passed_stop, judged_octet}

-- ---- the same octets up to a place

-- two messages that begin the same have the same octets there
pub same_octet : (w : ℕ) (m n : List ℕ) → take w n ≡ take w m → (j : ℕ) → j < w → get_or m j 0 ≡ get_or n j 0
same_octet w m n e j h = sym (get_or-take w m j 0 h) ∙ ap (λ (l : List ℕ). get_or l j 0) (sym e) ∙ get_or-take w n j 0 h

module _ (m n : List ℕ) where
  -- and are judged the same there
  allowed_same : (k : ℕ) → ((j : ℕ) → j ≤ k → get_or m j 0 ≡ get_or n j 0) → allows (rule_in (layout_of n) k) (get_or n k 0) ≡ allows (rule_in (layout_of m) k) (get_or m k 0)
  allowed_same k agree =
      ap (λ (r : Rule). allows r (get_or n k 0)) (sym (same_rule m n k agree))
      ∙ ap (λ (o : ℕ). allows (rule_in (layout_of m) k) o) (sym (agree k (omega arith)))

  pub each_same : (w : ℕ) → ((j : ℕ) → j < w → get_or m j 0 ≡ get_or n j 0) → ((k : ℕ) → k < w → allows (rule_in (layout_of m) k) (get_or m k 0) ≡ true)
      → (k : ℕ) → k < w → allows (rule_in (layout_of n) k) (get_or n k 0) ≡ true
  each_same w agree each k h = allowed_same k (λ j below. agree j (omega arith)) ∙ each k h

  -- Where the first octet that may not stand there is the same, and those before it, so is the refusal.
  pub refused_same : passed (layout_of m) 0 m < length m → passed (layout_of m) 0 m < length n
      → ((j : ℕ) → j ≤ passed (layout_of m) 0 m → get_or m j 0 ≡ get_or n j 0) → judged_of n ≡ judged_of m
  unfolding judged_of
  refused_same inside within agree =
      let p = passed (layout_of m) 0 m in
      let all = each_same p (λ j below. agree j (omega arith)) (λ k below. passed_each (layout_of m) m k below) in
      let stop = allowed_same p agree ∙ passed_last (layout_of m) m inside in
      let far = passed_stop (layout_of n) n p (omega arith) all (λ _. stop) in
      sym (judged_octet (layout_of n) n p (sym far) within)
      ∙ ap (λ (r : Rule). Err (refusal_by r (get_or n p 0) p)) (sym (same_rule m n p agree))
      ∙ ap (λ (o : ℕ). Err (refusal_by (rule_in (layout_of m) p) o p)) (sym (agree p (omega arith)))
      ∙ judged_octet (layout_of m) m p refl inside

-- ---- how far is looked

-- how many octets a refusal looks at: 19 is said at the first octet of an id
abbrev pub seen : Refusal → ℕ
seen r = r.at + cond (eqb r.reply 19) 2 1

-- the second octet of an id refuses with 19
abbrev of_id : Rule → Bool
of_id r = not (eqb r.form id_end) || eqb r.reply 19

near : (r : Rule) (octet place : ℕ) → of_id r ≡ true → place < seen (refusal_by r octet place)
near r octet place of =
    by_cases (eqb r.form id_end)
    (λ t.
    let plain : (eqb r.form a_choice && leb 32 octet) ≡ false = rw (eqb-true r.form id_end t) in
    rw (plain, eqb-true r.reply 19 (rw t at of), t) (omega arith))
    (λ t. rw t (by_cases (eqb (reply_by r octet) 19) (λ u. rw u (omega arith)) (λ u. rw u (omega arith))))

module _ (m : List ℕ) (e : Refusal) (is : judged_of m ≡ Err e) (there : e.at < length m) where
  -- a refusal at a byte that is there is that of an octet
  at_octet : passed (layout_of m) 0 m < length m
  at_octet = refused_where m e is (λ inside same. inside) (λ all end. absurd (omega arith))

  looked : passed (layout_of m) 0 m < seen e
  looked =
      let p = passed (layout_of m) 0 m in
      refused_where m e is
      (λ inside same. rw (← same) (near (rule_in (layout_of m) p) (get_or m p 0) p (every_rule of_id refl m p)))
      (λ all end. absurd (omega arith))

  -- Nothing behind the deciding byte matters: a message that begins with the octets that a refusal looked at is refused alike.
  pub nothing_behind : (n : List ℕ) → take (seen e) n ≡ take (seen e) m → judged_of n ≡ judged_of m
  nothing_behind n same =
      let sizes : min (seen e) (length n) ≡ min (seen e) (length m) = sym (length-take (seen e) n) ∙ ap length same ∙ length-take (seen e) m in
      let far = looked in
      let inside = at_octet in
      refused_same m n inside (omega arith) (λ j below. same_octet (seen e) m n same j (omega arith))

  -- So what is read of the two is the same.
  pub read_alike : (n : List ℕ) (neighbour : ℕ) → take (seen e) n ≡ take (seen e) m → read_of n neighbour ≡ read_of m neighbour
  read_alike n neighbour same = rw (nothing_behind n same, is)
