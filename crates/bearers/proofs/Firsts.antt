-- What the first bearers of their IDs tell of all bearers of a request.
use Prim.Native.Nat.{ℕ, ◌≤◌, ◌<◌}
use mathlib.Core.Path.{◌≡◌, ◌∙◌, sym, ap}
use mathlib.Core.Bool.{Bool, true, cond}
use mathlib.Core.List.{List}
use borrow.Author.Tests.{leb-false, lt-ltb, ltb-true, ltb-false}
use native.Mathlib.Omega.{arith}
use lib.Dec.{ltb}
use Rattle.laws.proofs.Sums.{total_equal}
use Rattle.laws.specs.Sums.{total}
use Rattle.laws.proofs.Tests.{by_cases, on_either}
use Rattle.bearers.specs.declared.Bearer.{Bearer}
use Rattle.bearers.specs.declared.Survey.{Survey}
use Rattle.bearers.specs.Admission.{those, occurs, ids_of}
use Rattle.bearers.specs.Working.{alone, Surveyed, firsts_of}
use Rattle.bearers.proofs.Admitted.{member_ids}
use Rattle.sets.proofs.Membership.{same_members}
use Rattle.bearers.proofs.Sums.{total_those, once, once_other, occurs_those}

module _ (bs : List Bearer) (s : Survey) (known : Surveyed bs s) where
  -- What counts no bearer whose ID occurs more than once has the same sum over the first bearers as over all.
  first_sum : (f : Bearer → ℕ) → ((b : Bearer) → 1 < occurs b.id bs → f b ≡ 0) → total f (firsts_of s) ≡ total f bs
  first_sum f none = sym (of_only (firsts_of s)) ∙ ap (total f) known.only ∙ of_only bs
    where
      of_only : (xs : List Bearer) → total f (those (alone bs) xs) ≡ total f xs
      of_only xs =
          total_those f (alone bs) xs
          ∙ total_equal (λ b. cond (alone bs b) (f b) 0) f xs
          (λ b. by_cases (alone bs b) (λ t. rw t) (λ t. rw t (sym (none b (leb-false (occurs b.id bs) 1 t)))))

  module _ (test : Bearer → Bool) (passes : (b : Bearer) → b.id < 16 → 1 < occurs b.id bs → test b ≡ true) where
    -- Where an ID occurs more than once, each of its bearers passes the test.
    all_pass : (k : ℕ) → k < 16 → 1 < occurs k bs → (xs : List Bearer) → occurs k (those test xs) ≡ occurs k xs
    all_pass k small more xs = occurs_those k test true xs (λ b id. passes b (omega arith) (rw id more))

    picked : (k : ℕ) → k < 16 → ltb 0 (occurs k (those test (firsts_of s))) ≡ ltb 0 (occurs k (those test bs))
    picked k small =
        by_cases (ltb 1 (occurs k bs))
        (λ t. let more : 1 < occurs k bs = ltb-true 1 (occurs k bs) t in
        rw (all_pass k small more (firsts_of s), all_pass k small more bs, lt-ltb 0 (occurs k (firsts_of s)) (known.met k small (omega arith)), lt-ltb 0 (occurs k bs) (omega arith)))
        (λ t. ap (ltb 0) (total_those (once k) test (firsts_of s) ∙ first_sum (λ b. cond (test b) (once k b) 0) (uncounted (ltb-false 1 (occurs k bs) t)) ∙ sym (total_those (once k) test bs)))
      where
        uncounted : occurs k bs ≤ 1 → (b : Bearer) → 1 < occurs b.id bs → cond (test b) (once k b) 0 ≡ 0
        uncounted few b more =
            rw (once_other k b (λ id. let clash : 1 < occurs k bs = rw id at more in omega arith)) (on_either (test b) 0)

    -- A test that each bearer passes whose ID occurs more than once picks the same IDs from the first bearers as from all.
    pub same_ids : ids_of (those test (firsts_of s)) ≡ ids_of (those test bs)
    same_ids =
        same_members _ _
        (λ k. rw (member_ids k (those test (firsts_of s)), member_ids k (those test bs)) (by_cases (ltb k 16) (λ t. rw (t, picked k (ltb-true k 16 t))) (λ t. rw t)))
