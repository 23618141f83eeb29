-- What is malformed, and nothing else, gets a reply of 10 to 15; it changes nothing and writes no verdict.
use Prim.Native.Nat.{ℕ, ◌*◌, ◌/◌, ◌%◌, ◌≤◌}
use mathlib.Core.Path.{◌≡◌, refl, sym, ap, ◌∙◌}
use mathlib.Core.Bool.{true, not, and-true, and-false}
use mathlib.Core.List.{List, [], ◌∷◌}
use mathlib.Core.Logic.{⊎_elim}
use borrow.Author.Tests.{eq-eqb, eqb-true, le-leb, leb-true, not-true}
use native.Mathlib.Omega.{arith}
use lib.Dec.{leb, eqb}
use lib.ListN.{length}
use lib.Seq.{length-take-le}
use Rattle.laws.proofs.Tests.{by_cases, both_true}
use Rattle.records.specs.declared.Record.{Record}
use Rattle.fields.specs.declared.Sort.TheVariants.{Request}
use Rattle.fields.specs.Fields.{same_sort, sort_of_event, well_formed}
use Rattle.fields.proofs.Agreeing.{bearer_formed_lem}
use Rattle.fields.proofs.Forms.{request_counted, number_within}
use Rattle.bearers.specs.Bearer.{records_in, all_bearers}
use Rattle.answers.proofs.Flaws.{flaw_in_listed}
use Rattle.table.specs.declared.Answer.{Answer}
use Rattle.table.specs.declared.Station.{Station}
use Rattle.table.specs.Step.{complete, taken, step_of, verdicts_of}
use Rattle.table.proofs.Requests.{lacking}
use Rattle.promises.specs.Malformed.{all_formed, is_served, is_malformed}
use Rattle.promises.proofs.Replies.{malformed_only}
use Rattle.promises.proofs.Rows.{malformed_step, lacking_step}

-- A record is a bearer's by its limits as by document 01.
same_bearers : (rs : List Record) → all_bearers rs ≡ all_formed rs
unfolding all_bearers all_formed
same_bearers [] = refl
same_bearers (r ∷ rs) = rw (bearer_formed_lem r, same_bearers rs)

-- A well-formed request is complete exactly where its bearers and the room are there by document 01.
served : (e : Record) (bearers : List ℕ) (room : ℕ) → well_formed e ≡ true → e.kind ≡ 1 → complete e bearers room ≡ is_served e bearers room
served e bearers room formed one =
    by_cases (leb (e.number * 32) (length bearers))
    (λ enough.
    let low = request_counted e formed one in
    let high = number_within e formed in
    let size : length (taken e bearers) ≡ e.number * 32 = length-take-le (e.number * 32) bearers (leb-true (e.number * 32) (length bearers) enough) in
    let count : e.number * 32 / 32 ≡ e.number = omega arith in
    let whole : e.number * 32 % 32 ≡ 0 = omega arith in
    rw (enough, size, count, whole, le-leb 1 e.number low, le-leb e.number 256 high, ← same_bearers (records_in e.number (taken e bearers)))
    (by_cases (all_bearers (records_in e.number (taken e bearers))) (λ t. rw (t, and-true)) (λ t. rw (t, and-false))))
    (λ few. rw few)

module _ (s : Station) (e : Record) (bearers : List ℕ) (room : ℕ) where
  told : (n : ℕ) → (step_of s e bearers room).outcome.reply ≡ n → (10 ≤ n) × (n ≤ 15) → (10 ≤ (step_of s e bearers room).outcome.reply) × ((step_of s e bearers room).outcome.reply ≤ 15)
  told n is listed = rw is listed

  -- What document 01 calls malformed gets one of the replies 10 to 15.
  pub malformed_told : is_malformed e bearers room ≡ true → (10 ≤ (step_of s e bearers room).outcome.reply) × ((step_of s e bearers room).outcome.reply ≤ 15)
  malformed_told bad =
      by_cases (well_formed e)
      (λ formed.
      let both = both_true (eqb e.kind 1) (not (is_served e bearers room)) (rw formed at bad) in
      let one = eqb-true e.kind 1 both.0 in
      let l = lacking e bearers room (served e bearers room formed one ∙ not-true (is_served e bearers room) both.1) in
      told _ (ap (λ (a : Answer). a.outcome.reply) (lacking_step s e bearers room formed one l)) (omega (arith, l.low), l.high))
      (λ malformed.
      let listed = flaw_in_listed e in
      told _ (ap (λ (a : Answer). a.outcome.reply) (malformed_step s e bearers room malformed)) (listed.0, omega (arith, listed.1)))

  -- And no other event does.
  pub told_malformed : 10 ≤ (step_of s e bearers room).outcome.reply → is_malformed e bearers room ≡ true
  told_malformed ten =
      ⊎_elim
      (λ malformed. rw malformed)
      (λ request.
      let less = sym (served e bearers room request.0 request.1) ∙ request.2 in
      rw (request.0, eq-eqb e.kind 1 request.1, less))
      (malformed_only s e bearers room ten)

-- It writes no verdict.
pub malformed_unwritten : (s : Station) (e : Record) (bearers buffer : List ℕ) → is_malformed e bearers (length buffer) ≡ true → verdicts_of s e bearers buffer ≡ buffer
malformed_unwritten s e bearers buffer bad =
    by_cases (well_formed e)
    (λ formed.
    let both = both_true (eqb e.kind 1) (not (is_served e bearers (length buffer))) (rw formed at bad) in
    let less = served e bearers (length buffer) formed (eqb-true e.kind 1 both.0) ∙ not-true (is_served e bearers (length buffer)) both.1 in
    by_cases (same_sort (sort_of_event e) Request) (λ t. rw (t, less)) (λ t. rw t))
    (λ malformed. rw malformed)
