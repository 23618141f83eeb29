-- A turn of the source, its prepared records: one was so before, or the oldest message was its acknowledge, which says for which handover
-- it is; and no release that stood behind that acknowledge with the same two IDs is of another.
use Prim.Native.Nat.{ℕ}
use mathlib.Core.Path.{◌≡◌, sym, ap, ◌∙◌, subst}
use mathlib.Core.Bool.{true}
use mathlib.Core.List.{List, []}
use mathlib.Core.Logic.{⊎_elim}
use Rattle.std.specs.Prelude.{Option, Some}
use native.Mathlib.Omega.{arith}
use Rattle.records.specs.declared.Record.{Record}
use Rattle.table.specs.declared.Answer.{Answer}
use Rattle.promises.specs.Views.{Prepared, some_out, to}
use Rattle.pair.specs.World.{Side, next_issue, Envelope, Fixed, record_of}
use Rattle.pair.proofs.Lists.{all_both}
use Rattle.pair.proofs.Directions.{Direction, SourceStep}
use Rattle.pair.proofs.Invariant.{kind_of, old_of, new_of, set_of, outgoing, Replied, PreparedFixed, ReleasePrepared, HeldPrepared, Live, Invariant}
use Rattle.pair.proofs.Taking.{first_of, left, left_behind}
use Rattle.pair.proofs.SourceFacts.{record_is, after, Readied, prepared_from, live_from, in_table, start_latest, asked_stays, asked_now, stays, record_stays, own_record, no_record}

module _ {s : Side} {d : Direction} {e : Record} {a : Answer} {taken : Option Envelope} {rest : List Envelope} {stamp : Side → ℕ} {fixed : ℕ → ℕ}
    (x : SourceStep s d e a taken rest stamp fixed) (inv : Invariant s d) where
  -- A record that is made ready is that of the handover of the acknowledge.
  acknowledged : {i n set : ℕ} → (r : Readied x i n set) → Replied s d r.took.first (Fixed (new_of r.took.first) (set_of r.took.first))
  acknowledged r = first_of r.took inv.acknowledges r.took.kind

  ready_latest : {i n set : ℕ} → (r : Readied x i n set) → (after x).numbers.issue_of i ≡ r.took.first.tag
  ready_latest {i} r = in_table x i (ap some_out r.before) ∙ rw r.old at (acknowledged r).latest

  pub prepared_kept : PreparedFixed s (after x)
  prepared_kept i n set is =
      ⊎_elim
      (λ was. ap (λ h. (d.handovers h).answer) (in_table x i (ap some_out was)) ∙ inv.prepared i n set was)
      (λ r. ap (λ h. (d.handovers h).answer) (ready_latest r) ∙ rw (r.new, r.set) at (acknowledged r).answered)
      (prepared_from x i n set is)

  pub release_prepared_kept : ReleasePrepared s (after x)
  release_prepared_kept =
      all_both each (left x.comes inv.release_prepared) (left_behind x.comes inv.order)
    where
      each : (m : Envelope) → (kind_of m ≡ 5 → (set : ℕ) → outgoing d (old_of m) ≡ Prepared (new_of m) set → m.tag ≡ d.numbers.issue_of (old_of m))
          → ((first : Envelope) → taken ≡ Some first → kind_of first ≡ 2 → kind_of m ≡ 5 → old_of first ≡ old_of m → new_of first ≡ new_of m → first.tag ≡ m.tag)
          → kind_of m ≡ 5 → (set : ℕ) → outgoing (after x) (old_of m) ≡ Prepared (new_of m) set → m.tag ≡ (after x).numbers.issue_of (old_of m)
      each m before behind kind set is =
          ⊎_elim
          (λ was. before kind set was ∙ sym (in_table x (old_of m) (ap some_out was)))
          (λ r. sym (behind r.took.first r.took.is r.took.kind kind r.old r.new) ∙ sym (ready_latest r))
          (prepared_from x (old_of m) (new_of m) set is)

  pub held_prepared_kept : HeldPrepared s (after x)
  held_prepared_kept old n set admitted reservation is =
      ⊎_elim
      (λ was. inv.held_prepared old n set admitted reservation was ∙ sym (in_table x old (ap some_out was)))
      (λ r.
      let same = first_of r.took inv.held_acknowledge r.took.kind set (rw (r.old, r.new) reservation) in
      sym (rw r.new at same) ∙ sym (ready_latest r))
      (prepared_from x old n admitted is)

  -- A record that is there was so before, and stays; or it is that of the start.
  abbrev LiveAs : ℕ → Type 0
  LiveAs h = (((after x).handovers h).asked ≡ true) × (((after x).handovers h).endings ≡ [])

  pub live_kept : Live s (after x)
  live_kept i is =
      ⊎_elim
      (λ was. subst LiveAs (sym (in_table x i was)) (stayed was))
      (λ start. subst LiveAs (sym (ap (after x).numbers.issue_of start.1 ∙ start_latest x start.0)) (started start.0))
      (live_from x i is)
    where
      stayed : some_out (outgoing d i) ≡ true → LiveAs (d.numbers.issue_of i)
      stayed was =
          let numbered = (own_record x inv i was).1 in
          let there : some_out (record_of d.numbers (outgoing (after x)) (d.numbers.issue_of i)) ≡ true =
          ap some_out (record_is d.numbers (outgoing (after x)) (d.numbers.issue_of i) (ap d.numbers.issue_of numbered) ∙ ap (outgoing (after x)) numbered) ∙ is in (
            asked_stays x (d.numbers.issue_of i) (inv.live i was).0,
            stays x (d.numbers.issue_of i) (record_stays x (d.numbers.issue_of i) there) ∙ (inv.live i was).1,
          )

      started : to 1 d.towards a ≡ true → LiveAs (next_issue d.numbers)
      started asks = (
        asked_now x asks,
        stays x (next_issue d.numbers) (rw (no_record x inv (next_issue d.numbers) (omega arith)))
            ∙ ap (λ k. k.endings) (inv.new (next_issue d.numbers) (omega arith)),
      )
