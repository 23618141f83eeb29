-- "request whose neighbour and Old ID a held record has": when a request gets reply 3.
use Prim.Native.Nat.{ℕ, ◌<◌}
use mathlib.Core.Path.{◌≡◌, refl, sym, ◌∙◌}
use mathlib.Core.Bool.{true, ◌&&◌, true≢false}
use mathlib.Core.List.{List}
use borrow.Author.Tests.{eqb-true, eqb-false, eq-eqb}
use native.Mathlib.Omega.{arith}
use lib.Dec.{eqb}
use lib.ListN.{get_or}
use Rattle.laws.proofs.Tests.{by_cases, both_true}
use Rattle.records.specs.declared.Record.{Record}
use Rattle.table.specs.declared.Answer.{Answer}
use Rattle.handover.specs.declared.Entry.{Entry}
use Rattle.table.specs.declared.Station.{Station}
use Rattle.handover.specs.Events.{about}
use Rattle.fields.specs.Fields.{well_formed}
use Rattle.handover.specs.Numbers.{is_free, blank}
use Rattle.table.specs.Sound.{Sound}
use Rattle.table.specs.Step.{refused, complete, taken, admission, step_of}
use Rattle.table.specs.Table.{find}
use Rattle.handover.proofs.Keys.{request_about}
use Rattle.places.proofs.Finding.{by_found, found_none}
use Rattle.table.proofs.Finding.{found_here}
use Rattle.table.proofs.Placing.{found_place}
use Rattle.table.proofs.Requests.{lacking}
use Rattle.table.proofs.Tally.{none_at}
use Rattle.promises.proofs.Rows.{lacking_step, repeat_step, crowded_step, empty_step, grant_step}

-- a record that is held for an event's neighbour and its Old ID
pub record HeldFor (e : Record) (r : Entry) : Type 0 where
  pub held : r.state ≡ 3
  pub neighbour : r.neighbour ≡ e.neighbour
  pub old : r.old.0 ≡ e.old.0

module _ (s : Station) (sound : Sound s) (e : Record) (bearers : List ℕ) (room : ℕ) (formed : well_formed e ≡ true) (kind : e.kind ≡ 1) where
  -- Where such a record stands, a request that is complete gets 3.
  pub held_repeats : complete e bearers room ≡ true → (j : ℕ) → j < 64 → HeldFor e (get_or s.entries j blank) → step_of s e bearers room ≡ refused 3 s
  held_repeats whole j place h =
      let r = get_or s.entries j blank in
      let mine : about e r ≡ true = request_about e r kind ∙ rw (eq-eqb r.state 3 h.held, eq-eqb r.neighbour e.neighbour h.neighbour, eq-eqb r.old.0 e.old.0 h.old) in
      by_found (find (about e) s)
      (λ none. absurd (true≢false (sym mine ∙ none_at (about e) s.entries j (omega (arith, sound.places)) (found_none (about e) s.entries none))))
      (λ i found. repeat_step s e bearers room formed kind whole i found)

  -- Where a request gets 3, such a record stands.
  pub repeats_held : (step_of s e bearers room).outcome.reply ≡ 3 → (j : ℕ) × (j < 64) × HeldFor e (get_or s.entries j blank)
  repeats_held three =
      by_cases (complete e bearers room)
      (λ whole. by_found (find (about e) s)
      (λ new. by_found (find is_free s)
      (λ full. absurd (other (crowded_step s e bearers room formed kind whole new full) (eqb-false 4 3 refl)))
      (λ i free. by_cases (eqb (admission (taken e bearers) s).admitted 0)
      (λ t. absurd (other (empty_step s e bearers room formed kind whole i new free t) (eqb-false 5 3 refl)))
      (λ t. absurd (other (grant_step s e bearers room formed kind whole i new free t) (eqb-false 0 3 refl)))))
      (λ j found.
      let r = get_or s.entries j blank in
      let all : (eqb r.state 3 && eqb r.neighbour e.neighbour && eqb r.old.0 e.old.0) ≡ true = sym (request_about e r kind) ∙ (found_here (about e) s j found).1 in
      let both = both_true (eqb r.state 3 && eqb r.neighbour e.neighbour) (eqb r.old.0 e.old.0) all in
      let two = both_true (eqb r.state 3) (eqb r.neighbour e.neighbour) both.0 in
      (j, found_place s sound (about e) j found, record { held = eqb-true r.state 3 two.0; neighbour = eqb-true r.neighbour e.neighbour two.1; old = eqb-true r.old.0 e.old.0 both.1 })))
      (λ less.
      let l = lacking e bearers room less in
      absurd (other (lacking_step s e bearers room formed kind l) (λ is. omega (arith, is, l.low))))
    where
      other : {a : Answer} → step_of s e bearers room ≡ a → (a.outcome.reply ≡ 3 → ⊥) → ⊥
      other is not_three = not_three (rw is at three)
