-- Who meets the contract of a step is the step, so no impostor meets it.
use Prim.Native.Nat.{ℕ, zero, suc}
use mathlib.Core.Path.{◌≡◌, refl, sym, ap, subst, ◌∙◌}
use mathlib.Core.Bool.{Bool, true, ◌&&◌}
use mathlib.Core.List.{List, [], ◌∷◌}
use borrow.Author.Tests.{leb-true, eqb-false}
use native.Mathlib.Omega.{arith}
use lib.Count.{ones, ones_in}
use lib.Dec.{leb}
use lib.ListN.{length}
use Rattle.laws.specs.Sums.{total}
use Rattle.laws.proofs.Tests.{both_true}
use Rattle.records.specs.declared.Record.{Record}
use Rattle.records.specs.Record.{little, record_of, AreBytes}
use Rattle.bearers.specs.Flaws.{all_of_kind, flaw_from}
use Rattle.bearers.specs.Bearer.{records_in, all_bearers}
use Rattle.bearers.specs.Admission.{those, turns_from, free_at, verdict}
use Rattle.sets.specs.Sets as sets
use Rattle.table.specs.declared.Answer.{Answer}
use Rattle.table.specs.declared.Station.{Station}
use Rattle.promises.specs.Cases.{Event, freshly, issued_last, bytes_in, bearer, request, start}
use Rattle.promises.specs.Impostors.{Stepper, Handed, Meets, RefusesAll, Asked, RepliesAlike, Echoes, IsFresh, EchoesLater, CountsAlike, Miscounts, Impostor, refusing, alike, echoing, echoing_later, counting_alike, miscounting}
use Rattle.handover.specs.Numbers.{issue_from}
use Rattle.table.specs.Reached.{Reached}
use Rattle.table.specs.Step.{complete, step_of, verdicts_of}
use Rattle.promises.proofs.Cases.{issued, fresh_reached, start_small, request_small}
use Rattle.table.proofs.Parts.{Part, as_refusal, as_response, as_failure, as_grant, as_start, as_reset, as_idle, as_tick, as_event, part}

-- The step meets the contract.
pub step_meets : Meets (λ s e bearers verdicts. (step_of s e bearers (length verdicts), verdicts_of s e bearers verdicts))
step_meets s e bearers verdicts handed = refl

-- Two that meet it are the same, whatever is handed in.
pub meets_once : (f g : Stepper) → Meets f → Meets g → (s : Station) (e : Record) (bearers verdicts : List ℕ) → Handed s e bearers verdicts → f s e bearers verdicts ≡ g s e bearers verdicts
meets_once f g p q s e bearers verdicts handed = p s e bearers verdicts handed ∙ sym (q s e bearers verdicts handed)

-- ---- what is handed in

-- A list of bytes, by a test.
abbrev are_bytes : List ℕ → Bool
are_bytes [] = true
are_bytes (b ∷ bs) = leb b 255 && are_bytes bs

bytes_by : (bs : List ℕ) → are_bytes bs ≡ true → AreBytes bs
bytes_by [] t i = omega arith
bytes_by (b ∷ bs) t zero = omega (arith, leb-true b 255 (both_true (leb b 255) (are_bytes bs) t).0)
bytes_by (b ∷ bs) t (suc i) = bytes_by bs (both_true (leb b 255) (are_bytes bs) t).1 i

-- A start at a station that a fresh one reached.
starting : (s : Station) → Reached s → Handed s start.event [] []
starting s reached = record { reached = reached; in_range_lem = start_small; bytes = bytes_by [] refl; room = bytes_by [] refl }

-- a request with two bearers of so many units, at a fresh station with room for their verdicts
abbrev pair : ℕ → ℕ → Event
pair a b = request (bearer 1 9 1 a ∷ bearer 2 9 1 b ∷ [])

abbrev two : List ℕ
two = 9 ∷ 9 ∷ []

asking : (bytes : List ℕ) → are_bytes bytes ≡ true → complete (pair 0 0).event bytes 2 ≡ true → Asked freshly (pair 0 0).event bytes two
asking bytes are whole =
    record {
      handed = record { reached = fresh_reached; in_range_lem = request_small (pair 0 0).bearers (omega arith); bytes = bytes_by bytes are; room = bytes_by two refl };
      kind = refl;
      formed = refl;
      whole = whole;
    }

-- ---- the count

-- The count of a request's answer is the number of ones in the first set of its message: where none is sent or it is a failure, 0.
abbrev Counted : Answer → Type 0
Counted a = a.outcome.count ≡ ones a.outcome.message.first

none_counted : 0 ≡ ones 0
unfolding ones
none_counted = refl

module _ (s : Station) (e : Record) (bearers : List ℕ) (room : ℕ) (one : e.kind ≡ 1) where
  part_counted : {a : Answer} → Part s e bearers room a → Counted a
  part_counted (as_refusal f _) = none_counted
  part_counted (as_response _) = none_counted
  part_counted (as_failure n _ _ _) = none_counted
  part_counted (as_grant i _ _ _ _ _) = refl
  part_counted (as_start i _ nine _) = absurd (omega arith)
  part_counted (as_reset _) = none_counted
  part_counted (as_idle _ _) = none_counted
  part_counted (as_tick i _ fifteen _) = absurd (omega arith)
  part_counted (as_event i _ single _) = absurd (cc (rw one at single))

  pub request_counted : Counted (step_of s e bearers room)
  request_counted = part_counted (part s e bearers room)

-- ---- the impostors

module _ (f : Stepper) (meets : Meets f) where
  -- It answers as the step does: a start at a fresh station, and at one that issued 0; and a request.
  answers : (s : Station) (e : Record) (bearers verdicts : List ℕ) → Handed s e bearers verdicts → (f s e bearers verdicts).0 ≡ step_of s e bearers (length verdicts)
  answers s e bearers verdicts handed = ap (λ (r : Answer × List ℕ). r.0) (meets s e bearers verdicts handed)

  at_birth : (f freshly start.event [] []).0 ≡ step_of freshly start.event [] 0
  at_birth = answers freshly start.event [] [] (starting freshly fresh_reached)

  later : (f (issued_last 0) start.event [] []).0 ≡ step_of (issued_last 0) start.event [] 0
  later = answers (issued_last 0) start.event [] [] (starting (issued_last 0) (issued 0 (omega arith)))

  asked : {bytes : List ℕ} → Asked freshly (pair 0 0).event bytes two → (f freshly (pair 0 0).event bytes two).0 ≡ step_of freshly (pair 0 0).event bytes 2
  asked {bytes} a = answers freshly (pair 0 0).event bytes two a.handed

  -- A start at a fresh station is done.
  pub not_refusing : RefusesAll f → ⊥
  not_refusing refuses = refuses freshly start.event [] [] (starting freshly fresh_reached) (ap (λ (a : Answer). a.outcome.reply) at_birth)

  -- Bearers of 100 units and of 101 are not answered alike.
  pub not_alike : RepliesAlike f → ⊥
  unfolding bytes_in issue_from little record_of records_in all_bearers all_of_kind flaw_from total those turns_from free_at verdict sets.add sets.set_of
  not_alike same =
      let few = asking (bytes_in (pair 100 0).bearers) refl refl in
      let many = asking (bytes_in (pair 101 101).bearers) refl refl in
      eqb-false 0 5 refl (sym (ap (λ (a : Answer). a.outcome.reply) (asked few)) ∙ same freshly (pair 0 0).event _ _ two few many ∙ ap (λ (a : Answer). a.outcome.reply) (asked many))

  -- A start makes another station of one: it issues an own ID.
  pub not_echoing : Echoes f → ⊥
  unfolding issue_from
  not_echoing echoes =
      eqb-false 0 4095 refl (sym (ap (λ (a : Answer). a.station.last) at_birth) ∙ ap (λ (s : Station). s.last) (echoes freshly start.event [] [] (starting freshly fresh_reached)))

  -- So does the next: a station that issued 0 is not fresh.
  not_fresh : IsFresh (issued_last 0) → ⊥
  not_fresh (settings, same) = eqb-false 0 4095 refl (ap (λ (s : Station). s.last) same)

  pub not_echoing_later : EchoesLater f → ⊥
  unfolding issue_from
  not_echoing_later echoes =
      eqb-false 1 0 refl (sym (ap (λ (a : Answer). a.station.last) later) ∙ ap (λ (s : Station). s.last) (echoes (issued_last 0) start.event [] [] (starting (issued_last 0) (issued 0 (omega arith))) not_fresh))

  -- Of two bearers both are admitted, or one.
  pub not_counting_alike : CountsAlike f → ⊥
  unfolding ones ones_in bytes_in issue_from little record_of records_in all_bearers all_of_kind flaw_from total those turns_from free_at verdict sets.add sets.set_of
  not_counting_alike same =
      let both = asking (bytes_in (pair 60 40).bearers) refl refl in
      let one = asking (bytes_in (pair 60 41).bearers) refl refl in
      let count : Answer → ℕ = λ a. a.outcome.count in
      let reply : Answer → ℕ = λ a. a.outcome.reply in
      eqb-false 2 1 refl (sym (ap count (asked both)) ∙ same freshly (pair 0 0).event _ _ two both one (ap reply (asked both)) (ap reply (asked one)) ∙ ap count (asked one))

  pub not_miscounting : Miscounts f → ⊥
  not_miscounting m =
      let same = answers m.station m.event m.bearers m.verdicts m.handed in
      m.wrong (subst Counted (sym same) (request_counted m.station m.event m.bearers (length m.verdicts) m.kind))

-- No impostor meets the contract.
pub no_impostor : (f : Stepper) → Meets f → Impostor f → ⊥
no_impostor f meets (refusing h) = not_refusing f meets h
no_impostor f meets (alike h) = not_alike f meets h
no_impostor f meets (echoing h) = not_echoing f meets h
no_impostor f meets (echoing_later h) = not_echoing_later f meets h
no_impostor f meets (counting_alike h) = not_counting_alike f meets h
no_impostor f meets (miscounting h) = not_miscounting f meets h
