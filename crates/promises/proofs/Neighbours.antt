-- What a neighbour's message changes, and what its answer depends on.
use Rattle.std.specs.Prelude.{Option, Some, None}
use Prim.Native.Nat.{ℕ, ◌+◌, ◌≤◌}
use mathlib.Core.Path.{◌≡◌, refl, ◌∙◌, sym, ap}
use mathlib.Core.Bool.{true, false, not, ◌&&◌, true≢false}
use mathlib.Core.Logic.{◌⊎◌, ⊎_elim}
use mathlib.Core.List.{List}
use borrow.Author.Tests.{eqb-true, eqb-false, eq-eqb, le-leb, leb-true, leb-false}
use native.Mathlib.Omega.{arith}
use lib.Dec.{leb, eqb}
use lib.ListN.{get_or}
use lib.Seq.{get_or-set_other}
use Rattle.laws.proofs.Tests.{by_cases, both_true, between, refuted}
use Rattle.records.specs.declared.Record.{Record}
use Rattle.handover.specs.declared.Action.{Action}
use Rattle.handover.specs.declared.Action.TheVariants.{Prepared}
use Rattle.handover.specs.declared.Entry.{Entry}
use Rattle.table.specs.declared.Station.{Station}
use Rattle.handover.specs.Events.{about, action_of, same_action, resets, does, decide}
use Rattle.fields.proofs.Sorts.{every_of_sort}
use Rattle.fields.specs.declared.Sort.TheVariants.{AllOfNeighbour}
use Rattle.fields.specs.Fields.{sort_of, well_formed}
use Rattle.handover.specs.Numbers.{is_free, blank}
use Rattle.table.specs.Step.{about_one, step_of}
use Rattle.table.specs.Table.{find, left_of, reset}
use Rattle.handover.proofs.Deciding.{stands}
use Rattle.table.proofs.Finding.{found_here, set_each}
use Rattle.table.proofs.Fits.{decided_keeps}
use Rattle.handover.proofs.Keys.{is_of}
use Rattle.handover.proofs.Resets.{reset_ends}
use Rattle.table.proofs.Resetting.{reset_at}
use Rattle.promises.proofs.Rows.{step_reset, response_step}
use Rattle.handover.proofs.Senders.{concerns_neighbour, about_of}
use Rattle.promises.proofs.Strangers.{answers_concern, step_about}

-- A message of a kind up to 8 is malformed, or of a kind up to 6, or a reset, or the response to one.
pub by_message : {G : Type 0} (e : Record) → e.kind ≤ 8 → (well_formed e ≡ false → G) → (well_formed e ≡ true → e.kind ≤ 6 → G)
    → (well_formed e ≡ true → e.kind ≡ 7 → G) → (well_formed e ≡ true → e.kind ≡ 8 → G) → G
by_message e high malformed message reset response =
    by_cases (well_formed e)
    (λ formed. by_cases (leb e.kind 6) (λ t. message formed (leb-true e.kind 6 t))
    (λ t. by_cases (eqb e.kind 7) (λ u. reset formed (eqb-true e.kind 7 u))
    (λ u. response formed (omega (arith, leb-false e.kind 6 t, eqb-false e.kind 7 u)))))
    malformed

-- ---- what it changes

-- one station is as another but for the records of a neighbour, which stay its own or end, and the units in use
pub record OthersKept (n : ℕ) (s after : Station) : Type 0 where
  pub others : (i : ℕ) → is_of n (get_or s.entries i blank) ≡ false → get_or after.entries i blank ≡ get_or s.entries i blank
  pub its : (i : ℕ) → is_of n (get_or s.entries i blank) ≡ true → is_free (get_or after.entries i blank) ≡ false → is_of n (get_or after.entries i blank) ≡ true
  pub clock : after.clock ≡ s.clock
  pub last : after.last ≡ s.last
  pub settings : after.settings ≡ s.settings

-- Where nothing changes, all is kept.
kept : (n : ℕ) (s : Station) → OthersKept n s s
kept n s = record { others = λ _ _. refl; its = λ _ of _. of; clock = refl; last = refl; settings = refl }

-- An event that concerns a neighbour is not about a record that is not that neighbour's.
not_about : (e : Record) (r : Entry) → concerns_neighbour e.kind ≡ true → is_of e.neighbour r ≡ false → about e r ≡ false
not_about e r concerns other =
    refuted (about e r) (λ t. true≢false (sym (about_of e r concerns t) ∙ other))

module _ (s : Station) (e : Record) (concerns : concerns_neighbour e.kind ≡ true) where
  about_keeps : (found : Option ℕ) → find (about e) s ≡ found → OthersKept e.neighbour s (about_one e found s).station
  about_keeps None _ = kept e.neighbour s
  about_keeps (Some k) found =
      let here = found_here (about e) s k found in
      let x = get_or s.entries k blank in
      let r = (decide e x (s.clock + s.settings.overall)).entry in
      let its_own = (both_true (not (is_free x)) (eqb x.neighbour e.neighbour) (about_of e x concerns here.1)).1 in
      record {
        others = λ i other. get_or-set_other s.entries k i r blank (λ same. true≢false (sym here.1 ∙ not_about e x concerns (rw same at other)));
        its = set_each (λ i y. is_of e.neighbour (get_or s.entries i blank) ≡ true → is_free y ≡ false → is_of e.neighbour y ≡ true) s.entries k r here.0
            (λ _ left. rw left (rw (← (decided_keeps e x (s.clock + s.settings.overall) left).0) at its_own))
            (λ i _ of _. of);
        clock = refl;
        last = refl;
        settings = refl;
      }

  reset_keeps : OthersKept e.neighbour s (reset e s)
  reset_keeps =
      record {
        others = λ i other. reset_at e s i ∙ rw (not_about e (get_or s.entries i blank) concerns other);
        its = λ i of. rw (reset_at e s i) (by_cases (resets e (get_or s.entries i blank)) (λ t. rw t (λ used. absurd (true≢false used))) (λ t. rw t (λ _. of)));
        clock = refl;
        last = refl;
        settings = refl;
      }

module _ (s : Station) (e : Record) (bearers : List ℕ) (room : ℕ) (formed : well_formed e ≡ true) where
  -- An acknowledge, failure, status, release or cancel changes one place at the most.
  pub message_changes_one : 2 ≤ e.kind → e.kind ≤ 6 → (k : ℕ) × ((i : ℕ) → (i ≡ k → ⊥) → get_or (step_of s e bearers room).station.entries i blank ≡ get_or s.entries i blank)
  message_changes_one low high = rw (step_about s e bearers room formed low high) (at_one (find (about e) s))
    where
      at_one : (found : Option ℕ) → (k : ℕ) × ((i : ℕ) → (i ≡ k → ⊥) → get_or (about_one e found s).station.entries i blank ≡ get_or s.entries i blank)
      at_one None = (0, λ _ _. refl)
      at_one (Some k) = (k, λ i other. get_or-set_other s.entries k i (decide e (get_or s.entries k blank) (s.clock + s.settings.overall)).entry blank other)

  -- A reset, and the loss of a neighbour, leave every place but that neighbour's records as it was, and the clock, the last own ID and
  -- the settings.
  pub reset_keeps_others : sort_of e.kind ≡ AllOfNeighbour → OthersKept e.neighbour s (step_of s e bearers room).station
  reset_keeps_others t =
      rw (step_reset s e bearers room formed t) (reset_keeps s e (every_of_sort AllOfNeighbour concerns_neighbour refl refl e.kind t))

  -- 7 and 14: all outgoing and held records of that neighbour end, and every other place is as it was.
  module _ (reset : (e.kind ≡ 7) ⊎ (e.kind ≡ 14)) (j : ℕ) where
    sort : sort_of e.kind ≡ AllOfNeighbour
    sort = ⊎_elim (λ seven. ap sort_of seven) (λ fourteen. ap sort_of fourteen) reset

    left : get_or (step_of s e bearers room).station.entries j blank ≡ left_of e (get_or s.entries j blank)
    left = rw (step_reset s e bearers room formed sort) (reset_at e s j)

    pub reset_ends_each : 1 ≤ (get_or s.entries j blank).state → (get_or s.entries j blank).state ≤ 3 → (get_or s.entries j blank).neighbour ≡ e.neighbour
        → get_or (step_of s e bearers room).station.entries j blank ≡ blank
    reset_ends_each low high same =
        let r = get_or s.entries j blank in
        left ∙ rw (reset_ends e r sort, le-leb 1 r.state low, le-leb r.state 3 high, eq-eqb r.neighbour e.neighbour same)

    pub reset_leaves_each : (1 ≤ (get_or s.entries j blank).state → (get_or s.entries j blank).state ≤ 3 → (get_or s.entries j blank).neighbour ≡ e.neighbour → ⊥)
        → get_or (step_of s e bearers room).station.entries j blank ≡ get_or s.entries j blank
    reset_leaves_each other =
        let r = get_or s.entries j blank in
        left ∙ rw (reset_ends e r sort, refuted (leb 1 r.state && leb r.state 3 && eqb r.neighbour e.neighbour) spared)
      where
        spared : (leb 1 (get_or s.entries j blank).state && leb (get_or s.entries j blank).state 3 && eqb (get_or s.entries j blank).neighbour e.neighbour) ≡ true → ⊥
        spared t =
            let r = get_or s.entries j blank in
            let both = both_true (leb 1 r.state && leb r.state 3) (eqb r.neighbour e.neighbour) t in
            let timed = between 1 3 r.state both.0 in
            other timed.0 timed.1 (eqb-true r.neighbour e.neighbour both.1)

-- A message of kinds 2 to 8, well formed or not, leaves every place but its sender's records as it was, and the clock, the last own ID
-- and the settings.
pub message_keeps_others : (s : Station) (e : Record) (bearers : List ℕ) (room : ℕ) → 2 ≤ e.kind → e.kind ≤ 8 → OthersKept e.neighbour s (step_of s e bearers room).station
message_keeps_others s e bearers room low high =
    by_message e high
    (λ malformed. rw malformed (kept e.neighbour s))
    (λ formed most. rw (step_about s e bearers room formed low most) (about_keeps s e (answers_concern e.kind low most) (find (about e) s) refl))
    (λ formed seven. reset_keeps_others s e bearers room formed (ap sort_of seven))
    (λ formed eight. rw (response_step s e bearers room formed eight) (kept e.neighbour s))

-- ---- what it depends on

-- The deadline that an acknowledge would set matters to an acknowledge alone.
does_deadline : (action : Action) (e : Record) (r : Entry) (c d : ℕ) → same_action action Prepared ≡ false → does action e r c ≡ does action e r d
does_deadline Prepared e r c d never = absurd (true≢false never)
does_deadline action e r c d other = refl

pub decide_deadline : (e : Record) (r : Entry) (c d : ℕ) → (e.kind ≡ 2 → c ≡ d) → decide e r c ≡ decide e r d
decide_deadline e r c d same =
    by_cases (eqb e.kind 2)
    (λ t. ap (decide e r) (same (eqb-true e.kind 2 t)))
    (λ t.
    let action = action_of e.kind r.state in
    does_deadline action e r c d (refuted (same_action action Prepared) (λ u. eqb-false e.kind 2 t (stands Prepared 2 1 e.kind r.state refl refl u).0)))
