-- What one step does to the records of a table, each at its place: it makes one in a free place, or each stays, changes or ends.
use Rattle.std.specs.Prelude.{Some}
use Prim.Native.Nat.{ℕ, ◌+◌, ◌<◌}
use mathlib.Core.Path.{◌≡◌, refl}
use mathlib.Core.Bool.{Bool, true, false, not, ◌&&◌, ◌||◌}
use mathlib.Core.List.{List}
use borrow.Author.Tests.{eqb-true, eqb-false, not-true}
use native.Mathlib.Omega.{arith}
use lib.Dec.{leb, eqb}
use lib.ListN.{get_or}
use Rattle.laws.proofs.Tests.{by_cases, both_true}
use Rattle.records.specs.declared.Record.{Record}
use Rattle.bearers.specs.declared.Admission.{Admission}
use Rattle.table.specs.declared.Answer.{Answer}
use Rattle.handover.specs.declared.Decision.{Decision}
use Rattle.handover.specs.declared.Action.{Action}
use Rattle.handover.specs.declared.Entry.{Entry}
use Rattle.table.specs.declared.Station.{Station}
use Rattle.handover.specs.Events.{about, resets, action_of, number_of, message, last_word, decide, prepared, stored, serving}
use Rattle.fields.specs.declared.Sort.TheVariants.{AllOfNeighbour}
use Rattle.fields.specs.Fields.{sort_of, well_formed}
use Rattle.handover.specs.Numbers.{is_free, is_outgoing, blank}
use Rattle.table.specs.Sound.{Sound}
use Rattle.bearers.specs.declared.Flaw.{Flaw}
use Rattle.table.specs.Step.{malformed, carried, reset_of, starting, taken, admission, granted, step_of}
use Rattle.table.specs.Table.{find, at}
use Rattle.promises.specs.Views.{sent, ending, is_other_ending}
use Rattle.table.proofs.Changes.{sound_at}
use Rattle.handover.proofs.Deciding.{every_action, leaves, decide_as}
use Rattle.table.proofs.Finding.{found_here, set_each}
use Rattle.fields.proofs.Forms.{time_within}
use Rattle.handover.proofs.Keys.{same_neighbour, same_old, release_new, arrival_new}
use Rattle.table.proofs.Parts.{Part, as_refusal, as_response, as_failure, as_grant, as_start, as_reset, as_idle, as_tick, as_event, part}
use Rattle.table.proofs.Placing.{found_place, due_place}
use Rattle.table.proofs.Resetting.{reset_at}
use Rattle.promises.proofs.Ticks.{soonest_due_lem}

-- ---- what becomes of one record

-- how a record ends with an ending: if it is outgoing, by a failure for it, by a release for it, or by one of the other four
pub data Final (e : Record) (z : ℕ) (x : Entry) : Type 0 where
  incoming : is_outgoing x ≡ false → Final e z x
  by_failure : z ≡ 1 → e.kind ≡ 3 → x.neighbour ≡ e.neighbour → x.old.0 ≡ e.old.0 → Final e z x
  by_release : z ≡ 3 → e.kind ≡ 5 → x.neighbour ≡ e.neighbour → x.old.0 ≡ e.old.0 → x.state ≡ 2 → x.new.0 ≡ e.new.0 → Final e z x
  by_other : is_other_ending z ≡ true → Final e z x

-- what stands at a place after a step, that had a record or none before it
pub data Change (e : Record) (z : ℕ) (x : Entry) : Entry → Type 0 where
  stays : Change e z x x
  stores : Change e z x (stored x e)
  prepares : (deadline : ℕ) → well_formed e ≡ true → e.kind ≡ 2 → x.state ≡ 1 → x.neighbour ≡ e.neighbour → x.old.0 ≡ e.old.0 → Change e z x (prepared x e deadline)
  serves : x.state ≡ 3 → Change e z x (serving x)
  ends : (e.kind ≡ 2 → ⊥) → Final e z x → Change e z x blank

-- ---- what is said

-- no request, acknowledge, failure or release
abbrev pub is_other : ℕ → Bool
is_other k = not (eqb k 1 || eqb k 2 || eqb k 3 || eqb k 5)

-- a failure for a request that is taken, a release of a record that was held when its UE arrived, or none of the four
pub data Says (rs : List Entry) (e : Record) (reply : ℕ) (m : Record) : Type 0 where
  other : is_other m.kind ≡ true → Says rs e reply m
  refuses : (reason : ℕ) → e.kind ≡ 1 → m ≡ message 3 e.neighbour e.old.0 0 0 0 reason → Says rs e reply m
  releases : (j : ℕ) → j < 64 → e.kind ≡ 11 → (get_or rs j blank).state ≡ 3 → (get_or rs j blank).new.0 ≡ e.new.0 → reply ≡ 0
      → m ≡ message 5 (get_or rs j blank).neighbour (get_or rs j blank).old.0 (get_or rs j blank).new.0 0 0 0 → Says rs e reply m

-- ---- the step

-- no record is made, and no own ID issued
pub record Turned (s : Station) (e : Record) (a : Answer) : Type 0 where
  pub last : a.station.last ≡ s.last
  pub change : (j : ℕ) → j < 64 → Change e (ending a) (get_or s.entries j blank) (get_or a.station.entries j blank)
  pub says : Says s.entries e a.outcome.reply (sent a)

-- a start or a request makes one, or none is made
pub data Turn (s : Station) (e : Record) : Answer → Type 0 where
  starts : (k : ℕ) → find is_free s ≡ Some k → well_formed e ≡ true → e.kind ≡ 9 → Turn s e (starting e k s)
  admits : (k : ℕ) → find is_free s ≡ Some k → well_formed e ≡ true → e.kind ≡ 1 → (a : Admission) → Turn s e (granted e a k s)
  turns : {a : Answer} → Turned s e a → Turn s e a

-- ---- a decision

-- By one test of the table of actions: an action that leaves no record is not an acknowledge's, and ends an outgoing record in one of
-- the ways named.
abbrev final : ℕ → ℕ → Action → Bool
final k st action =
    let z = number_of action in
    leaves action || not (eqb k 2) && (not (leb 1 st && leb st 2) || eqb z 1 && eqb k 3 || eqb z 3 && eqb k 5 && eqb st 2 || is_other_ending z)

finals : (k st : ℕ) → final k st (action_of k st) ≡ true
finals k st = every_action final refl k st (λ j. refl)

module _ (e : Record) (r : Entry) (mine : about e r ≡ true) where
  -- So a record ends as the table says.
  ended : (action : Action) → final e.kind r.state action ≡ true → leaves action ≡ false → Change e (number_of action) r blank
  ended action right none =
      let z = number_of action in
      let out = leb 1 r.state && leb r.state 2 in
      let failure = eqb z 1 && eqb e.kind 3 in
      let release = eqb z 3 && eqb e.kind 5 && eqb r.state 2 in
      let both = both_true (not (eqb e.kind 2)) (not out || failure || release || is_other_ending z) (rw none at right) in
      ends (eqb-false e.kind 2 (not-true (eqb e.kind 2) both.0))
      (by_cases out
      (λ o. by_cases failure
      (λ t.
      let at = both_true (eqb z 1) (eqb e.kind 3) t in
      let kind = eqb-true e.kind 3 at.1 in
      by_failure (eqb-true z 1 at.0) kind (same_neighbour e r mine 3 kind refl) (same_old e r mine 3 kind refl))
      (λ t. by_cases release
      (λ u.
      let at = both_true (eqb z 3 && eqb e.kind 5) (eqb r.state 2) u in
      let kind = eqb-true e.kind 5 (both_true (eqb z 3) (eqb e.kind 5) at.0).1 in
      let two = eqb-true r.state 2 at.1 in
      by_release (eqb-true z 3 (both_true (eqb z 3) (eqb e.kind 5) at.0).0) kind (same_neighbour e r mine 5 kind refl) (same_old e r mine 5 kind refl) two
      (release_new e r kind mine two))
      (λ u. by_other (rw (o, t, u) at both.1))))
      (λ o. incoming o))

-- The last word of a record is a cancel, an overtime or nothing.
last_other : (e : Record) (r : Entry) → is_other (last_word e r).kind ≡ true
last_other e r =
    by_cases (eqb e.kind 10) (λ t. rw t)
    (λ t. by_cases (eqb e.kind 15 && eqb r.state 1) (λ u. rw (t, u))
    (λ u. by_cases (eqb e.kind 15 && eqb r.state 2) (λ v. rw (t, u, v))
    (λ v. by_cases (eqb e.kind 12) (λ x. rw (t, u, v, x)) (λ x. rw (t, u, v, x)))))

module _ (s : Station) (e : Record) where
  -- A refusal leaves all records as they were.
  malformed_turned : (f : Flaw) → Turned s e (malformed f s)
  malformed_turned f = record { last = refl; change = λ j h. stays; says = other refl }

  -- A reset ends every record that it is about.
  reset_turned : sort_of e.kind ≡ AllOfNeighbour → Turned s e (reset_of e s)
  reset_turned reset =
      record {
        last = refl;
        change = λ j h.
            rw (reset_at e s j)
            (by_cases (resets e (get_or s.entries j blank))
            (λ t. rw t (ends (λ two. cc (rw two at reset)) (by_other refl)))
            (λ t. rw t stays));
        says = other (by_cases (eqb e.kind 7) (λ t. rw t) (λ t. rw t));
      }

module _ (s : Station) (sound : Sound s) (e : Record) where
  -- A decision about one record changes that one.
  put_turned : (i : ℕ) → i < 64 → (d : Decision) → Change e d.ending (get_or s.entries i blank) d.entry → Says s.entries e d.reply d.message → Turned s e (carried i d s)
  put_turned i place d change says =
      record {
        last = refl;
        change = set_each (λ j x. j < 64 → Change e d.ending (get_or s.entries j blank) x) s.entries i d.entry (omega (arith, sound.places)) (λ _. change) (λ j _ _. stays);
        says = says;
      }

  -- Whatever is decided of a record that the event is about.
  decided_turned : well_formed e ≡ true → (i deadline : ℕ) → i < 64 → about e (get_or s.entries i blank) ≡ true → Turned s e (carried i (decide e (get_or s.entries i blank) deadline) s)
  decided_turned formed i deadline place mine =
      let r = get_or s.entries i blank in
      decide_as (λ d. Turned s e (carried i d s)) e r deadline
      (put_turned i place _ stays (other refl))
      (put_turned i place _ stays (other refl))
      (λ two one _. put_turned i place _ (prepares deadline formed two one (same_neighbour e r mine 2 two refl) (same_old e r mine 2 two refl)) (other refl))
      (λ _ _. put_turned i place _ stores (other refl))
      (λ _ _ _. put_turned i place _ stays (other refl))
      (λ eleven three. put_turned i place _ (serves three) (releases i place eleven three (arrival_new e r eleven mine) refl refl))
      (λ none. put_turned i place _ (ended e r mine (action_of e.kind r.state) (finals e.kind r.state) none) (other (last_other e r)))

module _ (s : Station) (sound : Sound s) (e : Record) (bearers : List ℕ) (room : ℕ) where
  turn_of_lem : {a : Answer} → Part s e bearers room a → Turn s e a
  turn_of_lem (as_refusal f _) = turns (malformed_turned s e f)
  turn_of_lem (as_response _) = turns (malformed_turned s e (record { reply = 0; offset = 0; place = 0 }))
  turn_of_lem (as_failure n _ _ one) = turns (record { last = refl; change = λ j h. stays; says = refuses n one refl })
  turn_of_lem (as_grant k formed one _ _ free) = admits k free formed one (admission (taken e bearers) s)
  turn_of_lem (as_start k formed nine free) = starts k free formed nine
  turn_of_lem (as_reset reset) = turns (reset_turned s e reset)
  turn_of_lem (as_idle _ _) = turns (record { last = refl; change = λ j h. stays; says = other refl })
  turn_of_lem (as_tick i formed fifteen found) =
      -- the clock is no matter here
      let t = decided_turned (at e.time s) (sound_at s sound e.time (time_within e formed)) e formed i 0 (due_place s sound e i found) (soonest_due_lem e fifteen s i found).mine in
      turns (record { last = t.last; change = t.change; says = t.says })
  turn_of_lem (as_event i formed _ found) =
      turns (decided_turned s sound e formed i (s.clock + s.settings.overall) (found_place s sound (about e) i found) (found_here (about e) s i found).1)

  -- Every step does one of these.
  pub turn : Turn s e (step_of s e bearers room)
  turn = turn_of_lem (part s e bearers room)
