-- A station that has one record starts a handover towards a third neighbour and cancels it: the world is as it was, but that one own ID
-- more was issued. So it is after any number of them, up to the last own ID.
use Prim.Native.Nat.{ℕ, zero, suc, ◌+◌, ◌-◌, ◌≤◌, ◌<◌}
use mathlib.Core.Path.{◌≡◌, refl, sym, ap, ◌∙◌}
use mathlib.Core.Bool.{Bool, true, false, cond, not, ◌&&◌, ◌||◌}
use mathlib.Core.List.{List, [], ◌∷◌, append-nil}
use Rattle.std.specs.Prelude.{Some, None}
use borrow.Author.Rules.{rules}
use borrow.Author.Tests.{ne_eqb}
use store.Seg.{eqb_same}
use native.Mathlib.Omega.{arith}
use native.Mathlib.Numerals.{add-one}
use lib.Dec.{eqb}
use lib.ListN.{replicate}
use Rattle.laws.proofs.Tests.{by_cases, on_false}
use Rattle.records.specs.Record.{InRange}
use Rattle.records.specs.declared.Record.{Record}
use Rattle.handover.specs.declared.Entry.{Entry}
use Rattle.table.specs.declared.Answer.{Answer}
use Rattle.table.specs.declared.Station.{Station}
use Rattle.handover.specs.Events.{message, about}
use Rattle.handover.specs.Numbers.{is_free, blank, preparing, own_is, issue_from}
use Rattle.fields.proofs.Forms.{used_in_range}
use Rattle.handover.proofs.Issuing.{issue_free}
use Rattle.table.specs.Step.{answer, step_of, issue}
use Rattle.table.specs.Table.{find, holding}
use Rattle.promises.proofs.Rows.{row_step, start_step}
use Rattle.promises.specs.Views.{NotOut, some_out, out_of, out, named, sent, to, ending, issued}
use Rattle.pair.specs.Theorem.{Empty}
use Rattle.pair.specs.World.{Side, A, B, other, sides, Numbers, issuing, next_issue, record_of, Handover, arrives_for, at_source, at_target, Envelope, World, issued_after, act, is_message, own, nothing, Bounded, Step, acts, Course, Run, next}
use Rattle.pair.proofs.Reaching.{on_sides}
use Rattle.pair.proofs.Scripts.{run_on, done, first}

-- ---- worlds

-- Two worlds are one if they agree in all that they say.
pub same_world : {w v : World} → ((s : Side) → w.station s ≡ v.station s) → ((s : Side) → w.queue s ≡ v.queue s)
    → ((s : Side) → w.numbers s ≡ v.numbers s) → ((s : Side) (n : ℕ) → w.fixed_for s n ≡ v.fixed_for s n)
    → ((s : Side) (h : ℕ) → w.handovers s h ≡ v.handovers s h) → w ≡ v
same_world stations queues numbers fixed handovers =
    λ i. record {
      station = λ s. stations s i;
      queue = λ s. queues s i;
      numbers = λ s. numbers s i;
      fixed_for = λ s n. fixed s n i;
      handovers = λ s h. handovers s h i;
    }

or-false : (b : Bool) → (b || false) ≡ b
or-false true = refl
or-false false = refl

never_both : (b : Bool) → (b && not b) ≡ false
never_both true = refl
never_both false = refl

-- the world after an answer that the other station does not hear of
abbrev pub apart : World → Side → Answer → World
apart w s a =
    record {
      station = sides s a.station (w.station (other s));
      queue = w.queue;
      numbers = issued_after w s a;
      fixed_for = w.fixed_for;
      handovers = w.handovers;
    }

module _ (peer : Side → ℕ) where
  module _ (w : World) (s : Side) (e : Record) (a : Answer) (unsent : is_message (peer s) (sent a) ≡ false)
      (no_request : to 1 (peer s) a ≡ false) (no_acknowledge : to 2 (peer s) a ≡ false) (no_arrival : eqb e.kind 11 ≡ false)
      (same : (j : ℕ) → out a.station (peer s) j ≡ out (w.station s) (peer s) j) where
    source_same : (h : ℕ) → at_source (peer s) (w.station s) a None (w.numbers s) h (w.handovers s h) ≡ w.handovers s h
    source_same h =
        let k = w.handovers s h in
        let n = w.numbers s in
        let was = some_out (record_of n (out (w.station s) (peer s)) h) in
        let is = some_out (record_of n (out a.station (peer s)) h) in
        let asked : (k.asked || (to 1 (peer s) a && eqb h (next_issue n))) ≡ k.asked = rw no_request (or-false k.asked) in
        let stays : (was && not is) ≡ false = rw (same (n.number_of h)) (never_both was) in
        let endings = on_false (was && not is) (ending a ∷ k.endings) k.endings stays in
        λ i. record { asked = asked i; answer = k.answer; arrived = k.arrived; released_while_prepared = or-false k.released_while_prepared i; endings = endings i }

    target_same : (h : ℕ) → at_target (peer s) (w.station s) e a None (w.fixed_for (other s)) h (w.handovers (other s) h) ≡ w.handovers (other s) h
    target_same h =
        let k = w.handovers (other s) h in
        let arrived : (k.arrived || arrives_for (peer s) (w.station s) e a (w.fixed_for (other s)) h) ≡ k.arrived = rw no_arrival (or-false k.arrived) in
        λ i. record { asked = k.asked; answer = k.answer; arrived = arrived i; released_while_prepared = k.released_while_prepared; endings = k.endings }

    -- So the step leaves the world so.
    pub unheard : act peer w s e a None (w.queue (other s)) ≡ apart w s a
    unheard =
        same_world (λ r. refl)
        (on_sides (λ r (q : List Envelope). q ≡ w.queue r) s (rw unsent (append-nil (w.queue s))) refl)
        (λ r. refl)
        (on_sides (λ r (f : ℕ → ℕ). (n : ℕ) → f n ≡ w.fixed_for r n) s (λ n. refl) (λ n. rw no_acknowledge))
        (on_sides (λ r (f : ℕ → Handover). (h : ℕ) → f h ≡ w.handovers r h) s source_same target_same)

-- ---- one station

-- a start towards neighbour 3, and the cancel of what has an own ID
abbrev pub towards3 : Record
towards3 = message 9 3 0 0 1 0 0

abbrev pub cancel_of : ℕ → Record
cancel_of i = message 10 0 i 0 0 0 0

-- A record with own ID 0: it is not free, no other own ID is its own, and the cancel of another is not about it.
pub record First (r : Entry) : Type 0 where
  pub busy : is_free r ≡ false
  pub not_own : (i : ℕ) → own_is (suc i) r ≡ false
  pub not_about : (i : ℕ) → about (cancel_of (suc i)) r ≡ false

pub not_first : (i : ℕ) → eqb 0 (suc i) ≡ false
not_first i = ne_eqb 0 (suc i) (λ e. omega arith)

module _ (r : Entry) (x : Station) where
  -- the station that has it alone, and issued this own ID last; and with what a start makes besides
  abbrev pub alone : ℕ → Station
  alone i = holding (r ∷ replicate 63 blank) i x.used x

  abbrev pub beside : ℕ → Station
  beside i = holding (r ∷ preparing 3 i 1 (x.clock + x.settings.prep) ∷ replicate 62 blank) i x.used x

  module _ (zero_own : First r) where
    next_free : (i : ℕ) → i < 4095 → issue (alone i) ≡ suc i
    next_free i h =
        ap (λ (b : Bool). issue_from 64 (cond b 0 (i + 1)) (alone 0).entries) (ne_eqb i 4095 (λ e. omega arith))
        ∙ ap (λ (n : ℕ). issue_from 64 n (alone 0).entries) (add-one i)
        ∙ issue_free 64 (suc i) (alone 0).entries (ap (λ (b : Bool). b || false) (zero_own.not_own i))

    starts : (i : ℕ) → i < 4095 → step_of (alone i) towards3 [] 256 ≡ answer 0 0 0 (message 1 3 (suc i) 0 1 0 0) (beside (suc i))
    starts i h =
        let units : x.used + 0 ≡ x.used = omega arith in
        start_step (alone i) towards3 [] 256 refl 1 refl (rw zero_own.busy)
        ∙ ap (λ (n : ℕ). answer 0 0 0 (message 1 3 n 0 1 0 0) (holding (beside n).entries n (x.used + 0) x)) (next_free i h)
        ∙ ap (λ (u : ℕ). answer 0 0 0 (message 1 3 (suc i) 0 1 0 0) (holding (beside (suc i)).entries (suc i) u x)) units

    cancels : (i : ℕ) → i < 4095 → step_of (beside (suc i)) (cancel_of (suc i)) [] 256 ≡ answer 0 2 0 (message 6 3 (suc i) 65535 0 0 1) (alone (suc i))
    cancels i h =
        let units : x.used - 0 + 0 ≡ x.used = omega arith in
        let formed = ap (λ (b : Bool). b && true && true && true && true) (used_in_range 4095 (suc i) h) in
        let found : find (about (cancel_of (suc i))) (beside (suc i)) ≡ Some 1 = rw (zero_own.not_about i, eqb_same (suc i)) in
        row_step (beside (suc i)) (cancel_of (suc i)) [] 256 formed 1 8 refl found refl
        ∙ ap (λ (u : ℕ). answer 0 2 0 (message 6 3 (suc i) 65535 0 0 1) (holding (alone (suc i)).entries (suc i) u x)) units

  -- Towards another neighbour than 3 its outgoing records are the same, whatever it issued last.
  out_alone : (p i j : ℕ) → out (alone i) p j ≡ cond (own_is j r) (out_of p r) NotOut
  unfolding out named
  out_alone p i j = by_cases (own_is j r) (λ t. rw t) (λ t. rw t)

  out_beside : (p i j : ℕ) → eqb 3 p ≡ false → out (beside i) p j ≡ cond (own_is j r) (out_of p r) NotOut
  unfolding out named
  out_beside p i j not3 =
      by_cases (own_is j r) (λ t. rw t)
      (λ t. rw t (by_cases (eqb i j) (λ u. rw (u, not3)) (λ u. rw u)))

-- ---- and the world around it

-- the world with another station on one side, that issued these own IDs
abbrev pub with_side : World → Side → Station → Numbers → World
with_side w s x n =
    record {
      station = sides s x (w.station (other s));
      queue = w.queue;
      numbers = sides s n (w.numbers (other s));
      fixed_for = w.fixed_for;
      handovers = w.handovers;
    }

pub mine : {T : Type 0} (s : Side) (here there : T) → sides s here there s ≡ here
mine A here there = refl
mine B here there = refl

-- What changes on one side twice is what it changed to last.
again : {T : Type 0} (s : Side) (f : T → T) (here there : T) (r : Side) → sides s (f (sides s here there s)) (sides s here there (other s)) r ≡ sides s (f here) there r
again A f here there A = refl
again A f here there B = refl
again B f here there A = refl
again B f here there B = refl

apart_again : (w : World) (s : Side) (x : Station) (n : Numbers) (a : Answer) → apart (with_side w s x n) s a ≡ with_side w s a.station (issuing (issued a) n)
apart_again w s x n a =
    same_world (again s (λ _. a.station) x (w.station (other s))) (λ r. refl) (again s (issuing (issued a)) n (w.numbers (other s)))
    (λ r j. refl) (λ r h. refl)

-- The limit asks nothing where nothing is under way.
pub none_under_way : (w : World) → Empty w → Bounded w
none_under_way w empty r s = rw (empty r) nothing

-- so many own IDs are issued, from 1 on
unfoldable pub issued_up_to : ℕ → Numbers → Numbers
issued_up_to zero n = n
issued_up_to (suc i) n = issuing (Some (suc i)) (issued_up_to i n)

module _ (peer : Side → ℕ) (w : World) (s : Side) (not3 : eqb 3 (peer s) ≡ false) where
  -- An event that the other station does not hear of, of a station that is known.
  alone_acts : (x : Station) (n : Numbers) (e : Record) (a : Answer) → InRange e → is_message (peer s) e ≡ false → eqb e.kind 11 ≡ false
      → step_of x e [] 256 ≡ a → is_message (peer s) (sent a) ≡ false → to 1 (peer s) a ≡ false → to 2 (peer s) a ≡ false
      → ((j : ℕ) → out a.station (peer s) j ≡ out x (peer s) j)
      → Step peer (with_side w s x n) (with_side w s a.station (issuing (issued a) n))
  alone_acts x n e a range own_event no_arrival step unsent no_request no_acknowledge same =
      let v = with_side w s x n in
      let at_side : v.station s ≡ x = mine s x (w.station (other s)) in
      let stepped : step_of (v.station s) e [] 256 ≡ a = rw at_side step in
      acts s e a
      (record {
        range = range;
        answers = record { bearers = []; room = 256; stepped = sym stepped };
        taken = None;
        rest = v.queue (other s);
        comes = own own_event;
        becomes = sym (apart_again w s x n a) ∙ sym (unheard peer v s e a unsent no_request no_acknowledge no_arrival (λ j. rw at_side (same j)));
      })

  module _ (r : Entry) (zero_own : First r) where
    -- the world after so many
    abbrev pub spent : ℕ → World
    spent i = with_side w s (alone r (w.station s) i) (issued_up_to i (w.numbers s))

    abbrev spending : ℕ → World
    spending i = with_side w s (beside r (w.station s) i) (issued_up_to i (w.numbers s))

    started : (i : ℕ) → i < 4095 → Step peer (spent i) (spending (suc i))
    unfolding issued_up_to
    started i h =
        alone_acts (alone r (w.station s) i) (issued_up_to i (w.numbers s)) towards3
        (answer 0 0 0 (message 1 3 (suc i) 0 1 0 0) (beside r (w.station s) (suc i)))
        (search rules) refl refl (starts r (w.station s) zero_own i h) not3 not3 refl
        (λ j. out_beside r (w.station s) (peer s) (suc i) j not3 ∙ sym (out_alone r (w.station s) (peer s) i j))

    cancelled : (i : ℕ) → i < 4095 → Step peer (spending (suc i)) (spent (suc i))
    cancelled i h =
        alone_acts (beside r (w.station s) (suc i)) (issued_up_to (suc i) (w.numbers s)) (cancel_of (suc i))
        (answer 0 2 0 (message 6 3 (suc i) 65535 0 0 1) (alone r (w.station s) (suc i)))
        (search rules) refl refl (cancels r (w.station s) zero_own i h) not3 refl refl
        (λ j. out_alone r (w.station s) (peer s) (suc i) j ∙ sym (out_beside r (w.station s) (peer s) (suc i) j not3))

    unspent : alone r (w.station s) 0 ≡ w.station s → spent 0 ≡ w
    unfolding issued_up_to
    unspent is =
        same_world (on_sides (λ t (x : Station). x ≡ w.station t) s is refl) (λ t. refl) (on_sides (λ t (n : Numbers). n ≡ w.numbers t) s refl refl)
        (λ t j. refl) (λ t h. refl)

    module _ (is : alone r (w.station s) 0 ≡ w.station s) where
      -- So the stations come to each of these worlds, and within the limit if it is kept there.
      pub spends : (i : ℕ) → i ≤ 4095 → Course peer w → Course peer (spent i)
      spends zero h course = rw (unspent is) course
      spends (suc i) h course = next (next (spends i (omega arith) course) (started i h)) (cancelled i h)

      pub spends_within : (i : ℕ) → i ≤ 4095 → ((j : ℕ) → j ≤ i → Bounded (spent j)) → Run peer w → Run peer (spent i)
      spends_within zero h kept run = rw (unspent is) run
      spends_within (suc i) h kept run =
          run_on peer (spends_within i (omega arith) (λ j le. kept j (omega arith)) run)
          (first (started i h) (kept (suc i) (omega arith)) (first (cancelled i h) (kept (suc i) (omega arith)) done))

-- how many they are
pub count_up_to : (i : ℕ) (n : Numbers) → (issued_up_to i n).issued_count ≡ n.issued_count + i
unfolding issued_up_to
count_up_to zero n = omega arith
count_up_to (suc i) n = omega (arith, count_up_to i n)
