-- Every run can settle: what is under way may be lost, and 64 ticks at the last time leave a station with no record that is due. So the
-- theorem says something of every run in which no deadline is past the last time.
use Prim.Native.Nat.{ℕ, zero, suc, ◌+◌, ◌≤◌, ◌<◌}
use mathlib.Core.Path.{◌≡◌, refl, sym, ap, ◌∙◌}
use mathlib.Core.Bool.{false, true≢false}
use mathlib.Core.List.{List, [], ◌∷◌}
use mathlib.Core.Logic.{⊎_elim}
use Rattle.std.specs.Prelude.{Some, None}
use borrow.Author.Rules.{rules}
use borrow.Author.Tests.{le-ltb}
use native.Mathlib.Omega.{arith}
use Rattle.records.specs.declared.Record.{Record}
use Rattle.records.specs.Record.{InRange}
use Rattle.table.specs.declared.Answer.{Answer}
use Rattle.table.specs.declared.Station.{Station}
use Rattle.table.specs.Step.{step_of}
use Rattle.table.specs.Table.{at}
use Rattle.table.proofs.Soundness.{sound}
use Rattle.promises.proofs.Interface.{step_laws}
use Rattle.promises.proofs.Replies.{nothing_due_sets_clock}
use Rattle.promises.proofs.Ticks.{ticks, tick_nine, tick_ends, ticks_64}
use Rattle.promises.specs.Views.{due, to, StepLaws}
use Rattle.pair.specs.Theorem.{Empty, Past, Still, here, onward, NoneDueAt, Settles, Settled, AtRest}
use Rattle.pair.specs.World.{Side, A, B, other, sides, Envelope, World, issued_after, marked, act, own, All, nothing, limit, WithinLimit, Bounded, with_queue, Acts, acts, loses, Course, begin, next, Limited, Run}
use Rattle.pair.proofs.Lists.{all_tail}
use Rattle.pair.proofs.Posting.{all_posted}
use Rattle.pair.proofs.Reaching.{on_sides, reached}
use Rattle.pair.proofs.Rest.{tick_starts_none, demand}
use Rattle.pair.proofs.Settling.{tick, last_time}
use Rattle.pair.proofs.Scripts.{run_on, done, first}
use Rattle.pair.proofs.Spending.{mine}
use Rattle.pair.proofs.Targets.{granting}

-- the tick at the last time
abbrev last_tick : Record
last_tick = tick last_time

last_small : InRange last_tick
last_small = search rules

theirs : {T : Type 0} (s : Side) (this that : T) → sides s this that (other s) ≡ that
theirs A this that = refl
theirs B this that = refl

both_empty : (w : World) → w.queue A ≡ [] → w.queue B ≡ [] → Empty w
both_empty w a b A = a
both_empty w a b B = b

module _ (peer : Side → ℕ) where
  both_still : {w v u : World} → Still peer w v → Still peer v u → Still peer w u
  both_still one here = one
  both_still one (onward still x no_start) = onward (both_still one still) x no_start

  -- The limit is kept in the world that a run has reached.
  kept_along : {w : World} (c : Course peer w) → Limited peer c → Bounded w
  kept_along (begin stations new) limited = λ r s. nothing
  kept_along (next before x) limited = limited.1

  -- ---- all that is under way is lost

  -- what one side has sent
  record Lost (s : Side) (w : World) : Type 0 where
    world : World
    still : Still peer w world
    run : Run peer world
    stations : world.station ≡ w.station
    gone : world.queue s ≡ []
    kept : world.queue (other s) ≡ w.queue (other s)

  lose : (s : Side) (w : World) → Run peer w → (messages : List Envelope) → w.queue s ≡ messages → Lost s w
  lose s w run [] was = record { world = w; still = here; run = run; stations = refl; gone = was; kept = refl }
  lose s w run (m ∷ ms) was =
      let limited = kept_along run.course run.limited in
      let fewer : Bounded (with_queue w s ms)
      = λ r q. on_sides (λ t (messages : List Envelope). All (WithinLimit q (w.numbers q)) messages) s {there = w.queue (other s)}
      (all_tail (rw was at (limited s q))) (limited (other s) q) r in
      let step = loses s (record { older = []; lost = m; younger = ms; was = was; left = refl }) in
      let on = lose s (with_queue w s ms) (run_on peer run (first step fewer done)) ms (mine s ms (w.queue (other s))) in
      record {
        world = on.world;
        still = both_still (onward here step refl) on.still;
        run = on.run;
        stations = on.stations;
        gone = on.gone;
        kept = on.kept ∙ theirs s ms (w.queue (other s));
      }

  -- and what both have
  record Emptied (w : World) : Type 0 where
    world : World
    still : Still peer w world
    run : Run peer world
    stations : world.station ≡ w.station
    empty : Empty world

  empties : (w : World) → Run peer w → Emptied w
  empties w run =
      let a = lose A w run (w.queue A) refl in
      let b = lose B a.world a.run (a.world.queue B) refl in
      record {
        world = b.world;
        still = both_still a.still b.still;
        run = b.run;
        stations = b.stations ∙ a.stations;
        empty = both_empty b.world (b.kept ∙ a.gone) b.gone;
      }

  -- ---- a tick at the last time

  -- a run with nothing under way and no deadline past the last time
  record Ready (w : World) : Type 0 where
    run : Run peer w
    empty : Empty w
    past : (s : Side) → Past peer w s last_time

  abbrev at_last : World → Side → Answer
  at_last w s = step_of (w.station s) last_tick [] 0

  abbrev ticked : World → Side → World
  ticked w s = act peer w s last_tick (at_last w s) None (w.queue (other s))

  module _ (w : World) (ready : Ready w) (s : Side) where
    laws : StepLaws (w.station s) last_tick (at_last w s)
    laws = step_laws ((reached peer ready.run).reached s) last_tick [] 0

    no_request : to 1 (peer s) (at_last w s) ≡ false
    no_request = tick_starts_none (laws.source (peer s)) refl

    -- What it sends is under way alone.
    recent : Bounded (ticked w s)
    recent r q =
        let a = at_last w s in
        let sent_last = marked a (w.numbers s) None (w.fixed_for (other s)) (λ t. (issued_after w s a t).issued_count) in
        let just : (issued_after w s (at_last w s) q).issued_count < (issued_after w s (at_last w s) q).issued_count + limit = omega arith in
        on_sides (λ t (messages : List Envelope). All (WithinLimit q (issued_after w s (at_last w s) q)) messages) s {there = w.queue (other s)}
        (all_posted (peer s) sent_last (w.queue s) (rw (ready.empty s) nothing) (λ t. just)) (rw (ready.empty (other s)) nothing) r

    acts_last : Acts peer w s last_tick (at_last w s) (ticked w s)
    acts_last =
        record {
          range = last_small;
          answers = record { bearers = []; room = 0; stepped = refl };
          taken = None;
          rest = w.queue (other s);
          comes = own refl;
          becomes = refl;
        }

    -- No deadline is new.
    due_before : (i d : ℕ) → due (at_last w s).station (peer s) i ≡ Some d → due (w.station s) (peer s) i ≡ Some d
    due_before i d now =
        ⊎_elim (λ was. was)
        (⊎_elim (λ one. absurd (true≢false (sym one ∙ no_request)))
        (⊎_elim (λ two. absurd (omega (arith, (granting (laws.target (peer s)) two).kind))) (λ both. absurd (omega (arith, both.0)))))
        (laws.due_before (peer s) i d now)

    still_past : (r : Side) → Past peer (ticked w s) r last_time
    still_past =
        on_sides (λ r (x : Station). (i d : ℕ) → due x (peer r) i ≡ Some d → d ≤ last_time) s (λ i d now. ready.past s i d (due_before i d now)) (ready.past (other s))

  -- It is a step in which nothing starts; then what it sent is lost.
  record Once (s : Side) (w : World) : Type 0 where
    world : World
    later : Still peer (ticked w s) world
    still : Still peer w world
    ready : Ready world
    this : world.station s ≡ (at_last w s).station
    that : world.station (other s) ≡ w.station (other s)

  once : (s : Side) (w : World) → Ready w → Once s w
  once s w ready =
      let step = acts s last_tick (at_last w s) (acts_last w ready s) in
      let on = empties (ticked w s) (run_on peer ready.run (first step (recent w ready s) done)) in
      record {
        world = on.world;
        later = on.still;
        still = both_still (onward here step (no_request w ready s)) on.still;
        ready =
            record {
              run = on.run;
              empty = on.empty;
              past = λ r. rw on.stations (still_past w ready s r);
            };
        this = ap (λ (f : Side → Station). f s) on.stations ∙ mine s (at_last w s).station (w.station (other s));
        that = ap (λ (f : Side → Station). f (other s)) on.stations ∙ theirs s (at_last w s).station (w.station (other s));
      }

  -- ---- and 64 of them

  record Often (n : ℕ) (s : Side) (w : World) : Type 0 where
    world : World
    still : Still peer w world
    ready : Ready world
    this : world.station s ≡ ticks n last_tick (w.station s)
    that : world.station (other s) ≡ w.station (other s)

  often : (n : ℕ) (s : Side) (w : World) → Ready w → Often n s w
  unfolding ticks
  often zero s w ready = record { world = w; still = here; ready = ready; this = refl; that = refl }
  often (suc n) s w ready =
      let one = once s w ready in
      let on = often n s one.world one.ready in
      record {
        world = on.world;
        still = both_still one.still on.still;
        ready = on.ready;
        this = on.this ∙ ap (ticks n last_tick) one.this;
        that = on.that ∙ one.that;
      }

  -- Then the next finds none due, and so does every later one.
  abbrev Nines : Station → Type 0
  Nines x = (step_of x last_tick [] 0).outcome.reply ≡ 9

  nine_64 : {s : Side} {w : World} → Ready w → (x : Often 64 s w) → Nines (x.world.station s)
  nine_64 {s} {w} ready x =
      let fine = sound ((reached peer ready.run).reached s) in
      rw x.this (ticks_64 last_tick refl refl (w.station s) fine (le-ltb last_time (w.station s).clock fine.clock)).2

  nine_again : (x : Station) → Nines x → Nines (step_of x last_tick [] 0).station
  nine_again x nine =
      rw (nothing_due_sets_clock x last_tick [] 0 nine)
      (tick_ends last_tick refl refl (at last_time x) [] 0 refl (tick_nine last_tick refl refl x [] 0 nine))

  -- ---- so the world settles

  nine : {v w w' : World} (s : Side) (x : Often 64 s w) → Ready w → Still peer v x.world → Still peer (ticked x.world s) w' → NoneDueAt peer s last_time v w'
  nine s x ready still later =
      record {
        before = x.world;
        still = still;
        event = last_tick;
        answer = at_last x.world s;
        after = ticked x.world s;
        acts = acts_last x.world x.ready s;
        kind = refl;
        time = refl;
        none_due = nine_64 ready x;
        later = later;
      }

  -- What is under way is lost, and nothing is started; then both clocks are ticked past every deadline, and the world is settled.
  pub record SettlesFrom (w : World) : Type 0 where
    pub quiet : World
    pub still : Still peer w quiet
    pub run : Run peer quiet
    pub world : World
    pub settles : Settles peer quiet world
    pub goes_on_lem : Run peer world
    pub settled : Settled peer world

  module _ (w : World) (ready : Ready w) where
    -- A is ticked until none is due, and once more; then B
    a_often : Often 64 A w
    a_often = often 64 A w ready

    a_once : Once A a_often.world
    a_once = once A a_often.world a_often.ready

    b_often : Often 64 B a_once.world
    b_often = often 64 B a_once.world a_once.ready

    b_once : Once B b_often.world
    b_once = once B b_often.world b_often.ready

    nines : (s : Side) → NoneDueAt peer s last_time w b_once.world
    nines A = nine A a_often ready a_often.still (both_still a_once.later (both_still b_often.still b_once.still))
    nines B = nine B b_often a_once.ready (both_still a_often.still (both_still a_once.still b_often.still)) b_once.later

    nines_after : (s : Side) → Nines (b_once.world.station s)
    nines_after A = rw (b_once.that ∙ b_often.that ∙ a_once.this) (nine_again (a_often.world.station A) (nine_64 ready a_often))
    nines_after B = rw b_once.this (nine_again (b_often.world.station B) (nine_64 a_once.ready b_often))

  pub can_settle : {w : World} → Run peer w → ((s : Side) → Past peer w s last_time) → SettlesFrom w
  can_settle {w} run past =
      let on = empties w run in
      let ready : Ready on.world = record { run = on.run; empty = on.empty; past = λ s. rw on.stations (past s) } in
      let end = b_once on.world ready in
      record {
        quiet = on.world;
        still = on.still;
        run = on.run;
        world = end.world;
        settles = record { empty = on.empty; time = λ s. last_time; past = ready.past; none_due = nines on.world ready };
        goes_on_lem = end.ready.run;
        settled =
            record {
              empty = end.ready.empty;
              tick = λ s. last_tick;
              kind = λ s. refl;
              past = end.ready.past;
              answer = at_last end.world;
              answers = λ s. record { bearers = []; room = 0; stepped = refl };
              none_due = nines_after on.world ready;
            };
      }

  -- So every run comes to rest.
  pub comes_to_rest : {w : World} (run : Run peer w) (past : (s : Side) → Past peer w s last_time) (s : Side) → AtRest peer (can_settle run past).world s
  comes_to_rest run past =
      let x = can_settle run past in
      (demand peer).settles x.quiet x.world x.run x.settles
