-- The end of a script: nothing is under way, and both clocks are ticked past every deadline until none is due, by a test that is computed.
use Prim.Native.Nat.{ℕ, ◌≤◌}
use mathlib.Core.Path.{◌≡◌, refl}
use mathlib.Core.Bool.{Bool, true, false, not, ◌&&◌, false≢true}
use mathlib.Core.List.{List, [], ◌∷◌}
use Rattle.std.specs.Prelude.{Option, Some, None}
use borrow.Author.Tests.{eqb-true, leb-true, le-leb, not-true}
use native.Mathlib.Omega.{arith}
use lib.Dec.{leb, eqb}
use lib.ListN.{get_or}
use Rattle.laws.proofs.Tests.{by_cases, both_true, clash, every, every_at}
use Rattle.records.specs.declared.Record.{Record}
use Rattle.promises.specs.Cases as cases
use Rattle.handover.specs.Numbers.{blank, own_is}
use Rattle.table.specs.Step.{step_of}
use Rattle.table.specs.Table.{find}
use Rattle.promises.specs.Views.{record_at, named, due_of, due, to}
use Rattle.table.specs.declared.Answer.{Answer}
use Rattle.handover.specs.declared.Entry.{Entry}
use Rattle.table.specs.declared.Station.{Station}
use Rattle.pair.specs.Theorem.{Past, Settled, Still, here, onward, NoneDueAt, Settles}
use Rattle.pair.specs.World.{Side, A, B, Envelope, World, Acts, acts, Run}
use Rattle.pair.proofs.Scripts.{does, after, played, can, may, did, moves_on, is_bounded, to_both, at_side}

-- ---- nothing is under way, and no deadline is past the last time

abbrev pub tick : ℕ → Record
tick time = (cases.tick time).event

-- the last time that there is
abbrev pub last_time : ℕ
last_time = 1000000000000

abbrev pub is_empty : List Envelope → Bool
is_empty [] = true
is_empty (m ∷ ms) = false

empty : (ms : List Envelope) → is_empty ms ≡ true → ms ≡ []
empty [] t = refl
empty (m ∷ ms) t = absurd (false≢true t)

-- whether every deadline is at most a time
abbrev pub all_by : ℕ → List Entry → Bool
all_by time = every (λ i r. leb r.deadline time)

-- then so is that of the record found, whichever it is
by_found : (time : ℕ) (s : Station) → all_by time s.entries ≡ true → (found : Option ℕ) → (record_at found s).deadline ≤ time
by_found time s t None = omega arith
by_found time s t (Some i) =
    leb-true (get_or s.entries i blank).deadline time (every_at (λ j x. leb x.deadline time) s.entries blank i t (λ j. le-leb 0 time (omega arith)))

due_by_lem : (time : ℕ) (s : Station) → all_by time s.entries ≡ true → (p i d : ℕ) → due s p i ≡ Some d → d ≤ time
unfolding due named
due_by_lem time s t p i d timed =
    go (record_at (find (own_is i) s) s) timed (by_found time s t (find (own_is i) s))
  where
    go : (r : Entry) → due_of p r ≡ Some d → r.deadline ≤ time → d ≤ time
    go r timed by =
        by_cases (leb 1 r.state && leb r.state 3 && eqb r.neighbour p)
        (λ h. let this : Some r.deadline ≡ Some d = rw h at timed in let same : r.deadline ≡ d = cc in omega arith)
        (λ h. let never : None ≡ Some d = rw h at timed in clash (cc))

module _ (peer : Side → ℕ) where
  abbrev pub at_tick : World → Side → ℕ → Answer
  at_tick w s time = step_of (w.station s) (tick time) [] 256

  -- whether nothing is under way from either side, and the last tick is past every deadline
  abbrev pub is_quiet : World → Side → Bool
  is_quiet w s = is_empty (w.queue s) && all_by last_time (w.station s).entries

  quiet : (w : World) → to_both (is_quiet w) ≡ true → (s : Side) → (w.queue s ≡ []) × Past peer w s last_time
  quiet w t s =
      let both = both_true (is_empty (w.queue s)) (all_by last_time (w.station s).entries) (at_side (is_quiet w) t s) in
      (empty (w.queue s) both.0, due_by_lem last_time (w.station s) both.1 (peer s))

  -- and none is due then
  abbrev pub is_none_due : World → Side → Bool
  is_none_due w s = eqb (at_tick w s last_time).outcome.reply 9

  unfoldable pub is_settled : World → Bool
  unfolding played
  is_settled w = to_both (is_quiet w) && to_both (is_none_due w)

  pub settled : (w : World) → is_settled w ≡ true → Settled peer w
  unfolding is_settled
  settled w t =
      let parts = both_true (to_both (is_quiet w)) (to_both (is_none_due w)) t in
      record {
        empty = λ s. (quiet w parts.0 s).0;
        tick = λ s. tick last_time;
        kind = λ s. refl;
        past = λ s. (quiet w parts.0 s).1;
        answer = λ s. at_tick w s last_time;
        answers = λ s. record { bearers = []; room = 256; stepped = refl };
        none_due = λ s. eqb-true (at_tick w s last_time).outcome.reply 9 (at_side (is_none_due w) parts.1 s);
      }

  -- ---- ticks until none is due

  abbrev pub ticked : World → Side → ℕ → World
  ticked w s time = after peer w (does s (tick time))

  abbrev pub may_tick : World → Side → ℕ → Bool
  may_tick w s time = may peer w (does s (tick time)) && not (to 1 (peer s) (at_tick w s time))

  may_move : (v : World) (s : Side) (time : ℕ) → may_tick v s time ≡ true → may peer v (does s (tick time)) ≡ true
  may_move v s time t = (both_true (may peer v (does s (tick time))) (not (to 1 (peer s) (at_tick v s time))) t).0

  tick_acts : (v : World) (s : Side) (time : ℕ) → may_tick v s time ≡ true → Acts peer v s (tick time) (at_tick v s time) (ticked v s time)
  tick_acts v s time t = did peer v s (tick time) (both_true (can peer v (does s (tick time))) (is_bounded (ticked v s time)) (may_move v s time t)).0

  ticks_on : {w v : World} → Still peer w v → (s : Side) (time : ℕ) → may_tick v s time ≡ true → Still peer w (ticked v s time)
  ticks_on {v = v} still s time t =
      onward still (acts s (tick time) (at_tick v s time) (tick_acts v s time t))
      (not-true (to 1 (peer s) (at_tick v s time)) (both_true (may peer v (does s (tick time))) (not (to 1 (peer s) (at_tick v s time))) t).1)

  tick_runs : {v : World} → Run peer v → (s : Side) (time : ℕ) → may_tick v s time ≡ true → Run peer (ticked v s time)
  tick_runs {v} r s time t = moves_on peer r (does s (tick time)) (may_move v s time t)

  -- the last tick finds none due
  abbrev pub may_end : World → Side → Bool
  may_end w s = may_tick w s last_time && is_none_due w s

  none_due_at : {w v w' : World} → Still peer w v → (s : Side) → may_end v s ≡ true → Still peer (ticked v s last_time) w' → NoneDueAt peer s last_time w w'
  none_due_at {v = v} still s t later =
      let parts = both_true (may_tick v s last_time) (is_none_due v s) t in
      record {
        before = v;
        still = still;
        event = tick last_time;
        answer = at_tick v s last_time;
        after = ticked v s last_time;
        acts = tick_acts v s last_time parts.0;
        kind = refl;
        time = refl;
        none_due = eqb-true (at_tick v s last_time).outcome.reply 9 parts.1;
        later = later;
      }

  -- so many ticks, each of a side, and then the last one of each
  abbrev pub ended : World → List (Side × ℕ) → World
  ended w [] = ticked (ticked w A last_time) B last_time
  ended w ((s, time) ∷ ts) = ended (ticked w s time) ts

  abbrev pub may_end_after : World → List (Side × ℕ) → Bool
  may_end_after w [] = may_end w A && may_end (ticked w A last_time) B
  may_end_after w ((s, time) ∷ ts) = may_tick w s time && may_end_after (ticked w s time) ts

  -- So both clocks are ticked until none is due.
  each_none_due : {w v : World} → Still peer w v → (ts : List (Side × ℕ)) → may_end_after v ts ≡ true → (s : Side) → NoneDueAt peer s last_time w (ended v ts)
  each_none_due {v = v} still [] t A =
      let parts = both_true (may_end v A) (may_end (ticked v A last_time) B) t in
      none_due_at still A parts.0 (ticks_on here B last_time (both_true (may_tick (ticked v A last_time) B last_time) (is_none_due (ticked v A last_time) B) parts.1).0)
  each_none_due {v = v} still [] t B =
      let parts = both_true (may_end v A) (may_end (ticked v A last_time) B) t in
      none_due_at (ticks_on still A last_time (both_true (may_tick v A last_time) (is_none_due v A) parts.0).0) B parts.1 here
  each_none_due {v = v} still ((s, time) ∷ ts) t r =
      let parts = both_true (may_tick v s time) (may_end_after (ticked v s time) ts) t in
      each_none_due {v = ticked v s time} (ticks_on still s time parts.0) ts parts.1 r

  abbrev pub may_settle : World → List (Side × ℕ) → Bool
  may_settle w ts = to_both (is_quiet w) && may_end_after w ts

  pub settles : (w : World) (ts : List (Side × ℕ)) → may_settle w ts ≡ true → Settles peer w (ended w ts)
  settles w ts t =
      let parts = both_true (to_both (is_quiet w)) (may_end_after w ts) t in
      record {
        empty = λ s. (quiet w parts.0 s).0;
        time = λ s. last_time;
        past = λ s. (quiet w parts.0 s).1;
        none_due = each_none_due here ts parts.1;
      }

  -- What settles by ticks is a run still.
  ended_run : {w : World} → Run peer w → (ts : List (Side × ℕ)) → may_end_after w ts ≡ true → Run peer (ended w ts)
  ended_run {w} r [] t =
      let parts = both_true (may_end w A) (may_end (ticked w A last_time) B) t in
      let first = tick_runs r A last_time (both_true (may_tick w A last_time) (is_none_due w A) parts.0).0 in
      tick_runs first B last_time (both_true (may_tick (ticked w A last_time) B last_time) (is_none_due (ticked w A last_time) B) parts.1).0
  ended_run {w} r ((s, time) ∷ ts) t =
      let parts = both_true (may_tick w s time) (may_end_after (ticked w s time) ts) t in
      ended_run {w = ticked w s time} (tick_runs r s time parts.0) ts parts.1

  pub settled_run : {w : World} → Run peer w → (ts : List (Side × ℕ)) → may_settle w ts ≡ true → Run peer (ended w ts)
  settled_run {w} r ts t = ended_run r ts (both_true (to_both (is_quiet w)) (may_end_after w ts) t).1
