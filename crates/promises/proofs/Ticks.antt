-- Of the records that are due a tick handles the soonest, and repeated at the same time it handles them all.
use Rattle.std.specs.List.{list_any}
use Rattle.std.specs.Prelude.{Option, Some, None}
use Prim.Native.Nat.{ℕ, zero, suc, ◌+◌, ◌≤◌, ◌<◌}
use mathlib.Core.Path.{◌≡◌, refl, sym, ap, ◌∙◌, subst}
use mathlib.Core.Bool.{Bool, true, false, cond, ◌&&◌, ◌||◌, true≢false}
use mathlib.Core.Logic.{◌⊎◌, inl, inr, ⊎_elim}
use mathlib.Core.List.{List, [], ◌∷◌}
use borrow.Author.Tests.{ltb-true, ltb-false, le-ltb, eqb-true, eqb-false, ne_eqb, leb-true, le-leb}
use native.Mathlib.Omega.{arith}
use lib.Dec.{leb, ltb, eqb}
use lib.ListN.{length, get_or, set}
use lib.Seq.{get_or-set_same, get_or-set_other}
use Rattle.laws.proofs.Sums.{total_le, total_set, total_each}
use Rattle.laws.specs.Sums.{total}
use Rattle.laws.proofs.Tests.{by_cases, both_true, between, refuted}
use Rattle.records.specs.declared.Record.{Record}
use Rattle.table.specs.declared.Answer.{Answer}
use Rattle.places.specs.declared.Best.{Best}
use Rattle.handover.specs.declared.Entry.{Entry}
use Rattle.table.specs.declared.Station.{Station}
use Rattle.handover.specs.Events.{key, about, due_by, sooner}
use Rattle.fields.specs.Fields.{well_formed}
use Rattle.handover.specs.Numbers.{is_free, blank, own}
use Rattle.table.specs.Sound.{Sound}
use Rattle.table.specs.Step.{refused, step_of}
use Rattle.places.specs.Places.{beats, due_from}
use Rattle.table.specs.Table.{soonest, at, put}
use Rattle.places.proofs.Finding.{by_found}
use Rattle.handover.proofs.Keys.{keyed_means, tick_about}
use Rattle.promises.proofs.Rows.{early_step, tick_step}
use Rattle.handover.proofs.Rows.{due_ends}
use Rattle.table.proofs.Tally.{total_none_of, once_le}

-- ---- the order: by deadline, then by own ID

module _ (a b x y : ℕ) where
  later : (ltb a b || eqb a b && ltb x y) ≡ false → (b ≤ a) × (a ≤ b → y ≤ x)
  later t =
      by_cases (ltb a b) (λ u. absurd (true≢false (rw u at t)))
      (λ u. by_cases (eqb a b)
      (λ v. (ltb-false a b u, λ _. ltb-false x y (rw (u, v) at t)))
      (λ v. (ltb-false a b u, λ le. absurd (omega (arith, ltb-false a b u, eqb-false a b v)))))

  not_sooner : b ≤ a → (a ≤ b → y ≤ x) → (ltb a b || eqb a b && ltb x y) ≡ false
  not_sooner le own =
      rw (le-ltb a b le)
      (by_cases (eqb a b)
      (λ v. rw v (le-ltb x y (own (omega (arith, eqb-true a b v)))))
      (λ v. rw v))

  strictly : (ltb a b || eqb a b && ltb x y) ≡ true → (a ≤ b) × (b ≤ a → x ≤ y)
  strictly t =
      by_cases (ltb a b)
      (λ u. let less = ltb-true a b u in (omega arith, λ le. absurd (omega arith)))
      (λ u.
      let both = both_true (eqb a b) (ltb x y) (rw u at t) in
      let same = eqb-true a b both.0 in
      let less = ltb-true x y both.1 in
      (omega arith, λ _. omega arith))

-- Of two records that are each not sooner than the next, the first is not sooner than the last.
not_sooner_trans : (a b c : Entry) → sooner a b ≡ false → sooner b c ≡ false → sooner a c ≡ false
not_sooner_trans a b c t u =
    let p = later a.deadline b.deadline (own a) (own b) t in
    let q = later b.deadline c.deadline (own b) (own c) u in
    let r : c.deadline ≤ a.deadline = omega (arith, p.0, q.0) in
    not_sooner a.deadline c.deadline (own a) (own c) r
    (λ le. omega (arith, p.1 (omega (arith, q.0)), q.1 (omega (arith, p.0))))

-- A record is not sooner than one that is sooner.
sooner_asym : (a b : Entry) → sooner a b ≡ true → sooner b a ≡ false
sooner_asym a b t =
    let p = strictly a.deadline b.deadline (own a) (own b) t in
    not_sooner b.deadline a.deadline (own b) (own a) p.0 p.1

-- a record has a lesser deadline than another, or the same and an own ID that is not greater
abbrev pub Ahead : Entry → Entry → Type 0
Ahead first r = (first.deadline < r.deadline) ⊎ ((first.deadline ≡ r.deadline) × (own first ≤ own r))

-- So it is where the other is not sooner.
first_of : (r first : Entry) → sooner r first ≡ false → Ahead first r
first_of r first t =
    let order = later r.deadline first.deadline (own r) (own first) t in
    by_cases (eqb first.deadline r.deadline)
    (λ u. let same = eqb-true first.deadline r.deadline u in inr (same, order.1 (omega arith)))
    (λ u. inl (omega (arith, order.0, eqb-false first.deadline r.deadline u)))

-- ---- the walk over the table

-- whether an event finds a record due, and one for each that it does
abbrev pub due : Record → Entry → Bool
due e r = due_by (key e.kind) e r

abbrev pub due_times : Record → Entry → ℕ
due_times e r = cond (due e r) 1 0

-- where a walk that found its best and goes on over a list ends: at the best so far or at a due record of the list, to which
-- neither the best so far nor any due record of the list is sooner
record Ended (e : Record) (best : Option Best) (i k : ℕ) (rs : List Entry) : Type 0 where
  entry : Entry
  stands : ((b : Best) × (best ≡ Some b) × (b.place ≡ k) × (b.entry ≡ entry)) ⊎ ((j : ℕ) × (k ≡ i + j) × (j < length rs) × (get_or rs j blank ≡ entry) × (due e entry ≡ true))
  past : (b : Best) → best ≡ Some b → sooner b.entry entry ≡ false
  first : (j : ℕ) → j < length rs → due e (get_or rs j blank) ≡ true → sooner (get_or rs j blank) entry ≡ false

-- No record is sooner than itself.
not_itself : (r : Entry) → sooner r r ≡ false
not_itself r = not_sooner r.deadline r.deadline (own r) (own r) (omega arith) (λ _. omega arith)

-- A record that is not sooner than the best so far is not sooner than one to which the best so far is not.
not_ahead : (r entry : Entry) (best : Option Best) → beats r best ≡ false → ((b : Best) → best ≡ Some b → sooner b.entry entry ≡ false) → sooner r entry ≡ false
not_ahead r entry None t past = absurd (true≢false t)
not_ahead r entry (Some b) t past = not_sooner_trans r b.entry entry t (past b refl)

module _ (e : Record) where
  -- What holds of the first record and of those after it holds of all.
  each : (r : Entry) (rs : List Entry) (entry : Entry) → (due e r ≡ true → sooner r entry ≡ false) → ((j : ℕ) → j < length rs → due e (get_or rs j blank) ≡ true → sooner (get_or rs j blank) entry ≡ false)
      → (j : ℕ) → j < suc (length rs) → due e (get_or (r ∷ rs) j blank) ≡ true → sooner (get_or (r ∷ rs) j blank) entry ≡ false
  each r rs entry here on zero h u = here u
  each r rs entry here on (suc j) h u = on j (omega arith) u

  -- One step of the walk, where the record is the best so far, and where it is not.
  taken : (r : Entry) (rs : List Entry) (best : Option Best) (i k : ℕ) → due e r ≡ true → beats r best ≡ true → Ended e (Some (record { place = i; entry = r })) (i + 1) k rs → Ended e best i k (r ∷ rs)
  taken r rs best i k d t end =
      let ahead = end.past (record { place = i; entry = r }) refl in
      record {
        entry = end.entry;
        stands =
            ⊎_elim
            (λ here.
            let place : i ≡ here.0.place = cc (here.1) in
            let its : r ≡ end.entry = cc (here.1, here.3) in
            inr (0, omega (arith, here.2, place), omega arith, its, subst (λ (x : Entry). due e x ≡ true) its d))
            (λ on. inr (suc on.0, omega (arith, on.1), omega (arith, on.2), on.3, on.4))
            end.stands;
        past = λ b is. not_sooner_trans b.entry r end.entry (sooner_asym r b.entry (rw is at t)) ahead;
        first = each r rs end.entry (λ _. ahead) end.first;
      }

  passed : (r : Entry) (rs : List Entry) (best : Option Best) (i k : ℕ) → (due e r && beats r best) ≡ false → Ended e best (i + 1) k rs → Ended e best i k (r ∷ rs)
  passed r rs best i k t end =
      record {
        entry = end.entry;
        stands =
            ⊎_elim
            (λ here. inl here)
            (λ on. inr (suc on.0, omega (arith, on.1), omega (arith, on.2), on.3, on.4))
            end.stands;
        past = end.past;
        first = each r rs end.entry (λ u. not_ahead r end.entry best (rw u at t) end.past) end.first;
      }

  walked : (rs : List Entry) (best : Option Best) (i k : ℕ) → due_from e best i rs ≡ Some k → Ended e best i k rs
  unfolding due_from
  walked [] None i k found = absurd cc
  walked [] (Some b) i k found =
      record {
        entry = b.entry;
        stands = inl (b, refl, cc, refl);
        past = λ other is. let same : b.entry ≡ other.entry = cc in rw (← same) (not_itself b.entry);
        first = λ j h. absurd (omega arith);
      }
  walked (r ∷ rs) best i k found =
      by_cases (due e r && beats r best)
      (λ t.
      let both = both_true (due e r) (beats r best) t in
      taken r rs best i k both.0 both.1 (walked rs (Some (record { place = i; entry = r })) (i + 1) k (rw t at found)))
      (λ t. passed r rs best i k t (walked rs best (i + 1) k (rw t at found)))

  -- A walk that finds nothing had no best so far, and passes no due record.
  missed : (rs : List Entry) (best : Option Best) (i : ℕ) → due_from e best i rs ≡ None → (best ≡ None) × (list_any (due e) rs ≡ false)
  unfolding due_from
  missed [] None i found = (refl, refl)
  missed [] (Some b) i found = absurd cc
  missed (r ∷ rs) best i found =
      by_cases (due e r && beats r best)
      (λ t.
      let never = (missed rs (Some (record { place = i; entry = r })) (i + 1) (rw t at found)).0 in
      absurd cc)
      (λ t.
      let on = missed rs best (i + 1) (rw t at found) in
      let not_due : due e r ≡ false = by_cases (due e r) (λ d. absurd (true≢false (rw (d, on.0) at t))) (λ d. d) in
      (on.0, rw not_due on.1))

-- ---- the laws

-- the records that are due, and a tick repeated
abbrev pub dues : Record → Station → ℕ
dues e s = total (due_times e) s.entries

unfoldable pub ticks : ℕ → Record → Station → Station
ticks zero e s = s
ticks (suc n) e s = ticks n e (step_of s e [] 0).station

-- "of the records with deadline not above it, the least deadline, then least own ID": a place at which the tick's record stands; it is
-- outgoing or held, and due, and ahead of every other that is
pub record Soonest (e : Record) (s : Station) (i : ℕ) : Type 0 where
  pub place : i < length s.entries
  pub mine : about e (get_or s.entries i blank) ≡ true
  pub timed : (1 ≤ (get_or s.entries i blank).state) × ((get_or s.entries i blank).state ≤ 3)
  pub late : (get_or s.entries i blank).deadline ≤ e.time
  pub first : (j : ℕ) → j < length s.entries → 1 ≤ (get_or s.entries j blank).state → (get_or s.entries j blank).state ≤ 3
      → (get_or s.entries j blank).deadline ≤ e.time → Ahead (get_or s.entries i blank) (get_or s.entries j blank)

module _ (e : Record) (kind : e.kind ≡ 15) where
  busy_due : (r : Entry) → due e r ≡ true → is_free r ≡ false
  busy_due r t =
      let keys = keyed_means (key e.kind) e r (both_true (about e r) (leb r.deadline e.time) t).0 in
      let some : 1 ≤ r.state = rw kind at keys.first in
      ne_eqb r.state 0 (λ z. omega arith)

  -- An outgoing or held record whose deadline is not above the time is due.
  timed_due : (r : Entry) → 1 ≤ r.state → r.state ≤ 3 → r.deadline ≤ e.time → due e r ≡ true
  timed_due r low high late = rw (tick_about e r kind, le-leb 1 r.state low, le-leb r.state 3 high, le-leb r.deadline e.time late)

  none_due : due e blank ≡ false
  none_due = refuted (due e blank) (λ t. true≢false (busy_due blank t))

  -- Where a tick finds a record, it is the soonest.
  pub soonest_due_lem : (s : Station) (i : ℕ) → soonest e s ≡ Some i → Soonest e s i
  soonest_due_lem s i found =
      let end = walked e s.entries None 0 i found in
      ⊎_elim
      (λ here. absurd (cc (here.1)))
      (λ on.
      let same : on.0 ≡ i = omega (arith, on.1) in
      let there : get_or s.entries i blank ≡ end.entry = ap (λ (n : ℕ). get_or s.entries n blank) (sym same) ∙ on.3 in
      let both = both_true (about e end.entry) (leb end.entry.deadline e.time) on.4 in
      record {
        place = omega (arith, on.2);
        mine = rw there both.0;
        timed = rw there (between 1 3 end.entry.state (sym (tick_about e end.entry kind) ∙ both.0));
        late = rw there (leb-true end.entry.deadline e.time both.1);
        first = λ j h low high late.
            rw there (first_of (get_or s.entries j blank) end.entry (end.first j h (timed_due (get_or s.entries j blank) low high late)));
      })
      end.stands

  -- Where it finds none, none is due.
  pub soonest_none : (s : Station) → soonest e s ≡ None → list_any (due e) s.entries ≡ false
  soonest_none s found = (missed e s.entries None 0 found).1

  module _ (formed : well_formed e ≡ true) where
    module _ (s : Station) (bearers : List ℕ) (room : ℕ) (late : ltb e.time s.clock ≡ false) where
      -- A tick that finds a record has reply 0, and the record ends.
      pub tick_one : (i : ℕ) → soonest e s ≡ Some i → ((step_of s e bearers room).outcome.reply ≡ 0) × ((step_of s e bearers room).station ≡ put i blank (at e.time s))
      tick_one i found =
          let r = get_or s.entries i blank in
          let ended = due_ends e r 0 kind (soonest_due_lem s i found).mine in
          let does = tick_step s e bearers room formed kind late (Some i) found in
          (rw does ended.0, rw does (ap (λ (x : Entry). put i x (at e.time s)) ended.1))

      -- Its place is free then, and no other record changes.
      pub tick_others : (i : ℕ) → soonest e s ≡ Some i → (get_or (step_of s e bearers room).station.entries i blank ≡ blank)
          × ((j : ℕ) → (j ≡ i → ⊥) → get_or (step_of s e bearers room).station.entries j blank ≡ get_or s.entries j blank)
      tick_others i found =
          rw (tick_one i found).1
          (get_or-set_same s.entries i blank blank (soonest_due_lem s i found).place, λ j other. get_or-set_other s.entries i j blank blank other)

      -- One that finds none has reply 9, and only the clock changes.
      pub tick_none : soonest e s ≡ None → step_of s e bearers room ≡ refused 9 (at e.time s)
      tick_none = tick_step s e bearers room formed kind late None

      -- So a tick leaves the clock at its time, and one due record fewer, if there was one; if there was none, it has reply 9.
      tick_fewer : ((step_of s e bearers room).station.clock ≡ e.time)
          × ((((step_of s e bearers room).outcome.reply ≡ 0) × (dues e (step_of s e bearers room).station + 1 ≡ dues e s)) ⊎ (((step_of s e bearers room).outcome.reply ≡ 9) × (dues e s ≡ 0) × (dues e (step_of s e bearers room).station ≡ 0)))
      tick_fewer =
          by_found (soonest e s)
          (λ found.
          let none = total_none_of (due_times e) (due e) s.entries (λ r t. rw t) (soonest_none s found) in
          rw (tick_none found) (refl, inr (refl, none, none)))
          (λ i found.
          let d = soonest_due_lem s i found in
          let one = tick_one i found in
          let counted : due_times e (get_or s.entries i blank) ≡ 1 = rw (d.mine, le-leb (get_or s.entries i blank).deadline e.time d.late) in
          let freed : due_times e blank ≡ 0 = rw none_due in
          let fewer : total (due_times e) (set s.entries i blank) + 1 ≡ dues e s = omega (arith, total_set (due_times e) s.entries i blank blank d.place) in
          (rw one.1, inl (one.0, rw one.1 fewer)))

    -- A tick with another reply than 8 is at a time not before the clock.
    in_time : (s : Station) (bearers : List ℕ) (room : ℕ) → ((step_of s e bearers room).outcome.reply ≡ 8 → ⊥) → ltb e.time s.clock ≡ false
    in_time s bearers room other =
        refuted (ltb e.time s.clock) (λ t. other (ap (λ (a : Answer). a.outcome.reply) (early_step s e bearers room formed kind t)))

    -- One with reply 0 finds a record besides.
    pub tick_handles : (s : Station) (bearers : List ℕ) (room : ℕ) → (step_of s e bearers room).outcome.reply ≡ 0 → (ltb e.time s.clock ≡ false) × (i : ℕ) × (soonest e s ≡ Some i)
    tick_handles s bearers room done =
        let late = in_time s bearers room (λ eight. eqb-false 0 8 refl (sym done ∙ eight)) in
        by_found (soonest e s)
        (λ none. absurd (eqb-false 9 0 refl (sym (ap (λ (a : Answer). a.outcome.reply) (tick_none s bearers room late none)) ∙ done)))
        (λ i found. (late, i, found))

    -- One with reply 9 finds none due.
    pub tick_nine : (s : Station) (bearers : List ℕ) (room : ℕ) → (step_of s e bearers room).outcome.reply ≡ 9 → dues e s ≡ 0
    tick_nine s bearers room nine =
        let late = in_time s bearers room (λ eight. eqb-false 9 8 refl (sym nine ∙ eight)) in
        ⊎_elim (λ one. absurd (eqb-false 0 9 refl (sym one.0 ∙ nine))) (λ none. none.1) (tick_fewer s bearers room late).1

    -- Where no record is due, a tick has reply 9.
    pub tick_ends : (s : Station) (bearers : List ℕ) (room : ℕ) → ltb e.time s.clock ≡ false → dues e s ≡ 0 → (step_of s e bearers room).outcome.reply ≡ 9
    tick_ends s bearers room late none =
        ⊎_elim (λ one. absurd (omega (arith, one.1))) (λ nine. nine.0)
        (tick_fewer s bearers room late).1

    -- Repeated at the same time as often as records are due, or oftener, it leaves none due, and the next tick has reply 9.
    pub ticks_end : (n : ℕ) (s : Station) → ltb e.time s.clock ≡ false → dues e s ≤ n → (dues e (ticks n e s) ≡ 0) × ((step_of (ticks n e s) e [] 0).outcome.reply ≡ 9)
    unfolding ticks
    ticks_end zero s late few = let none : dues e s ≡ 0 = omega arith in (none, tick_ends s [] 0 late none)
    ticks_end (suc n) s late few =
        let step = tick_fewer s [] 0 late in
        ticks_end n (step_of s e [] 0).station (rw step.0 (le-ltb e.time e.time (omega arith)))
        (⊎_elim (λ one. omega (arith, one.1)) (λ none. omega (arith, none.2)) step.1)

    -- Up to then each tick has reply 0, and there is one due record fewer for each.
    pub ticks_left : (n : ℕ) (s : Station) → ltb e.time s.clock ≡ false → n < dues e s → (dues e (ticks n e s) + n ≡ dues e s) × ((step_of (ticks n e s) e [] 0).outcome.reply ≡ 0)
    unfolding ticks
    ticks_left zero s late some = (
      omega arith,
      ⊎_elim (λ one. one.0) (λ none. absurd (omega (arith, none.1)))
          (tick_fewer s [] 0 late).1,
    )
    ticks_left (suc n) s late some =
        let step = tick_fewer s [] 0 late in
        let one = ⊎_elim (λ one. one.1) (λ none. absurd (omega (arith, none.1))) step.1 in
        let on = ticks_left n (step_of s e [] 0).station (rw step.0 (le-ltb e.time e.time (omega arith))) (omega (arith, one)) in
        (omega (arith, on.0, one), on.1)

    -- So it has reply 9 after at most 64 steps, and then none is due.
    pub ticks_64 : (s : Station) → Sound s → ltb e.time s.clock ≡ false → (dues e s ≤ 64) × (dues e (ticks 64 e s) ≡ 0) × ((step_of (ticks 64 e s) e [] 0).outcome.reply ≡ 9)
    ticks_64 s sound late =
        let few = total_le (due_times e) (λ r. 1) s.entries (λ r. once_le (due e r) true (λ _. refl)) in
        let most : dues e s ≤ 64 = omega (arith, few, total_each 1 s.entries, sound.places) in
        let end = ticks_end 64 s late most in
        (most, end.0, end.1)
