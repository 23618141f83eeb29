-- What the event of a prepared record's release does, and what a tick with reply 9 shows, by the record's own ID.
use Prim.Native.Nat.{ℕ, ◌<◌}
use mathlib.Core.Path.{◌≡◌, refl, sym, ap, ◌∙◌, subst}
use mathlib.Core.Bool.{true, false, ◌&&◌, true≢false, false≢true}
use mathlib.Core.Logic.{⊎_elim}
use mathlib.Core.List.{List}
use Rattle.std.specs.Prelude.{Some}
use borrow.Author.Tests.{eqb-true, eq-eqb, leb-false}
use native.Mathlib.Omega.{arith}
use lib.Dec.{leb, eqb}
use lib.ListN.{get_or}
use Rattle.laws.proofs.Sums.{total_at}
use Rattle.laws.proofs.Tests.{by_cases, both_true, clash}
use Rattle.records.specs.declared.Record.{Record}
use Rattle.handover.specs.declared.Entry.{Entry}
use Rattle.table.specs.declared.Answer.{Answer}
use Rattle.table.specs.declared.Station.{Station}
use Rattle.handover.specs.Events.{about, message}
use Rattle.fields.specs.Fields.{well_formed}
use Rattle.handover.specs.Numbers.{blank, own, own_is}
use Rattle.table.specs.Reached.{Reached}
use Rattle.table.specs.Sound.{Sound}
use Rattle.table.specs.Step.{step_of}
use Rattle.table.specs.Table.{find, put}
use Rattle.promises.specs.Views.{NotOut, Preparing, Prepared, some_out, out_of, due_of, named, out, due, ending}
use Rattle.promises.proofs.Bounds.{bounded}
use Rattle.table.proofs.Counting.{own_is_lem}
use Rattle.answers.proofs.Flaws.{flaw_in_listed}
use Rattle.fields.proofs.Forms.{used_in_range}
use Rattle.places.proofs.Finding.{by_found, found_none}
use Rattle.table.proofs.Finding.{found_here, set_each}
use Rattle.promises.proofs.Orderless.{about_once}
use Rattle.table.proofs.Placing.{found_place}
use Rattle.promises.proofs.Rows.{malformed_step, row_step}
use Rattle.table.proofs.Soundness.{sound, sound_step}
use Rattle.table.proofs.Tally.{none_at}
use Rattle.promises.proofs.Ticks.{due_times, tick_nine}
use Rattle.promises.proofs.Viewing.{named_at, named_none, own_sole}

-- ---- a release

-- What it is for a record to be seen prepared.
pub prepared_means : (p n admitted : ℕ) (r : Entry) → out_of p r ≡ Prepared n admitted → (r.state ≡ 2) × (eqb r.neighbour p ≡ true) × (r.new.0 ≡ n)
prepared_means p n admitted r prepared =
    by_cases (eqb r.state 1 && eqb r.neighbour p)
    (λ t. let never : Preparing ≡ Prepared n admitted = rw t at prepared in clash cc)
    (λ t. by_cases (eqb r.state 2 && eqb r.neighbour p)
    (λ u.
    let both = both_true (eqb r.state 2) (eqb r.neighbour p) u in
    let same : Prepared r.new.0 r.admitted ≡ Prepared n admitted = rw (t, u) at prepared in
    (eqb-true r.state 2 both.0, both.1, (cc)))
    (λ u. absurd (false≢true (ap some_out (rw (t, u) at prepared)))))

-- the release with a neighbour and both IDs
abbrev release : ℕ → ℕ → ℕ → Record
release p i n = message 5 p i n 0 0 0

module _ (s : Station) (sound : Sound s) (p i n j : ℕ) (place : j < 64) (its : own_is i (get_or s.entries j blank) ≡ true)
    (two : (get_or s.entries j blank).state ≡ 2) (of : eqb (get_or s.entries j blank).neighbour p ≡ true) (new : (get_or s.entries j blank).new.0 ≡ n) where
  -- The release with a prepared record's neighbour and both its IDs is about that record.
  mine : about (release p i n) (get_or s.entries j blank) ≡ true
  mine =
      let x = get_or s.entries j blank in
      let old : eqb x.old.0 i ≡ true = by_cases (eqb x.old.0 i) (λ t. t) (λ t. absurd (false≢true (rw (two, t) at its))) in
      rw (two, of, old, eq-eqb x.new.0 n new)

  -- So it finds it.
  release_finds : find (about (release p i n)) s ≡ Some j
  release_finds =
      let its_own = about (release p i n) in
      by_found (find its_own s)
      (λ none. absurd (true≢false (sym mine ∙ none_at its_own s.entries j (omega (arith, sound.places)) (found_none its_own s.entries none))))
      (λ k found.
      found ∙ ap Some (about_once (release p i n) (omega arith) (omega arith) s sound k j (found_place s sound its_own k found) place (found_here its_own s k found).1 mine))

-- Where its place is free, no record has its own ID.
pub gone : (s : Station) → Sound s → (i j : ℕ) → j < 64 → own_is i (get_or s.entries j blank) ≡ true → Sound (put j blank s) → named i (put j blank s) ≡ blank
gone s sound i j place its after =
    named_none (put j blank s) after i
    (set_each (λ k x. k < 64 → own_is i x ≡ false) s.entries j blank (omega (arith, sound.places)) (λ _. refl)
    (λ k apart h. by_cases (own_is i (get_or s.entries k blank)) (λ u. absurd (apart (own_sole s sound i k j h place u its))) (λ u. u)))

module _ {s : Station} (reached : Reached s) (bearers : List ℕ) (room : ℕ) where
  -- So the record is moved.
  release_taken : (p i n admitted : ℕ) → out s p i ≡ Prepared n admitted
      → (out (step_of s (release p i n) bearers room).station p i ≡ NotOut) × (ending (step_of s (release p i n) bearers room) ≡ 3)
  unfolding out
  release_taken p i n admitted prepared =
      ⊎_elim
      (λ there.
      let j = there.0 in
      let x = get_or s.entries j blank in
      let seen = prepared_means p n admitted x (rw there.3 at prepared) in
      let small = bounded reached j there.1 in
      let mine = eqb-true i (own x) (own_is_lem i x there.2) in
      let formed : well_formed (release p i n) ≡ true =
      rw (used_in_range 31 p (omega (arith, small, eqb-true x.neighbour p seen.1)), used_in_range 4095 i (omega (arith, mine, ((sound reached).fit j there.1).id)), used_in_range 4095 n (omega (arith, small, seen.2))) in
      let step = row_step s (release p i n) bearers room formed j 5 refl (release_finds s (sound reached) p i n j there.1 there.2 seen.0 seen.1 seen.2) seen.0 in
      let after : Sound (put j blank s) = rw step at (sound_step (sound reached) (release p i n) bearers room) in
      rw step (rw (gone s (sound reached) i j there.1 there.2 after), refl))
      (λ free. absurd (false≢true (ap some_out (rw free.1 at prepared))))
      (named_at s (sound reached) i)

  pub takes_of : (e : Record) (p i n admitted : ℕ) → e ≡ message 5 p i n 0 0 0 → out s p i ≡ Prepared n admitted → (out (step_of s e bearers room).station p i ≡ NotOut) × (ending (step_of s e bearers room) ≡ 3)
  takes_of e p i n admitted is prepared =
      subst (λ (m : Record). (out (step_of s m bearers room).station p i ≡ NotOut) × (ending (step_of s m bearers room) ≡ 3)) (sym is) (release_taken p i n admitted prepared)

-- ---- a tick

due_means : (p d : ℕ) (r : Entry) → due_of p r ≡ Some d → (leb 1 r.state && leb r.state 3 ≡ true) × (r.deadline ≡ d)
due_means p d r timer =
    by_cases (leb 1 r.state && leb r.state 3 && eqb r.neighbour p)
    (λ t. let same : Some r.deadline ≡ Some d = rw t at timer in ((both_true (leb 1 r.state && leb r.state 3) (eqb r.neighbour p) t).0, (cc)))
    (λ t. absurd (cc (rw t at timer)))

-- A tick that finds a record with a deadline not due is before it.
not_due : (e : Record) (r : Entry) → e.kind ≡ 15 → leb 1 r.state && leb r.state 3 ≡ true → due_times e r ≡ 0 → e.time < r.deadline
not_due e r fifteen timed zero_times =
    by_cases (leb r.deadline e.time)
    (λ t. let one : ◌≡◌ {A = ℕ} 1 0 = rw (fifteen, timed, t) at zero_times in absurd (omega arith))
    (λ t. leb-false r.deadline e.time t)

-- So one with reply 9 is before every deadline.
pub nine_of : (s : Station) → Sound s → (e : Record) (bearers : List ℕ) (room p i d : ℕ) → e.kind ≡ 15 → (step_of s e bearers room).outcome.reply ≡ 9 → due s p i ≡ Some d → e.time < d
unfolding due
nine_of s sound e bearers room p i d fifteen nine timer =
    by_cases (well_formed e)
    (λ formed.
    ⊎_elim
    (λ there.
    let x = get_or s.entries there.0 blank in
    let seen = due_means p d x (rw there.3 at timer) in
    let one = total_at (due_times e) s.entries there.0 blank (omega (arith, there.1, sound.places)) in
    let before = not_due e x fifteen seen.0 (omega (arith, one, tick_nine e fifteen formed s bearers room nine)) in
    omega (arith, before, seen.1))
    (λ free. absurd (cc (rw free.1 at timer)))
    (named_at s sound i))
    (λ malformed.
    let is = sym (ap (λ (a : Answer). a.outcome.reply) (malformed_step s e bearers room malformed)) ∙ nine in
    absurd (omega (arith, is, (flaw_in_listed e).0)))
