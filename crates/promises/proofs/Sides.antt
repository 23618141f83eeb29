-- What is seen of a station after a step that makes no record: as a source, as a target, and of its deadlines.
use Prim.Native.Nat.{ℕ, ◌≤◌, ◌<◌}
use mathlib.Core.Path.{◌≡◌, refl, sym, ◌∙◌}
use mathlib.Core.Bool.{Bool, true, false, ◌&&◌, true≢false}
use mathlib.Core.Logic.{◌⊎◌, inl, inr}
use mathlib.Core.List.{List}
use Rattle.std.specs.Prelude.{Some}
use borrow.Author.Tests.{eqb-true, eq-eqb, ne_eqb, leb-true}
use native.Mathlib.Omega.{arith}
use lib.Dec.{leb, eqb}
use lib.ListN.{get_or}
use Rattle.laws.proofs.Sums.{total_most}
use Rattle.laws.proofs.Tests.{by_cases, both_true, clash, refuted}
use Rattle.records.specs.declared.Record.{Record}
use Rattle.table.specs.declared.Answer.{Answer}
use Rattle.handover.specs.declared.Entry.{Entry}
use Rattle.table.specs.declared.Station.{Station}
use Rattle.handover.specs.Numbers.{is_free, is_outgoing, blank, own_is}
use Rattle.table.specs.Sound.{Sound}
use Rattle.promises.specs.Views.{ids, last, NotOut, Preparing, Prepared, NotHeld, Held, out_of, held_of, due_of, named, out, held, due, sent, ending, to, IssuesNone, Ends, failed, moved, otherwise, Source, readies, keeps, Shrinks, Target, denies, arrives, holds}
use Rattle.table.proofs.Counting.{own_equal}
use Rattle.promises.proofs.Turns.{Turned, Change, stays, stores, prepares, serves, ends, Final, incoming, by_failure, by_release, by_other, Says, other, refuses, releases, is_other}
use Rattle.promises.proofs.Viewing.{passes, count_own, named_is, named_own, over}

-- ---- one record

module _ {e : Record} {z : ℕ} {x : Entry} where
  -- Its own ID stays, unless it ends.
  own_kept : {y : Entry} → Change e z x y → (i : ℕ) → (y ≡ blank) ⊎ (own_is i y ≡ own_is i x)
  own_kept stays i = inr refl
  own_kept stores i = inr refl
  own_kept (prepares deadline _ _ one _ _) i = inr (rw one)
  own_kept (serves three) i = inr (rw three)
  own_kept (ends _ _) i = inl refl

  -- So no test is passed by more own IDs.
  passes_kept : {y : Entry} → Change e z x y → (test : ℕ → Bool) → passes test y ≤ passes test x
  passes_kept stays test = omega arith
  passes_kept stores test = omega arith
  passes_kept (prepares deadline _ _ one _ _) test = rw one (omega arith)
  passes_kept (serves three) test = rw three (omega arith)
  passes_kept (ends _ _) test = omega arith

  -- A held record stays or is held no longer.
  held_kept : {y : Entry} → Change e z x y → (p : ℕ) → (held_of p y ≡ held_of p x) ⊎ (held_of p y ≡ NotHeld)
  held_kept stays p = inl refl
  held_kept stores p = inl refl
  held_kept (prepares deadline _ _ _ _ _) p = inr refl
  held_kept (serves _) p = inr refl
  held_kept (ends _ _) p = inr refl

  -- A deadline stays, or comes with an acknowledge.
  due_kept : {y : Entry} → Change e z x y → (p d : ℕ) → due_of p y ≡ Some d → (due_of p x ≡ Some d) ⊎ ((e.kind ≡ 2) × (e.neighbour ≡ p))
  due_kept stays p d timer = inl timer
  due_kept stores p d timer = inl timer
  due_kept (prepares deadline _ two _ neighbour _) p d timer =
      by_cases (eqb x.neighbour p)
      (λ t. inr (two, sym neighbour ∙ eqb-true x.neighbour p t))
      (λ t. absurd (cc (rw t at timer)))
  due_kept (serves _) p d timer = absurd cc
  due_kept (ends _ _) p d timer = absurd cc

-- ---- outgoing records

-- Where no outgoing record of the neighbour stands, none is seen.
unseen : (p : ℕ) (x : Entry) → (is_outgoing x && eqb x.neighbour p) ≡ false → out_of p x ≡ NotOut
unseen p x other_one =
    by_cases (eqb x.state 1 && eqb x.neighbour p) (never 1 refl)
    (λ t. by_cases (eqb x.state 2 && eqb x.neighbour p) (never 2 refl) (λ u. rw (t, u)))
  where
    never : (k : ℕ) → (leb 1 k && leb k 2) ≡ true → (eqb x.state k && eqb x.neighbour p) ≡ true → out_of p x ≡ NotOut
    never k low t =
        let both = both_true (eqb x.state k) (eqb x.neighbour p) t in
        absurd (true≢false (rw (eqb-true x.state k both.0, both.1, low) at other_one))

-- what is seen, towards a neighbour, of the record found by an own ID: the same as before, or it is prepared now, or it has ended
data Seen (p i : ℕ) (s : Station) (e : Record) (a : Answer) : Type 0 where
  same : out a.station p i ≡ out s p i → Seen p i s e a
  ready : e.kind ≡ 2 → e.neighbour ≡ p → e.old.0 ≡ i → out s p i ≡ Preparing → out a.station p i ≡ Prepared e.new.0 e.first → Seen p i s e a
  gone : (e.kind ≡ 2 → ⊥) → out a.station p i ≡ NotOut → Ends p i s e a → Seen p i s e a

module _ (p i : ℕ) (s : Station) (e : Record) (a : Answer) (x : Entry) (its : is_free x ≡ false → own_is i x ≡ true) (before : out s p i ≡ out_of p x) where
  -- The own ID of an outgoing record is its Old ID.
  old_is : is_outgoing x ≡ true → is_free x ≡ false → x.old.0 ≡ i
  old_is outgoing used = sym (eqb-true i x.old.0 (rw (own_equal i x, used, outgoing) at (its used)))

  -- It ends in one of the three ways.
  ends_as : Final e (ending a) x → is_outgoing x ≡ true → is_free x ≡ false → x.neighbour ≡ p → Ends p i s e a
  ends_as (incoming is) outgoing used of = absurd (true≢false (sym outgoing ∙ is))
  ends_as (by_failure z kind neighbour old) outgoing used of = failed z kind (sym neighbour ∙ of) (sym old ∙ old_is outgoing used)
  ends_as (by_release z kind neighbour old two new) outgoing used of =
      moved x.admitted z kind (sym neighbour ∙ of) (sym old ∙ old_is outgoing used) (before ∙ rw (two, eq-eqb x.neighbour p of, new))
  ends_as (by_other z) outgoing used of = otherwise z

  -- So each change of it is one of the three.
  out_kept : {y : Entry} → Change e (ending a) x y → out a.station p i ≡ out_of p y → Seen p i s e a
  out_kept stays after = same (after ∙ sym before)
  out_kept stores after = same (after ∙ sym before)
  out_kept (prepares deadline _ two one neighbour old) after =
      by_cases (eqb x.neighbour p)
      (λ t. ready two (sym neighbour ∙ eqb-true x.neighbour p t) (sym old ∙ old_is (rw one) (rw one)) (before ∙ rw (one, t)) (after ∙ rw t))
      (λ t. same (after ∙ rw t (sym (before ∙ rw (one, t)))))
  out_kept (serves three) after = same (after ∙ sym (before ∙ rw three))
  out_kept (ends kind final) after =
      by_cases (is_outgoing x && eqb x.neighbour p)
      (λ t.
      let both = both_true (is_outgoing x) (eqb x.neighbour p) t in
      let low = leb-true 1 x.state (both_true (leb 1 x.state) (leb x.state 2) both.0).0 in
      gone kind after (ends_as final both.0 (ne_eqb x.state 0 (λ z. omega arith)) (eqb-true x.neighbour p both.1)))
      (λ t. same (after ∙ sym (before ∙ unseen p x t)))

-- ---- what is said

-- A message of another kind than the four is of none of them.
not_said : (m : Record) (k : ℕ) → is_other m.kind ≡ true → is_other k ≡ false → eqb m.kind k ≡ false
not_said m k is four =
    refuted (eqb m.kind k) (λ t. true≢false (sym is ∙ rw (eqb-true m.kind k t) four))

-- Neither a request nor an acknowledge is sent.
pub nothing_new : {rs : List Entry} {e m : Record} {reply : ℕ} → Says rs e reply m → (eqb m.kind 1 ≡ false) × (eqb m.kind 2 ≡ false)
nothing_new {m = m} (other is) = (not_said m 1 is refl, not_said m 2 is refl)
nothing_new (refuses reply _ said) = rw said (refl, refl)
nothing_new (releases j _ _ _ _ _ said) = rw said (refl, refl)

-- ---- the step

module _ (s : Station) (sound : Sound s) (e : Record) (a : Answer) (after : Sound a.station) (t : Turned s e a) where
  -- What holds of the records at each place holds of those found by each own ID.
  changed : (i : ℕ) → Change e (ending a) (named i s) (named i a.station)
  changed i = over s a.station sound after i (Change e (ending a)) stays (λ j h _. t.change j h) (λ j h. own_kept (t.change j h) i)

  pub turned_issues_none : IssuesNone s a
  unfolding ids last
  turned_issues_none =
      record {
        latest = t.last;
        fewer = λ test.
            let across = total_most (passes test) (passes test) a.station.entries s.entries blank (after.places ∙ sym sound.places) (λ j h. passes_kept (t.change j (omega (arith, after.places))) test) in
            omega (arith, count_own test s.entries, count_own test a.station.entries);
      }

  pub turned_due : (p i d : ℕ) → due a.station p i ≡ Some d → (due s p i ≡ Some d) ⊎ ((e.kind ≡ 2) × (e.neighbour ≡ p))
  unfolding due
  turned_due p i d timer = due_kept (changed i) p d timer

  shrinks : (p : ℕ) → Shrinks p s a
  unfolding held
  shrinks p j = held_kept (changed j) p

  seen_out : (p i : ℕ) → Seen p i s e a
  unfolding out
  seen_out p i = out_kept p i s e a (named i s) (named_own s sound i) refl (changed i) refl

  -- Either the record with the Old ID of an acknowledge is prepared, and all others are seen as before, or none is.
  pub turned_source : (p : ℕ) → to 1 p a ≡ false → Source p s e a
  turned_source p silent = at_old (seen_out p e.old.0)
    where
      others : e.kind ≡ 2 → (j : ℕ) → (j ≡ e.old.0 → ⊥) → Seen p j s e a → out a.station p j ≡ out s p j
      others two j apart (same there) = there
      others two j apart (ready _ _ old _ _) = absurd (apart (sym old))
      others two j apart (gone kind _ _) = absurd (kind two)

      each : (e.kind ≡ 2 → out s p e.old.0 ≡ Preparing → out a.station p e.old.0 ≡ Prepared e.new.0 e.first → ⊥)
          → (i : ℕ) → Seen p i s e a → (out a.station p i ≡ out s p i) ⊎ ((out a.station p i ≡ NotOut) × Ends p i s e a)
      each never i (same there) = inl there
      each never i (ready two _ old before now) = absurd (never two (rw old before) (rw old now))
      each never i (gone _ there how) = inr (there, how)

      at_old : Seen p e.old.0 s e a → Source p s e a
      at_old (same there) =
          keeps (record { silent = silent; each = λ i. each (λ _ before now. clash cc) i (seen_out p i) })
      at_old (ready two neighbour _ before now) =
          readies (record { silent = silent; kind = two; neighbour = neighbour; before = before; after = now; others = λ j apart. others two j apart (seen_out p j) })
      at_old (gone kind _ _) = keeps (record { silent = silent; each = λ i. each (λ two _ _. kind two) i (seen_out p i) })

  -- The record whose UE arrived is found by the New ID.
  arrived : (p j : ℕ) → j < 64 → (get_or s.entries j blank).state ≡ 3 → (get_or s.entries j blank).new.0 ≡ e.new.0 → eqb (get_or s.entries j blank).neighbour p ≡ true
      → held s p e.new.0 ≡ Held (get_or s.entries j blank).old.0 (get_or s.entries j blank).admitted
  unfolding held
  arrived p j h three new of =
      let x = get_or s.entries j blank in
      rw (named_is s sound e.new.0 j h (rw three (eq-eqb x.new.0 e.new.0 new)), three, of)

  -- A failure goes out for the neighbour's request, a release for a record that was held for it.
  pub turned_target : (p : ℕ) → Target p s e a
  turned_target p = by_word t.says
    where
      by_word : Says s.entries e a.outcome.reply (sent a) → Target p s e a
      by_word (other is) =
          holds (record {
            no_acknowledge = rw (not_said (sent a) 2 is refl);
            no_failure = rw (not_said (sent a) 3 is refl);
            no_release = rw (not_said (sent a) 5 is refl);
            shrinks = shrinks p;
          })
      by_word (refuses reason one said) =
          by_cases (eqb e.neighbour p)
          (λ u. denies (record { failure = rw (said, u); kind = one; neighbour = eqb-true e.neighbour p u; old = rw said; shrinks = shrinks p }))
          (λ u. holds (record { no_acknowledge = rw said; no_failure = rw (said, u); no_release = rw said; shrinks = shrinks p }))
      by_word (releases j h eleven three new done said) =
          let x = get_or s.entries j blank in
          by_cases (eqb x.neighbour p)
          (λ u. arrives (record {
            release = rw (said, u);
            word = rw (said, eqb-true x.neighbour p u);
            done = done;
            kind = eleven;
            new = rw said (sym new);
            admitted = x.admitted;
            before = rw said (arrived p j h three new u);
            shrinks = shrinks p;
          }))
          (λ u. holds (record { no_acknowledge = rw said; no_failure = rw said; no_release = rw (said, u); shrinks = shrinks p }))
