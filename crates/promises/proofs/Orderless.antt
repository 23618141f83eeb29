-- Where in the table a neighbour's records stand does not matter.
use Rattle.std.specs.Prelude.{Option, Some, None}
use Prim.Native.Nat.{ℕ, ◌+◌, ◌≤◌, ◌<◌}
use mathlib.Core.Path.{◌≡◌, refl, ◌∙◌, sym, ap, subst}
use mathlib.Core.Bool.{Bool, true, false, not, ◌&&◌, ◌||◌, true≢false, false≢true}
use mathlib.Core.List.{List}
use borrow.Author.Tests.{eqb-true, eqb-false, eq-eqb, le-leb, leb-true, not-true}
use native.Mathlib.Omega.{arith}
use lib.Dec.{leb, eqb}
use lib.ListN.{length, get_or, set, length-set}
use lib.Seq.{get_or-set_same, get_or-set_other}
use Rattle.laws.proofs.Sums.{total_at, total_set}
use Rattle.laws.specs.Sums.{total}
use Rattle.laws.proofs.Tests.{by_cases, both_true, below_at}
use Rattle.records.specs.declared.Record.{Record}
use Rattle.table.specs.declared.Answer.{Answer}
use Rattle.handover.specs.declared.Decision.{Decision}
use Rattle.handover.specs.declared.Entry.{Entry}
use Rattle.table.specs.declared.Station.{Station}
use Rattle.handover.specs.Events.{about, resets, decide, key}
use Rattle.fields.specs.declared.Sort.TheVariants.{AllOfNeighbour}
use Rattle.fields.specs.Fields.{sort_of, well_formed}
use Rattle.handover.specs.Numbers.{is_free, blank, own}
use Rattle.table.specs.Sound.{Sound, own_times, held_times}
use Rattle.table.specs.Step.{about_one, carried, step_of}
use Rattle.table.specs.Table.{find, put, left_of, reset}
use Rattle.table.proofs.Counting.{own_itself}
use Rattle.places.proofs.Finding.{found_none}
use Rattle.table.proofs.Finding.{found_here, set_each}
use Rattle.handover.proofs.Keys.{is_of, keyed_means}
use Rattle.promises.proofs.Neighbours.{by_message, decide_deadline}
use Rattle.table.proofs.Placing.{found_place}
use Rattle.table.proofs.Resetting.{reset_at}
use Rattle.promises.proofs.Rows.{step_reset, response_step}
use Rattle.handover.proofs.Senders.{about_of}
use Rattle.promises.proofs.Strangers.{answers_concern, step_about}
use Rattle.table.proofs.Tally.{none_at}

-- every record of a neighbour that one station has stands in another, at the place that is told
abbrev pub Has : (ℕ → ℕ) → ℕ → Station → Station → Type 0
Has to n s t = (i : ℕ) → i < 64 → is_of n (get_or s.entries i blank) ≡ true → (to i < 64) × (get_or t.entries (to i) blank ≡ get_or s.entries i blank)

-- two stations have the same records of a neighbour, wherever they stand: a place of the one is told for each of the other
pub record Same (to from : ℕ → ℕ) (n : ℕ) (s t : Station) : Type 0 where
  pub there : Has to n s t
  pub back : Has from n t s

-- ---- a record is found at one place only

-- What at most one record counts for, two places do not.
pub once_at : (f : Entry → ℕ) (rs : List Entry) (i j : ℕ) → f blank ≡ 0 → i < length rs → j < length rs → total f rs ≤ 1 → f (get_or rs i blank) ≡ 1 → f (get_or rs j blank) ≡ 1 → i ≡ j
once_at f rs i j none h k once first second =
    by_cases (eqb j i) (λ t. sym (eqb-true j i t))
    (λ t.
    let less = total_set f rs i blank blank h in
    let more = total_at f (set rs i blank) j blank (omega (arith, length-set rs i blank)) in
    absurd (omega (arith, rw (get_or-set_other rs i j blank blank (eqb-false j i t)) at more)))

-- By one test of the table of keys: the kinds 2 to 6 compare neighbour and Old ID, and look at outgoing records or at held ones.
abbrev looks_out : ℕ → Bool
looks_out k = leb 1 (key k 0) && leb (key k 1) 2

abbrev looks_held : ℕ → Bool
looks_held k = eqb (key k 0) 3 && eqb (key k 1) 3

abbrev telling : ℕ → Bool
telling k = not (eqb (key k 2) 0) && not (eqb (key k 3) 0) && (looks_out k || looks_held k)

tells : (k : ℕ) → 2 ≤ k → k ≤ 6 → (eqb (key k 2) 0 ≡ false) × (eqb (key k 3) 0 ≡ false) × ((looks_out k || looks_held k) ≡ true)
tells k low high =
    let all : telling k ≡ true = rw (le-leb 2 k low, le-leb k 6 high) at (below_at 7 (λ j. not (leb 2 j && leb j 6) || telling j) k refl (omega arith)) in
    let both = both_true (not (eqb (key k 2) 0) && not (eqb (key k 3) 0)) (looks_out k || looks_held k) all in
    let each = both_true (not (eqb (key k 2) 0)) (not (eqb (key k 3) 0)) both.0 in
    (not-true (eqb (key k 2) 0) each.0, not-true (eqb (key k 3) 0) each.1, both.1)

module _ (e : Record) (low : 2 ≤ e.kind) (high : e.kind ≤ 6) where
  -- So a record that such an event is about is an outgoing one of its Old ID, or one held for its neighbour and its Old ID.
  outgoing_told : (r : Entry) → looks_out e.kind ≡ true → about e r ≡ true → own_times e.old.0 r ≡ 1
  outgoing_told r outgoing t =
      let keys = keyed_means (key e.kind) e r t in
      let both = both_true (leb 1 (key e.kind 0)) (leb (key e.kind 1) 2) outgoing in
      let least = leb-true 1 (key e.kind 0) both.0 in
      let most = leb-true (key e.kind 1) 2 both.1 in
      let old : eqb r.old.0 e.old.0 ≡ true = rw (tells e.kind low high).1 at keys.old in
      rw (le-leb 1 r.state (omega arith), le-leb r.state 2 (omega arith), old)

  held_told : (r : Entry) → looks_held e.kind ≡ true → about e r ≡ true → held_times e.neighbour e.old.0 r ≡ 1
  held_told r held t =
      let keys = keyed_means (key e.kind) e r t in
      let both = both_true (eqb (key e.kind 0) 3) (eqb (key e.kind 1) 3) held in
      let least = eqb-true (key e.kind 0) 3 both.0 in
      let most = eqb-true (key e.kind 1) 3 both.1 in
      let three : r.state ≡ 3 = omega arith in
      let neighbour : eqb r.neighbour e.neighbour ≡ true = rw (tells e.kind low high).0 at keys.neighbour in
      let old : eqb r.old.0 e.old.0 ≡ true = rw (tells e.kind low high).1 at keys.old in
      rw (eq-eqb r.state 3 three, neighbour, old)

  -- An acknowledge, failure, status, release or cancel is about one record of a sound station at the most.
  pub about_once : (s : Station) → Sound s → (i j : ℕ) → i < 64 → j < 64 → about e (get_or s.entries i blank) ≡ true → about e (get_or s.entries j blank) ≡ true → i ≡ j
  about_once s sound i j h k first second =
      let inside : i < length s.entries = omega (arith, sound.places) in
      let within : j < length s.entries = omega (arith, sound.places) in
      let x = get_or s.entries i blank in
      let y = get_or s.entries j blank in
      by_cases (looks_out e.kind)
      (λ u. once_at (own_times e.old.0) s.entries i j refl inside within (sound.distinct e.old.0) (outgoing_told x u first) (outgoing_told y u second))
      (λ u.
      let held : looks_held e.kind ≡ true = rw u at (tells e.kind low high).2 in
      once_at (held_times e.neighbour e.old.0) s.entries i j refl inside within (sound.unique e.neighbour e.old.0) (held_told x held first) (held_told y held second))

-- A record stands at one place of a sound station only.
pub stands_once : (s : Station) → Sound s → (i j : ℕ) → i < 64 → j < 64 → is_free (get_or s.entries i blank) ≡ false → get_or s.entries j blank ≡ get_or s.entries i blank → i ≡ j
stands_once s sound i j h k used same =
    let x = get_or s.entries i blank in
    let one = own_itself x used in
    once_at (own_times (own x)) s.entries i j refl (omega (arith, sound.places)) (omega (arith, sound.places)) (sound.distinct (own x)) one (rw same one)

-- ---- one record is put in its place in both

pub of_used : (n : ℕ) (r : Entry) → is_of n r ≡ true → is_free r ≡ false
of_used n r t = not-true (is_free r) (both_true (not (is_free r)) (eqb r.neighbour n) t).0

has_put : (to : ℕ → ℕ) (n : ℕ) (s t : Station) → Sound s → Sound t → (i j : ℕ) (r : Entry) → i < 64 → j < 64 → to i ≡ j → get_or t.entries j blank ≡ get_or s.entries i blank
    → Has to n s t → Has to n (put i r s) (put j r t)
has_put to n s t sound other i j r h k place same has =
    set_each (λ p x. p < 64 → is_of n x ≡ true → (to p < 64) × (get_or (set t.entries j r) (to p) blank ≡ x)) s.entries i r (omega (arith, sound.places))
    (λ _ _. rw place (k, get_or-set_same t.entries j r blank (omega (arith, other.places))))
    (λ p apart small of.
    let found = has p small of in
    let elsewhere : to p ≡ j → ⊥ = λ here. apart (stands_once s sound p i small h (of_used n (get_or s.entries p blank) of) (sym same ∙ rw here at found.1)) in
    (found.0, get_or-set_other t.entries j (to p) r blank elsewhere ∙ found.1))

-- ---- the answer

-- the same answer, and the same records of the neighbour afterwards, at the places that are told
pub record SameAnswer (to from : ℕ → ℕ) (n : ℕ) (a b : Answer) : Type 0 where
  pub outcome : a.outcome ≡ b.outcome
  pub records : Same to from n a.station b.station

module _ (e : Record) (low : 2 ≤ e.kind) (high : e.kind ≤ 6) where
  module _ (to : ℕ → ℕ) (s t : Station) (sound : Sound s) (other : Sound t) (has : Has to e.neighbour s t) (i : ℕ) (found : find (about e) s ≡ Some i) where
    -- What the one station finds, the other has, and the event is about it there too.
    twin : (to i < 64) × (get_or t.entries (to i) blank ≡ get_or s.entries i blank) × (about e (get_or t.entries (to i) blank) ≡ true)
    twin =
        let mine = (found_here (about e) s i found).1 in
        let there = has i (found_place s sound (about e) i found) (about_of e (get_or s.entries i blank) (answers_concern e.kind low high) mine) in
        (there.0, there.1, ap (about e) there.1 ∙ mine)

    -- So it finds that.
    not_nothing : find (about e) t ≡ None → ⊥
    not_nothing none = true≢false (sym twin.2 ∙ none_at (about e) t.entries (to i) (omega (arith, twin.0, other.places)) (found_none (about e) t.entries none))

    no_other : (j : ℕ) → find (about e) t ≡ Some j → to i ≡ j
    no_other j there = about_once e low high t other (to i) j twin.0 (found_place t other (about e) j there) twin.2 (found_here (about e) t j there).1

  module _ (to from : ℕ → ℕ) (s t : Station) (sound : Sound s) (other : Sound t) (same : Same to from e.neighbour s t) (timer : e.kind ≡ 2 → s.clock + s.settings.overall ≡ t.clock + t.settings.overall) where
    answers : (f g : Option ℕ) → find (about e) s ≡ f → find (about e) t ≡ g → SameAnswer to from e.neighbour (about_one e f s) (about_one e g t)
    answers None None _ _ = record { outcome = refl; records = same }
    answers None (Some j) none found = absurd (not_nothing from t s other sound same.back j found none)
    answers (Some i) None found none = absurd (not_nothing to s t sound other same.there i found none)
    answers (Some i) (Some j) first second =
        let here = found_place s sound (about e) i first in
        let there = found_place t other (about e) j second in
        let place = no_other to s t sound other same.there i first j second in
        let home = no_other from t s other sound same.back j second i first in
        let x = get_or s.entries i blank in
        let equal : get_or t.entries j blank ≡ x = rw place at (twin to s t sound other same.there i first).1 in
        let d = decide e x (s.clock + s.settings.overall) in
        let decided : d ≡ decide e (get_or t.entries j blank) (t.clock + t.settings.overall) = decide_deadline e x (s.clock + s.settings.overall) (t.clock + t.settings.overall) timer ∙ ap (λ (r : Entry). decide e r (t.clock + t.settings.overall)) (sym equal) in
        subst (λ (c : Decision). SameAnswer to from e.neighbour (carried i d s) (carried j c t)) decided
        (record {
          outcome = refl;
          records = record {
            there = has_put to e.neighbour s t sound other i j d.entry here there place equal same.there;
            back = has_put from e.neighbour t s other sound j i d.entry there here home (sym equal) same.back;
          };
        })

-- A reset leaves the same records of a neighbour where they were the same.
has_reset : (to : ℕ → ℕ) (n : ℕ) (e : Record) (s t : Station) → Has to n s t → Has to n (reset e s) (reset e t)
has_reset to n e s t has p small mine =
    let x = get_or s.entries p blank in
    let left : is_of n (left_of e x) ≡ true = rw (reset_at e s p) at mine in
    by_cases (resets e x) (λ u. absurd (false≢true (rw u at left)))
    (λ u.
    let found = has p small (rw u at left) in
    (found.0, reset_at e t (to p) ∙ ap (left_of e) found.1 ∙ sym (reset_at e s p)))

module _ (to from : ℕ → ℕ) (s t : Station) (e : Record) (bearers more : List ℕ) (room space : ℕ) (same : Same to from e.neighbour s t) where
  -- A reset, and the loss of a neighbour, are answered the same by every station, and where two have the same records of that neighbour,
  -- they have the same afterwards.
  pub reset_depends_on_none : well_formed e ≡ true → sort_of e.kind ≡ AllOfNeighbour → SameAnswer to from e.neighbour (step_of s e bearers room) (step_of t e more space)
  reset_depends_on_none formed kinds =
      rw (step_reset s e bearers room formed kinds, step_reset t e more space formed kinds)
      (record { outcome = refl; records = record { there = has_reset to e.neighbour e s t same.there; back = has_reset from e.neighbour e t s same.back } })

  -- A message of kinds 2 to 8, well formed or not, is answered by its sender's records alone, wherever they stand, and, if it is an
  -- acknowledge, by the clock and the overall timer: two stations with the same of these answer the same, and have the same records of
  -- that neighbour afterwards, where they had them.
  pub message_depends_on_sender : Sound s → Sound t → 2 ≤ e.kind → e.kind ≤ 8 → (e.kind ≡ 2 → (s.clock ≡ t.clock) × (s.settings.overall ≡ t.settings.overall))
      → SameAnswer to from e.neighbour (step_of s e bearers room) (step_of t e more space)
  message_depends_on_sender sound other low high timer =
      by_message e high
      (λ malformed. rw malformed (record { outcome = refl; records = same }))
      (λ formed most.
      rw (step_about s e bearers room formed low most, step_about t e more space formed low most)
      (answers e low most to from s t sound other same (λ two. omega (arith, timer two)) (find (about e) s) (find (about e) t) refl refl))
      (λ formed seven. reset_depends_on_none formed (ap sort_of seven))
      (λ formed eight. rw (response_step s e bearers room formed eight, response_step t e more space formed eight) (record { outcome = refl; records = same }))
