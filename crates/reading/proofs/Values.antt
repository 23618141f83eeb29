-- The part of a message that is handed back for an id holds the value that its record has.
use Rattle.std.proofs.Common.{◌≡◌, ℕ, ◌+◌, ◌<◌, ◌≤◌, true, cond, Option, Some, None, Ok, Err, is_ok, List, [], ◌∷◌, length, take, drop, get_or, eqb, refl, sym, ap, ◌∙◌, arith}
use Rattle.std.specs.Prelude.{option_map}
use Rattle.std.proofs.lemmas.List.{drop_more}
use Rattle.laws.proofs.Tests.{clash}
use Rattle.records.specs.declared.Record.{Record}
use Rattle.wire.specs.Parts.{Ie, ies_of, part_of, value_for}
use Rattle.wire.specs.declared.Part.{Part}
use Rattle.wire.specs.declared.Shape.{Shape}
use Rattle.wire.specs.declared.Shape.TheVariants.{Release, Cancel, ShortCancel}
use Rattle.wire.proofs.Parts.{by_id, part_inside}
use Rattle.reading.specs.Reading.{shape_of, Judgement, judged_of, record_in, record_of, part_taken, value_of}
use Rattle.reading.proofs.Order.{InOrder, in_order}
use Rattle.reading.proofs.RoundTrip.{size_is, cause_told, release_octets, cancel_octets, short_octets}

-- ---- where it stands

was_ok : (j : Judgement) → is_ok j ≡ true → j ≡ Ok tt
was_ok (Ok u) t = refl
was_ok (Err e) t = clash (cc t)

-- inside the message
pub value_inside : (m : List ℕ) (id : ℕ) (p : Part) (j : Judgement) → j ≡ judged_of m → is_ok j ≡ true → (s : Shape) → s ≡ shape_of m → Some p ≡ part_of s id → p.at + p.size ≤ length m
value_inside m id p j is ok s shape part =
    let order = in_order m (sym is ∙ was_ok j ok) in
    let inside = rw (← part) at (part_inside s id) in
    omega (arith, inside, size_is m order s (sym shape))

-- ---- what it holds

-- the value of an IE of a list, by its id, if the list has it
abbrev pub value_in : List Ie → Record → ℕ → Option (List ℕ)
value_in [] r id = None
value_in (ie ∷ rest) r id = cond (eqb id ie.id) (Some (value_for r id)) (value_in rest r id)

-- one octet
one : (m : List ℕ) (at : ℕ) → at < length m → take 1 (drop at m) ≡ get_or m at 0 ∷ []
one m at h = ap (take 1) (drop_more m at 0 h)

module _ (m : List ℕ) (neighbour : ℕ) (order : InOrder m) where
  cause_held : shape_of m ≡ Cancel → Some (take 1 (drop 23 m)) ≡ Some (value_for (record_in Cancel m neighbour) 5)
  cause_held is = rw (cause_told m order Cancel is 23 refl refl refl) (ap Some (one m 23 (omega (arith, size_is m order Cancel is))))

  short_held : shape_of m ≡ ShortCancel → Some (take 1 (drop 17 m)) ≡ Some (value_for (record_in ShortCancel m neighbour) 5)
  short_held is = rw (cause_told m order ShortCancel is 17 refl refl refl) (ap Some (one m 17 (omega (arith, size_is m order ShortCancel is))))

held_as : (m : List ℕ) (neighbour id : ℕ) → InOrder m → (s : Shape) → shape_of m ≡ s → option_map (part_taken m) (part_of s id) ≡ value_in (ies_of s) (record_in s m neighbour) id
held_as m neighbour id order Release is =
    let same = sym (release_octets m neighbour order is) in
    by_id id (λ e. rw e (ap (λ (x : List ℕ). Some (take 2 (drop 11 x))) same)) (λ e. rw e (ap (λ (x : List ℕ). Some (take 2 (drop 17 x))) same)) (λ e. rw e) (λ a b d. rw (a, b))
held_as m neighbour id order Cancel is =
    let same = sym (cancel_octets m neighbour order is) in
    by_id id (λ e. rw e (ap (λ (x : List ℕ). Some (take 2 (drop 11 x))) same)) (λ e. rw e (ap (λ (x : List ℕ). Some (take 2 (drop 17 x))) same)) (λ e. rw e (cause_held m neighbour order is)) (λ a b d. rw (a, b, d))
held_as m neighbour id order ShortCancel is =
    let same = sym (short_octets m neighbour order is) in
    by_id id (λ e. rw e (ap (λ (x : List ℕ). Some (take 2 (drop 11 x))) same)) (λ e. rw e) (λ e. rw e (short_held m neighbour order is)) (λ a b d. rw (a, d))

-- For every id, an absent one too: of a message that is in order, the part that is handed back is the value in its record.
pub value_held : (m : List ℕ) (neighbour id : ℕ) → judged_of m ≡ Ok tt → value_of m id ≡ value_in (ies_of (shape_of m)) (record_of m neighbour) id
value_held m neighbour id order = rw order (held_as m neighbour id (in_order m order) (shape_of m) refl)
