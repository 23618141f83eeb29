-- What the theorem of two stations supposes is needed: where somebody else uses the other's number, or a message under way is altered or
-- doubled, once and no more, its conclusion is false of a run, computed with the real step.
use Prim.Native.Nat.{ℕ}
use mathlib.Core.Path.{◌≡◌, refl, sym, ap, ◌∙◌, subst}
use mathlib.Core.Bool.{true, false, ◌&&◌, false≢true}
use mathlib.Core.List.{List, [], ◌∷◌}
use native.Mathlib.Omega.{arith}
use Rattle.laws.proofs.Tests.{both_true}
use Rattle.records.specs.Record.{InRange}
use Rattle.records.specs.declared.Record.{Record}
use Rattle.handover.specs.Events.{message}
use Rattle.promises.specs.Views.{Prepared, out}
use Rattle.pair.specs.Theorem.{AsFixed, Settled, AtRest}
use Rattle.pair.specs.World.{Side, A, B, Refused, Fixed, Handover, Envelope, World, Bounded, Run, with_queue}
use Rattle.pair.proofs.Runs.{peer, both, history, fresh, starts, grants, answered, unanswered, arrives}
use Rattle.pair.proofs.Scripts.{Move, does, after, in_range_lem, is_bounded, bounded, played, playable, Steps, steps, run_on}
use Rattle.pair.proofs.Settling.{is_settled, settled}

-- ---- what is supposed not to happen

abbrev pub altered : Record → List Envelope → List Envelope
altered other [] = []
altered other (m ∷ ms) = record { message = other; tag = m.tag; stamp = m.stamp } ∷ ms

abbrev pub doubled : List Envelope → List Envelope
doubled [] = []
doubled (m ∷ ms) = m ∷ m ∷ ms

-- against "a number nobody else uses": an event is taken that is no message under way, whatever number it has
abbrev pub Forges : World → World → Type 0
Forges w w' = (s : Side) × (e : Record) × InRange e × (w' ≡ after peer w (does s e))

-- against "unaltered": the oldest message under way becomes another
abbrev pub Alters : World → World → Type 0
Alters w w' = (s : Side) × (m : Record) × (w' ≡ with_queue w s (altered m (w.queue s)))

-- against "at most once": there are two of the oldest message under way
abbrev pub Doubles : World → World → Type 0
Doubles w w' = (s : Side) × (w' ≡ with_queue w s (doubled (w.queue s)))

-- ---- runs in which it happens

-- once, and then a conclusion is false
pub record Breaks (Breach : World → World → Type 0) (Conclusion : World → Type 0) : Type 0 where
  pub before : World
  pub run : Run peer before
  pub then : World
  pub breach : Breach before then
  pub bounded : Bounded then
  pub world : World
  pub steps : Steps peer then world
  pub fails : Conclusion world → ⊥

module _ {Breach : World → World → Type 0} {Conclusion : World → Type 0} where
  breaks : (script rest : List Move) (then : World) → playable peer both script ≡ true → Breach (played peer both script) then
      → (is_bounded then && playable peer then rest) ≡ true → (Conclusion (played peer then rest) → ⊥) → Breaks Breach Conclusion
  breaks script rest then t breach u fails =
      let parts = both_true (is_bounded then) (playable peer then rest) u in
      record {
        before = played peer both script;
        run = run_on peer fresh (steps peer both script t);
        then = then;
        breach = breach;
        bounded = bounded then parts.0;
        world = played peer then rest;
        steps = steps peer then rest parts.1;
        fails = fails;
      }

-- B fixed 0 for handover 1 of A, which is prepared with 7.
not_as_fixed : (w : World) → out (w.station A) 2 0 ≡ Prepared 7 1 → (w.numbers A).issue_of 0 ≡ 1 → (w.handovers A 1).answer ≡ Fixed 0 1
    → AsFixed peer w A → ⊥
not_as_fixed w prepared issue answer fixed =
    let found = fixed 0 7 1 prepared in
    let other = subst (λ (h : ℕ). (w.handovers A h).answer ≡ Fixed 7 1) (sym found.2 ∙ issue) found.4 in
    let z : ◌≡◌ {A = ℕ} 0 7 = cc in
    omega arith

abbrev pub another : ℕ → Record
another neighbour = message 2 neighbour 0 7 1 0 0

pub number_needed : Breaks Forges (λ w. AsFixed peer w A)
unfolding played playable
number_needed =
    let w = played peer both (starts ∷ grants ∷ []) in
    breaks (starts ∷ grants ∷ []) [] (after peer w (does A (another 2))) refl (A, another 2, in_range_lem (another 2) refl, refl) refl
    (not_as_fixed (after peer w (does A (another 2))) refl refl refl)

pub unaltered_needed : Breaks Alters (λ w. AsFixed peer w A)
unfolding played playable
unaltered_needed =
    let w = played peer both (starts ∷ grants ∷ []) in
    let v = with_queue w B (altered (another 1) (w.queue B)) in
    breaks (starts ∷ grants ∷ []) (answered ∷ []) v refl (B, another 1, refl) refl
    (not_as_fixed (played peer v (answered ∷ [])) refl refl refl)

-- Handover 1 of A failed, although the UE arrived.
not_at_rest : (w : World) → is_settled peer w ≡ true → w.handovers A 1 ≡ history Refused true false 1 → (Settled peer w → AtRest peer w A) → ⊥
not_at_rest w t handover rest =
    let once = (rest (settled peer w t)).ended 1 (ap (λ (k : Handover). k.asked) handover) in
    let other = once.release_missed (ap (λ (k : Handover). k.arrived) handover) (ap (λ (k : Handover). k.released_while_prepared) handover) in
    let end : 1 ∷ [] ≡ once.end ∷ [] = sym (ap (λ (k : Handover). k.endings) handover) ∙ once.one in
    let one : once.end ≡ 1 = cc in
    false≢true (rw one at other)

pub once_needed : Breaks Doubles (λ w. Settled peer w → AtRest peer w A)
unfolding played playable is_settled
once_needed =
    let w = played peer both (starts ∷ []) in
    let v = with_queue w A (doubled (w.queue A)) in
    let rest = grants ∷ arrives ∷ unanswered ∷ unanswered ∷ grants ∷ answered ∷ [] in
    breaks (starts ∷ []) rest v refl (A, refl) refl (not_at_rest (played peer v rest) refl refl)
