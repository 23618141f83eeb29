-- Order and the limit are needed too. What they keep apart are two handovers with the same own IDs, so in both runs an own ID comes round:
-- after own ID 0 a station issues all the others, and then 0 again.
use Prim.Native.Nat.{ℕ}
use mathlib.Core.Path.{◌≡◌, refl, sym, ap, ◌∙◌, subst}
use mathlib.Core.Bool.{true, false, false≢true}
use mathlib.Core.List.{List, [], ◌∷◌}
use native.Mathlib.Omega.{arith}
use Rattle.handover.specs.declared.Entry.{Entry}
use Rattle.handover.specs.Events.{message, prepared}
use Rattle.handover.specs.Numbers.{held}
use Rattle.promises.specs.Views.{Prepared, out}
use Rattle.pair.specs.Theorem.{Empty, AsFixed, Settled, AtRest}
use Rattle.pair.specs.World.{Side, A, B, Silent, Fixed, Handover, Envelope, World, with_queue, Course, next, Run}
use Rattle.pair.proofs.Scripts.{Move, does, misses, after, bounded, played, playable, step, steps, run_on}
use Rattle.pair.proofs.Settling.{is_settled, settled}
use Rattle.pair.proofs.Runs.{peer, both, fresh, history, starts, grants, answered, arrives, cancels, ticks}
use Rattle.pair.proofs.Needed.{Breaks}
use Rattle.pair.proofs.Spending.{First, not_first, issued_up_to, spent, none_under_way, spends, spends_within}
use Rattle.pair.proofs.Edge.{asked, first_asked, waiting, later, run_waiting}

-- ---- the limit

-- While the acknowledge of handover 1 is under way A issues every own ID; it cancels handover 1, and handover 4,097 has its Old ID.
abbrev asked_again : World
asked_again = after peer (after peer (later 4095) cancels) starts

course_again : Course peer asked_again
unfolding played
course_again =
    let all = spends peer waiting A refl asked first_asked refl 4095 (omega arith) run_waiting.course in
    next (next all (step peer (later 4095) cancels refl)) (step peer (after peer (later 4095) cancels) starts refl)

-- What B never answered is not prepared.
not_answered : (w : World) → out (w.station A) 2 0 ≡ Prepared 0 1 → (w.numbers A).issue_of 0 ≡ 4097 → (w.handovers A 4097).answer ≡ Silent
    → AsFixed peer w A → ⊥
not_answered w prepared issue answer fixed =
    let found = fixed 0 0 1 prepared in
    let other = subst (λ (h : ℕ). (w.handovers A h).answer ≡ Fixed 0 1) (sym found.2 ∙ issue) found.4 in
    let z : ◌≡◌ {A = ℕ} 0 1 = cc in
    omega arith

-- The acknowledge of handover 1 prepares handover 4,097.
pub limit_needed : (w : World) × Course peer w × (AsFixed peer w A → ⊥)
unfolding played issued_up_to
limit_needed =
    let w = after peer asked_again answered in
    (w, next course_again (step peer asked_again answered refl), not_answered w refl refl refl)

-- ---- order

-- against "in order": the two oldest messages under way change places
abbrev pub swapped : List Envelope → List Envelope
swapped [] = []
swapped (m ∷ []) = m ∷ []
swapped (m ∷ n ∷ ms) = n ∷ m ∷ ms

abbrev pub Swaps : World → World → Type 0
Swaps w w' = (s : Side) × (w' ≡ with_queue w s (swapped (w.queue s)))

-- handover 1 is prepared: A's record of it, and B's
abbrev fixed_at_a : Entry
fixed_at_a = prepared asked (message 2 2 0 0 1 0 0) 2000

abbrev held_at_b : Entry
held_at_b = held 1 0 0 1 60 3000

first_fixed : First fixed_at_a
first_fixed = record { busy = refl; not_own = λ i. rw (not_first i); not_about = λ i. rw (not_first i) }

first_held : First held_at_b
first_held = record { busy = refl; not_own = λ i. rw (not_first i); not_about = λ i. refl }

abbrev ready : World
ready = played peer both (starts ∷ grants ∷ answered ∷ [])

-- Nothing is under way, and A issues all own IDs but 0; then B does.
abbrev issued_at_a : ℕ → World
issued_at_a = spent peer ready A refl fixed_at_a first_fixed

abbrev issued_at_b : ℕ → World
issued_at_b = spent peer (issued_at_a 4095) B refl held_at_b first_held

nothing_there : Empty ready
unfolding played
nothing_there A = refl
nothing_there B = refl

-- Then both own IDs 0 come round: the UE arrives at B and leaves it; A cancels handover 1, and handover 4,097 has its Old ID and its New ID.
abbrev pub comes_round : List Move
comes_round = arrives ∷ does B (message 13 0 0 0 0 0 0) ∷ cancels ∷ misses B ∷ starts ∷ grants ∷ []

abbrev behind : World
behind = played peer (issued_at_b 4095) comes_round

run_behind : Run peer behind
unfolding played playable issued_up_to
run_behind =
    let first = run_on peer fresh (steps peer both (starts ∷ grants ∷ answered ∷ []) refl) in
    run_on peer
    (spends_within peer (issued_at_a 4095) B refl held_at_b first_held refl 4095 (omega arith) (λ i h. none_under_way (issued_at_b i) nothing_there)
    (spends_within peer ready A refl fixed_at_a first_fixed refl 4095 (omega arith) (λ i h. none_under_way (issued_at_a i) nothing_there) first))
    (steps peer (issued_at_b 4095) comes_round refl)

-- Handover 4,097 moved, although its UE did not arrive.
not_moved : (w : World) → is_settled peer w ≡ true → w.handovers A 4097 ≡ history (Fixed 0 1) false false 3 → (Settled peer w → AtRest peer w A) → ⊥
not_moved w t handover rest =
    let once = (rest (settled peer w t)).ended 4097 (ap (λ (k : Handover). k.asked) handover) in
    let end : 3 ∷ [] ≡ once.end ∷ [] = sym (ap (λ (k : Handover). k.endings) handover) ∙ once.one in
    let three : once.end ≡ 3 = cc in
    false≢true (sym (ap (λ (k : Handover). k.arrived) handover) ∙ (once.moved.0 three).0)

-- The release of handover 1 comes behind the acknowledge of handover 4,097, and is taken for its own.
pub order_needed : Breaks Swaps (λ w. Settled peer w → AtRest peer w A)
unfolding played playable is_settled issued_up_to
order_needed =
    let then = with_queue behind B (swapped (behind.queue B)) in
    let rest = answered ∷ answered ∷ ticks B 3000 ∷ [] in
    record {
      before = behind;
      run = run_behind;
      then = then;
      breach = (B, refl);
      bounded = bounded then refl;
      world = played peer then rest;
      steps = steps peer then rest refl;
      fails = not_moved (played peer then rest) refl refl;
    }
