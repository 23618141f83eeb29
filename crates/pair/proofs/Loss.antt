-- A message that is lost leaves the invariant: each clause speaks of all messages, or of any two in order.
use mathlib.Core.List.{List, ◌∷◌, ◌++◌}
use Rattle.pair.specs.World.{Side, Envelope, Answered, Fixed, Refused, All}
use Rattle.pair.proofs.Lists.{Pairs, all_map, all_without, pairs_without}
use Rattle.pair.proofs.Directions.{Direction, with_queues}
use Rattle.pair.proofs.Invariant.{new_of, set_of, Requested, Replied, Released, Invariant}

-- One list is another, or lacks an entry of it.
pub data Fewer {T : Type 0} : List T → List T → Type 0 where
  same : {xs : List T} → Fewer xs xs
  without : (older : List T) (lost : T) (younger : List T) → Fewer (older ++ younger) (older ++ (lost ∷ younger))

pub all_fewer : {T : Type 0} {P : T → Type 0} {xs ys : List T} → Fewer xs ys → All P ys → All P xs
all_fewer same ps = ps
all_fewer (without older lost younger) ps = all_without older lost younger ps

pairs_fewer : {T : Type 0} {P : T → T → Type 0} {xs ys : List T} → Fewer xs ys → Pairs P ys → Pairs P xs
pairs_fewer same ps = ps
pairs_fewer (without older lost younger) ps = pairs_without older lost younger ps

module _ (s : Side) (d : Direction) (requests answers : List Envelope) (fewer_requests : Fewer requests d.requests) (fewer_answers : Fewer answers d.answers) where
  abbrev after : Direction
  after = with_queues requests answers d

  requested : (m : Envelope) → Requested s d m → Requested s after m
  requested m was = record { named = was.named; latest = was.latest; stamped = was.stamped; asked = was.asked; unanswered = was.unanswered }

  replied : (m : Envelope) (answer : Answered) → Replied s d m answer → Replied s after m answer
  replied m answer was = record { named = was.named; latest = was.latest; stamped = was.stamped; answered = was.answered }

  released : (m : Envelope) → Released d m → Released after m
  released m was = record { numbered = was.numbered; arrived = was.arrived; set = was.set; answered = was.answered; receiver = was.receiver; word = was.word }

  pub loss : Invariant s d → Invariant s (with_queues requests answers d)
  loss inv =
      record {
        used = inv.used;
        issued = inv.issued;
        ledger = inv.ledger;
        new = inv.new;
        requests = all_map (λ m was kind. requested m (was kind)) (all_fewer fewer_requests inv.requests);
        once = pairs_fewer fewer_requests inv.once;
        acknowledges = all_map (λ m was kind. replied m (Fixed (new_of m) (set_of m)) (was kind)) (all_fewer fewer_answers inv.acknowledges);
        failures = all_map (λ m was kind. replied m Refused (was kind)) (all_fewer fewer_answers inv.failures);
        releases = all_map (λ m was kind. released m (was kind)) (all_fewer fewer_answers inv.releases);
        held = inv.held;
        prepared = inv.prepared;
        order = pairs_fewer fewer_answers inv.order;
        release_prepared = all_fewer fewer_answers inv.release_prepared;
        held_acknowledge = all_fewer fewer_answers inv.held_acknowledge;
        held_prepared = inv.held_prepared;
        live = inv.live;
        ended = inv.ended;
        moved = inv.moved;
        while_prepared = inv.while_prepared;
        failed = inv.failed;
        arrived = inv.arrived;
      }
