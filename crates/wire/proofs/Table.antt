-- The code's table of Causes has what the definition gives.
use Rattle.std.proofs.Common.{◌≡◌, ℕ, List, [], ◌∷◌, map, refl, eqb}
use Rattle.std.specs.Prelude.{option_map, find}
use Rattle.laws.proofs.Tests.{by_cases}
use Rattle.wire.specs.Causes.{causes, octet_of, reason_in, reason_of, cause_of}
use Rattle.wire.specs.declared.causes.Cause.{Cause}

abbrev pub row : List ℕ → Cause
row cause = record { 0 = octet_of cause; 1 = reason_in cause }

reason_found : (octet : ℕ) (rows : List (List ℕ)) → option_map (λ c. c.1) (find (λ c. eqb c.0 octet) (map row rows)) ≡ option_map reason_in (find (λ cause. eqb (octet_of cause) octet) rows)
reason_found octet [] = refl
reason_found octet (cause ∷ rows) = by_cases (eqb (octet_of cause) octet) (λ t. rw t) (λ t. rw t (reason_found octet rows))

cause_found : (reason : ℕ) (rows : List (List ℕ)) → option_map (λ c. c.0) (find (λ c. eqb c.1 reason) (map row rows)) ≡ option_map octet_of (find (λ cause. eqb (reason_in cause) reason) rows)
cause_found reason [] = refl
cause_found reason (cause ∷ rows) = by_cases (eqb (reason_in cause) reason) (λ t. rw t) (λ t. rw t (cause_found reason rows))

pub reason_by_table : (octet : ℕ) → option_map (λ c. c.1) (find (λ c. eqb c.0 octet) (map row causes)) ≡ reason_of octet
unfolding reason_of
reason_by_table octet = reason_found octet causes

pub cause_by_table : (reason : ℕ) → option_map (λ c. c.0) (find (λ c. eqb c.1 reason) (map row causes)) ≡ cause_of reason
unfolding cause_of
cause_by_table reason = cause_found reason causes
