-- The Cause of 9.2.6 as an octet, and the reason of a record that stands for it.
use Rattle.std.specs.Prelude.{ℕ, ◌+◌, ◌*◌, Option, option_map, List, [], ◌∷◌, find, eqb, get_or}

-- every Cause value, in the order of the ASN.1 (9.3.5): its group, its number there, and the reason that it has here
abbrev pub causes : List (List ℕ)
causes =
    (0 ∷ 0 ∷ 16 ∷ [])  -- radioNetwork handover-desirable-for-radio-reasons
    ∷ (0 ∷ 1 ∷ 17 ∷ [])  -- radioNetwork time-critical-handover
    ∷ (0 ∷ 2 ∷ 18 ∷ [])  -- radioNetwork resource-optimisation-handover
    ∷ (0 ∷ 3 ∷ 19 ∷ [])  -- radioNetwork reduce-load-in-serving-cell
    ∷ (0 ∷ 4 ∷ 20 ∷ [])  -- radioNetwork partial-handover
    ∷ (0 ∷ 5 ∷ 21 ∷ [])  -- radioNetwork unknown-new-eNB-UE-X2AP-ID
    ∷ (0 ∷ 6 ∷ 22 ∷ [])  -- radioNetwork unknown-old-eNB-UE-X2AP-ID
    ∷ (0 ∷ 7 ∷ 23 ∷ [])  -- radioNetwork unknown-pair-of-UE-X2AP-ID
    ∷ (0 ∷ 8 ∷ 24 ∷ [])  -- radioNetwork ho-target-not-allowed
    ∷ (0 ∷ 9 ∷ 25 ∷ [])  -- radioNetwork tx2relocoverall-expiry
    ∷ (0 ∷ 10 ∷ 2 ∷ [])  -- radioNetwork trelocprep-expiry
    ∷ (0 ∷ 11 ∷ 27 ∷ [])  -- radioNetwork cell-not-available
    ∷ (0 ∷ 12 ∷ 5 ∷ [])  -- radioNetwork no-radio-resources-available-in-target-cell
    ∷ (0 ∷ 13 ∷ 29 ∷ [])  -- radioNetwork invalid-MME-GroupID
    ∷ (0 ∷ 14 ∷ 30 ∷ [])  -- radioNetwork unknown-MME-Code
    ∷ (0 ∷ 15 ∷ 3 ∷ [])  -- radioNetwork unspecified
    ∷ (1 ∷ 0 ∷ 32 ∷ [])  -- transport transport-resource-unavailable
    ∷ (1 ∷ 1 ∷ 33 ∷ [])  -- transport unspecified
    ∷ (2 ∷ 0 ∷ 48 ∷ [])  -- protocol transfer-syntax-error
    ∷ (2 ∷ 1 ∷ 49 ∷ [])  -- protocol abstract-syntax-error-reject
    ∷ (2 ∷ 2 ∷ 50 ∷ [])  -- protocol abstract-syntax-error-ignore-and-notify
    ∷ (2 ∷ 3 ∷ 51 ∷ [])  -- protocol message-not-compatible-with-receiver-state
    ∷ (2 ∷ 4 ∷ 52 ∷ [])  -- protocol semantic-error
    ∷ (2 ∷ 5 ∷ 53 ∷ [])  -- protocol unspecified
    ∷ (2 ∷ 6 ∷ 54 ∷ [])  -- protocol abstract-syntax-error-falsely-constructed-message
    ∷ (3 ∷ 0 ∷ 4 ∷ [])  -- misc control-processing-overload
    ∷ (3 ∷ 1 ∷ 65 ∷ [])  -- misc hardware-failure
    ∷ (3 ∷ 2 ∷ 66 ∷ [])  -- misc om-intervention
    ∷ (3 ∷ 3 ∷ 67 ∷ [])  -- misc not-enough-user-plane-processing-resources
    ∷ (3 ∷ 4 ∷ 1 ∷ [])  -- misc unspecified
    ∷ []

-- the groups have 16, 2, 7 and 5 values, which take 4, 1, 3 and 3 of the octet's lower four bits; what a number is worth there
abbrev pub worth : ℕ → ℕ
worth group = get_or (1 ∷ 8 ∷ 2 ∷ 2 ∷ []) group 0

-- "Cause ::= CHOICE { radioNetwork, transport, protocol, misc, ... }": the choice's extension bit 0, two bits of group, the
-- enumeration's extension bit 0, its number, and zeros
abbrev pub octet_of : List ℕ → ℕ
octet_of cause = 32 * get_or cause 0 0 + worth (get_or cause 0 0) * get_or cause 1 0

abbrev pub reason_in : List ℕ → ℕ
reason_in cause = get_or cause 2 0

-- the reason of an octet, if that is a Cause
unfoldable pub reason_of : ℕ → Option ℕ
reason_of octet = option_map reason_in (find (λ cause. eqb (octet_of cause) octet) causes)

-- the octet of a reason, if that has a Cause
unfoldable pub cause_of : ℕ → Option ℕ
cause_of reason = option_map octet_of (find (λ cause. eqb (reason_in cause) reason) causes)
