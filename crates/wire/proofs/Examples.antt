-- Messages worked out by hand: neighbour 3, Old ID 7, New ID 2,748.
use Prim.Native.Nat.{ℕ}
use mathlib.Core.Path.{◌≡◌, refl}
use mathlib.Core.List.{List, [], ◌∷◌}
use Rattle.records.specs.declared.Record.{Record}
use Rattle.wire.specs.Causes.{cause_of}
use Rattle.wire.specs.Parts.{octets_of}

-- a UE CONTEXT RELEASE: 00 05 40 0f 00 00 02, 00 0a 00 02 00 07, 00 09 00 02 0a bc
abbrev pub release : List ℕ
release = 0 ∷ 5 ∷ 64 ∷ 15 ∷ 0 ∷ 0 ∷ 2 ∷ 0 ∷ 10 ∷ 0 ∷ 2 ∷ 0 ∷ 7 ∷ 0 ∷ 9 ∷ 0 ∷ 2 ∷ 10 ∷ 188 ∷ []

-- a HANDOVER CANCEL whose TRELOCprep expired: 00 01 40 14 00 00 03, 00 0a 00 02 00 07, 00 09 40 02 0a bc, 00 05 40 01 0a
abbrev pub cancel : List ℕ
cancel = 0 ∷ 1 ∷ 64 ∷ 20 ∷ 0 ∷ 0 ∷ 3 ∷ 0 ∷ 10 ∷ 0 ∷ 2 ∷ 0 ∷ 7 ∷ 0 ∷ 9 ∷ 64 ∷ 2 ∷ 10 ∷ 188 ∷ 0 ∷ 5 ∷ 64 ∷ 1 ∷ 10 ∷ []

-- one without the New ID, for no ground that is said: 00 01 40 0e 00 00 02, 00 0a 00 02 00 07, 00 05 40 01 68
abbrev pub short : List ℕ
short = 0 ∷ 1 ∷ 64 ∷ 14 ∷ 0 ∷ 0 ∷ 2 ∷ 0 ∷ 10 ∷ 0 ∷ 2 ∷ 0 ∷ 7 ∷ 0 ∷ 5 ∷ 64 ∷ 1 ∷ 104 ∷ []

-- their records
abbrev pub told : ℕ → ℕ → ℕ → Record
told kind new reason =
    record {
      kind = kind;
      neighbour = 3;
      old = record { 0 = 7 };
      new = record { 0 = new };
      first = 0;
      second = 0;
      reason = reason;
      byte11 = 0;
      number = 0;
      time = 0;
      erab = 0;
      qci = 0;
      priority = 0;
      flags = 0;
      bytes28 = 0;
    }

pub written : (octets_of (told 5 2748 0) ≡ release) × (octets_of (told 6 2748 2) ≡ cancel) × (octets_of (told 6 65535 1) ≡ short)
unfolding cause_of
written = (refl, refl, refl)
