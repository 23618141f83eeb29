-- Two limits have a field of their own: only a New ID may be absent, and only a first set may have to have something in it.
use Prim.Native.Nat.{ℕ, ◌<◌}
use mathlib.Core.Path.{◌≡◌, refl}
use mathlib.Core.Bool.{Bool, true, not, ◌&&◌, ◌||◌}
use lib.Dec.{eqb}
use lib.ListN.{get_or}
use Rattle.laws.proofs.Tests.{below, below_at, every_at}
use Rattle.fields.specs.declared.kinds.Limit.{Limit}
use Rattle.fields.specs.declared.kinds.Limit.TheVariants.{IdOrAbsent, SomeSet, Unused}
use Rattle.fields.specs.declared.kinds.Row.{Row}
use Rattle.fields.specs.Kinds.{same_limit, kinds, no_kind, limits_in, limit_of}

abbrev pub is_plain : ℕ → Limit → Bool
is_plain field limit = (eqb field 2 || not (same_limit limit IdOrAbsent)) && (eqb field 3 || not (same_limit limit SomeSet))

pub plain_row : (kind field : ℕ) → field < 14 → is_plain field (limit_of kind field) ≡ true
plain_row kind field =
    below_at 14 (λ j. is_plain j (limit_of kind j)) field
    (every_at (λ _ (row : Row). below 14 (λ j. is_plain j (get_or (limits_in row) j Unused))) kinds no_kind kind refl (λ _. refl))
