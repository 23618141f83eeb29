-- The search from here on issues what the whole search issues.
use Prim.Native.Nat.{◌-◌, ◌<◌}
use mathlib.Core.Path.{◌≡◌}
use Rattle.handover.specs.Numbers.{next_after, issue_from}
use Rattle.places.proofs.issue.Given as goal

abbrev pub invariant-loop-tried : goal.invariant-loop-tried
invariant-loop-tried l =
    l.last < 4096 → (l.id < 4096) × (issue_from (64 - l._tried) l.id l.entries ≡ issue_from 64 (next_after l.last) l.entries)
