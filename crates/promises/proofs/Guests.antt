-- A request leaves every record that is there as it was: it makes one, in a free place.
use Prim.Native.Nat.{ℕ}
use mathlib.Core.Path.{◌≡◌, refl, ◌∙◌, sym}
use mathlib.Core.Bool.{false, true≢false}
use mathlib.Core.List.{List}
use native.Mathlib.Omega.{arith}
use lib.ListN.{get_or}
use lib.Seq.{get_or-set_other}
use Rattle.records.specs.declared.Record.{Record}
use Rattle.table.specs.declared.Answer.{Answer}
use Rattle.table.specs.declared.Station.{Station}
use Rattle.handover.specs.Numbers.{is_free, blank}
use Rattle.table.specs.Step.{step_of}
use Rattle.table.proofs.Finding.{found_here}
use Rattle.table.proofs.Parts.{Part, as_refusal, as_response, as_failure, as_grant, as_start, as_reset, as_idle, as_tick, as_event, part}

module _ (s : Station) (e : Record) (i : ℕ) (live : is_free (get_or s.entries i blank) ≡ false) (bearers : List ℕ) (room : ℕ) (one : e.kind ≡ 1) where
  part_keeps : {a : Answer} → Part s e bearers room a → get_or a.station.entries i blank ≡ get_or s.entries i blank
  part_keeps (as_refusal f _) = refl
  part_keeps (as_response _) = refl
  part_keeps (as_failure n _ _ _) = refl
  part_keeps (as_grant k _ _ _ _ free) =
      get_or-set_other s.entries k i _ blank (λ here. true≢false (sym (found_here is_free s k free).1 ∙ rw here at live))
  part_keeps (as_start k _ nine _) = absurd (omega arith)
  part_keeps (as_reset kinds) = absurd (cc (rw one at kinds))
  part_keeps (as_idle _ _) = refl
  part_keeps (as_tick k _ fifteen _) = absurd (omega arith)
  part_keeps (as_event k _ single _) = absurd (cc (rw one at single))

  -- No record changes at a request, whoever sent it.
  pub request_keeps : get_or (step_of s e bearers room).station.entries i blank ≡ get_or s.entries i blank
  request_keeps = part_keeps (part s e bearers room)
