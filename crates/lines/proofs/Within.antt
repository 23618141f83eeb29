-- A run stays within the block and the buffer.
use Rattle.std.proofs.Common.{◌≡◌, ℕ, zero, suc, ◌-◌, ◌≤◌, Bool, true, leb, List, length, drop, sym, subst, arith, length-append, length-drop, leb-true}
use Rattle.laws.proofs.Tests.{by_cases, both_true}
use Rattle.records.specs.Stream.{piece_of, first_of}
use Rattle.records.proofs.Cutting as cutting
use Rattle.lines.specs.declared.Progress.{Progress}
use Rattle.lines.specs.declared.Run.{Run}
use Rattle.lines.specs.Lines.{is_whole, answer_to, verdict_room, longest, line_of, Work, beginning, goes_on, onward, work_on, work_of, progress}
use Rattle.lines.proofs.Longest.{line_most}
use Rattle.lines.proofs.Going.{goes, stops}

module _ (ended : Bool) (room : ℕ) (bytes : List ℕ) where
  pub record Within (w : Work) : Type 0 where
    pub taken : w.taken ≤ length bytes
    pub written : length w.text ≤ room

  one : (w : Work) → goes_on ended room bytes w ≡ true → Within w → Within (onward bytes w)
  one w t h =
      let rest = drop w.taken bytes in
      let place = w.run.place in
      let fits : leb longest (room - length w.text) ≡ true = (both_true (is_whole ended (piece_of rest)) _ t).1 in
      let outcome = (answer_to verdict_room w.run.station (first_of rest)).outcome in
      record {
        taken = omega (arith, (cutting.onward rest).0, length-drop w.taken bytes);
        written = omega (arith, length-append w.text (line_of place outcome), line_most place outcome, leb-true longest (room - length w.text) fits);
      }

  all : (most : ℕ) (w : Work) → Within w → Within (work_on most ended room bytes w)
  unfolding work_on
  all zero w h = h
  all (suc most) w h =
      by_cases (goes_on ended room bytes w)
      (λ t. subst Within (sym (goes most ended room bytes w t)) (all most (onward bytes w) (one w t h)))
      (λ t. subst Within (sym (stops (suc most) ended room bytes w t)) h)

  pub work_within : (run : Run) → Within (work_of ended room bytes run)
  work_within run = all (length bytes) (beginning run) (record { taken = omega arith; written = omega arith })

-- The same of what a run answers.
pub progress_within : (ended : Bool) (out bytes : List ℕ) (run : Run) (p : Progress)
    → p ≡ progress (work_of ended (length out) bytes run) → (p.taken ≤ length bytes) × (p.written ≤ length out)
progress_within ended out bytes run p e =
    let w = work_within ended (length out) bytes run in
    subst (λ (q : Progress). (q.taken ≤ length bytes) × (q.written ≤ length out)) (sym e) (w.taken, w.written)
