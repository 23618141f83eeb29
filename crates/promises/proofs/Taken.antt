-- What a request takes of the bytes after it: as many bearers as it counts, and nothing beyond.
use Prim.Native.Nat.{ℕ, ◌*◌, ◌/◌, ◌%◌, ◌≤◌, ◌<◌}
use mathlib.Core.Path.{◌≡◌, refl}
use mathlib.Core.Bool.{true, ◌&&◌}
use mathlib.Core.List.{List, ◌++◌}
use borrow.Author.Tests.{leb-true, le-leb, lt-leb}
use native.Mathlib.Omega.{arith}
use lib.Dec.{leb, eqb}
use lib.ListN.{length, length-append}
use lib.Seq.{take-append-le, length-take-le}
use Rattle.laws.proofs.Tests.{both_true, refuted}
use Rattle.records.specs.declared.Record.{Record}
use Rattle.bearers.specs.Admission.{countable, judgeable}
use Rattle.bearers.specs.Bearer.{records_in, all_bearers}
use Rattle.fields.specs.declared.Sort.{Sort}
use Rattle.fields.specs.declared.Sort.TheVariants.{Request}
use Rattle.fields.specs.Fields.{sort_of_event, well_formed}
use Rattle.table.specs.declared.Station.{Station}
use Rattle.answers.specs.Answers.{missing}
use Rattle.table.specs.Step.{malformed, complete, taken, by_sort, step_of, verdicts_of}
use Rattle.table.proofs.Requests.{Lacking, lacking}
use Rattle.promises.proofs.Rows.{lacking_step}

module _ (s : Station) (e : Record) (bearers : List ℕ) where
  module _ (room : ℕ) (formed : well_formed e ≡ true) (kind : e.kind ≡ 1) where
    -- "13 .. bearers missing"
    pub too_few : length bearers < e.number * 32 → step_of s e bearers room ≡ malformed missing s
    too_few fewer =
        let few = lt-leb (e.number * 32) (length bearers) fewer in
        let l : Lacking e bearers room = record { flaw = missing; is = rw few; low = omega arith; high = omega arith } in
        lacking_step s e bearers room formed kind l

    -- "verdict buffer too short": what is wrong is that, or something ahead of it
    pub too_short : room < e.number → (l : Lacking e bearers room) × (step_of s e bearers room ≡ malformed l.flaw s)
    too_short short =
        let l = lacking e bearers room (refuted (complete e bearers room) never) in
        (l, lacking_step s e bearers room formed kind l)
      where
        never : complete e bearers room ≡ true → ⊥
        never t =
            let size = length (taken e bearers) in
            let both = both_true (leb (e.number * 32) (length bearers)) (judgeable (taken e bearers) room) t in
            let counted = (both_true (countable size room) (all_bearers (records_in (size / 32) (taken e bearers))) both.1).0 in
            let places = (both_true (eqb (size % 32) 0 && leb 1 (size / 32) && leb (size / 32) 256) (leb (size / 32) room) counted).1 in
            omega (arith, leb-true (size / 32) room places, length-take-le (e.number * 32) bearers (leb-true (e.number * 32) (length bearers) both.0))

  -- Nothing beyond what it counts makes a difference.
  module _ (more : List ℕ) (enough : e.number * 32 ≤ length bearers) where
    by_sort_beyond : (room : ℕ) (sort : Sort) → by_sort sort e (bearers ++ more) room s ≡ by_sort sort e bearers room s
    by_sort_beyond room Request =
        rw (take-append-le (e.number * 32) bearers more, le-leb (e.number * 32) (length bearers) enough, le-leb (e.number * 32) (length (bearers ++ more)) (simp length-append (omega arith)))
    by_sort_beyond room other = refl

    pub nothing_beyond : (room : ℕ) → step_of s e (bearers ++ more) room ≡ step_of s e bearers room
    nothing_beyond room = by_sort_beyond room (sort_of_event e)

    pub verdicts_beyond : (buffer : List ℕ) → verdicts_of s e (bearers ++ more) buffer ≡ verdicts_of s e bearers buffer
    verdicts_beyond buffer =
        rw (take-append-le (e.number * 32) bearers more, le-leb (e.number * 32) (length bearers) enough, le-leb (e.number * 32) (length (bearers ++ more)) (simp length-append (omega arith)))
