-- The views of a station hide nothing: what a place of the table has as its own ID no other place has, so it is found by that ID.
use Prim.Native.Nat.{ℕ, ◌<◌}
use mathlib.Core.Path.{◌≡◌, ◌∙◌}
use mathlib.Core.Bool.{true}
use borrow.Author.Tests.{ne_eqb, le-leb}
use native.Mathlib.Omega.{arith}
use store.Seg.{eqb_same}
use lib.ListN.{get_or}
use Rattle.handover.specs.declared.Entry.{Entry}
use Rattle.handover.specs.Numbers.{blank, own, own_is}
use Rattle.table.specs.declared.Station.{Station}
use Rattle.table.specs.Reached.{Reached}
use Rattle.table.proofs.Counting.{own_equal}
use Rattle.table.proofs.Soundness.{sound}
use Rattle.promises.specs.Views.{named, out, held, due, Shown}
use Rattle.promises.proofs.Viewing.{named_is}

module _ (s : Station) (r : Entry) (found : (i : ℕ) → own_is i r ≡ true → named i s ≡ r) where
  shown_as : Shown s r
  unfolding out held due
  shown_as =
      record {
        preparing = λ is. rw (found r.old.0 (rw (is, eqb_same r.old.0)), is, eqb_same r.neighbour);
        prepared = λ is. rw (found r.old.0 (rw (is, eqb_same r.old.0)), is, eqb_same r.neighbour);
        reserved = λ is. rw (found r.new.0 (rw (is, eqb_same r.new.0)), is, eqb_same r.neighbour);
        timed = λ low high.
            let used = ne_eqb r.state 0 (λ free. omega arith) in
            rw (found (own r) (own_equal (own r) r ∙ rw (used, eqb_same (own r))), le-leb 1 r.state low, le-leb r.state 3 high, eqb_same r.neighbour);
      }

pub shown : {s : Station} → Reached s → (j : ℕ) → j < 64 → Shown s (get_or s.entries j blank)
shown {s} reached j h = shown_as s (get_or s.entries j blank) (λ i mine. named_is s (sound reached) i j h mine)
