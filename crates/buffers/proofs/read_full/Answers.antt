-- A read fills the buffer on from what is held, by what the input loses.
use Rattle.std.proofs.Common.{◌≡◌, ℕ, ◌+◌, ◌≤◌, List, ◌++◌, rules, length, take, drop, sym, ap, ◌∙◌, subst, le_refl, drop_at, length-take-le}
use Rattle.std.proofs.lemmas.Slice.{take-put_mid_below}
use Rattle.std.specs.Io.KnownBytes.{Consumes}
use Rattle.std.proofs.KnownBytes.{Consumes-trans}
use borrow.Rule.Slice.PartMut.{put_mid, post_of}
use lib.Seq.{take-add, take-append-le}
use Rattle.buffers.proofs.read_full.Goals as goal

more : (held count room : ℕ) (old new : List ℕ) → held ≤ length old → count ≤ length new → take held old ++ take count new ≡ take (held + count) (put_mid held room old new)
more held count room old new within fits =
    let after = put_mid held room old new in
    let rest : drop held after ≡ new ++ post_of held room old = drop_at (take held old) _ held (length-take-le held old within) in
    sym
    (take-add held count after
    ∙ ap (λ (xs : List ℕ). xs ++ take count (drop held after)) (take-put_mid_below held room old new held (le_refl _) within)
    ∙ ap (λ (xs : List ℕ). take held old ++ take count xs) rest
    ∙ ap (λ (xs : List ℕ). take held old ++ xs) (take-append-le count new _ fits))

pub loop-held-preserved : goal.loop-held-preserved
loop-held-preserved g c =
    let now = c.loop-held in
    let read = c.in-Ok.ensures in (
      search rules,
      search rules,
      subst (Consumes _ _) (more now.held c.in-Ok.count _ now.buffer c.read.new.buf now.invariant.1 read.bound.0) (Consumes-trans _ _ _ _ _ now.invariant.2 read.bytes.0),
    )
