-- Where a record is there and has room, its text is written and the sheet goes on.
use Prim.Native.Nat.{ℕ, ◌≤◌}
use mathlib.Core.Path.{◌≡◌, refl, sym, ap, ◌∙◌}
use mathlib.Core.Bool.{true}
use borrow.Author.Rules.{rules}
use borrow.Author.Tests.{le-leb, lt-leb}
use lib.ListN.{length, take}
use Rattle.records.specs.Record.{record_of}
use Rattle.showing.specs.Room.{event_room}
use Rattle.showing.specs.Shown.{owed_after, event_text, is_shown, shown_of, shown_text}
use Rattle.records.specs.declared.Record.{Record}
use Rattle.showing.specs.declared.Sheet.{Sheet}
use Rattle.showing.specs.declared.Shown.{Shown}
use Rattle.buffers.specs.Buffers.{Writes}
use native.Mathlib.Omega.{arith}
use lib.Seq.{sets}
use mathlib.Core.List.{List}
use Rattle.showing.proofs.Sheet.show.Goals as goal

-- what is told of a record that is shown
shown : (s : Sheet) (bytes out : List ℕ) {left : List ℕ} (r : Record) (n owed : ℕ) → is_shown (length out) bytes ≡ true → r ≡ record_of (take 32 bytes)
    → Writes out left 0 (event_text s (take 32 bytes)) n → owed ≡ owed_after s r
    → (◌≡◌ {A = Shown} record { sheet = record { owed = owed; begun = true }; taken = 32; written = n } (shown_of (length out) bytes s)) × (left ≡ sets out 0 (shown_text (length out) bytes s))
shown s bytes out r n owed t e event h =
    let told : owed ≡ owed_after s (record_of (take 32 bytes)) = rw (sym e) h in
    let size : n ≡ length (event_text s (take 32 bytes)) = omega (arith, event.next) in
    rw t (rw (size, told), event.bytes)

pub returns-in-Some-clause-told : goal.returns-in-Some-clause-told
returns-in-Some-clause-told c =
    let bytes = c.args.bytes.now in
    let out = c.args.out.now in
    let front : c.in-Some.bytes.now ≡ take 32 bytes = search rules in
    let whole : 32 ≤ length bytes = search rules in
    let told : is_shown (length out) bytes ≡ true = rw (le-leb 32 (length bytes) whole, le-leb event_room (length out) c.if-out-ge-ROOM.true) in
    shown c.args.self bytes out _ _ _ told (c.of.ensures ∙ ap record_of front) (rw front at c.write_event-written.ensures.0) c.owed_after.ensures

pub returns-in_default-clause-told : goal.returns-in_default-clause-told
returns-in_default-clause-told c =
    let bytes = c.args.bytes.now in
    let whole : 32 ≤ length bytes = search rules in
    rw (le-leb 32 (length bytes) whole, lt-leb event_room (length c.args.out.now) c.if-out-ge-ROOM.false) (refl, refl)
