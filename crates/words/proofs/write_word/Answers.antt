-- Beyond the table there is no word.
use Prim.Native.Nat.{ℕ, ◌+◌, ◌≤◌}
use mathlib.Core.List.{List, []}
use mathlib.Core.Path.{◌≡◌}
use native.Mathlib.Omega.{arith}
use borrow.Author.Rules.{rules}
use lib.Dec.{leb}
use lib.ListN.{length, get_or, get_or-eq_default}
use Rattle.laws.proofs.Tests.{on_either}
use Rattle.buffers.proofs.Writing.{nothing}
use Rattle.words.specs.Words.{words, trimmed, word_at, word_room}
use Rattle.words.proofs.write_word.Goals as goal

pub returns-in-None : goal.returns-in-None
unfolding word_at trimmed
returns-in-None c =
    let a = c.args in
    let beyond : 37 ≤ a.word = search rules in
    let none : trimmed (get_or words a.word []) ≡ [] = rw (get_or-eq_default words [] {n = a.word} beyond) in
    rw (none, on_either {A = List ℕ} (leb (a.at + word_room) (length a.out.now)) []) (nothing a.out.now a.at, omega arith)
