-- What is written into a lent buffer, and the blocks of a stream that one holds.
use Rattle.std.specs.Prelude.{ℕ, ◌+◌, ◌≡◌, cond, List, [], leb, length, take, drop}
use Rattle.std.proofs.lemmas.List.Edits.{sets}

-- a text is written from a place on: it stands there, each other byte is as before, and what is answered is the place after it
pub record Writes (before after : List ℕ) (at : ℕ) (text : List ℕ) (answer : ℕ) : Type 0 where
  pub next : answer ≡ at + length text
  pub bytes : after ≡ sets before at text

-- a text where it has room, else none: so many bytes of the buffer are wanted
abbrev pub fitting : ℕ → List ℕ → List ℕ → List ℕ
fitting wanted buffer text = cond (leb wanted (length buffer)) text []

-- what is left of the bytes that a block holds
abbrev pub left_in : ℕ → ℕ → List ℕ → List ℕ
left_in taken held block = drop taken (take held block)
