-- Texts that take a line from one state to another, whatever comes after them.
use Prim.Native.Nat.{ℕ, ◌≤◌}
use mathlib.Core.Path.{◌≡◌, sym, ◌∙◌, ap}
use mathlib.Core.Bool.{false}
use mathlib.Core.List.{List, [], ◌∷◌, ◌++◌, append_assoc}
use native.Mathlib.Omega.{arith}
use borrow.Author.Tests.{ne_eqb}
use Rattle.laws.proofs.Tests.{on_false}
use Rattle.composing.specs.declared.Word.{Word}
use Rattle.composing.specs.Composed.{Made, made, empty_word, is_gap, step, settle}
use Rattle.files.specs.Files.{composed_from}

-- a line that has not ended
abbrev pub at : List ℕ → ℕ → ℕ → ℕ → Word → List ℕ → Made
at values field mode staged word out =
    made record { values = values; field = field; mode = mode; staged = staged; word = word; ended = false } out

-- such a line between two words
abbrev pub resting : List ℕ → ℕ → ℕ → ℕ → List ℕ → Made
resting values field mode staged out = at values field mode staged empty_word out

-- a text takes a line from one state to another
abbrev pub Leads : List ℕ → Made → Made → Type 0
Leads text m n = (rest : List ℕ) → composed_from (text ++ rest) m ≡ composed_from rest n

-- One text after the other.
pub leads_on : (a b : List ℕ) (m n o : Made) → Leads a m n → Leads b n o → Leads (a ++ b) m o
leads_on a b m n o p q rest = ap (λ (text : List ℕ). composed_from text m) (append_assoc a b rest) ∙ p (b ++ rest) ∙ q rest

-- One byte that does not end the line, by what it makes of it.
pub leads_to : (m n : Made) (b : ℕ) → n ≡ step m b → n.draft.ended ≡ false → Leads (b ∷ []) m n
unfolding composed_from
leads_to m n b e t rest = on_false (step m b).draft.ended _ _ (ap (λ (x : Made). x.draft.ended) (sym e) ∙ t) ∙ ap (composed_from rest) (sym e)

-- No byte from the digits on is a gap.
pub no_gap : (b : ℕ) → 48 ≤ b → is_gap b ≡ false
no_gap b h = rw (ne_eqb b 32 (λ e. omega arith), ne_eqb b 9 (λ e. omega arith), ne_eqb b 13 (λ e. omega arith))

-- a text after which a line is in some state, once its last word ends
pub record Reads (text : List ℕ) (m n : Made) : Type 0 where
  pub end : Made
  pub leads : Leads text m end
  pub settled : settle end ≡ n
  pub reading : end.draft.mode ≤ 2
