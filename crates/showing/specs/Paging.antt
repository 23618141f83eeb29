-- A page: a buffer that text is written into, and where the next byte goes.
use Rattle.std.specs.Prelude.{ℕ, ◌≡◌, ◌+◌, ◌≤◌, List, length}
use Rattle.buffers.specs.Buffers.{Writes}
use Rattle.showing.specs.declared.Page.{Page}

-- so many bytes have room on it
abbrev pub HasRoom : Page → ℕ → Type 0
HasRoom page wanted = page.at + wanted ≤ length page.out.now

-- a text, of so many bytes at most, is written where the next byte goes, and it is the same buffer
pub record Adds (before after : Page) (text : List ℕ) (most : ℕ) : Type 0 where
  pub same : after.out.ghost_name ≡ before.out.ghost_name
  pub size : length after.out.now ≡ length before.out.now
  pub written : Writes before.out.now after.out.now before.at text after.at
  pub within : after.at ≤ before.at + most
