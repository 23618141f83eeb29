-- What holds of every station that a fresh one reached.
use Rattle.std.specs.Prelude.{ℕ, ◌≤◌, ◌<◌, ◌≡◌, true, false, cond, ◌&&◌, leb, ltb, eqb, length, get_or}
use Rattle.laws.specs.Sums.{total}
use Rattle.sets.specs.Sets.{within}
use Rattle.handover.specs.declared.Entry.{Entry}
use Rattle.table.specs.declared.Settings.{Settings}
use Rattle.table.specs.declared.Station.{Station}
use Rattle.handover.specs.Numbers.{is_free, is_outgoing, is_incoming, is_held, blank, own, own_is}

-- of one place of the table
pub record Fit (r : Entry) : Type 0 where
  pub state : r.state < 5
  -- a free place is blank
  pub idle : is_free r ≡ true → r ≡ blank
  pub id : own r < 4096
  -- a deadline exactly where a timer runs
  pub timer : ltb 0 r.deadline ≡ (leb 1 r.state && leb r.state 3)
  pub deadline : r.deadline ≤ 1000000600000
  -- only incoming records have units
  pub units : is_incoming r ≡ false → r.units ≡ 0
  -- admitted within requested, status within admitted
  pub admitted : is_outgoing r ≡ true → within r.admitted r.requested ≡ true
  pub status : is_incoming r ≡ true → within r.status r.admitted ≡ true

-- how many records have a number for their own; and how many are held for a neighbour and an Old ID
abbrev pub own_times : ℕ → Entry → ℕ
own_times k r = cond (own_is k r) 1 0

abbrev pub held_times : ℕ → ℕ → Entry → ℕ
held_times n o r = cond (is_held r && eqb r.neighbour n && eqb r.old.0 o) 1 0

-- every setting is in range
pub record Settled (x : Settings) : Type 0 where
  pub capacity : x.capacity ≤ 1000000000
  pub prep : (1 ≤ x.prep) × (x.prep ≤ 600000)
  pub overall : (1 ≤ x.overall) × (x.overall ≤ 600000)
  pub guard : (1 ≤ x.guard) × (x.guard ≤ 600000)

pub record Sound (s : Station) : Type 0 where
  pub places : length s.entries ≡ 64
  pub fit : (i : ℕ) → i < 64 → Fit (get_or s.entries i blank)
  -- own IDs are distinct, and among held records neighbour and Old ID are unique
  pub distinct : (k : ℕ) → total (own_times k) s.entries ≤ 1
  pub unique : (n o : ℕ) → total (held_times n o) s.entries ≤ 1
  -- the units in use are the sum over the records, and at most the capacity
  pub sum : s.used ≡ total (λ r. r.units) s.entries
  pub used : s.used ≤ s.settings.capacity
  pub clock : s.clock ≤ 1000000000000
  pub last : s.last < 4096
  pub settings : Settled s.settings
