-- Who meets the contract of a step, and five kinds of impostors.
use Rattle.std.specs.Prelude.{ℕ, ◌≡◌, true, List, length}
use Rattle.std.specs.Int.Count.{ones}
use Rattle.records.specs.declared.Record.{Record}
use Rattle.records.specs.Record.{InRange, AreBytes}
use Rattle.fields.specs.Fields.{well_formed}
use Rattle.table.specs.declared.Answer.{Answer}
use Rattle.table.specs.declared.Settings.{Settings}
use Rattle.table.specs.declared.Station.{Station}
use Rattle.table.specs.Reached.{Reached}
use Rattle.table.specs.Step.{complete, step_of, verdicts_of, born_of}

-- what makes an answer of a station, an event, the bytes that follow it and a verdict buffer, and leaves the buffer so
abbrev pub Stepper : Type 0
Stepper = Station → Record → List ℕ → List ℕ → Answer × List ℕ

-- What can be handed to it: a station that a fresh one reached, numbers that fit their fields, and bytes.
pub record Handed (s : Station) (e : Record) (bearers verdicts : List ℕ) : Type 0 where
  pub reached : Reached s
  pub in_range_lem : InRange e
  pub bytes : AreBytes bearers
  pub room : AreBytes verdicts

-- The contract: whatever is handed in.
abbrev pub Meets : Stepper → Type 0
Meets f = (s : Station) (e : Record) (bearers verdicts : List ℕ) → Handed s e bearers verdicts → f s e bearers verdicts ≡ (step_of s e bearers (length verdicts), verdicts_of s e bearers verdicts)

-- ---- the impostors: each has its fault whatever is handed in, and may do as it likes besides

abbrev pub replied : Stepper → Station → Record → List ℕ → List ℕ → ℕ
replied f s e bearers verdicts = (f s e bearers verdicts).0.outcome.reply

-- "one that refuses everything": whatever replies it has, it has no 0
abbrev pub RefusesAll : Stepper → Type 0
RefusesAll f = (s : Station) (e : Record) (bearers verdicts : List ℕ) → Handed s e bearers verdicts → replied f s e bearers verdicts ≡ 0 → ⊥

-- a request with as many whole bearers as it counts, each well formed, and room for their verdicts
pub record Asked (s : Station) (e : Record) (bearers verdicts : List ℕ) : Type 0 where
  pub handed : Handed s e bearers verdicts
  pub kind : e.kind ≡ 1
  pub formed : well_formed e ≡ true
  pub whole : complete e bearers (length verdicts) ≡ true

-- "one that acknowledges every request alike": the bearers of a well-formed request make no difference to its reply
abbrev pub RepliesAlike : Stepper → Type 0
RepliesAlike f =
    (s : Station) (e : Record) (bearers others verdicts : List ℕ) → Asked s e bearers verdicts → Asked s e others verdicts
    → replied f s e bearers verdicts ≡ replied f s e others verdicts

-- "one that returns the station as it came"
abbrev pub Echoes : Stepper → Type 0
Echoes f = (s : Station) (e : Record) (bearers verdicts : List ℕ) → Handed s e bearers verdicts → (f s e bearers verdicts).0.station ≡ s

-- "one that steps the first event rightly and merely echoes later": whatever it does at a fresh station
abbrev pub IsFresh : Station → Type 0
IsFresh s = (settings : Settings) × (s ≡ born_of settings)

abbrev pub EchoesLater : Stepper → Type 0
EchoesLater f =
    (s : Station) (e : Record) (bearers verdicts : List ℕ) → Handed s e bearers verdicts → (IsFresh s → ⊥)
    → (f s e bearers verdicts).0.station ≡ s

-- "A fifth makes up the admitted count": the bearers of a request that it acknowledges make no difference to it
abbrev pub CountsAlike : Stepper → Type 0
CountsAlike f =
    (s : Station) (e : Record) (bearers others verdicts : List ℕ) → Asked s e bearers verdicts → Asked s e others verdicts
    → replied f s e bearers verdicts ≡ 0 → replied f s e others verdicts ≡ 0
    → (f s e bearers verdicts).0.outcome.count ≡ (f s e others verdicts).0.outcome.count

-- or at one request it is another than the number of ones in the admitted set that is sent
pub record Miscounts (f : Stepper) : Type 0 where
  pub station : Station
  pub event : Record
  pub bearers : List ℕ
  pub verdicts : List ℕ
  pub handed : Handed station event bearers verdicts
  pub kind : event.kind ≡ 1
  pub wrong : (f station event bearers verdicts).0.outcome.count ≡ ones (f station event bearers verdicts).0.outcome.message.first → ⊥

pub data Impostor (f : Stepper) : Type 0 where
  refusing : RefusesAll f → Impostor f
  alike : RepliesAlike f → Impostor f
  echoing : Echoes f → Impostor f
  echoing_later : EchoesLater f → Impostor f
  counting_alike : CountsAlike f → Impostor f
  miscounting : Miscounts f → Impostor f
