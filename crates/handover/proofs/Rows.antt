-- Each kind's row of "Which state takes which event", for one record: from which state, to which state or ending, which message with
-- which fields. No row is missing.
use Prim.Native.Nat.{ℕ, suc, ◌<◌}
use mathlib.Core.Path.{◌≡◌, refl, sym, ◌∙◌}
use mathlib.Core.Bool.{Bool, true, false, cond, not, ◌&&◌, ◌||◌, false≢true}
use mathlib.Core.List.{List, [], ◌∷◌}
use borrow.Author.Tests.{eqb-true, leb-true, le-leb}
use native.Mathlib.Omega.{arith}
use lib.Dec.{leb, eqb}
use lib.ListN.{length, get_or}
use Rattle.laws.proofs.Tests.{by_cases, both_true, below, below_at, same_at}
use Rattle.records.specs.declared.Record.{Record}
use Rattle.records.specs.Record.{altered, zeros}
use Rattle.sets.specs.Sets.{union, disjoint, within}
use Rattle.fields.specs.declared.Sort.TheVariants.{OneRecord}
use Rattle.fields.specs.Fields.{same_sort, sort_of}
use Rattle.fields.proofs.Sorts.{every_kind}
use Rattle.handover.specs.declared.Action.TheVariants.{Untaken}
use Rattle.handover.specs.declared.Decision.{Decision}
use Rattle.handover.specs.declared.Entry.{Entry}
use Rattle.handover.specs.Events.{key, about, actions, action_of, same_action, message, silence, decision, refusal, decide}
use Rattle.handover.specs.Numbers.{blank}
use Rattle.handover.proofs.Keys.{keyed_means}

-- ---- the rows

-- the kind of an event, the state of the record that it is about, and what it then does, by the deadline of an acknowledge
pub record Row : Type 0 where
  pub kind : ℕ
  pub state : ℕ
  pub does : Record → Entry → ℕ → Decision

abbrev row : ℕ → ℕ → (Record → Entry → ℕ → Decision) → Row
row kind state does = record { kind = kind; state = state; does = does }

-- what ends the record silently, with a message about it, or is not taken
abbrev ends : ℕ → Record → Entry → ℕ → Decision
ends ending e r deadline = decision 0 ending silence blank

abbrev says : ℕ → ℕ → ℕ → Entry → Record
says kind new reason r = message kind r.neighbour r.old.0 new 0 0 reason

abbrev untaken : Record → Entry → ℕ → Decision
untaken e r deadline = refusal 6 r

-- what is done if a set fits, and else refused with 7
abbrev if_fits : Bool → Entry → Decision → Decision
if_fits fits r done = cond fits done (refusal 7 r)

-- a record by its fields: state, neighbour, Old, New, requested, admitted, status, units and deadline
abbrev entry : ℕ → ℕ → ℕ → ℕ → ℕ → ℕ → ℕ → ℕ → ℕ → Entry
entry state neighbour old new requested admitted status units deadline =
    record {
      state = state;
      neighbour = neighbour;
      old = record { 0 = old };
      new = record { 0 = new };
      requested = requested;
      admitted = admitted;
      status = status;
      units = units;
      deadline = deadline;
    }

-- the last row, which is also what is read beyond it
abbrev pub last_row : Row
last_row = row 17 1 untaken

-- the rows of the events about one record, the states being preparing 1, prepared 2, held 3 and serving 4
abbrev pub rows : List Row
rows =
    -- 2: preparing, and the lists are disjoint, together the requested set, the admitted not empty: prepared with New, the admitted set and
    -- the deadline; else 7; prepared: 6
    row 2 1 (λ e r deadline.
    if_fits (disjoint e.first e.second && eqb (union e.first e.second) r.requested && not (eqb e.first 0)) r
    (decision 0 0 silence (entry 2 r.neighbour r.old.0 e.new.0 r.requested e.first r.status r.units deadline)))
    ∷ row 2 2 untaken
    -- 3: preparing ends, 1; prepared: 6
    ∷ row 3 1 (ends 1)
    ∷ row 3 2 untaken
    -- 4: held, and the set is not empty and within the admitted: the status is that set; else 7
    ∷ row 4 3 (λ e r deadline.
    if_fits (not (eqb e.first 0) && within e.first r.admitted) r
    (decision 0 0 silence (entry 3 r.neighbour r.old.0 r.new.0 r.requested r.admitted e.first r.units r.deadline)))
    -- 5: prepared ends, 3; preparing: 6
    ∷ row 5 2 (ends 3)
    ∷ row 5 1 untaken
    -- 6: held ends, 7
    ∷ row 6 3 (ends 7)
    -- 10: preparing or prepared sends 6, New if prepared, else absent, reason 1, and ends, 2
    ∷ row 10 1 (λ e r deadline. decision 0 2 (says 6 65535 1 r) blank)
    ∷ row 10 2 (λ e r deadline. decision 0 2 (says 6 r.new.0 1 r) blank)
    -- 11: held becomes serving, no deadline, sends 5 with both IDs, ending 8; serving: 6
    ∷ row 11 3 (λ e r deadline.
    decision 0 8 (says 5 r.new.0 0 r) (entry 4 r.neighbour r.old.0 r.new.0 r.requested r.admitted r.status r.units 0))
    ∷ row 11 4 untaken
    -- 12: prepared sends 6 with both IDs, reason 3, and ends, 5; preparing: 6
    ∷ row 12 2 (λ e r deadline. decision 0 5 (says 6 r.new.0 3 r) blank)
    ∷ row 12 1 untaken
    -- 13: serving ends, 9; held: 6
    ∷ row 13 4 (ends 9)
    ∷ row 13 3 untaken
    -- 17: prepared, and the set is not empty and within the admitted: sends 4 with the set; else 7; preparing: 6
    ∷ row 17 2 (λ e r deadline.
    if_fits (not (eqb e.first 0) && within e.first r.admitted) r
    (decision 0 0 (message 4 r.neighbour r.old.0 r.new.0 e.first 0 0) r))
    ∷ last_row
    ∷ []

-- 15, of a record that is due: preparing sends 6 with New absent, reason 2, and ends, 2; prepared sends 20 with both IDs and ends, 4;
-- held ends, 6, which is also what is read beyond the last
abbrev pub due_row : Row
due_row = row 15 3 (ends 6)

abbrev pub due_rows : List Row
due_rows =
    row 15 1 (λ e r deadline. decision 0 2 (says 6 65535 2 r) blank)
    ∷ row 15 2 (λ e r deadline. decision 0 4 (says 20 r.new.0 0 r) blank)
    ∷ due_row
    ∷ []

-- ---- what is decided

abbrev of_kind : ℕ → Record → Record
of_kind kind e = altered kind e.neighbour e.number e.time e

abbrev in_state : ℕ → Entry → Entry
in_state state r =
    entry state r.neighbour r.old.0 r.new.0 r.requested r.admitted r.status r.units r.deadline

module _ (e : Record) (r : Entry) (deadline : ℕ) where
  abbrev decided : Row → Decision
  decided x = decide (of_kind x.kind e) (in_state x.state r) deadline

  abbrev listed : Row → Decision
  listed x = x.does (of_kind x.kind e) (in_state x.state r) deadline

  -- At a row's kind and state it is decided what the row says.
  row_means : (x : Row) → decided x ≡ listed x → e.kind ≡ x.kind → r.state ≡ x.state → decide e r deadline ≡ x.does e r deadline
  row_means x same kind state = rw (← kind, ← state) at same

  -- All rows about one record hold, by computation.
  pub rows_hold : (n : ℕ) → e.kind ≡ (get_or rows n last_row).kind → r.state ≡ (get_or rows n last_row).state → decide e r deadline ≡ (get_or rows n last_row).does e r deadline
  rows_hold n = row_means (get_or rows n last_row) (same_at decided listed rows last_row n refl refl)

  -- All rows of ticks hold, by computation.
  pub due_rows_hold : (n : ℕ) → e.kind ≡ 15 → r.state ≡ (get_or due_rows n due_row).state → decide e r deadline ≡ (get_or due_rows n due_row).does e r deadline
  due_rows_hold n kind =
      row_means (get_or due_rows n due_row) (same_at decided listed due_rows due_row n refl refl)
      (kind ∙ sym (same_at (λ x. x.kind) (λ x. 15) due_rows due_row n refl refl))

-- ---- the table has these rows and no others

-- whether a list has a row of a kind and a state that takes the event: one that does not refuse it with 6
abbrev taking : ℕ → ℕ → List Row → Bool
taking k st [] = false
taking k st (x ∷ xs) = eqb x.kind k && eqb x.state st && not (eqb (x.does zeros blank 0).reply 6) || taking k st xs

-- where the rules take an event: by a row; 1 and 9, a request and a start, in a free place; 7 and 14, resets, of an outgoing or held record
abbrev pub taken : ℕ → ℕ → Bool
taken k st =
    taking k st rows || taking k st due_rows || (eqb k 1 || eqb k 9) && eqb st 0
    || (eqb k 7 || eqb k 14) && leb 1 st && leb st 3

-- whether two tests come out alike
abbrev alike : Bool → Bool → Bool
alike a b = cond a b (not b)

alike_same : (a b : Bool) → alike a b ≡ true → a ≡ b
alike_same true true t = refl
alike_same true false t = sym t
alike_same false true t = t
alike_same false false t = refl

-- A cell of the table is untaken exactly where they do not, by computation.
pub cell_taken : (k st : ℕ) → k < length actions → st < 5 → same_action (action_of k st) Untaken ≡ not (taken k st)
cell_taken k st kind state =
    let cell : ℕ → ℕ → Bool = λ i j. alike (same_action (action_of i j) Untaken) (not (taken i j)) in
    alike_same (same_action (action_of k st) Untaken) (not (taken k st))
    (below_at 5 (cell k) st (below_at (length actions) (λ i. below 5 (cell i)) k refl kind) state)

-- ---- no row is missing

-- whether a list has a row of a kind and a state
abbrev has : ℕ → ℕ → List Row → Bool
has k st [] = false
has k st (x ∷ xs) = eqb x.kind k && eqb x.state st || has k st xs

-- Then it stands at some place.
has_at : (k st : ℕ) (xs : List Row) (d : Row) → has k st xs ≡ true → (n : ℕ) × (k ≡ (get_or xs n d).kind) × (st ≡ (get_or xs n d).state)
has_at k st [] d t = absurd (false≢true t)
has_at k st (x ∷ xs) d t =
    by_cases (eqb x.kind k && eqb x.state st)
    (λ u.
    let both = both_true (eqb x.kind k) (eqb x.state st) u in
    (0, sym (eqb-true x.kind k both.0), sym (eqb-true x.state st both.1)))
    (λ u.
    let later = has_at k st xs d (rw u at t) in
    (suc later.0, later.1, later.2))

-- whether an event of a kind looks at records in a state
abbrev pub looks : ℕ → ℕ → Bool
looks k st = leb (key k 0) st && leb st (key k 1)

-- The state of a record that an event is about is one at which it looks.
about_looks : (e : Record) (r : Entry) → about e r ≡ true → looks e.kind r.state ≡ true
about_looks e r t =
    let keys = keyed_means (key e.kind) e r t in
    rw (le-leb (key e.kind 0) r.state keys.first, le-leb r.state (key e.kind 1) keys.last)

-- Whatever record an event about one record is about, there is a row for it.
pub row_of : (e : Record) (r : Entry) → sort_of e.kind ≡ OneRecord → r.state < 5 → about e r ≡ true → (n : ℕ) × (e.kind ≡ (get_or rows n last_row).kind) × (r.state ≡ (get_or rows n last_row).state)
row_of e r one few t =
    let row = every_kind (λ k sort. below 5 (λ st. not (same_sort sort OneRecord && looks k st) || has k st rows)) refl (λ j. refl) e.kind in
    let cell = below_at 5 (λ st. not (same_sort (sort_of e.kind) OneRecord && looks e.kind st) || has e.kind st rows) r.state row few in
    has_at e.kind r.state rows last_row (rw (one, about_looks e r t) at cell)

-- Whatever record a tick is about, there is a row for it.
pub due_row_of : (e : Record) (r : Entry) → e.kind ≡ 15 → about e r ≡ true → (n : ℕ) × (r.state ≡ (get_or due_rows n due_row).state)
due_row_of e r kind t =
    let seen : looks 15 r.state ≡ true = rw kind at (about_looks e r t) in
    let few = leb-true r.state 3 (both_true (leb 1 r.state) (leb r.state 3) seen).1 in
    let cell = below_at 5 (λ st. not (looks 15 st) || has 15 st due_rows) r.state refl (omega arith) in
    let there = has_at 15 r.state due_rows due_row (rw seen at cell) in
    (there.0, there.2)

-- So a tick about a record has reply 0 and ends it.
pub due_ends : (e : Record) (r : Entry) (deadline : ℕ) → e.kind ≡ 15 → about e r ≡ true → ((decide e r deadline).reply ≡ 0) × ((decide e r deadline).entry ≡ blank)
due_ends e r deadline kind t =
    let there = due_row_of e r kind t in
    rw (due_rows_hold e r deadline there.0 kind there.1) (
      same_at (λ x. (x.does e r deadline).reply) (λ x. 0) due_rows due_row there.0 refl refl,
      same_at (λ x. (x.does e r deadline).entry) (λ x. blank) due_rows due_row there.0 refl refl,
    )
