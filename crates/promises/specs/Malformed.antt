-- What document 01 calls malformed, of an event with the bytes that follow it and so much room for verdicts. The replies 10 to 15 are held against it.
use Rattle.std.specs.Prelude.{ℕ, ◌*◌, Bool, true, not, ◌&&◌, ◌||◌, List, [], ◌∷◌, leb, eqb, length}
use Rattle.records.specs.declared.Record.{Record}
use Rattle.fields.specs.Malformed.{well_formed, bearer_formed}
use Rattle.bearers.specs.Bearer.{records_in}
use Rattle.table.specs.Step.{taken}

-- each record is a bearer's
unfoldable pub all_formed : List Record → Bool
all_formed [] = true
all_formed (r ∷ rs) = bearer_formed r && all_formed rs

-- as many bearers as a request counts follow it, and there is room for a verdict each: "fewer make it malformed"; "a verdict buffer shorter than the count"
abbrev pub is_served : Record → List ℕ → ℕ → Bool
is_served e bearers room =
    leb (e.number * 32) (length bearers) && all_formed (records_in e.number (taken e bearers)) && leb e.number room

abbrev pub is_malformed : Record → List ℕ → ℕ → Bool
is_malformed e bearers room = not (well_formed e) || eqb e.kind 1 && not (is_served e bearers room)
