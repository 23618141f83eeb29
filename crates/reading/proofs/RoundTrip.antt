-- A message and its record say the same: what is read is what writing its record gives, octet by octet, and what is written reads back.
use Rattle.std.proofs.Common.{◌≡◌, ℕ, zero, suc, ◌+◌, ◌*◌, ◌/◌, ◌%◌, ◌≤◌, ◌<◌, Bool, true, false, cond, not, ◌&&◌, ◌||◌, Option, Some, None, Result, Ok, Err, List, [], ◌∷◌, length, get_or, leb, ltb, eqb, is_some, refl, sym, ap, ◌∙◌, arith}
use Rattle.std.specs.Prelude.{unwrap_or}
use borrow.Author.Tests.{leb-true, ltb-true, lt-ltb, le-leb, eqb-true, ne_eqb}
use Rattle.laws.proofs.Tests.{by_cases, both_true, on_true, on_false, clash, below, below_at}
use Rattle.records.specs.declared.Record.{Record}
use Rattle.records.specs.Record.{zeros}
use Rattle.wire.specs.Causes.{reason_of, cause_of}
use Rattle.wire.specs.Parts.{none, ies_of, row_of, list_end, message_octets, octets_of}
use Rattle.wire.specs.Rules.{allows}
use Rattle.wire.specs.declared.Refusal.{Refusal}
use Rattle.wire.specs.declared.Shape.{Shape}
use Rattle.wire.specs.declared.Shape.TheVariants.{Release, Cancel, ShortCancel}
use Rattle.wire.specs.declared.rules.Rule.{Rule}
use Rattle.wire.proofs.Parts.{whole}
use Rattle.wire.proofs.Reasons.{cause_back, reason_back, cause_byte}
use Rattle.reading.specs.Reading.{shape_of, count_of, layout_of, rule_in, Judgement, end_in, judged_of, number_at, record_in, record_of, and_then, read_of}
use Rattle.reading.proofs.Beginnings.{all_passed}
use Rattle.reading.proofs.Order.{InOrder, in_order}

-- ---- a message in order, octet by octet

-- the first so many values of a function
abbrev pub tabled : {A : Type 0} → ℕ → (ℕ → A) → List A
tabled zero f = []
tabled (suc n) f = f 0 ∷ tabled n (λ i. f (suc i))

-- A list is its elements.
pub spread : (m : List ℕ) (n : ℕ) → length m ≡ n → tabled n (λ i. get_or m i 0) ≡ m
spread [] zero e = refl
spread [] (suc n) e = absurd (omega arith)
spread (x ∷ m) zero e = absurd (omega arith)
spread (x ∷ m) (suc n) e = ap (λ (rest : List ℕ). x ∷ rest) (spread m n (omega arith))

-- the rule at a place of a message
abbrev pub ruled : Shape → ℕ → Rule
ruled shape k = get_or (row_of shape) k (none 19)

pub some_of : (o : Option ℕ) → is_some o ≡ true → (x : ℕ) × (o ≡ Some x)
some_of None t = clash (cc t)
some_of (Some x) t = (x, refl)

-- within its bounds, and a Cause that has a reason
record Allowed (r : Rule) (octet : ℕ) : Type 0 where
  least : r.least ≤ octet
  most : octet ≤ r.most
  cause : r.form ≡ 2 → is_some (reason_of octet) ≡ true

is_allowed : (r : Rule) (octet : ℕ) → allows r octet ≡ true → Allowed r octet
is_allowed r octet t =
    let all = both_true (leb r.least octet && leb octet r.most) (not (eqb r.form 2) || is_some (reason_of octet)) t in
    let both = both_true (leb r.least octet) (leb octet r.most) all.0 in
    record { least = leb-true r.least octet both.0; most = leb-true octet r.most both.1; cause = λ form. rw form at all.1 }

module _ (m : List ℕ) (order : InOrder m) (shape : Shape) (is : shape_of m ≡ shape) where
  pub size_is : length m ≡ whole shape
  size_is = order.size ∙ ap (list_end (shape_of m)) order.complete ∙ ap whole is

  rule_is : (k : ℕ) → k < length m → rule_in (layout_of m) k ≡ ruled shape k
  rule_is k h =
      let inside : ltb k (layout_of m).list ≡ true = lt-ltb k (layout_of m).list (omega (arith, order.size)) in
      let before : eqb k (layout_of m).value ≡ false = ne_eqb k (layout_of m).value (λ e. omega (arith, order.value)) in
      rw (before, inside) (ap (λ (s : Shape). ruled s k) is)

  allowed : (k : ℕ) → ltb k (whole shape) ≡ true → Allowed (ruled shape k) (get_or m k 0)
  allowed k t =
      let inside : k < length m = omega (arith, size_is, ltb-true k (whole shape) t) in
      is_allowed (ruled shape k) (get_or m k 0) (ap (λ (r : Rule). allows r (get_or m k 0)) (sym (rule_is k inside)) ∙ order.each k inside)

  -- an octet that can be one alone is that one
  fixed : (k : ℕ) → (ltb k (whole shape) && eqb (ruled shape k).least (ruled shape k).most) ≡ true → (ruled shape k).least ≡ get_or m k 0
  fixed k t =
      let both = both_true (ltb k (whole shape)) (eqb (ruled shape k).least (ruled shape k).most) t in
      omega (arith, (allowed k both.0).least, (allowed k both.0).most, eqb-true (ruled shape k).least (ruled shape k).most both.1)

  pub most : (k : ℕ) → ltb k (whole shape) ≡ true → get_or m k 0 ≤ (ruled shape k).most
  most k t = (allowed k t).most

  -- The reason of a Cause that is read has that Cause.
  pub cause_read : (k : ℕ) → ltb k (whole shape) ≡ true → (ruled shape k).form ≡ 2 → (ruled shape k).most ≡ 255 → (reason : ℕ) × (reason_of (get_or m k 0) ≡ Some reason) × (cause_of reason ≡ Some (get_or m k 0))
  cause_read k t form any =
      let there = some_of (reason_of (get_or m k 0)) ((allowed k t).cause form) in
      (there.0, there.1, cause_back (get_or m k 0) (omega (arith, most k t)) there.0 there.1)

  pub cause_told : (k : ℕ) → ltb k (whole shape) ≡ true → (ruled shape k).form ≡ 2 → (ruled shape k).most ≡ 255 → cause_of (unwrap_or (reason_of (get_or m k 0)) 0) ≡ Some (get_or m k 0)
  cause_told k t form any =
      let read = cause_read k t form any in
      ap (λ (o : Option ℕ). cause_of (unwrap_or o 0)) read.1 ∙ read.2

  -- the length and the count are those of the list
  length_is : 4 + get_or m 3 0 ≡ whole shape
  length_is = sym order.value ∙ size_is

  count_is : count_of m ≡ length (ies_of shape)
  count_is = order.complete ∙ ap (λ (s : Shape). length (ies_of s)) is

-- the two octets of an ID
module _ (high low : ℕ) (small : low ≤ 255) where
  high_back : (256 * high + low) / 256 ≡ high
  high_back = omega arith

  low_back : (256 * high + low) % 256 ≡ low
  low_back = omega arith

-- A release.
pub release_octets : (m : List ℕ) (neighbour : ℕ) → InOrder m → shape_of m ≡ Release → message_octets Release (record_in Release m neighbour) ≡ m
release_octets m neighbour order is =
    let f = fixed m order Release is in
    let small = most m order Release is in
    let size : 15 ≡ get_or m 3 0 = omega (arith, length_is m order Release is) in
    let high : 0 ≡ get_or m 5 0 = omega (arith, count_is m order Release is) in
    let low : 2 ≡ get_or m 6 0 = omega (arith, count_is m order Release is) in
    let octets : message_octets Release (record_in Release m neighbour) ≡ tabled 19 (λ k. get_or m k 0) = λ i. f 0 refl i ∷ f 1 refl i ∷ f 2 refl i ∷ size i ∷ f 4 refl i ∷ high i ∷ low i ∷ f 7 refl i ∷ f 8 refl i ∷ f 9 refl i ∷ f 10 refl i ∷ high_back (get_or m 11 0) (get_or m 12 0) (small 12 refl) i ∷ low_back (get_or m 11 0) (get_or m 12 0) (small 12 refl) i ∷ f 13 refl i ∷ f 14 refl i ∷ f 15 refl i ∷ f 16 refl i ∷ high_back (get_or m 17 0) (get_or m 18 0) (small 18 refl) i ∷ low_back (get_or m 17 0) (get_or m 18 0) (small 18 refl) i ∷ [] in
    octets ∙ spread m 19 (size_is m order Release is)

-- A cancel.
pub cancel_octets : (m : List ℕ) (neighbour : ℕ) → InOrder m → shape_of m ≡ Cancel → message_octets Cancel (record_in Cancel m neighbour) ≡ m
cancel_octets m neighbour order is =
    let f = fixed m order Cancel is in
    let small = most m order Cancel is in
    let size : 20 ≡ get_or m 3 0 = omega (arith, length_is m order Cancel is) in
    let high : 0 ≡ get_or m 5 0 = omega (arith, count_is m order Cancel is) in
    let low : 3 ≡ get_or m 6 0 = omega (arith, count_is m order Cancel is) in
    let told = cause_told m order Cancel is 23 refl refl refl in
    let octets : message_octets Cancel (record_in Cancel m neighbour) ≡ tabled 24 (λ k. get_or m k 0) = rw told (λ i. f 0 refl i ∷ f 1 refl i ∷ f 2 refl i ∷ size i ∷ f 4 refl i ∷ high i ∷ low i ∷ f 7 refl i ∷ f 8 refl i ∷ f 9 refl i ∷ f 10 refl i ∷ high_back (get_or m 11 0) (get_or m 12 0) (small 12 refl) i ∷ low_back (get_or m 11 0) (get_or m 12 0) (small 12 refl) i ∷ f 13 refl i ∷ f 14 refl i ∷ f 15 refl i ∷ f 16 refl i ∷ high_back (get_or m 17 0) (get_or m 18 0) (small 18 refl) i ∷ low_back (get_or m 17 0) (get_or m 18 0) (small 18 refl) i ∷ f 19 refl i ∷ f 20 refl i ∷ f 21 refl i ∷ f 22 refl i ∷ get_or m 23 0 ∷ []) in
    octets ∙ spread m 24 (size_is m order Cancel is)

-- A cancel without a New ID.
pub short_octets : (m : List ℕ) (neighbour : ℕ) → InOrder m → shape_of m ≡ ShortCancel → message_octets ShortCancel (record_in ShortCancel m neighbour) ≡ m
short_octets m neighbour order is =
    let f = fixed m order ShortCancel is in
    let small = most m order ShortCancel is in
    let size : 14 ≡ get_or m 3 0 = omega (arith, length_is m order ShortCancel is) in
    let high : 0 ≡ get_or m 5 0 = omega (arith, count_is m order ShortCancel is) in
    let low : 2 ≡ get_or m 6 0 = omega (arith, count_is m order ShortCancel is) in
    let told = cause_told m order ShortCancel is 17 refl refl refl in
    let octets : message_octets ShortCancel (record_in ShortCancel m neighbour) ≡ tabled 18 (λ k. get_or m k 0) = rw told (λ i. f 0 refl i ∷ f 1 refl i ∷ f 2 refl i ∷ size i ∷ f 4 refl i ∷ high i ∷ low i ∷ f 7 refl i ∷ f 8 refl i ∷ f 9 refl i ∷ f 10 refl i ∷ high_back (get_or m 11 0) (get_or m 12 0) (small 12 refl) i ∷ low_back (get_or m 11 0) (get_or m 12 0) (small 12 refl) i ∷ f 13 refl i ∷ f 14 refl i ∷ f 15 refl i ∷ f 16 refl i ∷ get_or m 17 0 ∷ []) in
    octets ∙ spread m 18 (size_is m order ShortCancel is)

octets_as : (m : List ℕ) (neighbour : ℕ) → InOrder m → (shape : Shape) → shape_of m ≡ shape → octets_of (record_in shape m neighbour) ≡ m
octets_as m neighbour order Release is = release_octets m neighbour order is
octets_as m neighbour order Cancel is =
    let there : eqb (number_at m 17) 65535 ≡ false = ne_eqb (number_at m 17) 65535 (λ e. omega (arith, most m order Cancel is 17 refl, most m order Cancel is 18 refl)) in
    ap (λ (absent : Bool). message_octets (cond absent ShortCancel Cancel) (record_in Cancel m neighbour)) there ∙ cancel_octets m neighbour order is
octets_as m neighbour order ShortCancel is = short_octets m neighbour order is

-- Whatever is read is what writing its record gives, octet by octet.
pub octets_back : (m : List ℕ) (neighbour : ℕ) → InOrder m → octets_of (record_of m neighbour) ≡ m
octets_back m neighbour order = octets_as m neighbour order (shape_of m) refl

-- ---- what is read

-- Where something follows that is no refusal, the judgement was none.
pub passed_on : {A : Type 0} (j : Judgement) (next : Result A Refusal) (a : A) → and_then j next ≡ Ok a → (j ≡ Ok tt) × (next ≡ Ok a)
passed_on (Ok u) next a e = (refl, e)
passed_on (Err x) next a e = clash (cc e)

same_ok : (a b : Record) → ◌≡◌ {A = Result Record Refusal} (Ok a) (Ok b) → a ≡ b
same_ok a b e = cc

-- A reading that is a record is one of a message in order, from a neighbour in range.
pub was_read : (m : List ℕ) (neighbour : ℕ) (r : Record) → read_of m neighbour ≡ Ok r → (neighbour ≤ 31) × InOrder m × (record_of m neighbour ≡ r)
was_read m neighbour r e =
    by_cases (leb neighbour 31)
    (λ t.
    let told = passed_on (judged_of m) (Ok (record_of m neighbour)) r (sym (on_true (leb neighbour 31) _ _ t) ∙ e) in
    (leb-true neighbour 31 t, in_order m told.0, same_ok (record_of m neighbour) r told.1))
    (λ t. clash (cc (sym (on_false (leb neighbour 31) _ _ t) ∙ e)))

-- Whatever is read is what writing its record gives.
pub octets_read : (m : List ℕ) (neighbour : ℕ) (r : Record) → read_of m neighbour ≡ Ok r → octets_of r ≡ m
octets_read m neighbour r e =
    let was = was_read m neighbour r e in
    ap octets_of (sym was.2) ∙ octets_back m neighbour was.1

-- A message in order from a neighbour in range is read.
pub is_read_lem : (m : List ℕ) (neighbour : ℕ) → neighbour ≤ 31 → judged_of m ≡ Ok tt → read_of m neighbour ≡ Ok (record_of m neighbour)
is_read_lem m neighbour h order = rw (le-leb neighbour 31 h, order)

-- ---- what is written, read

-- an octet within its bounds, and any octet of a number
pub within : (octet most : ℕ) → octet ≤ most → (leb 0 octet && leb octet most) ≡ true
within octet most h = rw (le-leb 0 octet (omega arith), le-leb octet most h)

-- the number of its two octets
id_back : (id : ℕ) → 256 * (id / 256) + id % 256 ≡ id
id_back id = omega arith

-- A message whose octets may all stand where they do, and that ends where it should, is in order.
pub in_full : (m : List ℕ) → below (length m) (λ k. allows (rule_in (layout_of m) k) (get_or m k 0)) ≡ true → end_in (layout_of m) (length m) ≡ Ok tt → judged_of m ≡ Ok tt
in_full m all end = all_passed m (λ k h. below_at (length m) (λ j. allows (rule_in (layout_of m) j) (get_or m j 0)) k all h) ∙ end

-- what a message has of a record, and zeros for the rest
abbrev pub carried : Record → Record
carried r = record zeros { kind = r.kind; neighbour = r.neighbour; old = r.old; new = r.new; reason = r.reason }

-- a reason that has a Cause
pub record Caused (reason : ℕ) : Type 0 where
  pub byte : reason < 256
  pub octet : ℕ
  pub is : cause_of reason ≡ Some octet

module _ (r : Record) (rest : carried r ≡ r) where
  -- a record by what a message has of it
  same_record : (kind old new reason : ℕ) → kind ≡ r.kind → old ≡ r.old.0 → new ≡ r.new.0 → reason ≡ r.reason
      → record zeros { kind = kind; neighbour = r.neighbour; old = record { 0 = old }; new = record { 0 = new }; reason = reason } ≡ r
  same_record kind old new reason k o n y =
      (λ i. record zeros { kind = k i; neighbour = r.neighbour; old = record { 0 = o i }; new = record { 0 = n i }; reason = y i }) ∙ rest

  module _ (old : r.old.0 ≤ 4095) where
    module _ (kind : r.kind ≡ 5) (new : r.new.0 ≤ 4095) (reason : r.reason ≡ 0) where
      -- A release that is written is read, as the same record.
      pub release_read : judged_of (message_octets Release r) ≡ Ok tt
      release_read =
          in_full (message_octets Release r)
          (rw (within (r.old.0 / 256) 15 (omega arith), within (r.old.0 % 256) 255 (omega arith), within (r.new.0 / 256) 15 (omega arith), within (r.new.0 % 256) 255 (omega arith))) refl

      pub release_back : record_of (message_octets Release r) r.neighbour ≡ r
      release_back = same_record 5 _ _ 0 (sym kind) (id_back r.old.0) (id_back r.new.0) (sym reason)

    module _ (kind : r.kind ≡ 6) (caused : Caused r.reason) where
      cause_within : (leb 0 caused.octet && leb caused.octet 255) ≡ true
      cause_within = within caused.octet 255 (omega (arith, cause_byte r.reason caused.byte caused.octet caused.is))

      reason_is : reason_of caused.octet ≡ Some r.reason
      reason_is = reason_back r.reason caused.byte caused.octet caused.is

      -- So is a cancel,
      pub cancel_read : r.new.0 ≤ 4095 → judged_of (message_octets Cancel r) ≡ Ok tt
      cancel_read new =
          rw caused.is
          (in_full _
          (rw (within (r.old.0 / 256) 15 (omega arith), within (r.old.0 % 256) 255 (omega arith), within (r.new.0 / 256) 15 (omega arith), within (r.new.0 % 256) 255 (omega arith), cause_within, reason_is)) refl)

      pub cancel_back : record_of (message_octets Cancel r) r.neighbour ≡ r
      cancel_back = rw (caused.is, reason_is) (same_record 6 _ _ r.reason (sym kind) (id_back r.old.0) (id_back r.new.0) refl)

      -- and one without a New ID.
      pub short_read : judged_of (message_octets ShortCancel r) ≡ Ok tt
      short_read =
          rw caused.is
          (in_full _
          (rw (within (r.old.0 / 256) 15 (omega arith), within (r.old.0 % 256) 255 (omega arith), cause_within, reason_is)) refl)

      pub short_back : r.new.0 ≡ 65535 → record_of (message_octets ShortCancel r) r.neighbour ≡ r
      short_back new = rw (caused.is, reason_is) (same_record 6 _ 65535 r.reason (sym kind) (id_back r.old.0) (sym new) refl)
