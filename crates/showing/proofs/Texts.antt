-- The texts of sets, fields and bytes, one part more at their ends.
use Prim.Native.Nat.{ℕ, zero, suc, ◌+◌, ◌/◌, ◌%◌, ◌<◌}
use mathlib.Core.Path.{◌≡◌, refl, sym, ap, ◌∙◌}
use mathlib.Core.List.{List, [], ◌∷◌, ◌++◌, append-nil, append_assoc}
use native.Mathlib.Numerals.{add-one}
use native.Mathlib.Omega.{arith}
use lib.ListN.{length, get_or, take}
use lib.Seq.{take-suc, length-take-le}
use Rattle.showing.specs.Shown.{id_text, ids_text, field_text, fields_text, hex_digit, bytes_text}

-- One ID more.
pub ids_more : (s k n : ℕ) → ids_text s k (n + 1) ≡ ids_text s k n ++ id_text s (k + n)
unfolding ids_text
ids_more s k zero = let same : k + 0 ≡ k = omega arith in rw same (append-nil (id_text s k))
ids_more s k (suc n) =
    let more : suc n + 1 ≡ suc (n + 1) = omega arith in
    let place : k + suc n ≡ suc k + n = omega arith in
    rw (more, place) (ap (λ (text : List ℕ). id_text s k ++ text) (ids_more s (suc k) n) ∙ sym (append_assoc (id_text s k) (ids_text s (suc k) n) (id_text s (suc k + n))))

-- One field more.
fields_last : (kind f v : ℕ) (values : List ℕ) → fields_text kind f (values ++ (v ∷ [])) ≡ fields_text kind f values ++ field_text kind (f + length values) v
unfolding fields_text
fields_last kind f v [] = let same : f + 0 ≡ f = omega arith in rw same (append-nil (field_text kind f v))
fields_last kind f v (x ∷ values) =
    let place : f + suc (length values) ≡ suc f + length values = omega arith in
    rw place
    (ap (λ (text : List ℕ). field_text kind f x ++ text) (fields_last kind (suc f) v values)
    ∙ sym (append_assoc (field_text kind f x) (fields_text kind (suc f) values) (field_text kind (suc f + length values) v)))

pub fields_more : (kind f i : ℕ) (values : List ℕ) → i < length values → fields_text kind f (take (i + 1) values) ≡ fields_text kind f (take i values) ++ field_text kind (f + i) (get_or values i 0)
fields_more kind f i values h =
    let long : length (take i values) ≡ i = length-take-le i values (omega arith) in
    rw (add-one i, take-suc values i 0 h) (fields_last kind f (get_or values i 0) (take i values) ∙ rw long)

-- One byte more.
bytes_last : (b : ℕ) (bytes : List ℕ) → bytes_text (bytes ++ (b ∷ [])) ≡ bytes_text bytes ++ (hex_digit (b / 16) ∷ hex_digit (b % 16) ∷ [])
unfolding bytes_text
bytes_last b [] = refl
bytes_last b (x ∷ bytes) = ap (λ (text : List ℕ). hex_digit (x / 16) ∷ hex_digit (x % 16) ∷ text) (bytes_last b bytes)

pub bytes_more : (i : ℕ) (bytes : List ℕ) → i < length bytes → bytes_text (take (i + 1) bytes) ≡ bytes_text (take i bytes) ++ (hex_digit (get_or bytes i 0 / 16) ∷ hex_digit (get_or bytes i 0 % 16) ∷ [])
bytes_more i bytes h = rw (add-one i, take-suc bytes i 0 h) (bytes_last (get_or bytes i 0) (take i bytes))
