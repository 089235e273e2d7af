-- the names of made scenarios: they are names of the settings, and those of two places differ
use Rattle.std.proofs.Common.{◌≡◌, ℕ, ◌+◌, ◌/◌, ◌%◌, ◌^◌, ◌<◌, ◌≤◌, List, [], ◌∷◌, map, get_or, All, refl, ap, sym, ◌∙◌, arith}
use Rattle.std.specs.List.{range_with_len}
use Rattle.std.proofs.lemmas.List.Elements.{All-append, All-map}
use Rattle.std.proofs.lemmas.List.FromFn.{get_or-map-range_with_len, length-map-range_with_len}
use Rattle.std.proofs.lemmas.Nat.{mod_below}
use Rattle.tap_name.specs.Name.{IsName}
use Rattle.tap_name.specs.Names.{AreDistinct}
use Rattle.tap_make.specs.Made.{made_settings}
use Rattle.tap_make.specs.MadeNames.{hexadecimal_digit, marked_name, made_node, made_nodes, made_members, made_object, made_objects, member_count, object_count}
use Rattle.tap_make.specs.Mixer.{drawn}

digit_below : (number place : ℕ) → hexadecimal_digit number place < 16
digit_below number place = mod_below (number / 16 ^ place) 16 (omega arith)

digits_below : (number : ℕ) (places : List ℕ) → All (λ digit. digit < 16) (map (hexadecimal_digit number) places)
digits_below number places =
    All-map (λ digit. digit < 16) (hexadecimal_digit number) places (λ k d h. digit_below number (get_or places k d))

pub marked_name-IsName : (number place : ℕ) → IsName made_settings (marked_name number place)
marked_name-IsName number place = record {
  len = refl;
  below = All-append (λ digit. digit < 16) (map (hexadecimal_digit number) (7 ∷ 6 ∷ 5 ∷ 4 ∷ 3 ∷ 2 ∷ []))
      (map (hexadecimal_digit place) (1 ∷ 0 ∷ [])) (digits_below number (7 ∷ 6 ∷ 5 ∷ 4 ∷ 3 ∷ 2 ∷ [])) (digits_below place (1 ∷ 0 ∷ []));
}

-- a name tells its place
marked_same : (number other place at : ℕ) → place < 256 → at < 256 → marked_name number place ≡ marked_name other at → place ≡ at
marked_same number other place at below at_below same =
    let high : place / 16 % 16 ≡ at / 16 % 16 = ap (λ digits. get_or digits 6 0) same in
    let low : place / 1 % 16 ≡ at / 1 % 16 = ap (λ digits. get_or digits 7 0) same in
    omega arith

-- names that tell their places are distinct
distinct_by : (f : ℕ → List ℕ) (n : ℕ) → ((i j : ℕ) → i < n → j < n → f i ≡ f j → i ≡ j) → AreDistinct (map f (range_with_len 0 n))
distinct_by f n tells = λ i j d less within same.
    let len = length-map-range_with_len f 0 n in
    let first = get_or-map-range_with_len f 0 n i i d (omega (arith, len)) (omega arith) in
    let second = get_or-map-range_with_len f 0 n j j d (omega (arith, len)) (omega arith) in
    let one : i ≡ j = tells i j (omega (arith, len)) (omega (arith, len)) (sym first ∙ same ∙ second) in
    omega arith

pub distinct_nodes : (joins seed : ℕ) → joins ≤ 100 → AreDistinct (made_nodes joins seed)
distinct_nodes joins seed few =
    distinct_by (made_node seed) (member_count + joins)
    (λ i j p q same. marked_same (drawn seed i) (drawn seed j) i j (omega arith) (omega arith) same)

pub distinct_members : (seed : ℕ) → AreDistinct (made_members seed)
distinct_members seed =
    distinct_by (made_node seed) member_count
    (λ i j p q same. marked_same (drawn seed i) (drawn seed j) i j (omega arith) (omega arith) same)

pub distinct_objects : (joins seed : ℕ) → AreDistinct (made_objects joins seed)
distinct_objects joins seed =
    distinct_by (made_object joins seed) object_count
    (λ i j p q same. marked_same (drawn seed (member_count + joins + i)) (drawn seed (member_count + joins + j)) i j
    (omega arith) (omega arith) same)
