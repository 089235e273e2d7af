-- over names there is a root, if there is one of them at least
use Rattle.std.proofs.Common.{◌≡◌, ◌==◌, ◌+◌, ◌<◌, ℕ, List, [], ◌∷◌, length, get_or, All, Some, arith, refl, inl}
use Rattle.std.proofs.lemmas.Bool.{eq-eqb}
use Rattle.std.proofs.lemmas.List.Elements.{All-head, All-tail}
use Rattle.tap_name.specs.Settings.{SettingsValue}
use Rattle.tap_name.specs.Name.{IsName}
use Rattle.tap_name.specs.Cyclic.{first_cyclic}
use Rattle.tap_name.specs.Root.{Among, AreNames, has_digit, names_kept, narrowed, first_of, root}
use Rattle.tap_name.proofs.Cyclic.{first_cyclic-passes}
use Rattle.tap_name.proofs.Names.{has_digit-from, has_digit-to, among-filter, among-filter_from}

-- one of these, which is one of those
abbrev OneOf : List (List ℕ) → List (List ℕ) → Type 0
OneOf these those = (x : List ℕ) × Among x these × Among x those

kept_among : (base level wanted : ℕ) (names : List (List ℕ)) (x : List ℕ) → Among x (names_kept base level wanted names) → Among x names
kept_among base level wanted names x among =
    (among-filter (λ name. get_or name level 0 == first_cyclic base (has_digit names level) wanted) names x among).0

-- at each level one is kept
kept_one : (p : SettingsValue) (level wanted : ℕ) (names : List (List ℕ)) (x : List ℕ) → AreNames p names → level < p.digits
    → wanted < p.base → Among x names → OneOf (names_kept p.base level wanted names) names
kept_one p level wanted names x valid inside below among =
    let is = valid x among in
    let digit_below = is.below level 0 (omega (arith, is.len)) in
    let has = has_digit-from names x level (get_or x level 0) among refl in
    let found = first_cyclic-passes p.base (has_digit names level) (get_or x level 0) wanted digit_below has below in
    let (y, y_among, y_digit) = has_digit-to names level (first_cyclic p.base (has_digit names level) wanted) found in (
      y,
      among-filter_from (λ name. get_or name level 0 == first_cyclic p.base (has_digit names level) wanted) names y y_among
          (eq-eqb (get_or y level 0) (first_cyclic p.base (has_digit names level) wanted) y_digit),
      y_among,
    )

-- after all levels one is left
left_one : (p : SettingsValue) (level : ℕ) (more : List ℕ) (names : List (List ℕ)) (x : List ℕ) → AreNames p names
    → level + length more ≡ p.digits → All (λ d. d < p.base) more → Among x names → OneOf (narrowed p.base level more names) names
left_one p level [] names x valid len below among = (x, among, among)
left_one p level (wanted ∷ more) names x valid len below among =
    let wanted_below = All-head (λ d. d < p.base) wanted more below in
    let (y, y_kept, y_among) = kept_one p level wanted names x valid (omega arith) wanted_below among in
    let kept_valid : AreNames p (names_kept p.base level wanted names) = λ z h. valid z (kept_among p.base level wanted names z h) in
    let (z, z_left, z_kept) =
    left_one p (level + 1) more (names_kept p.base level wanted names) y kept_valid (omega arith)
    (All-tail (λ d. d < p.base) wanted more below) y_kept in
    (z, z_left, kept_among p.base level wanted names z z_kept)

narrowed_among : (base level : ℕ) (more : List ℕ) (names : List (List ℕ)) (x : List ℕ) → Among x (narrowed base level more names)
    → Among x names
narrowed_among base level [] names x among = among
narrowed_among base level (wanted ∷ more) names x among =
    kept_among base level wanted names x (narrowed_among base (level + 1) more (names_kept base level wanted names) x among)

first_there : (names : List (List ℕ)) (x : List ℕ) → Among x names → (y : List ℕ) × (first_of names ≡ Some y) × Among y names
first_there [] x among = absurd among
first_there (y ∷ ys) x among = (y, refl, inl refl)

-- an object has a root, which is one of the names
pub root-there : (p : SettingsValue) (names : List (List ℕ)) (object x : List ℕ) → AreNames p names → IsName p object → Among x names
    → (found : List ℕ) × (root p.base names object ≡ Some found) × Among found names
root-there p names object x valid is among =
    let (y, y_left, y_among) = left_one p 0 object names x valid (omega (arith, is.len)) is.below among in
    let (found, is_found, found_left) = first_there (narrowed p.base 0 object names) y y_left in
    (found, is_found, narrowed_among p.base 0 object names found found_left)
