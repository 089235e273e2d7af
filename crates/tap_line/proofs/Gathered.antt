-- names that are taken up to a word, one after the other
use Rattle.std.proofs.Common.{◌≡◌, ℕ, false, bytes_eq, List, [], ◌∷◌, ◌++◌, append_assoc, Option, None, Some, option_map, refl, ap, sym}
use Rattle.tap_name.specs.Settings.{SettingsValue}
use Rattle.tap_name.specs.Name.{name_of_word}
use Rattle.tap_line.specs.Front.{names_before}

-- these names, and those that are still to be taken
abbrev pub after_names : List (List ℕ) → Option (List (List ℕ) × List (List ℕ)) → Option (List (List ℕ) × List (List ℕ))
after_names names rest = option_map (λ found. (names ++ found.0, found.1)) rest

one_more : (names : List (List ℕ)) (name : List ℕ) (rest : Option (List (List ℕ) × List (List ℕ)))
    → after_names names (option_map (λ more. (name ∷ more.0, more.1)) rest) ≡ after_names (names ++ name ∷ []) rest
one_more names name None = refl
one_more names name (Some found) = ap (λ l. Some (l, found.1)) (sym (append_assoc names (name ∷ []) found.0))

pub names_next : (p : SettingsValue) (stop first name : List ℕ) (names words : List (List ℕ)) → bytes_eq first stop ≡ false
    → name_of_word p first ≡ Some name
    → after_names names (names_before p stop (first ∷ words)) ≡ after_names (names ++ name ∷ []) (names_before p stop words)
names_next p stop first name names words other is = rw (other, is) (one_more names name (names_before p stop words))
