-- what the values of a scenario's text have to be
use Rattle.std.specs.Prelude.{ℕ, pos, nat_le, Bool, true, false, ◌&&◌, List, [], ◌∷◌, length, Option, None, Some, option_and_then, if◌then◌else◌}
use Rattle.toml.specs.Data.{Data, string, integer, boolean, array, Items, no_items, item}
use Rattle.tap_name.specs.Settings.{SettingsValue}
use Rattle.tap_name.specs.Names.{are_distinct}
use Rattle.tap_scenario.specs.Scenario.{most_members}
use Rattle.tap_scenario.specs.Spelling.{name_in}

-- a whole number within these limits
abbrev pub whole_number : ℕ → ℕ → Data → Option ℕ
whole_number low high (integer (pos n)) = if nat_le low n && nat_le n high then Some n else None
whole_number low high _ = None

-- whether a scenario is carried
abbrev pub carrier_of : Data → Option Bool
carrier_of (boolean carrier) = Some carrier
carrier_of _ = None

-- whether each of these is a string
abbrev pub are_strings : Items → Bool
are_strings no_items = true
are_strings (item (string text) others) = are_strings others
are_strings (item _ others) = false

-- the texts of the strings among these
abbrev pub texts_of : Items → List (List ℕ)
texts_of no_items = []
texts_of (item (string text) others) = text ∷ texts_of others
texts_of (item _ others) = texts_of others

-- an array of strings
abbrev pub array_of_strings : Data → Option (List (List ℕ))
array_of_strings (array items) = if are_strings items then Some (texts_of items) else None
array_of_strings _ = None

-- an array of at most so many strings
abbrev pub strings_up_to : ℕ → Data → Option (List (List ℕ))
strings_up_to most value = option_and_then (λ texts. if nat_le (length texts) most then Some texts else None) (array_of_strings value)

-- one more at the front, if both are there
abbrev pub cons_both : {A : Type 0} → Option A → Option (List A) → Option (List A)
cons_both (Some first) (Some others) = Some (first ∷ others)
cons_both _ _ = None

-- texts that write names
abbrev pub names_of_texts : SettingsValue → List (List ℕ) → Option (List (List ℕ))
names_of_texts p [] = Some []
names_of_texts p (text ∷ others) = cons_both (name_in p text) (names_of_texts p others)

-- names of which no two are the same
abbrev pub distinct_names : List (List ℕ) → Option (List (List ℕ))
distinct_names names = if are_distinct names then Some names else None

-- texts that write distinct names, as many as a scenario may have members
abbrev pub members_of_texts : SettingsValue → List (List ℕ) → Option (List (List ℕ))
members_of_texts p texts =
    if nat_le 1 (length texts) && nat_le (length texts) most_members then option_and_then distinct_names (names_of_texts p texts) else None
