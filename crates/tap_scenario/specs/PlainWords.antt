-- the plain words of a step whose names and objects are spelled
use Rattle.std.specs.Prelude.{ℕ, List, [], ◌∷◌, Option, Some, option_map}
use Rattle.std.specs.Option.{unwrap_or}
use Rattle.tap_name.specs.Settings.{SettingsValue}
use Rattle.tap_name.specs.Name.{Name, text_of_name}
use Rattle.tap_scenario.specs.declared.kind.NameKind.{NameKind}
use Rattle.tap_scenario.specs.declared.kind.NameKind.TheVariants as named
use Rattle.tap_scenario.specs.declared.kind.PairKind.{PairKind}
use Rattle.tap_scenario.specs.declared.kind.PairKind.TheVariants as paired
use Rattle.tap_scenario.specs.declared.kind.Kind.{Kind}
use Rattle.tap_scenario.specs.declared.kind.Kind.TheVariants as shape
use Rattle.tap_scenario.specs.Kind.{kind_of_word}
use Rattle.tap_scenario.specs.Spelling.{name_in, object_in}

-- the plain word for one that writes this name, or else that word itself
abbrev pub plain_word : Option Name → List ℕ → List ℕ
plain_word name word = unwrap_or (option_map text_of_name name) word

-- what a word writes as the one name of a step of a kind: that of `root` is an object
abbrev pub one_in : SettingsValue → NameKind → List ℕ → Option Name
one_in p named.Root word = object_in p word
one_in p _ word = name_in p word

-- what a word writes as the first name of a step of a kind: an object, but in `rootset` no salt, and in `join` a node
abbrev pub first_in : SettingsValue → PairKind → List ℕ → Option Name
first_in p paired.Join word = name_in p word
first_in p paired.RootSet word = name_in p word
first_in p _ word = object_in p word

-- the plain words after the first word of a step of one name
abbrev pub plain_one : SettingsValue → NameKind → List (List ℕ) → List (List ℕ)
plain_one p kind [] = []
plain_one p kind (name ∷ others) = plain_word (one_in p kind name) name ∷ others

-- those after the first word of a step of two names
abbrev pub plain_pair : SettingsValue → PairKind → List (List ℕ) → List (List ℕ)
plain_pair p pair (first ∷ link ∷ second ∷ others) =
    plain_word (first_in p pair first) first ∷ link ∷ plain_word (name_in p second) second ∷ others
plain_pair p pair others = others

-- those after the first word of a cast, whose prefix is no name
abbrev pub plain_cast : SettingsValue → List (List ℕ) → List (List ℕ)
plain_cast p (word ∷ to ∷ prefix ∷ from ∷ asker ∷ others) = word ∷ to ∷ prefix ∷ from ∷ plain_word (name_in p asker) asker ∷ others
plain_cast p others = others

-- those after the first word of a step of a kind
abbrev pub plain_after : SettingsValue → Option Kind → List (List ℕ) → List (List ℕ)
plain_after p (Some (shape.Name kind)) others = plain_one p kind others
plain_after p (Some (shape.Pair pair)) others = plain_pair p pair others
plain_after p (Some shape.Cast) others = plain_cast p others
plain_after p _ others = others

-- the plain words of a step
abbrev pub plain_words : SettingsValue → List (List ℕ) → List (List ℕ)
plain_words p [] = []
plain_words p (word ∷ others) = word ∷ plain_after p (kind_of_word word) others
