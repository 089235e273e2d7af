-- the steps that a text stands for: one, or one for each salt of an object
use Rattle.std.specs.Prelude.{ℕ, ◌+◌, Bool, List, [], ◌∷◌, ◌++◌, codes, bytes_eq, find, map, Option, None, Some, option_map}
use Rattle.std.specs.Option.{option_or}
use Rattle.tap_name.specs.Settings.{SettingsValue}
use Rattle.tap_scenario.specs.declared.kind.Kind.TheVariants.{Pair}
use Rattle.tap_scenario.specs.declared.kind.PairKind.{PairKind}
use Rattle.tap_scenario.specs.declared.kind.PairKind.TheVariants.{Publish, Withdraw, Find}
use Rattle.tap_scenario.specs.declared.kind.SpreadKind.{SpreadKind}
use Rattle.tap_scenario.specs.declared.kind.SpreadKind.TheVariants.{Scatter, Gather, FindAll}
use Rattle.tap_scenario.specs.declared.spelled.Spelled.{Spelled}
use Rattle.tap_scenario.specs.declared.spelled.Spelled.TheVariants.{One, Four}
use Rattle.tap_scenario.specs.declared.step.Step.{Step}
use Rattle.tap_scenario.specs.Kind.{text_of_kind}
use Rattle.tap_scenario.specs.PlainWords.{plain_words}
use Rattle.tap_scenario.specs.Step.{step_of_text, step_of_words}
use Rattle.tap_scenario.specs.Value.{cons_both}
use Rattle.tap_scenario.specs.Words.{words}

-- the first word of what stands for four steps, one for each salt of an object
abbrev pub text_of_spread : SpreadKind → List ℕ
text_of_spread Scatter = codes "scatter"
text_of_spread Gather = codes "gather"
text_of_spread FindAll = codes "findall"

-- the kind that begins with a word
abbrev pub spread_of_word : List ℕ → Option SpreadKind
spread_of_word word = find (λ kind. bytes_eq word (text_of_spread kind)) (Scatter ∷ Gather ∷ FindAll ∷ [])

-- the kind of its steps
abbrev pub pair_of_spread : SpreadKind → PairKind
pair_of_spread Scatter = Publish
pair_of_spread Gather = Withdraw
pair_of_spread FindAll = Find

-- the object with the ending of the salt of this number
abbrev pub with_ending : List ℕ → ℕ → List ℕ
with_ending object number = object ++ 35 ∷ (number + 48) ∷ []

-- the words of its steps, by those after its first word
abbrev pub words_for_salts : SpreadKind → List (List ℕ) → List (List (List ℕ))
words_for_salts kind [] = [] ∷ []
words_for_salts kind (object ∷ others) =
    map (λ number. text_of_kind (Pair (pair_of_spread kind)) ∷ with_ending object number ∷ others) (1 ∷ 2 ∷ 3 ∷ 4 ∷ [])

-- the words of the steps for which words stand
abbrev pub spread_as : Option SpreadKind → List ℕ → List (List ℕ) → List (List (List ℕ))
spread_as None word others = (word ∷ others) ∷ []
spread_as (Some kind) word others = words_for_salts kind others

-- those for which the words of a text stand; without a word it is one list without words, which is no step
abbrev pub spread : List (List ℕ) → List (List (List ℕ))
spread [] = [] ∷ []
spread (word ∷ others) = spread_as (spread_of_word word) word others

-- the steps that lists of words are once each is written plainly, if each is one
abbrev pub steps_of_words : SettingsValue → Bool → List (List (List ℕ)) → Option (List Step)
steps_of_words p carrier [] = Some []
steps_of_words p carrier (given ∷ others) =
    cons_both (step_of_words p carrier (plain_words p given)) (steps_of_words p carrier others)

-- the steps that a text stands for: the one that it is as it stands, or else those of its words
abbrev pub steps_of_text : SettingsValue → Bool → List ℕ → Option (List Step)
steps_of_text p carrier text =
    option_or (option_map (λ step. step ∷ []) (step_of_text p carrier text)) (steps_of_words p carrier (spread (words text)))

-- the steps of what a text was read as
abbrev pub steps_in : Spelled → List Step
steps_in (One step) = step ∷ []
steps_in (Four steps) = steps
