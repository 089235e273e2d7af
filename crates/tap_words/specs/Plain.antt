-- Plain words, which are accepted.
--
-- Rule: docs/FORMATS.md, "The words".
use Rattle.std.specs.Prelude.{◌≡◌, ℕ, ◌^◌, ◌<◌, ◌≤◌, Bool, true, false, List, [], ◌∷◌, codes, decimal, All, Option, None, Some, unwrap_or}
use Rattle.std.specs.List.{flat_map, list_any}
use Rattle.clap.specs.Words.{Text}
use Rattle.tap_words.specs.Words.{asked_by, most_joins}
use Rattle.tap_words.specs.declared.asked.Asked.{Asked}

-- what plain words choose: the brief text, for how many joins a scenario is made, and from which seed
pub data Choice : Type 0 where
  brief : Choice
  make : ℕ → Choice
  seed : ℕ → Choice

-- the words of a choice: a number is a word of its own
abbrev pub words_of_choice : Choice → List Text
words_of_choice brief = codes "--brief" ∷ []
words_of_choice (make joins) = codes "--make" ∷ decimal joins ∷ []
words_of_choice (seed number) = codes "--seed" ∷ decimal number ∷ []

-- its number is within its limits
abbrev pub IsInLimits : Choice → Type 0
IsInLimits brief = Unit {0}
IsInLimits (make joins) = (1 ≤ joins) × (joins ≤ most_joins)
IsInLimits (seed number) = number < 2 ^ 64

-- two choices are of one kind
abbrev pub are_alike : Choice → Choice → Bool
are_alike brief brief = true
are_alike (make joins) (make others) = true
are_alike (seed number) (seed other) = true
are_alike _ _ = false

-- no two of these choices are of one kind
abbrev pub AreUnlike : List Choice → Type 0
AreUnlike [] = Unit {0}
AreUnlike (choice ∷ choices) = (list_any (are_alike choice) choices ≡ false) × AreUnlike choices

-- ---- what they ask for

abbrev pub brief_among : List Choice → Bool
brief_among choices = list_any (are_alike brief) choices

abbrev pub joins_among : List Choice → Option ℕ
joins_among [] = None
joins_among (make joins ∷ choices) = Some joins
joins_among (choice ∷ choices) = joins_among choices

abbrev pub seed_among : List Choice → Option ℕ
seed_among [] = None
seed_among (seed number ∷ choices) = Some number
seed_among (choice ∷ choices) = seed_among choices

abbrev pub asked_by_choices : List Choice → Asked
asked_by_choices choices =
    record { brief = brief_among choices; make = joins_among choices; seed = unwrap_or (seed_among choices) 1 }

-- Plain words are accepted, and ask for what they choose: each kind of choice at most once, in any order.
abbrev pub PlainWordsAreAccepted : Type 0
PlainWordsAreAccepted = (choices : List Choice) → AreUnlike choices → All IsInLimits choices
    → asked_by (flat_map words_of_choice choices) ≡ Some (asked_by_choices choices)
