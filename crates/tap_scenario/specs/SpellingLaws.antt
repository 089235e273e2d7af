-- what holds of names and steps that are spelled
use Rattle.std.specs.Prelude.{◌≡◌, ◌≤◌, ℕ, Bool, false, List, [], ◌∷◌, Some, option_map}
use Rattle.tap_name.specs.Settings.{SettingsValue}
use Rattle.tap_name.specs.Name.{name_of_word}
use Rattle.tap_salt.specs.Salt.{is_salted}
use Rattle.tap_scenario.specs.declared.step.Step.{Step}
use Rattle.tap_scenario.specs.Spelling.{name_in, object_in}
use Rattle.tap_scenario.specs.Spread.{steps_of_text}
use Rattle.tap_scenario.specs.Step.{step_of_text}

-- a text that is a step stands for that step alone
abbrev pub StepsStandForThemselves : Type 0
StepsStandForThemselves =
    (p : SettingsValue) (carrier : Bool) (text : List ℕ) (step : Step) → step_of_text p carrier text ≡ Some step
    → steps_of_text p carrier text ≡ Some (step ∷ [])

-- unless names are as long as a digest, a word writes the name that it spells digit by digit, and no other
abbrev pub OtherNamesArePlain : Type 0
OtherNamesArePlain =
    (p : SettingsValue) (word : List ℕ) → p.base ≤ 16 → is_salted p ≡ false
    → (name_in p word ≡ name_of_word p word) × (object_in p word ≡ name_of_word p word)

-- unless names are as long as a digest, a text stands for the step that it is, and for nothing else
abbrev pub OtherStepsArePlain : Type 0
OtherStepsArePlain =
    (p : SettingsValue) (carrier : Bool) (text : List ℕ) → p.base ≤ 16 → is_salted p ≡ false
    → steps_of_text p carrier text ≡ option_map (λ (step : Step). step ∷ []) (step_of_text p carrier text)
