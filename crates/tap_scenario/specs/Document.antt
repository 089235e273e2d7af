-- the scenario that a text is, over the TOML table that it writes
use Rattle.std.specs.Prelude.{ℕ, ◌+◌, nat_le, Bool, false, List, [], ◌∷◌, ◌++◌, length, Option, None, Some, is_some, ok_or, option_and_then, Result, Ok, Err, if◌then◌else◌}
use Rattle.std.specs.Str.{is_utf8}
use Rattle.toml.specs.Data.{Data, Members as Table}
use Rattle.toml.specs.Parse.{parse_document}
use Rattle.tap_name.specs.Settings.{SettingsValue}
use Rattle.tap_scenario.specs.declared.fault.Key.{Key}
use Rattle.tap_scenario.specs.declared.fault.Key.TheVariants.{Base, Digits, Width, Frames, Carrier, Members, Steps}
use Rattle.tap_scenario.specs.declared.fault.Fault.{Fault}
use Rattle.tap_scenario.specs.declared.fault.Fault.TheVariants.{NotUtf8, NotToml, BadKey, BadValue, BadStep}
use Rattle.tap_scenario.specs.declared.step.Step.{Step}
use Rattle.tap_scenario.specs.Key.{value_at, wrong_key}
use Rattle.tap_scenario.specs.Scenario.{ScenarioValue, most_frames, most_steps}
use Rattle.tap_scenario.specs.Spread.{steps_of_text}
use Rattle.tap_scenario.specs.Fault.{◌>>=◌}
use Rattle.tap_scenario.specs.Value.{whole_number, carrier_of, array_of_strings, strings_up_to, members_of_texts}

-- what the value under a key is read as, if it is as it has to be
abbrev pub read_at : {A : Type 0} → Key → (Data → Option A) → Table → Result A Fault
read_at key reading table = ok_or (option_and_then reading (value_at key table)) (BadValue key)

-- the settings that a table gives, or the first fault
abbrev pub settings_of_table : Table → Result SettingsValue Fault
settings_of_table table =
    read_at Base (whole_number 2 16) table >>= (λ base.
    read_at Digits (whole_number 1 40) table >>= (λ digits.
    read_at Width (whole_number 1 4) table >>= (λ width.
    let settings : SettingsValue = record { base = base; digits = digits; width = width } in Ok settings)))

-- the limit of frames if the text gives none, by the number of digits
abbrev pub default_frames : ℕ → ℕ
default_frames digits = if nat_le digits 8 then 200000 else 100000

-- how many frames may be sent: as the table says, or else the default
abbrev pub frames_of_table : SettingsValue → Table → Result ℕ Fault
frames_of_table p table =
    if is_some (value_at Frames table) then read_at Frames (whole_number 1 (most_frames p.digits)) table else Ok (default_frames p.digits)

-- whether the scenario is carried: as the table says, or else not
abbrev pub carrier_of_table : Table → Result Bool Fault
carrier_of_table table = if is_some (value_at Carrier table) then read_at Carrier carrier_of table else Ok false

-- the members that a table gives
abbrev pub members_of_table : SettingsValue → Table → Result (List (List ℕ)) Fault
members_of_table p table = read_at Members array_of_strings table >>= (λ texts. ok_or (members_of_texts p texts) (BadValue Members))

-- these steps and then those of a string, if a scenario may have so many
abbrev pub steps_with : List Step → List Step → Option (List Step)
steps_with before steps =
    if nat_le (length before + length steps) most_steps then Some (before ++ steps) else None

-- the steps so far and those of the string of this number, in a scenario that is carried or not
unfoldable pub numbered_steps : SettingsValue → Bool → ℕ → List Step → List ℕ → Result (List Step) Fault
numbered_steps p carrier number before text =
    ok_or (option_and_then (steps_with before) (steps_of_text p carrier text)) (BadStep number)

-- the steps so far and those of these strings, of which the first has this number
abbrev pub steps_from : SettingsValue → Bool → ℕ → List Step → List (List ℕ) → Result (List Step) Fault
steps_from p carrier number before [] = Ok before
steps_from p carrier number before (text ∷ others) =
    numbered_steps p carrier number before text >>= (λ steps. steps_from p carrier (number + 1) steps others)

-- the steps that a table gives; its strings are counted from 1
abbrev pub steps_of_table : SettingsValue → Bool → Table → Result (List Step) Fault
steps_of_table p carrier table = read_at Steps (strings_up_to most_steps) table >>= steps_from p carrier 1 []

-- the scenario of a table whose keys are right
abbrev pub script_of : Table → Result ScenarioValue Fault
script_of table =
    settings_of_table table >>= (λ settings.
    frames_of_table settings table >>= (λ frames.
    carrier_of_table table >>= (λ carrier.
    members_of_table settings table >>= (λ members.
    steps_of_table settings carrier table >>= (λ steps.
    let script : ScenarioValue = record { settings = settings; frames = frames; carrier = carrier; members = members; steps = steps } in
    Ok script)))))

-- this answer, if no key is wrong
abbrev pub unless_wrong : Option Key → Result ScenarioValue Fault → Result ScenarioValue Fault
unless_wrong (Some key) answer = Err (BadKey key)
unless_wrong None answer = answer

-- the scenario of a table
abbrev pub scenario_of_table : Table → Result ScenarioValue Fault
scenario_of_table table = unless_wrong (wrong_key table) (script_of table)

-- the scenario of a text's table, if the text is TOML
abbrev pub scenario_of_document : Option Table → Result ScenarioValue Fault
scenario_of_document None = Err NotToml
scenario_of_document (Some table) = scenario_of_table table

-- the scenario that these bytes are, or the first fault
unfoldable pub scenario_of : List ℕ → Result ScenarioValue Fault
scenario_of bytes = if is_utf8 bytes then scenario_of_document (parse_document bytes) else Err NotUtf8
