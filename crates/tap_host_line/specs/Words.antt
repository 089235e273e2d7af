-- What the words of a command line say.
--
-- Rule: docs/NETWORK.md, "The process of a node".
use Rattle.std.specs.Prelude.{ℕ, ◌&&◌, nat_le, List, [], ◌∷◌, codes, Option, None, Some, if◌then◌else◌, option_map, option_and_then}
use Rattle.clap.specs.Words.{Kinds, Row, Text, first_of, matches_of}
use Rattle.tap_name.specs.Name.{Name, name_of_word}
use Rattle.tap_name.specs.Settings.{SettingsValue}
use Rattle.tap_scenario.specs.Step.{number_below}
use Rattle.tap_host_line.specs.Command.{faults_of_node_words, node_app}
use Rattle.tap_host_line.specs.declared.asked.Asked.{Asked}

-- the number below 256 that a text writes
abbrev pub byte_in : Option Text → Option ℕ
byte_in text = option_and_then (number_below 256) text

-- the settings of these numbers, if each is within its limits
abbrev pub settings_within : ℕ → ℕ → ℕ → Option SettingsValue
settings_within base digits width =
    if (nat_le 2 base && nat_le base 16) && (nat_le 1 digits && nat_le digits 40) && (nat_le 1 width && nat_le width 4)
    then Some (record { base = base; digits = digits; width = width }) else None

-- the settings of these numbers, if all are there
abbrev pub settings_if_given : Option ℕ → Option ℕ → Option ℕ → Option SettingsValue
settings_if_given (Some base) (Some digits) (Some width) = settings_within base digits width
settings_if_given _ _ _ = None

-- the settings at their options
abbrev pub settings_in_rows : List Row → Option SettingsValue
settings_in_rows rows =
    settings_if_given (byte_in (first_of (codes "base") rows)) (byte_in (first_of (codes "digits") rows)) (byte_in (first_of (codes "width") rows))

-- the name at its option
abbrev pub name_in_rows : SettingsValue → List Row → Option Name
name_in_rows p rows = option_and_then (name_of_word p) (first_of (codes "name") rows)

-- what the command has found in the words
abbrev pub node_asked_in_rows : List Row → Option Asked
node_asked_in_rows rows =
    option_and_then (λ p. option_map (λ name. record { settings = p; name = name }) (name_in_rows p rows)) (settings_in_rows rows)

-- the file of members that the command has found in the words
abbrev pub members_file_in_rows : List Row → Option Text
members_file_in_rows rows = first_of (codes "members") rows

-- The file of members that the words name, if the command takes them.
unfoldable pub members_file_by : List Text → Option Text
members_file_by words = members_file_in_rows (matches_of node_app words)

-- nothing, if the command refuses them
abbrev pub node_asked_unless : Kinds → List Row → Option Asked
node_asked_unless [] rows = node_asked_in_rows rows
node_asked_unless (kind ∷ kinds) rows = None

-- What the words say, if they are accepted: if the command takes them, and each is within its limits.
unfoldable pub node_asked_by : List Text → Option Asked
node_asked_by words = node_asked_unless (faults_of_node_words words) (matches_of node_app words)
