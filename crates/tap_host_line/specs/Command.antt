-- The command that reads the words: five options, each with one value, help and the version.
use Rattle.std.specs.Prelude.{◌≡◌, Bool, List, Option, [], None, Some, codes, true, false}
use Rattle.std.specs.List.{AllPass}
use Rattle.clap.specs.Words.{App, IsAmong, Kinds, Rule, Text, fault_of, kind_of, new_app, new_rule, with_rule}
use Rattle.clap.specs.declared.builder.ArgAction.TheVariants.{Set}
use Rattle.clap.specs.declared.error.Error.{Error}
use Rattle.clap.specs.declared.error.kind.ErrorKind.{ErrorKind}
use Rattle.clap.specs.declared.error.kind.ErrorKind.TheVariants.{DisplayHelp, DisplayVersion}

-- an option of this name
abbrev pub option_rule : Text → Rule
option_rule name = record (new_rule name) { long = Some name; action = Some Set }

abbrev pub bare_node_app : App
bare_node_app = record (new_app (codes "tapestry_node")) { top = record (new_app (codes "tapestry_node")).top { no_binary_name = true; has_version = true } }

unfoldable pub node_app : App
node_app =
    with_rule (with_rule (with_rule (with_rule (with_rule bare_node_app
    (option_rule (codes "base"))) (option_rule (codes "digits"))) (option_rule (codes "width"))) (option_rule (codes "name")))
    (option_rule (codes "members"))

-- why the command refuses the words; nothing if it takes them
unfoldable pub faults_of_node_words : List Text → Kinds
faults_of_node_words words = fault_of node_app words

-- that words aren't taken since they ask for help or for the version
abbrev pub asks_for_text : ErrorKind → Bool
asks_for_text DisplayHelp = true
asks_for_text DisplayVersion = true
asks_for_text _ = false

-- The text for which words ask that the command refuses so, if they ask for one: it comes if that is why, and doesn't if the words are taken or
-- refused for something else.
abbrev pub IsTextFor : Kinds → Option Error → Type 0
IsTextFor kinds (Some text) = IsAmong (kind_of text) kinds × (asks_for_text (kind_of text) ≡ true)
IsTextFor kinds None = AllPass asks_for_text kinds → kinds ≡ []
