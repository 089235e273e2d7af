-- The command that reads the words: a flag and two options, each with one number.
use Rattle.std.specs.Prelude.{List, codes, Some, true}
use Rattle.clap.specs.Words.{App, Kinds, Rule, Text, fault_of, new_app, new_rule, with_rule}
use Rattle.clap.specs.declared.builder.ArgAction.TheVariants.{Set, SetTrue}
use Rattle.clap.specs.declared.builder.ValueParser.TheVariants as value

abbrev pub brief_rule : Rule
brief_rule = record (new_rule (codes "brief")) { long = Some (codes "brief"); action = Some SetTrue }

abbrev pub make_rule : Rule
make_rule = record (new_rule (codes "make")) {
  long = Some (codes "make");
  action = Some Set;
  parser = Some (value.Unsigned 0 18446744073709551615);
}

abbrev pub seed_rule : Rule
seed_rule = record (new_rule (codes "seed")) {
  long = Some (codes "seed");
  action = Some Set;
  parser = Some (value.Unsigned 0 18446744073709551615);
}

abbrev pub bare_app : App
bare_app = record (new_app (codes "tapestry")) { top = record (new_app (codes "tapestry")).top { no_binary_name = true } }

unfoldable pub command_app : App
command_app = with_rule (with_rule (with_rule bare_app brief_rule) make_rule) seed_rule

-- why the command refuses the words; nothing if it takes them
unfoldable pub faults : List Text → Kinds
faults words = fault_of command_app words
