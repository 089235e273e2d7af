-- the lines of tables and pointers
use Rattle.std.specs.Prelude.{ℕ, List, [], ◌∷◌, ◌++◌, codes}
use Rattle.std.specs.List.{flat_map}
use Rattle.tap_name.specs.Digits.{text_of_digit}
use Rattle.tap_log.specs.declared.record.NodeWord.{NodeWord}
use Rattle.tap_log.specs.declared.record.NodeWord.TheVariants as node
use Rattle.tap_log.specs.declared.record.LinkWord.{LinkWord}
use Rattle.tap_log.specs.declared.record.LinkWord.TheVariants as link
use Rattle.tap_log.specs.declared.record.LinkLine.{LinkLine}
use Rattle.tap_log.specs.declared.record.Pair.{Pair}
use Rattle.tap_report.specs.Shapes.{name_after, number_after, two_names_after, line}

-- what a node is
abbrev pub words_of_node : NodeWord → List ℕ
words_of_node node.Joining = codes "joining"
words_of_node node.Core = codes "core"
words_of_node node.Leaving = codes "leaving"

-- what a link is
abbrev pub words_of_link : LinkWord → List ℕ
words_of_link link.Pin = codes "pin"
words_of_link link.Settled = codes "settled"
words_of_link link.Leaving = codes "leaving"

-- the first line of a table
abbrev pub table_line : List ℕ → NodeWord → ℕ → List ℕ
table_line name status count =
    name_after (codes "table ") name ++ codes " " ++ words_of_node status ++ number_after (codes " links ") count

-- its further lines, one for each link
abbrev pub text_of_link : LinkLine → List ℕ
text_of_link l =
    line (number_after (codes "link ") l.slot.level ++ codes " " ++ (text_of_digit l.slot.digit ∷ [])
    ++ name_after (codes " ") l.name ++ codes " " ++ words_of_link l.kind)

abbrev pub link_lines : List LinkLine → List ℕ
link_lines links = flat_map text_of_link links

-- the first line of pointers
abbrev pub pointers_line : List ℕ → ℕ → List ℕ
pointers_line name count = name_after (codes "pointers ") name ++ number_after (codes " count ") count

-- the further lines, one for each pointer
abbrev pub pointer_line : Pair → List ℕ
pointer_line pair = line (two_names_after (codes "pointer ") pair.object (codes " ") pair.server)

abbrev pub pointer_lines : List Pair → List ℕ
pointer_lines pairs = flat_map pointer_line pairs
