-- the lines of walks, lookups and root sets
use Rattle.std.specs.Prelude.{ℕ, ◌-◌, List, [], ◌++◌, length, slice_index_or, codes, Bool, true, false, Option, None, Some}
use Rattle.tap_log.specs.declared.record.Record.{Record}
use Rattle.tap_log.specs.declared.record.Record.TheVariants.{Walked, RootOf, Asked, Answered, Published, Withdrawn, RootsOf}
use Rattle.tap_report.specs.Shapes.{name_after, object_from, number_after, spaced_names}

-- whether a record is of a walk, a root, or a server of an object
abbrev pub is_lookup : Record → Bool
is_lookup (Walked object path) = true
is_lookup (RootOf object root) = true
is_lookup (Asked ticket object asker) = true
is_lookup (Answered ticket server) = true
is_lookup (Published object server) = true
is_lookup (Withdrawn object server) = true
is_lookup (RootsOf object asker roots) = true
is_lookup item = false

-- the node at a place of a path
abbrev pub node_on_path : List (List ℕ) → ℕ → List ℕ
node_on_path path place = slice_index_or path place []

-- The line of a walk. The first node of the path is the asker, and the last one is the object's root.
abbrev pub walked_line : List ℕ → List (List ℕ) → List ℕ
walked_line object path =
    object_from (codes "walked ") object (node_on_path path 0) ++ codes " path" ++ spaced_names path
    ++ name_after (codes " root ") (node_on_path path (length path - 1)) ++ number_after (codes " hops ") (length path - 1)

-- the line of a lookup that is asked
abbrev pub asked_line : ℕ → List ℕ → List ℕ → List ℕ
asked_line ticket object asker = number_after (codes "asked ") ticket ++ object_from (codes " ") object asker

-- a server, or none
abbrev pub text_of_server : Option (List ℕ) → List ℕ
text_of_server None = codes " none"
text_of_server (Some server) = name_after (codes " server ") server

-- the line of its answer
abbrev pub answered_line : ℕ → Option (List ℕ) → List ℕ
answered_line ticket server = number_after (codes "answered ") ticket ++ text_of_server server

-- the line of a root set
abbrev pub roots_line : List ℕ → List ℕ → List (List ℕ) → List ℕ
roots_line object asker roots = object_from (codes "rootset ") object asker ++ codes " roots" ++ spaced_names roots
