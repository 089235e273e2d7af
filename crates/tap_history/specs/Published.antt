-- Which servers have which objects at a moment of a log. A set of pairs is a list of them.
use Rattle.std.specs.Prelude.{ℕ, Bool, not, ◌&&◌, if◌then◌else◌, List, [], ◌∷◌, filter, Option, None, Some, nat_eq}
use Rattle.std.specs.List.{filter_map, list_any, cons_option}
use Rattle.std.specs.Cmp.Lexicographic.{pointwise}
use Rattle.tap_log.specs.declared.record.Pair.{Pair}
use Rattle.tap_log.specs.declared.record.Record.{Record}
use Rattle.tap_log.specs.Kinds.{published_pair, withdrawn_pair}
use Rattle.tap_name.specs.Names.{has_name}
use Rattle.tap_history.specs.Core.{departures_of}

abbrev pub same_pair : Pair → Pair → Bool
same_pair a b = pointwise nat_eq a.object b.object && pointwise nat_eq a.server b.server

-- the pair is among these
abbrev pub has_pair : List Pair → Pair → Bool
has_pair pairs pair = list_any (λ other. same_pair other pair) pairs

-- the first pairs less the second ones
abbrev pub pairs_less : List Pair → List Pair → List Pair
pairs_less pairs ended = filter (λ pair. not (has_pair ended pair)) pairs

-- the pair, if no record of these withdraws it
abbrev pub unless_withdrawn : List Record → Pair → Option Pair
unless_withdrawn later pair = (if has_pair (filter_map withdrawn_pair later) pair then None else Some pair)

-- the pair that a record publishes, if none of the later ones withdraws it
abbrev pub unwithdrawn_pair : Option Pair → List Record → Option Pair
unwithdrawn_pair None later = None
unwithdrawn_pair (Some pair) later = unless_withdrawn later pair

-- the pairs of `Published` records, less those of later `Withdrawn` records
abbrev pub unwithdrawn_pairs : List Record → List Pair
unwithdrawn_pairs [] = []
unwithdrawn_pairs (item ∷ later) = cons_option (unwithdrawn_pair (published_pair item) later) (unwithdrawn_pairs later)

-- the pairs less those of these servers
abbrev pub without_servers : List (List ℕ) → List Pair → List Pair
without_servers servers pairs = filter (λ pair. not (has_name servers pair.server)) pairs

-- The published pairs: those of `Published` records, less those of later `Withdrawn` records, less those of a server from its
-- accepted departure on.
abbrev pub published_of : List Record → List Pair
published_of log = without_servers (departures_of log) (unwithdrawn_pairs log)
