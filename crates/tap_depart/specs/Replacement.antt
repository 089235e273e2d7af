-- The node that a leaving node gives a holder in its own place.
use Rattle.std.specs.Prelude.{ℕ, ◌&&◌, nat_lt, Bool, List, find, Option, Some}
use Rattle.std.specs.Option.{option_map}
use Rattle.tap_name.specs.Prefix.{lcp}
use Rattle.tap_link.specs.Entry.{LinkEntry}
use Rattle.tap_link.specs.LinkSet.{is_settled}
use Rattle.tap_table.specs.ByName.{by_name}
use Rattle.tap_table.specs.Table.{SlotLinks, TableValue}

-- a link of the owner that is settled, not leaving, and at a level above this one
abbrev pub is_settled_above : List ℕ → ℕ → LinkEntry (List ℕ) → Bool
is_settled_above owner level e = is_settled (Some e.kind) && nat_lt level (lcp owner e.target)

-- the first of these links that is so
abbrev pub first_above : List ℕ → ℕ → SlotLinks → Option (List ℕ)
first_above owner level links = option_map (λ e. e.target) (find (is_settled_above owner level) links)

-- the least settled link of a table at levels above this one, that isn't leaving
abbrev pub least_above : TableValue → ℕ → Option (List ℕ)
least_above t level = first_above t.owner level (by_name t)

-- the replacement for a holder: the least settled link of the owner at levels above what the two share
abbrev pub replacement_for : TableValue → List ℕ → Option (List ℕ)
replacement_for t holder = least_above t (lcp holder t.owner)
