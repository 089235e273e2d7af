-- A node that joins: whom it greets, and whether its join was given up.
use Rattle.std.specs.Prelude.{ℕ, Bool, true, false, if◌then◌else◌, List, [], ◌∷◌, ◌++◌}
use Rattle.tap_name.specs.Names.{has_name}
use Rattle.tap_name.specs.Settings.{SettingsValue}
use Rattle.tap_table.specs.Table.{empty_table}
use Rattle.tap_table.specs.Ties.{TiesValue}

-- the ties, the joining nodes that were greeted, in the order in which they were, and whether the join was given up
pub record JoiningValue : Type 0 where
  pub ties : TiesValue
  pub greeted : List (List ℕ)
  pub abandoned : Bool

-- a node that starts to join: no links, no holders, nobody greeted
abbrev pub started_joining : SettingsValue → List ℕ → JoiningValue
started_joining settings name = record {
  ties = record { table = empty_table settings name; holders = [] };
  greeted = [];
  abandoned = false;
}

-- after a greeting: the joiner is among those that were greeted, once
abbrev pub with_greeted : JoiningValue → List ℕ → JoiningValue
with_greeted joining joiner =
    if has_name joining.greeted joiner then joining else record joining { greeted = joining.greeted ++ joiner ∷ [] }

-- after its join was given up
abbrev pub given_up : JoiningValue → JoiningValue
given_up joining = record joining { abandoned = true }
