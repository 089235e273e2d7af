-- How a node begins.
--
-- Rule: docs/PROTOCOL.md, "Nodes".
use Rattle.std.specs.Prelude.{◌≡◌, ℕ, false, List, [], None}
use Rattle.tap_name.specs.Settings.{SettingsValue}
use Rattle.tap_table.specs.Members.{ties_at_rest}
use Rattle.tap_rule.specs.Node.{NodeState, link_to, name_of, settings_of}
use Rattle.tap_rule.specs.Node.Status.{Joining, Core}

-- It has this name and these settings, and nothing has happened at it: its stamp has given no number, it has opened no session and
-- covers and awaits nobody, it has greeted nobody and its join isn't given up, and it knows of no pointer and of no cast.
pub record IsUntouched (p : SettingsValue) (name : List ℕ) (node : NodeState) : Type 0 where
  pub named : name_of node ≡ name
  pub settings : settings_of node ≡ p
  pub stamp : node.stamp ≡ 0
  pub sessions : node.sessions.sessions ≡ []
  pub opened : node.sessions.opened ≡ 0
  pub covers : node.covers ≡ []
  pub greeted : node.greeted ≡ []
  pub abandoned : node.abandoned ≡ false
  pub publisher : node.pointers.owner ≡ name
  pub pairs : node.pointers.pairs ≡ []
  pub awaited : node.awaited ≡ []
  pub casts : node.casts ≡ []
  pub cast_sessions : node.cast_sessions.sessions ≡ []
  pub casts_opened : node.cast_sessions.opened ≡ 0
  pub cast_numbers : node.cast_numbers ≡ []

-- a node that starts to join: it has no links and no holders
pub record BeginsToJoin (p : SettingsValue) (name : List ℕ) (node : NodeState) : Type 0 where
  pub status : node.status ≡ Joining
  pub unlinked : (other : List ℕ) → link_to node other ≡ None
  pub unheld : node.ties.holders ≡ []
  pub untouched : IsUntouched p name node

-- one of the members with which an overlay begins: it has its ties at rest over them
pub record BeginsAtRest (p : SettingsValue) (members : List (List ℕ)) (name : List ℕ) (node : NodeState) : Type 0 where
  pub status : node.status ≡ Core
  pub ties : node.ties ≡ ties_at_rest p name members
  pub untouched : IsUntouched p name node
