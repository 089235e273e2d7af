-- What each node keeps, whatever happens at it.
use Rattle.std.specs.Prelude.{◌≡◌, length, All}
use Rattle.std.specs.List.Sorted.{IsStrictlySortedBy}
use Rattle.std.specs.Map.{keys_of}
use Rattle.std.specs.Ordering.{nat_cmp}
use Rattle.tap_name.specs.Name.{IsName}
use Rattle.tap_name.specs.Order.{name_cmp}
use Rattle.tap_name.specs.Settings.{SettingsValue}
use Rattle.tap_session.specs.Sessions.{AreSessions}
use Rattle.tap_table.specs.Ties.{AreTies}
use Rattle.tap_pointer.specs.Pointers.{IsPointers}
use Rattle.tap_rule.specs.Node.{NodeState, name_of, settings_of}
use Rattle.tap_rule.specs.Event.{Start}
use Rattle.tap_rule.specs.Event.Start.{Publish}

-- Its ties are ties, and both its sessions are sessions; each session of casts that was opened has its cast; its pointers are
-- pointers, of objects that are names; and the joiners that it covers are names that ascend, as the casts ascend that it has met.
pub record IsNode (node : NodeState) : Type 0 where
  pub ties : AreTies node.ties
  pub sessions : AreSessions node.sessions
  pub cast_sessions : AreSessions node.cast_sessions
  pub cast_numbers : length node.cast_numbers ≡ node.cast_sessions.opened
  pub pointers : IsPointers node.pointers
  pub owner : node.pointers.owner ≡ name_of node
  pub objects : All (λ e. IsName (settings_of node) e.0.object) node.pointers.pairs
  pub covers : IsStrictlySortedBy name_cmp (keys_of node.covers)
  pub joiners : All (IsName (settings_of node)) (keys_of node.covers)
  pub casts : IsStrictlySortedBy nat_cmp (keys_of node.casts)

-- it still is a node, with its name and the settings
pub record KeepsNode (before after : NodeState) : Type 0 where
  pub node : IsNode after
  pub name : name_of after ≡ name_of before
  pub settings : settings_of after ≡ settings_of before

-- what a node starts to publish is a name
abbrev pub IsStart : SettingsValue → Start → Type 0
IsStart p (Publish object) = IsName p object
IsStart p _ = Unit {0}
