-- Where a walk stands.
use Rattle.std.specs.Prelude.{ℕ, ◌≤◌, List, drop}
use Rattle.tap_name.specs.Settings.{SettingsValue}
use Rattle.tap_name.specs.Name.{IsName}
use Rattle.tap_surrogate.specs.Tables.{Tables}
use Rattle.tap_surrogate.specs.Nodes.{Nodes, IsCore}
use Rattle.tap_surrogate.specs.Walk.{walk_on}

-- a walk under way: the node where it stands, the level that comes next, and the object
pub record WalkValue : Type 0 where
  pub node : List ℕ
  pub level : ℕ
  pub object : List ℕ

-- the walk stands at a core node, and its object is a name of the settings
pub record IsStanding (p : SettingsValue) (nodes : Nodes) (walk : WalkValue) : Type 0 where
  pub core : IsCore nodes walk.node
  pub level : walk.level ≤ p.digits
  pub object : IsName p walk.object

-- the nodes of the walk from where it stands to its end
abbrev pub path_left : ℕ → Tables → WalkValue → List (List ℕ)
path_left base tables walk = walk_on base tables walk.node walk.level (drop walk.level walk.object)
