-- One step of a walk.
use Rattle.std.specs.Prelude.{◌≡◌, ◌<◌, [], ◌∷◌}
use Rattle.tap_surrogate.specs.declared.walk.Step1.{Step1}
use Rattle.tap_surrogate.specs.declared.walk.Step1.TheVariants.{Hop, Root}
use Rattle.tap_name.specs.Settings.{SettingsValue}
use Rattle.tap_surrogate.specs.Nodes.{Nodes, IsLeastLink, core_links}
use Rattle.tap_surrogate.specs.Standing.{WalkValue, IsStanding, path_left}

-- A hop leads to the least core node of a slot. It leaves the node where the walk stood behind,
-- and raises the level.
pub record IsWalkHop (p : SettingsValue) (nodes : Nodes) (before after : WalkValue) : Type 0 where
  pub passes : path_left p.base (core_links nodes) before ≡ before.node ∷ path_left p.base (core_links nodes) after
  pub link : IsLeastLink nodes before.node after.node
  pub rises : before.level < after.level
  pub object : after.object ≡ before.object
  pub standing : IsStanding p nodes after

-- The walk stays where it stands for all levels that are left.
pub record IsAtRoot (p : SettingsValue) (nodes : Nodes) (before after : WalkValue) : Type 0 where
  pub alone : path_left p.base (core_links nodes) before ≡ before.node ∷ []
  pub stays : after ≡ record before { level = p.digits }

-- The step that a walk makes: a hop to the node where it then stands, or none, at the root.
abbrev pub IsWalkStep : SettingsValue → Nodes → WalkValue → WalkValue → Step1 → Type 0
IsWalkStep p nodes before after (Hop to) = (to ≡ after.node) × IsWalkHop p nodes before after
IsWalkStep p nodes before after (Root node) = (node ≡ before.node) × IsAtRoot p nodes before after
