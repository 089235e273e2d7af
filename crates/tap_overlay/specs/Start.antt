-- What a node of an overlay may start, and on which conditions.
--
-- Rule: docs/PROTOCOL.md, "Steps of a node".
use Rattle.std.specs.Prelude.{◌≡◌, ◌≤◌, ℕ, false, List, None}
use Rattle.tap_name.specs.Name.{IsName}
use Rattle.tap_name.specs.Settings.{SettingsValue}
use Rattle.tap_name.specs.Word.{IsWord}
use Rattle.tap_cast.specs.Casts.{level_of_cast}
use Rattle.tap_rule.specs.Node.Status.{Core, Joining}
use Rattle.tap_rule.specs.Event.{Start as Begun}
use Rattle.tap_rule.specs.Event.Start.{Abandon as StartAbandon, Cast as StartCast, Find as StartFind, Leave as StartLeave}
use Rattle.tap_rule.specs.Event.Start.{Publish as StartPublish, Withdraw as StartWithdraw}
use Rattle.tap_node.specs.Node.{NodeValue}
use Rattle.tap_overlay.specs.declared.start.Start.{Start}
use Rattle.tap_overlay.specs.declared.start.Start.TheVariants.{Abandon, Publish, Withdraw, Find, Leave, Cast}

-- the start as the rule of a node has it
abbrev pub rule_start : Start → Begun
rule_start Abandon = StartAbandon
rule_start (Publish object) = StartPublish object
rule_start (Withdraw object) = StartWithdraw object
rule_start (Find ticket object) = StartFind ticket object
rule_start Leave = StartLeave
rule_start (Cast cast level word) = StartCast cast level word.now

-- it joins, or is core, if it takes steps
abbrev pub Joins : NodeValue → Type 0
Joins node = node.ended ≡ false → node.state.status ≡ Joining

abbrev pub IsCoreOrEnded : NodeValue → Type 0
IsCoreOrEnded node = node.ended ≡ false → node.state.status ≡ Core

-- it is core, and the object is a name
pub record NodeMayActOn (p : SettingsValue) (node : NodeValue) (object : List ℕ) : Type 0 where
  pub core : IsCoreOrEnded node
  pub name : IsName p object

-- it is core, and hasn't met a cast of this number; the word goes to no more digits than names have
pub record NodeMayCast (p : SettingsValue) (node : NodeValue) (cast level : ℕ) (word : List ℕ) : Type 0 where
  pub core : IsCoreOrEnded node
  pub within : level ≤ p.digits
  pub is_word : IsWord word
  pub unmet : node.ended ≡ false → level_of_cast node.state.casts cast ≡ None

-- a node, whose names are of these settings, may start this
abbrev pub MayStart : SettingsValue → Start → NodeValue → Type 0
MayStart p Abandon node = Joins node
MayStart p (Publish object) node = NodeMayActOn p node object
MayStart p (Withdraw object) node = NodeMayActOn p node object
MayStart p (Find ticket object) node = NodeMayActOn p node object
MayStart p Leave node = IsCoreOrEnded node
MayStart p (Cast cast level word) node = NodeMayCast p node cast level word.now
