-- What a node may begin, and a number above those of all casts that it has met.
use Rattle.std.specs.Prelude.{◌≡◌, ℕ, ◌+◌, ◌<◌, nat_le, max, Bool, true, false, not, All, None, Result, Ok, Err}
use Rattle.std.specs.Map.{keys_of}
use Rattle.tap_cast.specs.Casts.{CastsValue, level_of_cast}
use Rattle.tap_name.specs.Settings.{SettingsValue}
use Rattle.tap_rule.specs.Node.{settings_of}
use Rattle.tap_rule.specs.Event.{Start}
use Rattle.tap_rule.specs.Event.Start.{Join, Abandon, Publish, Withdraw, Find, Leave, Cast}
use Rattle.tap_node_common.specs.declared.news.News.{News}
use Rattle.tap_node_common.specs.declared.news.News.TheVariants as news
use Rattle.tap_node.specs.declared.status.NodeStatus.{NodeStatus}
use Rattle.tap_node.specs.declared.status.NodeStatus.TheVariants as seen
use Rattle.tap_node.specs.declared.fault.NodeFault.{NodeFault}
use Rattle.tap_node.specs.declared.turn.Turn.{Turn}
use Rattle.tap_node.specs.Node.{NodeValue}
use Rattle.tap_node.specs.Outcome.{AnswersAs, Outcome}
use Rattle.tap_host_line.specs.declared.line.Start.{Start as StartLine}
use Rattle.tap_host_line.specs.declared.line.Start.TheVariants as line

-- the node, and the number
pub record ActorValue : Type 0 where
  pub node : NodeValue
  pub casts_below : ℕ

-- the start of the rule that a line asks for
abbrev pub start_of : StartLine → Start
start_of (line.Join via) = Join via
start_of line.Abandon = Abandon
start_of (line.Publish object) = Publish object
start_of (line.Withdraw object) = Withdraw object
start_of (line.Find ticket object) = Find ticket object
start_of line.Leave = Leave
start_of (line.Cast number level word) = Cast number level word

-- a node joins or gives its join up
abbrev pub is_of_join : StartLine → Bool
is_of_join (line.Join via) = true
is_of_join line.Abandon = true
is_of_join _ = false

-- a start that a node of this status has: those of a join while it joins, and the others once it is core
abbrev pub has_start : NodeStatus → StartLine → Bool
has_start seen.Joining begun = is_of_join begun
has_start seen.Core begun = not (is_of_join begun)
has_start _ begun = false

-- a cast that is begun has a number that no cast has that the node has met
abbrev pub is_new : ℕ → StartLine → Bool
is_new below (line.Cast number level word) = nat_le below number
is_new below _ = true

-- a cast that is begun isn't among those that were met
abbrev pub IsUnmet : CastsValue → StartLine → Type 0
IsUnmet casts (line.Cast number level word) = level_of_cast casts number ≡ None
IsUnmet casts _ = Unit {0}

-- the casts that were met have lesser numbers
abbrev pub AreMetBelow : ℕ → CastsValue → Type 0
AreMetBelow below casts = All (λ cast. cast < below) (keys_of casts)

-- so many after the news of a step
abbrev pub below_after : ℕ → News → ℕ
below_after below (news.Cast cast true closed) = max below (cast + 1)
below_after below _ = below

-- the same after an answer: a refusal is no news
abbrev pub below_given : ℕ → Result Turn NodeFault → ℕ
below_given below (Ok turn) = below_after below turn.news
below_given below (Err cause) = below

-- it has these settings, and as long as it takes steps, it has met no other casts
pub record IsKept (p : SettingsValue) (node : NodeValue) (below : ℕ) : Type 0 where
  pub settings : settings_of node.state ≡ p
  pub met : node.ended ≡ false → AreMetBelow below node.state.casts

-- A step's answer and what it leaves are those of an outcome, unless memory was refused. The name and the settings stay.
pub record ActsAs (outcome : Outcome) (before after : ActorValue) (given : Result Turn NodeFault) : Type 0 where
  pub node : AnswersAs outcome before.node given after.node
  pub below : after.casts_below ≡ below_given before.casts_below given
