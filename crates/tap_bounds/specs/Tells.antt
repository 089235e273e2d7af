-- How many Tells of a joiner a node sends to another name.
use Rattle.std.specs.Prelude.{◌≡◌, ℕ, nat_eq, nat_le, ◌≤◌, Bool, false, ◌&&◌, if◌then◌else◌, List, Option, None, Some, count_by}
use Rattle.std.specs.Cmp.Lexicographic.{pointwise}
use Rattle.tap_name.specs.Prefix.{lcp}
use Rattle.tap_name.specs.Settings.{SettingsValue}
use Rattle.tap_wire.specs.declared.frame.Body.{Body}
use Rattle.tap_wire.specs.declared.frame.Body.TheVariants.{Tell}
use Rattle.tap_wire.specs.declared.frame.Frame.{Frame}
use Rattle.tap_rule.specs.Node.{IsRunning, NodeState, level_of}
use Rattle.tap_safety.specs.Move.{Move, may_move}
use Rattle.tap_safety.specs.Moved.{moved}
use Rattle.tap_safety.specs.AtRest.{AreMembers, system_at_rest}
use Rattle.tap_safety.specs.System.{System}
use Rattle.tap_safety_moves.specs.SoundMoves.{after_moves, may_run}
use Rattle.tap_safety_moves.specs.Sound.{Sound}
use Rattle.tap_bounds.specs.FewSent.{traffic_of}
use Rattle.tap_bounds.specs.Traffic.{Traffic, no_traffic, traffic_after}

-- whether a body is a Tell of this joiner
abbrev pub tells_of : List ℕ → Body → Bool
tells_of b (Tell joiner prefix level session depth watch) = pointwise nat_eq joiner b
tells_of b other = false

-- whether a frame is a Tell of this joiner, from one name to another
abbrev pub is_tell : List ℕ → List ℕ → List ℕ → Frame → Bool
is_tell x t b f = tells_of b f.body && (pointwise nat_eq f.from x && pointwise nat_eq f.to t)

-- how many of them were sent
abbrev pub tells_sent : Traffic → List ℕ → List ℕ → List ℕ → ℕ
tells_sent r x t b = count_by (is_tell x t b) r.sent

-- how many Tells of a joiner a node has sent at most to a name that shares so many digits with it, by the level at which it covers the
-- joiner: none without a cover; two if the level is at most as many digits; and else one
abbrev pub most_tells : Option ℕ → ℕ → ℕ
most_tells None shared = 0
most_tells (Some level) shared = if nat_le level shared then 2 else 1

-- A name has sent another at most two Tells of a joiner, a running node at most as many as its cover allows, and a name that is no node
-- none.
pub record TellsAreFew (s : System) (r : Traffic) : Type 0 where
  pub within : (x t b : List ℕ) → tells_sent r x t b ≤ 2
  pub running : (x : List ℕ) (node : NodeState) → s.node x ≡ Some node → IsRunning node.status → (t b : List ℕ)
      → tells_sent r x t b ≤ most_tells (level_of node b) (lcp x t)
  pub fresh : (x : List ℕ) → s.node x ≡ None → (t b : List ℕ) → tells_sent r x t b ≡ 0

-- the members with which an overlay begins have sent none
abbrev pub TellsAtRest : Type 0
TellsAtRest = (p : SettingsValue) (members : List (List ℕ)) → AreMembers p members → TellsAreFew (system_at_rest p members) no_traffic

-- each possible move keeps it, if the whole invariant holds before it
abbrev pub MoveKeepsTells : Type 0
MoveKeepsTells = (p : SettingsValue) (s : System) (r : Traffic) (move : Move) → may_move p s move → Sound p s → TellsAreFew s r
    → TellsAreFew (moved p s move) (traffic_after p s r move)

-- So it holds at each moment of each run from members at rest.
abbrev pub RunTellsFew : Type 0
RunTellsFew = (p : SettingsValue) (members : List (List ℕ)) (moves : List Move) → AreMembers p members
    → may_run p (system_at_rest p members) moves
    → TellsAreFew (after_moves p (system_at_rest p members) moves) (traffic_of p (system_at_rest p members) no_traffic moves)
