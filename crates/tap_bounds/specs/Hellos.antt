-- How many Hellos a node sends a joiner.
use Rattle.std.specs.Prelude.{◌≡◌, ℕ, nat_eq, ◌≤◌, Bool, false, not, ◌&&◌, if◌then◌else◌, List, Option, None, Some, count_by}
use Rattle.std.specs.Cmp.Lexicographic.{pointwise}
use Rattle.tap_name.specs.Names.{has_name}
use Rattle.tap_name.specs.Settings.{SettingsValue}
use Rattle.tap_wire.specs.declared.frame.Body.{Body}
use Rattle.tap_wire.specs.declared.frame.Body.TheVariants.{Hello}
use Rattle.tap_wire.specs.declared.frame.Frame.{Frame}
use Rattle.tap_rule.specs.Node.{NodeState, Status, level_of}
use Rattle.tap_rule.specs.Node.Status.{Ceased, Core, Gone, Joining, Leaving}
use Rattle.tap_safety.specs.Move.{Move, may_move}
use Rattle.tap_safety.specs.Moved.{moved}
use Rattle.tap_safety.specs.AtRest.{AreMembers, system_at_rest}
use Rattle.tap_safety.specs.System.{System}
use Rattle.tap_safety_moves.specs.SoundMoves.{after_moves, may_run}
use Rattle.tap_safety_moves.specs.Sound.{Sound}
use Rattle.tap_bounds.specs.FewSent.{traffic_of}
use Rattle.tap_bounds.specs.Traffic.{Traffic, no_traffic, traffic_after}

-- whether a body is the Hello of a core node, and that of a joining one
abbrev pub says_core : Body → Bool
says_core (Hello session core links) = core
says_core other = false

abbrev pub says_joining : Body → Bool
says_joining (Hello session core links) = not core
says_joining other = false

-- whether a frame is such a Hello, from one name to another
abbrev pub is_core_hello : List ℕ → List ℕ → Frame → Bool
is_core_hello x b f = says_core f.body && (pointwise nat_eq f.from x && pointwise nat_eq f.to b)

abbrev pub is_joining_hello : List ℕ → List ℕ → Frame → Bool
is_joining_hello x b f = says_joining f.body && (pointwise nat_eq f.from x && pointwise nat_eq f.to b)

-- one with a cover, and none without
abbrev pub if_covered : Option ℕ → ℕ
if_covered None = 0
if_covered (Some level) = 1

-- How many Hellos a node of this status has sent a joiner as a core node at most: while it runs one if it covers the joiner, and else none.
abbrev pub most_as_core : Status → NodeState → List ℕ → ℕ
most_as_core Joining node b = if_covered (level_of node b)
most_as_core Core node b = if_covered (level_of node b)
most_as_core Leaving node b = if_covered (level_of node b)
most_as_core Gone node b = 1
most_as_core Ceased node b = 1

-- And as a joining one: while it joins one if it has greeted the joiner, and else none.
abbrev pub most_as_joining : Status → NodeState → List ℕ → ℕ
most_as_joining Joining node b = if has_name node.greeted b then 1 else 0
most_as_joining Core node b = 1
most_as_joining Leaving node b = 1
most_as_joining Gone node b = 1
most_as_joining Ceased node b = 1

-- Each node has sent at most so many, and a name that is no node none.
pub record HellosAreFew (s : System) (r : Traffic) : Type 0 where
  pub core : (x : List ℕ) (node : NodeState) → s.node x ≡ Some node → (b : List ℕ)
      → count_by (is_core_hello x b) r.sent ≤ most_as_core node.status node b
  pub joining : (x : List ℕ) (node : NodeState) → s.node x ≡ Some node → (b : List ℕ)
      → count_by (is_joining_hello x b) r.sent ≤ most_as_joining node.status node b
  pub fresh_core : (x : List ℕ) → s.node x ≡ None → (b : List ℕ) → count_by (is_core_hello x b) r.sent ≡ 0
  pub fresh_joining : (x : List ℕ) → s.node x ≡ None → (b : List ℕ) → count_by (is_joining_hello x b) r.sent ≡ 0

-- So a name sends another at most one Hello as a core node, and at most one as a joining one.
pub record HellosOnce (r : Traffic) : Type 0 where
  pub core : (x b : List ℕ) → count_by (is_core_hello x b) r.sent ≤ 1
  pub joining : (x b : List ℕ) → count_by (is_joining_hello x b) r.sent ≤ 1

abbrev pub FewAreOnce : Type 0
FewAreOnce = (s : System) (r : Traffic) → HellosAreFew s r → HellosOnce r

-- the members with which an overlay begins have sent none
abbrev pub HellosAtRest : Type 0
HellosAtRest = (p : SettingsValue) (members : List (List ℕ)) → AreMembers p members → HellosAreFew (system_at_rest p members) no_traffic

-- each possible move keeps it, if the whole invariant holds before it
abbrev pub MoveKeepsHellos : Type 0
MoveKeepsHellos = (p : SettingsValue) (s : System) (r : Traffic) (move : Move) → may_move p s move → Sound p s → HellosAreFew s r
    → HellosAreFew (moved p s move) (traffic_after p s r move)

-- So it holds at each moment of each run from members at rest.
abbrev pub RunHellosFew : Type 0
RunHellosFew = (p : SettingsValue) (members : List (List ℕ)) (moves : List Move) → AreMembers p members
    → may_run p (system_at_rest p members) moves
    → HellosAreFew (after_moves p (system_at_rest p members) moves) (traffic_of p (system_at_rest p members) no_traffic moves)
