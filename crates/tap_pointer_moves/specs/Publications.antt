-- Which pairs are served, and what each move makes of that.
use Rattle.std.specs.Prelude.{◌≡◌, ℕ, nat_eq, not, ◌&&◌, ◌||◌, Bool, false, List, Option, None, Some}
use Rattle.std.specs.Cmp.Lexicographic.{pointwise}
use Rattle.tap_name.specs.Settings.{SettingsValue}
use Rattle.tap_pointer.specs.declared.pair.Pair.{Pair}
use Rattle.tap_pointer.specs.Pointers.{pair_of, state_of}
use Rattle.tap_rule.specs.Event.{Start}
use Rattle.tap_rule.specs.Event.Start.{Leave, Publish, Withdraw}
use Rattle.tap_rule.specs.Node.{NodeState, Status}
use Rattle.tap_rule.specs.Node.Status.{Joining, Core, Leaving, Gone, Ceased}
use Rattle.tap_safety.specs.Move.{MayArrive, Move, may_move, may_start}
use Rattle.tap_safety.specs.Moved.{moved}
use Rattle.tap_safety.specs.System.{System}
use Rattle.tap_moves.specs.Delivered.{after_delivery, after_start}
use Rattle.tap_safety_moves.specs.Sound.{Sound}
use Rattle.tap_pointer_moves.specs.LaysTold.{PointersStand}

-- the node, if there is one, publishes the object of a pair as its server
abbrev pub publishes_in : Option NodeState → Pair → Bool
publishes_in None pair = false
publishes_in (Some node) pair = (state_of node.pointers pair).published

-- the server of a pair publishes its object
abbrev pub is_served : System → Pair → Bool
is_served s pair = publishes_in (s.node pair.server) pair

-- the pair is this one
abbrev pub is_pair : Pair → Pair → Bool
is_pair pair this = pointwise nat_eq pair.object this.object && pointwise nat_eq pair.server this.server

-- whether a pair is served once x has started this, if it was served so before: it is if x publishes its object; it isn't if x withdraws
-- the object, or leaves
abbrev pub served_after : List ℕ → Start → Pair → Bool → Bool
served_after x (Publish object) pair before = is_pair pair (pair_of object x) || before
served_after x (Withdraw object) pair before = not (is_pair pair (pair_of object x)) && before
served_after x Leave pair before = not (pointwise nat_eq pair.server x) && before
served_after x other pair before = before

-- so it is after each start that is possible; and a frame that is taken changes nothing of it
abbrev pub StartServes : Type 0
StartServes = (p : SettingsValue) (s : System) (x : List ℕ) (start : Start) (pair : Pair) → may_start p s x start → Sound p s
    → PointersStand s → is_served (after_start p s x start) pair ≡ served_after x start pair (is_served s pair)

abbrev pub FrameServes : Type 0
FrameServes = (p : SettingsValue) (s : System) (number : ℕ) (pair : Pair) → MayArrive s number → Sound p s → PointersStand s
    → is_served (after_delivery p s number) pair ≡ is_served s pair

-- ---- leavers

-- a node with this status leaves, or has left
abbrev pub has_left : Status → Type 0
has_left Joining = ⊥
has_left Core = ⊥
has_left Leaving = Unit {0}
has_left Gone = Unit {0}
has_left Ceased = ⊥

-- the node of this name leaves, or has left
pub record IsLeaver (s : System) (x : List ℕ) : Type 0 where
  pub state : NodeState
  pub is : s.node x ≡ Some state
  pub left : has_left state.status

-- who leaves is such a node, and stays one
abbrev pub LeavesOnce : Type 0
LeavesOnce = (p : SettingsValue) (s : System) (x : List ℕ) → may_start p s x Leave → Sound p s → PointersStand s
    → IsLeaver (after_start p s x Leave) x

abbrev pub LeaversStay : Type 0
LeaversStay = (p : SettingsValue) (s : System) (move : Move) (x : List ℕ) → may_move p s move → Sound p s → PointersStand s → IsLeaver s x
    → IsLeaver (moved p s move) x
