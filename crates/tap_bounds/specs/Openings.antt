-- How many sessions of one joiner a node opens.
use Rattle.std.specs.Prelude.{◌≡◌, ℕ, nat_eq, ◌+◌, ◌-◌, ◌==◌, ◌≤◌, Bool, ◌&&◌, if◌then◌else◌, List, [], ◌∷◌, ◌++◌, Option, None, Some, count_by}
use Rattle.std.specs.Cmp.Lexicographic.{pointwise}
use Rattle.tap_name.specs.Names.{has_name}
use Rattle.tap_name.specs.Settings.{SettingsValue}
use Rattle.tap_wire.specs.declared.frame.Frame.{Frame}
use Rattle.tap_rule.specs.Act.{act}
use Rattle.tap_rule.specs.Event.Event.{Takes}
use Rattle.tap_rule.specs.Node.{NodeState, Status, level_of}
use Rattle.tap_rule.specs.Node.Status.{Ceased, Core, Gone, Joining, Leaving}
use Rattle.tap_safety.specs.Move.{Move, may_move}
use Rattle.tap_safety.specs.Move.Move.{Begins, Delivers}
use Rattle.tap_safety.specs.Moved.{moved, numbered_frame}
use Rattle.tap_safety.specs.AtRest.{AreMembers, system_at_rest}
use Rattle.tap_safety.specs.System.{System}
use Rattle.tap_safety.specs.Turned.{joiner_of}
use Rattle.tap_safety_moves.specs.SoundMoves.{after_moves, may_run}
use Rattle.tap_safety_moves.specs.Sound.{Sound}

-- ---- what is remembered of the sessions that were opened

-- a session that was opened: the name of its node, and its joiner
pub record Opening : Type 0 where
  pub at : List ℕ
  pub joiner : List ℕ

-- what the taking of a frame opens: one of the joiner that the frame names, if the node has opened another session with it
abbrev pub opened_at_frame : Frame → Option NodeState → List Opening
opened_at_frame frame None = []
opened_at_frame frame (Some node) =
    if (act node (Takes frame)).state.sessions.opened == node.sessions.opened
    then []
    else record { at = frame.to; joiner = joiner_of frame.body } ∷ []

abbrev pub opened_at_delivery : System → Option Frame → List Opening
opened_at_delivery s None = []
opened_at_delivery s (Some frame) = opened_at_frame frame (s.node frame.to)

-- what a move opens; a start opens none
unfoldable pub opened_by_move : System → Move → List Opening
opened_by_move s (Begins x start) = []
opened_by_move s (Delivers number) = opened_at_delivery s (numbered_frame number s.frames)

-- the sessions that these moves open, one after another, after those that were opened before
abbrev pub opened_by_moves : SettingsValue → System → List Opening → List Move → List Opening
opened_by_moves p s opened [] = opened
opened_by_moves p s opened (move ∷ moves) = opened_by_moves p (moved p s move) (opened ++ opened_by_move s move) moves

-- ---- how many there are

-- whether a session was opened by this node, and whether it was one of this joiner
abbrev pub is_opened_at : List ℕ → Opening → Bool
is_opened_at x o = pointwise nat_eq o.at x

abbrev pub is_opened_for : List ℕ → List ℕ → Opening → Bool
is_opened_for x b o = pointwise nat_eq o.at x && pointwise nat_eq o.joiner b

-- How many of one joiner a core node has opened at most, by the level at which it covers the joiner: one without a cover, from its own
-- join; with one, another for each level from this one to the number of digits.
abbrev pub most_covering : SettingsValue → Option ℕ → ℕ
most_covering p None = 1
most_covering p (Some level) = p.digits + 1 - level + 1

-- And a node of this status: one that joins has opened one if it has greeted the joiner, and else none.
abbrev pub most_opened : SettingsValue → Status → NodeState → List ℕ → ℕ
most_opened p Joining node b = if has_name node.greeted b then 1 else 0
most_opened p Core node b = most_covering p (level_of node b)
most_opened p Leaving node b = most_covering p (level_of node b)
most_opened p Gone node b = p.digits + 2
most_opened p Ceased node b = p.digits + 2

-- All that a node has opened are remembered; those of one joiner are at most so many; and a name that is no node has opened none.
pub record OpenedAreFew (p : SettingsValue) (s : System) (opened : List Opening) : Type 0 where
  pub all : (x : List ℕ) (node : NodeState) → s.node x ≡ Some node → count_by (is_opened_at x) opened ≡ node.sessions.opened
  pub each : (x b : List ℕ) (node : NodeState) → s.node x ≡ Some node
      → count_by (is_opened_for x b) opened ≤ most_opened p node.status node b
  pub fresh : (x : List ℕ) → s.node x ≡ None → count_by (is_opened_at x) opened ≡ 0

-- So a name has opened at most two more of one joiner than names have digits.
abbrev pub FewAreOpened : Type 0
FewAreOpened = (p : SettingsValue) (s : System) (opened : List Opening) (x b : List ℕ) → OpenedAreFew p s opened
    → count_by (is_opened_for x b) opened ≤ p.digits + 2

-- the members with which an overlay begins have opened none
abbrev pub OpenedAtRest : Type 0
OpenedAtRest = (p : SettingsValue) (members : List (List ℕ)) → AreMembers p members → OpenedAreFew p (system_at_rest p members) []

-- each possible move keeps it, if the whole invariant holds before it
abbrev pub MoveKeepsOpened : Type 0
MoveKeepsOpened = (p : SettingsValue) (s : System) (opened : List Opening) (move : Move) → may_move p s move → Sound p s
    → OpenedAreFew p s opened → OpenedAreFew p (moved p s move) (opened ++ opened_by_move s move)

-- So it holds at each moment of each run from members at rest.
abbrev pub RunOpensFew : Type 0
RunOpensFew = (p : SettingsValue) (members : List (List ℕ)) (moves : List Move) → AreMembers p members
    → may_run p (system_at_rest p members) moves
    → OpenedAreFew p (after_moves p (system_at_rest p members) moves) (opened_by_moves p (system_at_rest p members) [] moves)
