-- How many Dones a joiner is sent.
use Rattle.std.specs.Prelude.{◌≡◌, ℕ, nat_eq, ◌≤◌, Bool, true, false, ◌&&◌, List, None, Some, count_by}
use Rattle.std.specs.Cmp.Lexicographic.{pointwise}
use Rattle.tap_name.specs.Settings.{SettingsValue}
use Rattle.tap_wire.specs.declared.frame.Body.{Body}
use Rattle.tap_wire.specs.declared.frame.Frame.{Frame}
use Rattle.tap_wire.specs.declared.kind.Kind.{Kind}
use Rattle.tap_wire.specs.declared.kind.Kind.TheVariants.{Done}
use Rattle.tap_wire.specs.Kind.{kind_of}
use Rattle.tap_rule.specs.Node.{NodeState}
use Rattle.tap_rule.specs.Node.Status.{Joining}
use Rattle.tap_safety.specs.Move.{Move, may_move}
use Rattle.tap_safety.specs.Moved.{moved}
use Rattle.tap_safety.specs.AtRest.{AreMembers, system_at_rest}
use Rattle.tap_safety.specs.System.{System}
use Rattle.tap_safety_moves.specs.SoundMoves.{after_moves, may_run}
use Rattle.tap_safety_moves.specs.Sound.{Sound}
use Rattle.tap_bounds.specs.FewSent.{traffic_of}
use Rattle.tap_bounds.specs.Taken.{AllAreKnown}
use Rattle.tap_bounds.specs.Traffic.{Traffic, no_traffic, traffic_after}

abbrev is_done_kind : Kind → Bool
is_done_kind Done = true
is_done_kind other = false

abbrev pub is_done_body : Body → Bool
is_done_body body = is_done_kind (kind_of body)

-- whether a frame is a Done to this name
abbrev pub is_done_to : List ℕ → Frame → Bool
is_done_to b f = is_done_body f.body && pointwise nat_eq f.to b

-- Each name was sent at most one Done, and took at most one: none while it joins, and none if it is no node.
pub record DonesAreFew (s : System) (r : Traffic) : Type 0 where
  pub within : (b : List ℕ) → count_by (is_done_to b) r.sent ≤ 1
  pub once : (b : List ℕ) → count_by (is_done_to b) r.taken ≤ 1
  pub joining : (b : List ℕ) (node : NodeState) → s.node b ≡ Some node → node.status ≡ Joining → count_by (is_done_to b) r.taken ≡ 0
  pub fresh : (b : List ℕ) → s.node b ≡ None → count_by (is_done_to b) r.taken ≡ 0

-- the members with which an overlay begins were sent none
abbrev pub DonesAtRest : Type 0
DonesAtRest = (p : SettingsValue) (members : List (List ℕ)) → AreMembers p members → DonesAreFew (system_at_rest p members) no_traffic

-- each possible move keeps it, if the whole invariant holds before it, and each frame that was sent was taken or is under way
abbrev pub MoveKeepsDones : Type 0
MoveKeepsDones = (p : SettingsValue) (s : System) (r : Traffic) (move : Move) → may_move p s move → Sound p s → AllAreKnown s r
    → DonesAreFew s r → DonesAreFew (moved p s move) (traffic_after p s r move)

-- So it holds at each moment of each run from members at rest.
abbrev pub RunDonesFew : Type 0
RunDonesFew = (p : SettingsValue) (members : List (List ℕ)) (moves : List Move) → AreMembers p members
    → may_run p (system_at_rest p members) moves
    → DonesAreFew (after_moves p (system_at_rest p members) moves) (traffic_of p (system_at_rest p members) no_traffic moves)
