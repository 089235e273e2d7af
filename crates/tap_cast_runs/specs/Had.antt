-- What was answered for a joiner is had: it has a link to the name, or will have one, or its slot is full.
use Rattle.std.specs.Prelude.{◌≡◌, ◌⊎◌, ℕ, ◌≤◌, false, List, length, Some}
use Rattle.tap_name.specs.Order.{AreAscending}
use Rattle.tap_name.specs.Settings.{SettingsValue}
use Rattle.tap_link.specs.declared.kind.Kind.{Kind}
use Rattle.tap_link.specs.declared.kind.Kind.TheVariants.{Settled}
use Rattle.tap_table.specs.Table.{place_of, slot_number}
use Rattle.tap_wire.specs.declared.frame.Body.TheVariants.{Done}
use Rattle.tap_rule.specs.RuleLaws.{frame_to}
use Rattle.tap_rule.specs.Node.{NodeState, Status, link_to, name_of}
use Rattle.tap_rule.specs.Node.Status.{Joining, Core, Leaving, Gone, Ceased}
use Rattle.tap_rule.specs.Sent.{IsAmong}
use Rattle.tap_safety.specs.AtRest.{AreMembers, system_at_rest}
use Rattle.tap_safety.specs.Move.{Move, may_move}
use Rattle.tap_safety.specs.Moved.{moved}
use Rattle.tap_safety.specs.Seeking.{HasNode}
use Rattle.tap_safety.specs.System.{AmongFrames, HelloNames, System}
use Rattle.tap_moves.specs.ByRule.{taken_at}
use Rattle.tap_safety_moves.specs.SoundMoves.{after_moves, may_run}
use Rattle.tap_safety_moves.specs.Sound.{Sound}
use Rattle.tap_cast_runs.specs.SlotAnswers.{Answer, WatchMemory, none_answered}
use Rattle.tap_cast_runs.specs.Recalled.{watch_recalled}
use Rattle.tap_cast_runs.specs.Watched.{watch_recalled_moves}

-- a node with this status has been core
abbrev pub was_core : Status → Type 0
was_core Joining = ⊥
was_core Core = Unit {0}
was_core Leaving = Unit {0}
was_core Gone = Unit {0}
was_core Ceased = ⊥

pub record WasCore (s : System) (x : List ℕ) : Type 0 where
  pub state : NodeState
  pub is : s.node x ≡ Some state
  pub core : was_core state.status

-- two names stand in one slot of an owner's table
abbrev pub InOneSlot : SettingsValue → List ℕ → List ℕ → List ℕ → Type 0
InOneSlot p owner one other = slot_number p.base (place_of owner one) ≡ slot_number p.base (place_of owner other)

-- the node of this name has as many settled links as the width, in the slot in which a name stands
pub record HasFullSlot (p : SettingsValue) (owner : List ℕ) (node : NodeState) (name : List ℕ) : Type 0 where
  pub names : List (List ℕ)
  pub ascending : AreAscending names
  pub many : p.width ≤ length names
  pub each : (t : List ℕ) → IsAmong t names → (link_to node t ≡ Some Settled) × InOneSlot p owner t name

-- it has a link to the name, or its slot is full
abbrev pub IsHad : SettingsValue → List ℕ → NodeState → List ℕ → Type 0
IsHad p owner node name = ((kind : Kind) × (link_to node name ≡ Some kind)) ⊎ HasFullSlot p owner node name

-- or a Hello on its way to it names it
abbrev pub IsHeld : SettingsValue → System → List ℕ → NodeState → List ℕ → Type 0
IsHeld p s owner node name = IsHad p owner node name ⊎ ((w : List ℕ) × HelloNames s w owner name)

-- Each answer is for a node, with a name that has been core; and while the node joins, it is held.
pub record AnswersAreHeld (p : SettingsValue) (s : System) (r : WatchMemory) : Type 0 where
  pub known : (answer : Answer) → IsAmong answer r.answers → HasNode s answer.joiner
  pub core : (answer : Answer) → IsAmong answer r.answers → WasCore s answer.named
  pub held : (answer : Answer) → IsAmong answer r.answers → (node : NodeState) → s.node answer.joiner ≡ Some node
      → node.status ≡ Joining → IsHeld p s answer.joiner node answer.named

-- members at rest have it
abbrev pub AnswersAtRest : Type 0
AnswersAtRest = (p : SettingsValue) (members : List (List ℕ)) → AreMembers p members
    → AnswersAreHeld p (system_at_rest p members) none_answered

-- each possible move keeps it, if the whole invariant of joins holds before
abbrev pub MoveKeepsAnswers : Type 0
MoveKeepsAnswers = (p : SettingsValue) (s : System) (r : WatchMemory) (move : Move) → may_move p s move → Sound p s
    → AnswersAreHeld p s r → AnswersAreHeld p (moved p s move) (watch_recalled s r move)

-- so it holds at each moment of each run from members at rest
abbrev pub RunAnswersAreHeld : Type 0
RunAnswersAreHeld = (p : SettingsValue) (members : List (List ℕ)) (moves : List Move) → AreMembers p members
    → may_run p (system_at_rest p members) moves → AnswersAreHeld p (after_moves p (system_at_rest p members) moves)
    (watch_recalled_moves p (system_at_rest p members) none_answered moves)

-- A joiner that takes its Done, and becomes core, has each name with which a slot was answered for it.
abbrev pub CoreHasAnswers : Type 0
CoreHasAnswers = (p : SettingsValue) (s : System) (r : WatchMemory) (number : ℕ) (from : List ℕ) (node : NodeState) → Sound p s
    → AnswersAreHeld p s r → AmongFrames number (frame_to node from Done) s.frames → s.node (name_of node) ≡ Some node
    → node.abandoned ≡ false → (answer : Answer) → IsAmong answer r.answers → answer.joiner ≡ name_of node
    → IsHad p (name_of node) (taken_at node from Done).state answer.named
