-- The laws: the steps by the rule of a node are those of which the laws of systems speak.
use Rattle.std.specs.Prelude.{◌≡◌, ◌⊎◌, ℕ, ◌<◌, ◌≤◌, false, List, Some}
use Rattle.tap_name.specs.Name.{IsName}
use Rattle.tap_name.specs.declared.slot.Slot.{Slot}
use Rattle.tap_link.specs.declared.kind.Kind.TheVariants.{Pin}
use Rattle.tap_session.specs.declared.parent.Parent.TheVariants.{Node, Root}
use Rattle.tap_join.specs.declared.sought.Sought.TheVariants.{Surrogate}
use Rattle.tap_join.specs.Seek.{sought}
use Rattle.tap_wire.specs.declared.frame.Body.TheVariants.{Done, Seek}
use Rattle.tap_wire.specs.declared.frame.TellFields.{TellFields}
use Rattle.tap_rule.specs.Node.{NodeState, level_of, link_to, name_of, settings_of}
use Rattle.tap_rule.specs.Node.Status.{Ceased, Core, Joining}
use Rattle.tap_rule.specs.RuleLaws.{frame_to}
use Rattle.tap_rule.specs.Strange.{is_strange}
use Rattle.tap_safety.specs.Frames.{tell_body}
use Rattle.tap_safety.specs.System.{System}
use Rattle.tap_safety.specs.DoneStep.{TakesDone}
use Rattle.tap_safety.specs.SeekStep.{IsGreeted}
use Rattle.tap_safety.specs.TellStep.{CoversAnew, TakesKnownTell, TakesTell}
use Rattle.tap_moves.specs.ByRule.{StartsNone, TakesByRule, taken_at}
use Rattle.tap_moves.specs.InSession.{AnswersAtOnce, OpensNext, OpensOrAnswers}

-- a Done at a joining node whose join wasn't given up
abbrev pub DoneIsMade : Type 0
DoneIsMade = (s s' : System) (number : ℕ) (node : NodeState) (from : List ℕ) → TakesByRule s s' number node from Done → StartsNone s s'
    → node.status ≡ Joining → node.abandoned ≡ false → TakesDone s s' number from (name_of node)

-- a Tell at a core node that covers its joiner at most at that level, and has it pinned
abbrev pub KnownTellIsMade : Type 0
KnownTellIsMade = (s s' : System) (number : ℕ) (node : NodeState) (from : List ℕ) (tell : TellFields) (watch : List Slot) (kept : ℕ)
    → TakesByRule s s' number node from (tell_body tell watch) → StartsNone s s' → node.status ≡ Core
    → IsName (settings_of node) tell.joiner → link_to node tell.joiner ≡ Some Pin → level_of node tell.joiner ≡ Some kept
    → kept ≤ tell.level → TakesKnownTell s s' number from (name_of node) tell watch

-- the level is below the one at which the node covers the joiner, if it does
abbrev pub IsAnew : NodeState → List ℕ → ℕ → Type 0
IsAnew node joiner level = (kept : ℕ) → level_of node joiner ≡ Some kept → level < kept

-- and at any other core node
abbrev pub NewTellIsMade : Type 0
NewTellIsMade = (s s' : System) (number : ℕ) (node : NodeState) (from : List ℕ) (tell : TellFields) (watch : List Slot)
    → TakesByRule s s' number node from (tell_body tell watch) → StartsNone s s' → node.status ≡ Core
    → IsName (settings_of node) tell.joiner → IsAnew node tell.joiner tell.level → TakesTell s s' number from (name_of node) tell watch

-- a Seek at the surrogate of its joiner: it covers the joiner at the digits that the two share
abbrev pub SeekCovers : Type 0
SeekCovers = (s s' : System) (number : ℕ) (node : NodeState) (from joiner : List ℕ) (prefix : ℕ)
    → TakesByRule s s' number node from (Seek joiner) → node.status ≡ Core → IsName (settings_of node) joiner
    → sought node.ties.table joiner ≡ Surrogate prefix
    → CoversAnew node (taken_at node from (Seek joiner)).state (taken_at node from (Seek joiner)).sent (name_of node) joiner prefix prefix

-- and greets it
abbrev pub SeekGreets : Type 0
SeekGreets = (s s' : System) (number : ℕ) (node : NodeState) (from joiner : List ℕ) (prefix : ℕ)
    → TakesByRule s s' number node from (Seek joiner) → node.status ≡ Core → IsName (settings_of node) joiner
    → sought node.ties.table joiner ≡ Surrogate prefix → IsGreeted (settings_of node) s s' (name_of node) joiner

-- a Tell at a core or joining node opens a session for what is sent in one, or is answered at once
abbrev pub TellInSession : Type 0
TellInSession = (node : NodeState) (from : List ℕ) (tell : TellFields) (watch : List Slot)
    → (node.status ≡ Core) ⊎ (node.status ≡ Joining) → is_strange node (frame_to node from (tell_body tell watch)) ≡ false
    → OpensOrAnswers node (Node from tell.session) tell.depth (taken_at node from (tell_body tell watch))

-- at a node that has ceased it is answered
abbrev pub CeasedAnswers : Type 0
CeasedAnswers = (node : NodeState) (from : List ℕ) (tell : TellFields) (watch : List Slot) → node.status ≡ Ceased
    → is_strange node (frame_to node from (tell_body tell watch)) ≡ false
    → AnswersAtOnce node (Node from tell.session) (taken_at node from (tell_body tell watch))

-- the surrogate opens the root session of the joiner
abbrev pub SeekOpens : Type 0
SeekOpens = (node : NodeState) (from joiner : List ℕ) (prefix : ℕ) → node.status ≡ Core
    → is_strange node (frame_to node from (Seek joiner)) ≡ false → sought node.ties.table joiner ≡ Surrogate prefix
    → OpensNext node (Root joiner) 0 (taken_at node from (Seek joiner))
