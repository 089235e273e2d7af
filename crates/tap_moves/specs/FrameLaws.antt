-- The laws of frames that make no node core, start no joiner and add no cover.
use Rattle.std.specs.Prelude.{◌≡◌, ◌⊎◌, ℕ, List, [], Option, None, Some, All}
use Rattle.tap_name.specs.Name.{IsName}
use Rattle.tap_name.specs.Settings.{SettingsValue}
use Rattle.tap_name.specs.declared.slot.Offered.{Offered}
use Rattle.tap_name.specs.declared.slot.Slot.{Slot}
use Rattle.tap_join.specs.declared.sought.Sought.TheVariants.{Forward}
use Rattle.tap_join.specs.Seek.{sought}
use Rattle.tap_wire.specs.declared.frame.Body.{Body}
use Rattle.tap_wire.specs.declared.frame.Body.TheVariants.{Forget, Release, Seek}
use Rattle.tap_wire.specs.declared.frame.TellFields.{TellFields}
use Rattle.tap_wire.specs.declared.kind.Kind.{Kind}
use Rattle.tap_wire.specs.declared.kind.Kind.TheVariants as kind
use Rattle.tap_wire.specs.Kind.{kind_of}
use Rattle.tap_table.specs.declared.tie.Tie.{Tie}
use Rattle.tap_rule.specs.Event.{Start}
use Rattle.tap_rule.specs.Event.Start.{Abandon}
use Rattle.tap_rule.specs.FrameRules.{rule_of_frame}
use Rattle.tap_rule.specs.RuleLaws.{frame_to}
use Rattle.tap_rule.specs.Reaction.{Message, Reaction}
use Rattle.tap_rule.specs.StartRules.{rule_of_start}
use Rattle.tap_rule.specs.Node.{NodeState, name_of, settings_of}
use Rattle.tap_rule.specs.Node.Status.{Ceased, Core, Joining}
use Rattle.tap_rule.specs.QuietSteps.{IsQuietStart, IsQuietKind}
use Rattle.tap_safety.specs.Frames.{HelloFields, hello_body, tell_body}
use Rattle.tap_safety.specs.FrameSteps.{StartsJoin, StartsPlainly, TakesForget, TakesHello, TakesPlainly, TakesRelease, TakesTellCeased, TakesTellJoining}
use Rattle.tap_safety.specs.System.{System}
use Rattle.tap_moves.specs.ByRule.{BeginsByRule, StartsByRule, StartsNone, TakesByRule}

-- a frame whose taker stays what it is, with its links and covers: an answer, a Link, a Seek that goes on, and those of pointers and casts
abbrev pub IsPlainKind : Kind → Type 0
IsPlainKind kind.Heard = Unit {0}
IsPlainKind kind.Ack = Unit {0}
IsPlainKind kind.Link = Unit {0}
IsPlainKind other = IsQuietKind other

abbrev pub IsPlain : NodeState → Body → Type 0
IsPlain node (Seek joiner) = (next : List ℕ) × (sought node.ties.table joiner ≡ Forward next)
IsPlain node other = IsPlainKind (kind_of other)

-- the words and the messages of a rule, if there is one
abbrev pub words_by : Option Reaction → List Tie
words_by None = []
words_by (Some reaction) = reaction.words

abbrev pub messages_by : Option Reaction → List Message
messages_by None = []
messages_by (Some reaction) = reaction.messages

abbrev pub PlainIsMade : Type 0
PlainIsMade = (s s' : System) (number : ℕ) (node : NodeState) (from : List ℕ) (body : Body) → TakesByRule s s' number node from body
    → StartsNone s s' → IsPlain node body → (plain : TakesPlainly s s' number (frame_to node from body))
    × (plain.step.messages ≡ messages_by (rule_of_frame node.status node from body))

-- a Tell at a node that has ceased, and at a joining node
abbrev pub CeasedTellIsMade : Type 0
CeasedTellIsMade = (s s' : System) (number : ℕ) (node : NodeState) (from : List ℕ) (tell : TellFields) (watch : List Slot)
    → TakesByRule s s' number node from (tell_body tell watch) → StartsNone s s' → node.status ≡ Ceased
    → TakesTellCeased s s' number from (name_of node) tell watch

abbrev pub JoiningTellIsMade : Type 0
JoiningTellIsMade = (s s' : System) (number : ℕ) (node : NodeState) (from : List ℕ) (tell : TellFields) (watch : List Slot)
    → TakesByRule s s' number node from (tell_body tell watch) → StartsNone s s' → node.status ≡ Joining
    → IsName (settings_of node) tell.joiner → TakesTellJoining s s' number from (name_of node) tell watch

-- each of these is a name
abbrev pub AreOfferedNames : SettingsValue → List Offered → Type 0
AreOfferedNames p links = All (λ link. IsName p link.name) links

-- a Hello at a joining node
abbrev pub HelloIsMade : Type 0
HelloIsMade = (s s' : System) (number : ℕ) (node : NodeState) (from : List ℕ) (hello : HelloFields)
    → TakesByRule s s' number node from (hello_body hello) → StartsNone s s' → node.status ≡ Joining
    → IsName (settings_of node) from → AreOfferedNames (settings_of node) hello.links
    → TakesHello s s' number from (name_of node) hello

-- a Release and a Forget at a joining or core node
abbrev pub ReleaseIsMade : Type 0
ReleaseIsMade = (s s' : System) (number : ℕ) (node : NodeState) (from : List ℕ) → TakesByRule s s' number node from Release
    → StartsNone s s' → (node.status ≡ Joining) ⊎ (node.status ≡ Core) → IsName (settings_of node) from
    → TakesRelease s s' number from (name_of node)

abbrev pub ForgetIsMade : Type 0
ForgetIsMade = (s s' : System) (number : ℕ) (node : NodeState) (from : List ℕ) → TakesByRule s s' number node from Forget
    → StartsNone s s' → (node.status ≡ Joining) ⊎ (node.status ≡ Core) → IsName (settings_of node) from
    → TakesForget s s' number from (name_of node)

-- a start of a publication, a lookup or a cast, and a join that is given up
abbrev pub QuietStartIsMade : Type 0
QuietStartIsMade = (s s' : System) (node : NodeState) (start : Start) → StartsByRule s s' node start → StartsNone s s'
    → IsQuietStart start → (plain : StartsPlainly s s' (name_of node))
    × (plain.messages ≡ messages_by (rule_of_start node.status node start))

abbrev pub GivingUpIsMade : Type 0
GivingUpIsMade = (s s' : System) (node : NodeState) → StartsByRule s s' node Abandon → StartsNone s s' → node.status ≡ Joining
    → (plain : StartsPlainly s s' (name_of node)) × (plain.messages ≡ [])

-- a new name that starts to join
abbrev pub JoinIsMade : Type 0
JoinIsMade = (p : SettingsValue) (s s' : System) (x via : List ℕ) → BeginsByRule p s s' x via → StartsNone s s' → StartsJoin s s' x
