-- The laws of moves: what holds before a frame is delivered holds after it, with no step between.
use Rattle.std.specs.Prelude.{◌≡◌, ◌⊎◌, ℕ, ◌≤◌, false, List, None, Some}
use Rattle.tap_name.specs.Name.{IsName}
use Rattle.tap_name.specs.Settings.{SettingsValue}
use Rattle.tap_name.specs.declared.slot.Slot.{Slot}
use Rattle.tap_link.specs.declared.kind.Kind.TheVariants.{Pin}
use Rattle.tap_wire.specs.declared.frame.Body.{Body}
use Rattle.tap_wire.specs.declared.frame.Body.TheVariants.{Done, Forget, Link, Release, Seek}
use Rattle.tap_wire.specs.declared.frame.TellFields.{TellFields}
use Rattle.tap_pointer.specs.Reconcile.{AreLaid}
use Rattle.tap_rule.specs.Event.{Start}
use Rattle.tap_rule.specs.Event.Start.{Abandon, Join}
use Rattle.tap_rule.specs.QuietSteps.{IsQuietStart}
use Rattle.tap_rule.specs.Node.{NodeState, level_of, link_to, name_of, settings_of}
use Rattle.tap_rule.specs.Node.Status.{Ceased as CeasedStatus, Core, Joining}
use Rattle.tap_safety.specs.Bookkeeping.{AreStamped}
use Rattle.tap_safety.specs.Ceased.{Ceased}
use Rattle.tap_join.specs.Seek.{sought}
use Rattle.tap_join.specs.declared.sought.Sought.TheVariants.{Surrogate}
use Rattle.tap_safety.specs.Counted.{AreCountedSo}
use Rattle.tap_safety.specs.Seeking.{IsSeeker}
use Rattle.tap_safety.specs.DoneStep.{BeforeDone, NothingOnWay}
use Rattle.tap_safety.specs.Filled.{AreFilled}
use Rattle.tap_safety.specs.Frames.{HelloFields, hello_body, tell_body}
use Rattle.tap_safety.specs.SeekStep.{BeforeSeat}
use Rattle.tap_safety.specs.Remembered.{TieWord}
use Rattle.tap_safety.specs.Sessions.{AreExact}
use Rattle.tap_safety.specs.Soft.{NamesSoft}
use Rattle.tap_safety.specs.Exchanges.{AreNumbered}
use Rattle.tap_safety.specs.System.{System}
use Rattle.tap_safety.specs.TellStep.{BeforeTell, IsTellOf}
use Rattle.tap_safety.specs.Ties.{TiesAreTold, Versions, hears_words}
use Rattle.tap_moves.specs.ByRule.{TakesByRule}
use Rattle.tap_moves.specs.Delivered.{IsArriving, after_delivery, after_start}
use Rattle.tap_moves.specs.FrameLaws.{AreOfferedNames, IsPlain}
use Rattle.tap_moves.specs.StepsMade.{IsAnew}
use Rattle.tap_moves.specs.SessionsLaws.{BeforeTaking, IsOutside, RemembersSessions}

-- a frame that is delivered is taken by the rule of its receiver
abbrev pub DeliveryIsByRule : Type 0
DeliveryIsByRule = (p : SettingsValue) (s : System) (number : ℕ) (node : NodeState) (from : List ℕ) (body : Body)
    → IsArriving s number node from body
    → TakesByRule s (after_delivery p s number) number node from body
    × RemembersSessions s (after_delivery p s number) number node from body

-- a Done, at a joining node whose join wasn't given up
abbrev pub DoneKeeps : Type 0
DoneKeeps = (p : SettingsValue) (s : System) (number : ℕ) (node : NodeState) (from : List ℕ) → IsArriving s number node from Done
    → node.status ≡ Joining → node.abandoned ≡ false → BeforeDone p s → NothingOnWay s (name_of node)
    → AreFilled p (after_delivery p s number)

-- a Tell, at a core node that covers its joiner at no such level yet
abbrev pub TellKeeps : Type 0
TellKeeps = (p : SettingsValue) (s : System) (number : ℕ) (node : NodeState) (from : List ℕ) (tell : TellFields) (watch : List Slot)
    → IsArriving s number node from (tell_body tell watch) → node.status ≡ Core → IsName (settings_of node) tell.joiner
    → IsAnew node tell.joiner tell.level → BeforeTell p s → IsTellOf p s (name_of node) tell.joiner tell.prefix tell.level → AreFilled p s
    → AreFilled p (after_delivery p s number)

-- and at one that covers it so already, and has it pinned
abbrev pub KnownTellKeeps : Type 0
KnownTellKeeps = (p : SettingsValue) (s : System) (number : ℕ) (node : NodeState) (from : List ℕ) (tell : TellFields) (watch : List Slot)
    (kept : ℕ) → IsArriving s number node from (tell_body tell watch) → node.status ≡ Core → IsName (settings_of node) tell.joiner
    → link_to node tell.joiner ≡ Some Pin → level_of node tell.joiner ≡ Some kept → kept ≤ tell.level → BeforeTell p s
    → IsTellOf p s (name_of node) tell.joiner tell.prefix tell.level → AreFilled p s → AreFilled p (after_delivery p s number)

-- a Seek, at the surrogate of its joiner
abbrev pub SeekKeeps : Type 0
SeekKeeps = (s : System) (number : ℕ) (node : NodeState) (from joiner : List ℕ) (prefix : ℕ)
    → IsArriving s number node from (Seek joiner) → node.status ≡ Core → IsName (settings_of node) joiner
    → sought node.ties.table joiner ≡ Surrogate prefix → BeforeSeat (settings_of node) s (name_of node) joiner
    → AreFilled (settings_of node) s → AreFilled (settings_of node) (after_delivery (settings_of node) s number)

-- frames that leave their receivers what they are
abbrev pub PlainKeeps : Type 0
PlainKeeps = (p : SettingsValue) (s : System) (number : ℕ) (node : NodeState) (from : List ℕ) (body : Body)
    → IsArriving s number node from body → IsPlain node body → AreFilled p s → AreFilled p (after_delivery p s number)

-- Tells at joining nodes and at nodes that have ceased
abbrev pub JoiningTellKeeps : Type 0
JoiningTellKeeps = (p : SettingsValue) (s : System) (number : ℕ) (node : NodeState) (from : List ℕ) (tell : TellFields) (watch : List Slot)
    → IsArriving s number node from (tell_body tell watch) → node.status ≡ Joining → IsName (settings_of node) tell.joiner → AreFilled p s
    → AreFilled p (after_delivery p s number)

abbrev pub CeasedTellKeeps : Type 0
CeasedTellKeeps = (p : SettingsValue) (s : System) (number : ℕ) (node : NodeState) (from : List ℕ) (tell : TellFields) (watch : List Slot)
    → IsArriving s number node from (tell_body tell watch) → node.status ≡ CeasedStatus
    → AreFilled p s → AreFilled p (after_delivery p s number)

-- Hellos, Releases and Forgets
abbrev pub HelloKeeps : Type 0
HelloKeeps = (p : SettingsValue) (s : System) (number : ℕ) (node : NodeState) (from : List ℕ) (hello : HelloFields)
    → IsArriving s number node from (hello_body hello) → node.status ≡ Joining → IsName (settings_of node) from
    → AreOfferedNames (settings_of node) hello.links → NamesSoft s → AreFilled p s → AreFilled p (after_delivery p s number)

abbrev pub ReleaseKeeps : Type 0
ReleaseKeeps = (p : SettingsValue) (s : System) (number : ℕ) (node : NodeState) (from : List ℕ) → IsArriving s number node from Release
    → (node.status ≡ Joining) ⊎ (node.status ≡ Core) → IsName (settings_of node) from → NamesSoft s → AreFilled p s
    → AreFilled p (after_delivery p s number)

abbrev pub ForgetKeeps : Type 0
ForgetKeeps = (p : SettingsValue) (s : System) (number : ℕ) (node : NodeState) (from : List ℕ) → IsArriving s number node from Forget
    → (node.status ≡ Joining) ⊎ (node.status ≡ Core) → IsName (settings_of node) from → Ceased s → AreFilled p s
    → AreFilled p (after_delivery p s number)

-- a Link, at a node that hears words and has its pairs laid as wanted
abbrev pub LinkKeeps : Type 0
LinkKeeps = (p : SettingsValue) (s : System) (number : ℕ) (node : NodeState) (from : List ℕ) (word : TieWord)
    → IsArriving s number node from (Link word.version word.on) → AreStamped s → hears_words (Some node.status)
    → AreLaid node.ties.table node.pointers → TiesAreTold s → Versions s
    → TiesAreTold (after_delivery p s number) × Versions (after_delivery p s number)

-- Tells and sessions
abbrev pub TellKeepsSessions : Type 0
TellKeepsSessions = (p : SettingsValue) (s : System) (number : ℕ) (node : NodeState) (from : List ℕ) (tell : TellFields) (watch : List Slot)
    → IsArriving s number node from (tell_body tell watch)
    → (node.status ≡ Core) ⊎ ((node.status ≡ Joining) ⊎ (node.status ≡ CeasedStatus)) → BeforeTaking s
    → AreExact (after_delivery p s number)

-- answers, Hellos, and frames of no session
abbrev pub AnswerKeepsSessions : (ℕ → Body) → Type 0
AnswerKeepsSessions body = (p : SettingsValue) (s : System) (number : ℕ) (node : NodeState) (from : List ℕ) (k : ℕ)
    → IsArriving s number node from (body k) → BeforeTaking s → AreCountedSo s → AreExact (after_delivery p s number)

abbrev pub HelloKeepsSessions : Type 0
HelloKeepsSessions = (p : SettingsValue) (s : System) (number : ℕ) (node : NodeState) (from : List ℕ) (hello : HelloFields)
    → IsArriving s number node from (hello_body hello) → node.status ≡ Joining → BeforeTaking s → AreExact (after_delivery p s number)

abbrev pub OutsideKeepsSessions : Type 0
OutsideKeepsSessions = (p : SettingsValue) (s : System) (number : ℕ) (node : NodeState) (from : List ℕ) (body : Body)
    → IsArriving s number node from body → IsOutside node body → BeforeTaking s → AreExact (after_delivery p s number)

-- and the Seek of a seeker, at its surrogate
abbrev pub SeekKeepsSessions : Type 0
SeekKeepsSessions = (p : SettingsValue) (s : System) (number : ℕ) (node : NodeState) (from joiner : List ℕ) (prefix : ℕ)
    → IsArriving s number node from (Seek joiner) → node.status ≡ Core → sought node.ties.table joiner ≡ Surrogate prefix
    → IsSeeker s joiner
    → BeforeTaking s → AreExact (after_delivery p s number)

-- what leads to tables without holes is kept, and sessions that are exact
abbrev pub KeepsBoth : SettingsValue → System → System → Type 0
KeepsBoth p s s' = (AreFilled p s → AreFilled p s') × (AreExact s → AreExact s')

-- a publication, a withdrawal, a lookup or a cast that a node starts; a join that is given up; and a new name that starts to join
abbrev pub QuietStartKeeps : Type 0
QuietStartKeeps = (p : SettingsValue) (s : System) (node : NodeState) (start : Start) → s.node (name_of node) ≡ Some node
    → IsQuietStart start → AreNumbered s → KeepsBoth p s (after_start p s (name_of node) start)

abbrev pub GivingUpKeeps : Type 0
GivingUpKeeps = (p : SettingsValue) (s : System) (node : NodeState) → s.node (name_of node) ≡ Some node → node.status ≡ Joining
    → AreNumbered s → KeepsBoth p s (after_start p s (name_of node) Abandon)

abbrev pub JoinKeeps : Type 0
JoinKeeps = (p : SettingsValue) (s : System) (x via : List ℕ) → s.node x ≡ None → s.surrogate x ≡ None → AreNumbered s
    → KeepsBoth p s (after_start p s x (Join via))
