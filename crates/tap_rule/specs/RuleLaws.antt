-- The laws of the rule: what a step changes, and what it sends.
use Rattle.std.specs.Prelude.{◌≡◌, ◌≢◌, ◌↔◌, ◌⊎◌, ◌≤◌, ◌+◌, Bool, ℕ, true, false, List, [], ◌∷◌, ◌++◌, length, None, Some, Option}
use Rattle.tap_name.specs.Name.{IsName}
use Rattle.tap_name.specs.Names.{AreDistinct, AreNames}
use Rattle.tap_name.specs.Settings.{AreWithinLimits, SettingsValue}
use Rattle.tap_name.specs.declared.slot.Slot.{Slot}
use Rattle.tap_session.specs.declared.parent.Parent.TheVariants.{Node, Root}
use Rattle.tap_session.specs.Sessions.{AreSessions}
use Rattle.tap_table.specs.Ties.{AreTies}
use Rattle.tap_wire.specs.Spelling.{IsFrame}
use Rattle.tap_wire.specs.declared.frame.Frame.{Frame}
use Rattle.tap_wire.specs.declared.frame.Body.{Body}
use Rattle.tap_wire.specs.declared.frame.Body.TheVariants.{Seek, Tell, Done, Release, Link, Lay, Find, Answer, Leave, Left, Gone, Forget, Ack, Cast, CastAck}
use Rattle.tap_wire.specs.declared.frame.TellFields.{TellFields}
use Rattle.tap_rule.specs.Hellos.{HelloFields, hello_body}
use Rattle.tap_rule.specs.Node.{NodeState, joiner, member_at_rest, name_of, settings_of}
use Rattle.tap_rule.specs.Node.Status.{Joining, Core, Leaving, Ceased}
pub use Rattle.tap_rule.specs.Node.{IsRunning}
use Rattle.tap_rule.specs.Event.{Acted, Event, Start}
use Rattle.tap_rule.specs.Event.Event.{Starts, Takes}
use Rattle.tap_rule.specs.Event.News.{Nothing}
use Rattle.tap_rule.specs.Reaction.{Reaction, message, to_each}
use Rattle.tap_rule.specs.Sending.{lay_frame, link_frame, message_frame}
use Rattle.tap_rule.specs.Casts.{cast_news, cast_of}
use Rattle.tap_rule.specs.Strange.{is_strange}
use Rattle.tap_pointer.specs.declared.lay.Lay as lay
use Rattle.tap_pointer.specs.Pointers.{pair_of, published, withdrawn}
use Rattle.tap_pointer.specs.Reconcile.{AreLaid, reconcile_lays, reconciled}
use Rattle.tap_rule.specs.FrameRules.{rule_of_frame}
use Rattle.tap_rule.specs.StartRules.{rule_of_start}
use Rattle.tap_rule.specs.Act.{act}
use Rattle.tap_rule.specs.HasRule.{HasRule, HasStartRule}
use Rattle.tap_rule.specs.Said.{IsCastNews, IsFrameOf, IsOneEach}
use Rattle.tap_rule.specs.Begins.{BeginsAtRest, BeginsToJoin}
use Rattle.tap_rule.specs.KeptNode.{IsNode, IsStart, KeepsNode}
use Rattle.tap_rule.specs.Sent.{AreSent, AreSentInOrder}
use Rattle.tap_rule.specs.Event.Start.{Abandon, Publish, Withdraw, Cast as StartCast, Find as StartFind, Join as StartJoin, Leave as StartLeave}
use Rattle.tap_rule.specs.CastSteps.{CastAckStep, CastStep}
use Rattle.tap_rule.specs.CeasedSteps.{AnsweredCastStep, CeasedStep}
use Rattle.tap_rule.specs.EndSteps.{EndStep, GoneStep, LeaveStep, LeftStep}
use Rattle.tap_rule.specs.Fit.{IsFit}
use Rattle.tap_rule.specs.JoinSteps.{CoverStep, DoneStep, HelloStep, MeetStep, SeekStep}
use Rattle.tap_rule.specs.PointerSteps.{FindStep, FoundStep, LayStep, LookupStep, PointersStep}
use Rattle.tap_rule.specs.QuietSteps.{IsQuiet, IsQuietStart, QuietStep}
use Rattle.tap_rule.specs.StartSteps.{GiveUpStep, LeaveStartStep, SeekStartStep}
use Rattle.tap_rule.specs.LinkSteps.{AnswerStep, ForgetStep, LinkStep, ReleaseStep}

-- nothing changes, nothing is sent, and there is no news
pub record IsIgnored (node : NodeState) (acted : Acted) : Type 0 where
  pub state : acted.state ≡ node
  pub sent : acted.sent ≡ []
  pub news : acted.news ≡ Nothing

-- the Lays that lay the pointers as wanted which a rule leaves, with the numbers after the rule's last
abbrev pub lays_for : Reaction → List lay.Lay
lays_for reaction = reconcile_lays reaction.state.ties.table reaction.state.stamp reaction.state.pointers

-- the end of a step of a node that hasn't ended by then: its pointers are laid as wanted, the stamp has given the numbers of the
-- Lays that this takes, and these are sent at last
pub record IsReconciled (from : List ℕ) (reaction : Reaction) (acted : Acted) : Type 0 where
  pub pointers : acted.state.pointers ≡ reconciled reaction.state.ties.table reaction.state.pointers
  pub stamp : acted.state.stamp ≡ reaction.state.stamp + length (lays_for reaction)
  pub sent : AreSentInOrder from reaction.words reaction.messages (lays_for reaction) acted.sent

-- the end of a step of a node that has ended by then: all is as the rule says, its Lays too
pub record IsAsSaid (from : List ℕ) (reaction : Reaction) (acted : Acted) : Type 0 where
  pub state : acted.state ≡ reaction.state
  pub sent : AreSentInOrder from reaction.words reaction.messages reaction.lays acted.sent

-- The step goes as its rule says: the node is left so, but that its pointers are reconciled, for which the stamp may rise; and
-- what is sent is what the rule has it send, and Lays.
pub record IsCarriedOut (node : NodeState) (reaction : Reaction) (acted : Acted) : Type 0 where
  pub status : acted.state.status ≡ reaction.state.status
  pub ties : acted.state.ties ≡ reaction.state.ties
  pub stamp : reaction.state.stamp ≤ acted.state.stamp
  pub sessions : acted.state.sessions ≡ reaction.state.sessions
  pub covers : acted.state.covers ≡ reaction.state.covers
  pub greeted : acted.state.greeted ≡ reaction.state.greeted
  pub abandoned : acted.state.abandoned ≡ reaction.state.abandoned
  pub awaited : acted.state.awaited ≡ reaction.state.awaited
  pub casts : acted.state.casts ≡ reaction.state.casts
  pub cast_sessions : acted.state.cast_sessions ≡ reaction.state.cast_sessions
  pub cast_numbers : acted.state.cast_numbers ≡ reaction.state.cast_numbers
  pub sent : AreSent (name_of node) reaction.words reaction.messages acted.sent
  pub news : acted.news ≡ reaction.news
  pub taken : acted.strange ≡ false
  pub running : IsRunning reaction.state.status → IsReconciled (name_of node) reaction acted
  pub ended : (IsRunning reaction.state.status → ⊥) → IsAsSaid (name_of node) reaction acted

-- a strange frame is refused; what no rule speaks of is ignored; and what a rule speaks of goes as the rule says
abbrev pub StrangeLaw : Type 0
StrangeLaw = (node : NodeState) (frame : Frame) → is_strange node frame ≡ true
    → IsIgnored node (act node (Takes frame)) × ((act node (Takes frame)).strange ≡ true)

abbrev pub UnruledLaw : Type 0
UnruledLaw = (node : NodeState) (frame : Frame) → rule_of_frame node.status node frame.from frame.body ≡ None
    → IsIgnored node (act node (Takes frame))

abbrev pub UnruledStartLaw : Type 0
UnruledStartLaw = (node : NodeState) (start : Start) → rule_of_start node.status node start ≡ None
    → IsIgnored node (act node (Starts start))

abbrev pub FrameLaw : Type 0
FrameLaw = (node : NodeState) (frame : Frame) (reaction : Reaction) → is_strange node frame ≡ false
    → rule_of_frame node.status node frame.from frame.body ≡ Some reaction → IsCarriedOut node reaction (act node (Takes frame))

abbrev pub StartLaw : Type 0
StartLaw = (node : NodeState) (start : Start) (reaction : Reaction) → rule_of_start node.status node start ≡ Some reaction
    → IsCarriedOut node reaction (act node (Starts start))

-- a frame isn't strange to a node that has ties exactly if it is fit
abbrev pub FitLaw : Type 0
FitLaw = (node : NodeState) (frame : Frame) → AreTies node.ties → (is_strange node frame ≡ false) ↔ IsFit node frame

-- a frame of this sender and this body, to the node
abbrev pub frame_to : NodeState → List ℕ → Body → Frame
frame_to node from body = record { from = from; to = name_of node; body = body }

-- The step of each kind of frame, at a node that has ties and sessions; the frame isn't strange, and is from a name.
abbrev pub ReleaseLaw : Type 0
ReleaseLaw = (node : NodeState) (from : List ℕ) → AreTies node.ties → IsName (settings_of node) from
    → (node.status ≡ Joining) ⊎ (node.status ≡ Core) → is_strange node (frame_to node from Release) ≡ false
    → ReleaseStep node from (act node (Takes (frame_to node from Release)))

abbrev pub ForgetLaw : Type 0
ForgetLaw = (node : NodeState) (from : List ℕ) → AreTies node.ties → IsName (settings_of node) from
    → (node.status ≡ Joining) ⊎ (node.status ≡ Core) → is_strange node (frame_to node from Forget) ≡ false
    → ForgetStep node from (act node (Takes (frame_to node from Forget)))

abbrev pub LinkLaw : Type 0
LinkLaw = (node : NodeState) (holder : List ℕ) (version : ℕ) (on : Bool)
    → (node.status ≡ Joining) ⊎ ((node.status ≡ Core) ⊎ (node.status ≡ Leaving))
    → is_strange node (frame_to node holder (Link version on)) ≡ false
    → LinkStep node holder version on (act node (Takes (frame_to node holder (Link version on))))

-- Heard and Ack alike
abbrev pub AnswerLaw : (ℕ → Body) → Type 0
AnswerLaw body = (node : NodeState) (from : List ℕ) (session : ℕ) → AreSessions node.sessions
    → (node.status ≡ Joining) ⊎ ((node.status ≡ Core) ⊎ (node.status ≡ Ceased))
    → is_strange node (frame_to node from (body session)) ≡ false
    → AnswerStep node session (act node (Takes (frame_to node from (body session))))

-- the body of a Tell
abbrev pub tell_of : TellFields → List Slot → Body
tell_of tell watch = Tell tell.joiner tell.prefix tell.level tell.session tell.depth watch

-- Tell, Hello and Done, at a joining node
abbrev pub MeetLaw : Type 0
MeetLaw = (node : NodeState) (from : List ℕ) (tell : TellFields) (watch : List Slot) → AreTies node.ties
    → IsName (settings_of node) tell.joiner → node.status ≡ Joining
    → is_strange node (frame_to node from (tell_of tell watch)) ≡ false
    → MeetStep node from tell (act node (Takes (frame_to node from (tell_of tell watch))))

abbrev pub HelloLaw : Type 0
HelloLaw = (node : NodeState) (from : List ℕ) (hello : HelloFields) → node.status ≡ Joining
    → is_strange node (frame_to node from (hello_body hello)) ≡ false
    → HelloStep node from hello (act node (Takes (frame_to node from (hello_body hello))))

abbrev pub DoneLaw : Type 0
DoneLaw = (node : NodeState) (from : List ℕ) → node.status ≡ Joining → node.abandoned ≡ false
    → is_strange node (frame_to node from Done) ≡ false → DoneStep node (act node (Takes (frame_to node from Done)))

-- Tell, at a core node
abbrev pub TellLaw : Type 0
TellLaw = (node : NodeState) (from : List ℕ) (tell : TellFields) (watch : List Slot) → AreTies node.ties
    → IsName (settings_of node) tell.joiner → node.status ≡ Core
    → is_strange node (frame_to node from (tell_of tell watch)) ≡ false
    → CoverStep node (record {
      joiner = tell.joiner;
      prefix = tell.prefix;
      level = tell.level;
      watch = watch;
      parent = Node from tell.session;
      depth = tell.depth;
    }) (act node (Takes (frame_to node from (tell_of tell watch))))

-- Seek, at a core node
abbrev pub SeekLaw : Type 0
SeekLaw = (node : NodeState) (from joiner : List ℕ) → AreTies node.ties → IsName (settings_of node) joiner
    → node.status ≡ Core → is_strange node (frame_to node from (Seek joiner)) ≡ false
    → SeekStep node joiner (act node (Takes (frame_to node from (Seek joiner))))

-- a node that starts to join is a node, and so is each of the members with which an overlay begins
abbrev pub JoinerLaw : Type 0
JoinerLaw = (p : SettingsValue) (name : List ℕ) → AreWithinLimits p → IsName p name → IsNode (joiner p name)

abbrev pub MemberLaw : Type 0
MemberLaw = (p : SettingsValue) (members : List (List ℕ)) (name : List ℕ) → AreWithinLimits p → IsName p name
    → AreNames p members → AreDistinct members → IsNode (member_at_rest p members name)

-- each step keeps what a node keeps, whatever frame it takes that has a spelling, and whatever it starts; what it publishes is a name
abbrev pub KeptLaw : Type 0
KeptLaw = (node : NodeState) (frame : Frame) → IsNode node → IsFrame (settings_of node) frame
    → KeepsNode node (act node (Takes frame)).state

abbrev pub StartKeptLaw : Type 0
StartKeptLaw = (node : NodeState) (start : Start) → IsNode node → IsStart (settings_of node) start
    → KeepsNode node (act node (Starts start)).state

-- Done, at a node whose join was given up; and the steps of a departure
abbrev pub CeaseLaw : Type 0
CeaseLaw = (node : NodeState) (from : List ℕ) → node.status ≡ Joining → node.abandoned ≡ true
    → is_strange node (frame_to node from Done) ≡ false → EndStep node Ceased Forget (act node (Takes (frame_to node from Done)))

abbrev pub LeaveLaw : Type 0
LeaveLaw = (node : NodeState) (from : List ℕ) (replacement : Option (List ℕ)) → node.status ≡ Core
    → is_strange node (frame_to node from (Leave replacement)) ≡ false
    → LeaveStep node from replacement (act node (Takes (frame_to node from (Leave replacement))))

abbrev pub LeftLaw : Type 0
LeftLaw = (node : NodeState) (from : List ℕ) → node.status ≡ Leaving → is_strange node (frame_to node from Left) ≡ false
    → LeftStep node from (act node (Takes (frame_to node from Left)))

abbrev pub GoneLaw : Type 0
GoneLaw = (node : NodeState) (from : List ℕ) → AreTies node.ties → IsName (settings_of node) from → node.status ≡ Core
    → is_strange node (frame_to node from Gone) ≡ false → GoneStep node from (act node (Takes (frame_to node from Gone)))

-- Each pair is laid as wanted after each step of a node that hasn't ended, if it was before.
abbrev pub LaidLaw : Type 0
LaidLaw = (node : NodeState) (event : Event) → AreLaid node.ties.table node.pointers → IsRunning (act node event).state.status
    → AreLaid (act node event).state.ties.table (act node event).state.pointers

-- frames and starts about pointers, lookups and casts change nothing of joins and departures
abbrev pub QuietLaw : Type 0
QuietLaw = (node : NodeState) (frame : Frame) → IsQuiet frame.body → QuietStep node (act node (Takes frame))

abbrev pub QuietStartLaw : Type 0
QuietStartLaw = (node : NodeState) (start : Start) → IsQuietStart start → QuietStep node (act node (Starts start))

-- the starts of a join and of a departure, and that a join is given up
abbrev pub SeekStartLaw : Type 0
SeekStartLaw = (node : NodeState) (via : List ℕ) → node.status ≡ Joining → SeekStartStep node via (act node (Starts (StartJoin via)))

abbrev pub GiveUpLaw : Type 0
GiveUpLaw = (node : NodeState) → node.status ≡ Joining → GiveUpStep node (act node (Starts Abandon))

abbrev pub LeaveStartLaw : Type 0
LeaveStartLaw = (node : NodeState) → node.status ≡ Core → LeaveStartStep node (act node (Starts StartLeave))

-- Cast and CastAck, and the start of a cast, at a core node
abbrev pub CastLaw : Type 0
CastLaw = (node : NodeState) (from : List ℕ) (cast level session depth : ℕ) (word : List ℕ) → node.status ≡ Core
    → is_strange node (frame_to node from (Cast cast level session depth word)) ≡ false
    → CastStep node (record { cast = cast; level = level; parent = Node from session; depth = depth; word = word })
    (act node (Takes (frame_to node from (Cast cast level session depth word))))

abbrev pub CastStartLaw : Type 0
CastStartLaw = (node : NodeState) (cast level : ℕ) (word : List ℕ) → node.status ≡ Core
    → CastStep node (record { cast = cast; level = level; parent = Root (name_of node); depth = 0; word = word })
    (act node (Starts (StartCast cast level word)))

abbrev pub CastAckLaw : Type 0
CastAckLaw = (node : NodeState) (from : List ℕ) (session : ℕ) → AreSessions node.cast_sessions → node.status ≡ Core
    → is_strange node (frame_to node from (CastAck session)) ≡ false
    → CastAckStep node session (act node (Takes (frame_to node from (CastAck session))))

-- Lay, Find and Answer, at a core or leaving node
abbrev pub LayLaw : Type 0
LayLaw = (node : NodeState) (from object server : List ℕ) (level version : ℕ) (on : Bool)
    → (node.status ≡ Core) ⊎ (node.status ≡ Leaving)
    → is_strange node (frame_to node from (Lay object server level version on)) ≡ false
    → LayStep node from (pair_of object server) level version on
    (act node (Takes (frame_to node from (Lay object server level version on))))

abbrev pub FindLaw : Type 0
FindLaw = (node : NodeState) (from : List ℕ) (ticket : ℕ) (object asker : List ℕ) (level : ℕ)
    → (node.status ≡ Core) ⊎ (node.status ≡ Leaving)
    → is_strange node (frame_to node from (Find ticket object asker level)) ≡ false
    → FindStep node ticket object asker level (act node (Takes (frame_to node from (Find ticket object asker level))))

abbrev pub FoundLaw : Type 0
FoundLaw = (node : NodeState) (from : List ℕ) (ticket : ℕ) (server : Option (List ℕ))
    → (node.status ≡ Core) ⊎ (node.status ≡ Leaving) → is_strange node (frame_to node from (Answer ticket server)) ≡ false
    → FoundStep node ticket server (act node (Takes (frame_to node from (Answer ticket server))))

-- the starts of a publication, a withdrawal and a lookup, at a core node
abbrev pub PublishLaw : Type 0
PublishLaw = (node : NodeState) (object : List ℕ) → node.status ≡ Core
    → PointersStep node (published node.pointers object) (act node (Starts (Publish object)))

abbrev pub WithdrawLaw : Type 0
WithdrawLaw = (node : NodeState) (object : List ℕ) → node.status ≡ Core
    → PointersStep node (withdrawn node.pointers object) (act node (Starts (Withdraw object)))

abbrev pub LookupLaw : Type 0
LookupLaw = (node : NodeState) (ticket : ℕ) (object : List ℕ) → node.status ≡ Core
    → LookupStep node ticket object (act node (Starts (StartFind ticket object)))

-- Tell, Link and Cast at a node that has ceased: a Tell is answered with an Ack, a word that there is a link with a Forget, and a Cast
-- with a CastAck
abbrev pub CeasedTellLaw : Type 0
CeasedTellLaw = (node : NodeState) (from : List ℕ) (tell : TellFields) (watch : List Slot) → node.status ≡ Ceased
    → is_strange node (frame_to node from (tell_of tell watch)) ≡ false
    → CeasedStep node (message from (Ack tell.session) ∷ []) (act node (Takes (frame_to node from (tell_of tell watch))))

abbrev pub CeasedLinkLaw : Type 0
CeasedLinkLaw = (node : NodeState) (from : List ℕ) (version : ℕ) → node.status ≡ Ceased
    → is_strange node (frame_to node from (Link version true)) ≡ false
    → CeasedStep node (message from Forget ∷ []) (act node (Takes (frame_to node from (Link version true))))

abbrev pub CeasedUnlinkLaw : Type 0
CeasedUnlinkLaw = (node : NodeState) (from : List ℕ) (version : ℕ) → node.status ≡ Ceased
    → is_strange node (frame_to node from (Link version false)) ≡ false
    → CeasedStep node [] (act node (Takes (frame_to node from (Link version false))))

abbrev pub CeasedCastLaw : Type 0
CeasedCastLaw = (node : NodeState) (from : List ℕ) (cast level session depth : ℕ) (word : List ℕ) → node.status ≡ Ceased
    → is_strange node (frame_to node from (Cast cast level session depth word)) ≡ false
    → CeasedStep node (message from (CastAck session) ∷ [])
    (act node (Takes (frame_to node from (Cast cast level session depth word))))

-- a Cast at a joining node is answered too, and nothing else changes
abbrev pub JoiningCastLaw : Type 0
JoiningCastLaw = (node : NodeState) (from : List ℕ) (cast level session depth : ℕ) (word : List ℕ) → node.status ≡ Joining
    → is_strange node (frame_to node from (Cast cast level session depth word)) ≡ false
    → AnsweredCastStep node (message from (CastAck session)) (act node (Takes (frame_to node from (Cast cast level session depth word))))

-- a frame and a start have a rule exactly if the table of all rules says so; without one nothing changes, and a start isn't refused,
-- nor is a frame that isn't strange
abbrev pub HasRuleLaw : Type 0
HasRuleLaw = (node : NodeState) (from : List ℕ) (body : Body)
    → (rule_of_frame node.status node from body ≢ None) ↔ HasRule node.status body

abbrev pub HasStartRuleLaw : Type 0
HasStartRuleLaw = (node : NodeState) (start : Start)
    → (rule_of_start node.status node start ≢ None) ↔ HasStartRule node.status start

abbrev pub WithoutRuleLaw : Type 0
WithoutRuleLaw = (node : NodeState) (frame : Frame) → (HasRule node.status frame.body → ⊥)
    → IsIgnored node (act node (Takes frame)) × ((act node (Takes frame)).strange ≡ is_strange node frame)

abbrev pub WithoutStartRuleLaw : Type 0
WithoutStartRuleLaw = (node : NodeState) (start : Start) → (HasStartRule node.status start → ⊥)
    → IsIgnored node (act node (Starts start)) × ((act node (Starts start)).strange ≡ false)

-- what the frame of a message, of a word and of a Lay says, and what is said to each of these names
abbrev pub MessageFrameLaw : Type 0
MessageFrameLaw = (from to : List ℕ) (body : Body) → IsFrameOf from to body (message_frame from (message to body))

abbrev pub LinkFrameLaw : Type 0
LinkFrameLaw = (from to : List ℕ) (version : ℕ) (on : Bool)
    → IsFrameOf from to (Link version on) (link_frame from (record { to = to; version = version; on = on }))

abbrev pub LayFrameLaw : Type 0
LayFrameLaw = (from to object server : List ℕ) (level version : ℕ) (on : Bool)
    → IsFrameOf from to (Lay object server level version on)
    (lay_frame from (record { to = to; object = object; server = server; level = level; version = version; on = on }))

abbrev pub ToEachLaw : Type 0
ToEachLaw = (body : Body) (names : List (List ℕ)) → IsOneEach body names (to_each body names)

-- the news of a cast; and the cast of a session, by how many were opened before it
abbrev pub CastNewsLaw : Type 0
CastNewsLaw = (cast : ℕ) (reached closed : Bool) → IsCastNews cast reached closed (cast_news cast reached closed)

abbrev pub CastOfLaw : Type 0
CastOfLaw = (node : NodeState) (before after : List ℕ) (cast : ℕ) → node.cast_numbers ≡ before ++ cast ∷ after
    → cast_of node (length before + 1) ≡ cast

-- how a node begins that starts to join, and how one of the members does
abbrev pub BeginsToJoinLaw : Type 0
BeginsToJoinLaw = (p : SettingsValue) (name : List ℕ) → BeginsToJoin p name (joiner p name)

abbrev pub BeginsAtRestLaw : Type 0
BeginsAtRestLaw = (p : SettingsValue) (members : List (List ℕ)) (name : List ℕ)
    → BeginsAtRest p members name (member_at_rest p members name)
