-- The laws of moves, and of the steps that change no cover.
use Rattle.std.specs.Prelude.{◌≡◌, ℕ, List, [], None, Some}
use Rattle.tap_name.specs.Settings.{SettingsValue}
use Rattle.tap_name.specs.declared.slot.Slot.{Slot}
use Rattle.tap_wire.specs.declared.frame.Body.TheVariants.{Done, Seek}
use Rattle.tap_wire.specs.declared.frame.Frame.{Frame}
use Rattle.tap_wire.specs.declared.frame.TellFields.{TellFields}
use Rattle.tap_rule.specs.Node.{NodeState}
use Rattle.tap_rule.specs.Event.{Start}
use Rattle.tap_safety.specs.Frames.{HelloFields, tell_body}
use Rattle.tap_safety.specs.System.{System, AmongFrames, IsCoreNode, IsJoiner, IsUnderWay}
use Rattle.tap_safety.specs.Exchanges.{AreNumbered, Ascend, HasSent, IsTaken, numbered_from}
use Rattle.tap_safety.specs.Moved.{HasDone, IsDelivered, IsLost, IsStarted, numbered_frame, starter}
use Rattle.tap_safety.specs.Sessions.{AreExact, for_way, ways_of}
use Rattle.tap_safety.specs.Awaited.{AreAwaitedOnce}
use Rattle.tap_safety.specs.Turns.{Turns}
use Rattle.tap_safety.specs.Bookkeeping.{AreStamped, Await, HavePlaces, KeepsPlaces, SendsDeeper, SendsIn, TellsAreDeeper, has_table}
use Rattle.tap_safety.specs.Joins.{AreAbout, AreOfJoiners, EndsOnce, JoinerIsNew, JoinersStay, NoDoneAmong, SendsDone}
use Rattle.tap_safety.specs.SessionSteps.{ClosesChild, ClosesRoot, Exchanges, HandsOn, LeavesSessions, OpensChild, OpensRoot}
use Rattle.tap_safety.specs.Seeking.{AreOfSeekers, IsSeeker, Seeking}
use Rattle.tap_safety.specs.SeekerSteps.{BeforeJoin, LeavesSeekers, LeavesTells, SeekGoesOn, SeeksBy, SendsCovers}
use Rattle.tap_safety.specs.Soft.{AddsSoundLinks, AreQuiet, AreSound, NamesSoft, SendsSound}
use Rattle.tap_safety.specs.DoneStep.{BeforeDone, DoneIsTaken, NothingOnWay, TakesDone}
use Rattle.tap_safety.specs.SeekStep.{BeforeSeat, SeatsJoiner}
use Rattle.tap_safety.specs.TellStep.{BeforeTell, IsTellOf, KnownTellIsTaken, TakesKnownTell, TakesTell, TellIsTaken}
use Rattle.tap_safety.specs.Tells.{TellsAreSound}
use Rattle.tap_safety.specs.Ties.{TiesAreTold, Versions}
use Rattle.tap_safety.specs.WordSteps.{KeepsForgets, SaysLinks, SaysNoMore, SaysWords}
use Rattle.tap_safety.specs.Ceased.{Ceased}
use Rattle.tap_safety.specs.Invariant.{Basis, Invariant}
use Rattle.tap_safety.specs.Filled.{AreFilled}
use Rattle.tap_safety.specs.FrameSteps.{
  StartsJoin,
  StartsPlainly,
  TakesForget,
  TakesFrame,
  TakesHello,
  TakesPlainly,
  TakesRelease,
  TakesTellCeased,
  TakesTellJoining,
}

-- ---- moves

-- a frame that is delivered is taken by its receiver, which acts by its rule
abbrev pub DeliveryIsStep : Type 0
DeliveryIsStep = (p : SettingsValue) (s : System) (number : ℕ) (frame : Frame) (node : NodeState)
    → numbered_frame number s.frames ≡ Some frame → s.node frame.to ≡ Some node → IsDelivered p s number frame node

-- a frame to a name without a node is taken by nobody
abbrev pub StrayIsLost : Type 0
StrayIsLost = (p : SettingsValue) (s : System) (number : ℕ) (frame : Frame) → numbered_frame number s.frames ≡ Some frame
    → s.node frame.to ≡ None → IsLost p s number frame

-- who starts something acts by its rule
abbrev pub StartIsStep : Type 0
StartIsStep = (p : SettingsValue) (s : System) (x : List ℕ) (start : Start) (node : NodeState) → starter p s x start ≡ Some node
    → IsStarted p s x start node

-- the frame of a number is found
abbrev pub NumberIsFound : Type 0
NumberIsFound = (s : System) (number : ℕ) (frame : Frame) → AreNumbered s → AmongFrames number frame s.frames
    → numbered_frame number s.frames ≡ Some frame

-- numbers ascend after a frame is taken, and after others are sent
abbrev pub NumbersKeptByFrame : Type 0
NumbersKeptByFrame = (s s' : System) (number : ℕ) (frame : Frame) (sent : List Frame) → IsTaken s s' number frame sent
    → AreNumbered s → AreNumbered s'

abbrev pub NumbersKeptByStart : Type 0
NumbersKeptByStart = (s s' : System) (sent : List Frame) → HasSent s s' sent → AreNumbered s → AreNumbered s'

-- ---- tables without holes, and what leads to them

abbrev pub FilledKeptByPlainFrame : Type 0
FilledKeptByPlainFrame = (p : SettingsValue) (s s' : System) (number : ℕ) (frame : Frame) → TakesPlainly s s' number frame
    → AreFilled p s → AreFilled p s'

abbrev pub FilledKeptByTellCeased : Type 0
FilledKeptByTellCeased = (p : SettingsValue) (s s' : System) (number : ℕ) (w x : List ℕ) (tell : TellFields) (watch : List Slot)
    → TakesTellCeased s s' number w x tell watch → AreFilled p s → AreFilled p s'

abbrev pub FilledKeptByTellJoining : Type 0
FilledKeptByTellJoining = (p : SettingsValue) (s s' : System) (number : ℕ) (w x : List ℕ) (tell : TellFields) (watch : List Slot)
    → TakesTellJoining s s' number w x tell watch → AreFilled p s → AreFilled p s'

abbrev pub FilledKeptByHello : Type 0
FilledKeptByHello = (p : SettingsValue) (s s' : System) (number : ℕ) (w b : List ℕ) (hello : HelloFields)
    → TakesHello s s' number w b hello → NamesSoft s → AreFilled p s → AreFilled p s'

abbrev pub FilledKeptByRelease : Type 0
FilledKeptByRelease = (p : SettingsValue) (s s' : System) (number : ℕ) (t x : List ℕ) → TakesRelease s s' number t x → NamesSoft s
    → AreFilled p s → AreFilled p s'

abbrev pub FilledKeptByForget : Type 0
FilledKeptByForget = (p : SettingsValue) (s s' : System) (number : ℕ) (n x : List ℕ) → TakesForget s s' number n x → Ceased s
    → AreFilled p s → AreFilled p s'

abbrev pub FilledKeptByStart : Type 0
FilledKeptByStart = (p : SettingsValue) (s s' : System) (x : List ℕ) → StartsPlainly s s' x → AreFilled p s → AreFilled p s'

abbrev pub FilledKeptByJoin : Type 0
FilledKeptByJoin = (p : SettingsValue) (s s' : System) (x : List ℕ) → StartsJoin s s' x → AreFilled p s → AreFilled p s'

-- ---- sessions

abbrev pub SessionsKeptByHandingOn : Type 0
SessionsKeptByHandingOn = (s s' : System) (number : ℕ) (f : Frame) (w : List ℕ) (k : ℕ) (sent : List (ℕ × Frame))
    → HandsOn s s' number f w k sent → AreExact s → AreExact s'

abbrev pub SessionsKeptByRoot : Type 0
SessionsKeptByRoot = (s s' : System) (number : ℕ) (f : Frame) (x : List ℕ) (l : ℕ) (sent : List (ℕ × Frame))
    → OpensRoot s s' number f x l sent → AreExact s → AreExact s'

abbrev pub SessionsKeptByClosing : Type 0
SessionsKeptByClosing = (s s' : System) (number : ℕ) (f : Frame) (x : List ℕ) (k : ℕ) (w : List ℕ) (m : ℕ) (sent : List (ℕ × Frame))
    → ClosesChild s s' number f x k w m sent → AreExact s → AreExact s'

abbrev pub SessionsKeptByLastAnswer : Type 0
SessionsKeptByLastAnswer = (s s' : System) (number : ℕ) (f : Frame) (x : List ℕ) (k : ℕ) (sent : List (ℕ × Frame))
    → ClosesRoot s s' number f x k sent → AreExact s → AreExact s'

abbrev pub SessionsKeptByOthers : Type 0
SessionsKeptByOthers = (s s' : System) → LeavesSessions s s' → AreExact s → AreExact s'

-- Each session that is open awaits each answer once, of sessions that are there: kept by the same kinds, if what is sent has new numbers.
abbrev pub AwaitedKeptByHandingOn : Type 0
AwaitedKeptByHandingOn = (s s' : System) (number : ℕ) (f : Frame) (w : List ℕ) (k : ℕ) (sent : List (ℕ × Frame))
    → HandsOn s s' number f w k sent → Ascend s.next sent s'.next → AreExact s → AreNumbered s → AreAwaitedOnce s → AreAwaitedOnce s'

abbrev pub AwaitedKeptByOpening : Type 0
AwaitedKeptByOpening = (s s' : System) (number : ℕ) (f : Frame) (w : List ℕ) (k : ℕ) (x : List ℕ) (l : ℕ) (sent : List (ℕ × Frame))
    → OpensChild s s' number f w k x l sent → Ascend s.next sent s'.next → AreAwaitedOnce s → AreAwaitedOnce s'

abbrev pub AwaitedKeptByRoot : Type 0
AwaitedKeptByRoot = (s s' : System) (number : ℕ) (f : Frame) (x : List ℕ) (l : ℕ) (sent : List (ℕ × Frame))
    → OpensRoot s s' number f x l sent → Ascend s.next sent s'.next → AreAwaitedOnce s → AreAwaitedOnce s'

abbrev pub AwaitedKeptByClosing : Type 0
AwaitedKeptByClosing = (s s' : System) (number : ℕ) (f : Frame) (x : List ℕ) (k : ℕ) (w : List ℕ) (m : ℕ) (sent : List (ℕ × Frame))
    → ClosesChild s s' number f x k w m sent → Ascend s.next sent s'.next → AreExact s → AreNumbered s → AreAwaitedOnce s
    → AreAwaitedOnce s'

abbrev pub AwaitedKeptByLastAnswer : Type 0
AwaitedKeptByLastAnswer = (s s' : System) (number : ℕ) (f : Frame) (x : List ℕ) (k : ℕ) (sent : List (ℕ × Frame))
    → ClosesRoot s s' number f x k sent → AreAwaitedOnce s → AreAwaitedOnce s'

abbrev pub AwaitedKeptByOthers : Type 0
AwaitedKeptByOthers = (s s' : System) → LeavesSessions s s' → AreAwaitedOnce s → AreAwaitedOnce s'

-- what a step sends has such numbers
abbrev pub NumbersAreNew : Type 0
NumbersAreNew = (s s' : System) (number : ℕ) (frame : Frame) (sent : List Frame) → IsTaken s s' number frame sent
    → Ascend s.next (numbered_from s.next sent) s'.next

-- ---- whose the sessions are, and the one end of each join

-- Of each of these kinds, if joiners stay, what is sent in a session is about its joiner, and no Done is sent but at the root's end: the
-- sessions are of joiners as before, and each join has one end.
abbrev pub KeepsJoins : System → System → Type 0
KeepsJoins s s' = (AreOfJoiners s → AreOfJoiners s') × (EndsOnce s → EndsOnce s')

abbrev pub JoinsKeptByHandingOn : Type 0
JoinsKeptByHandingOn = (s s' : System) (number : ℕ) (f : Frame) (w : List ℕ) (k : ℕ) (sent : List (ℕ × Frame))
    → HandsOn s s' number f w k sent → AreExact s → JoinersStay s s' → NoDoneAmong sent → AreAbout s' sent → KeepsJoins s s'

abbrev pub JoinsKeptByOpening : Type 0
JoinsKeptByOpening = (s s' : System) (number : ℕ) (f : Frame) (w : List ℕ) (k : ℕ) (x : List ℕ) (l : ℕ) (sent : List (ℕ × Frame))
    → OpensChild s s' number f w k x l sent → AreExact s → JoinersStay s s' → NoDoneAmong sent → AreAbout s' sent → KeepsJoins s s'

abbrev pub JoinsKeptByClosing : Type 0
JoinsKeptByClosing = (s s' : System) (number : ℕ) (f : Frame) (x : List ℕ) (k : ℕ) (w : List ℕ) (m : ℕ) (sent : List (ℕ × Frame))
    → ClosesChild s s' number f x k w m sent → AreExact s → JoinersStay s s' → NoDoneAmong sent → AreAbout s' sent → KeepsJoins s s'

abbrev pub JoinsKeptByLastAnswer : Type 0
JoinsKeptByLastAnswer = (s s' : System) (number : ℕ) (f : Frame) (x : List ℕ) (k : ℕ) (sent : List (ℕ × Frame))
    → (step : ClosesRoot s s' number f x k sent) → AreExact s → JoinersStay s s' → SendsDone sent step.closes.session.joiner
    → AreAbout s' sent → KeepsJoins s s'

-- ---- who is named, seekers and Tells

abbrev pub SoftKeptByPlainFrame : Type 0
SoftKeptByPlainFrame = (s s' : System) (number : ℕ) (frame : Frame) → (plain : TakesPlainly s s' number frame)
    → AreSound s' frame.to plain.step.messages → NamesSoft s → NamesSoft s'

abbrev pub SoftKeptByTellCeased : Type 0
SoftKeptByTellCeased = (s s' : System) (number : ℕ) (w x : List ℕ) (tell : TellFields) (watch : List Slot)
    → TakesTellCeased s s' number w x tell watch → NamesSoft s → NamesSoft s'

abbrev pub SoftKeptByTellJoining : Type 0
SoftKeptByTellJoining = (s s' : System) (number : ℕ) (w x : List ℕ) (tell : TellFields) (watch : List Slot)
    → TakesTellJoining s s' number w x tell watch → IsJoiner s tell.joiner → IsJoiner s x → (x ≡ tell.joiner → ⊥) → NamesSoft s
    → NamesSoft s'

abbrev pub SoftKeptByHello : Type 0
SoftKeptByHello = (s s' : System) (number : ℕ) (w b : List ℕ) (hello : HelloFields) → TakesHello s s' number w b hello → NamesSoft s
    → NamesSoft s'

abbrev pub SoftKeptByRelease : Type 0
SoftKeptByRelease = (s s' : System) (number : ℕ) (t x : List ℕ) → TakesRelease s s' number t x → NamesSoft s → NamesSoft s'

abbrev pub SoftKeptByForget : Type 0
SoftKeptByForget = (s s' : System) (number : ℕ) (n x : List ℕ) → TakesForget s s' number n x → NamesSoft s → NamesSoft s'

-- seekers stay unknown if a step leaves them so, and Tells sound
abbrev pub SeekingKept : Type 0
SeekingKept = (s s' : System) → LeavesSeekers s s' → (Seeking s → Seeking s') × (AreOfSeekers s → AreOfSeekers s')

abbrev pub TellsKept : Type 0
TellsKept = (p : SettingsValue) (s s' : System) → LeavesTells p s s' → TellsAreSound p s → TellsAreSound p s'

-- ---- words of links

-- a step that says of each link that it changes keeps the ties, their versions, and what is said to nodes that join or have ceased
abbrev pub TiesKeptByWords : Type 0
TiesKeptByWords = (s s' : System) (x : List ℕ) → SaysWords s s' x → TiesAreTold s → TiesAreTold s'

abbrev pub VersionsKeptByWords : Type 0
VersionsKeptByWords = (s s' : System) (x : List ℕ) → SaysWords s s' x → Versions s → Versions s'

abbrev pub CeasedKeptByWords : Type 0
CeasedKeptByWords = (s s' : System) (x : List ℕ) → SaysWords s s' x → KeepsForgets s s' x → Ceased s → Ceased s'

-- ---- these parts, by other kinds

abbrev pub FilledKeptByDone : Type 0
FilledKeptByDone = (p : SettingsValue) (s s' : System) → DoneIsTaken p s s' → AreFilled p s'

abbrev pub SoftKeptByTell : Type 0
SoftKeptByTell = (s s' : System) (number : ℕ) (w x : List ℕ) (tell : TellFields) (watch : List Slot)
    → (step : TakesTell s s' number w x tell watch) → IsJoiner s tell.joiner → SendsSound s' step.sent → NamesSoft s → NamesSoft s'

abbrev pub SoftKeptByKnownTell : Type 0
SoftKeptByKnownTell = (s s' : System) (number : ℕ) (w x : List ℕ) (tell : TellFields) (watch : List Slot)
    → (step : TakesKnownTell s s' number w x tell watch) → SendsSound s' step.sent → NamesSoft s → NamesSoft s'

abbrev pub SoftKeptByDone : Type 0
SoftKeptByDone = (s s' : System) (number : ℕ) (w e : List ℕ) → (step : TakesDone s s' number w e) → SendsSound s' step.sent
    → NamesSoft s → NamesSoft s'

abbrev pub SoftKeptByStart : Type 0
SoftKeptByStart = (s s' : System) (x : List ℕ) → (start : StartsPlainly s s' x) → AreSound s' x start.messages → NamesSoft s
    → NamesSoft s'

abbrev pub SoftKeptByJoin : Type 0
SoftKeptByJoin = (s s' : System) (x : List ℕ) → (start : StartsJoin s s' x) → AreSound s' x start.messages → NamesSoft s → NamesSoft s'

-- a frame that is no Seek, at a node that stays what it is, with messages that send nobody on
abbrev pub SeekingKeptByFrame : Type 0
SeekingKeptByFrame = (s s' : System) (number : ℕ) (frame : Frame) → (step : TakesFrame s s' number frame)
    → AreQuiet s' frame.to step.messages → ((x : List ℕ) → frame.body ≡ Seek x → ⊥) → AddsSoundLinks s' step.before step.after
    → (Seeking s → Seeking s') × (AreOfSeekers s → AreOfSeekers s')

abbrev pub TellsKeptByFrame : Type 0
TellsKeptByFrame = (p : SettingsValue) (s s' : System) (number : ℕ) (frame : Frame) → (step : TakesFrame s s' number frame)
    → AreQuiet s' frame.to step.messages → TellsAreSound p s → TellsAreSound p s'

-- and joiners stay
abbrev pub JoinersStayByFrame : Type 0
JoinersStayByFrame = (s s' : System) (number : ℕ) (frame : Frame) → TakesFrame s s' number frame → JoinersStay s s'

-- ---- the bookkeeping of sessions

-- each kind of step is a turn of the sessions
abbrev pub HandingOnTurns : Type 0
HandingOnTurns = (s s' : System) (number : ℕ) (f : Frame) (w : List ℕ) (k : ℕ) (sent : List (ℕ × Frame))
    → HandsOn s s' number f w k sent → AreExact s → Turns s s' sent

abbrev pub OpeningTurns : Type 0
OpeningTurns = (s s' : System) (number : ℕ) (f : Frame) (w : List ℕ) (k : ℕ) (x : List ℕ) (l : ℕ) (sent : List (ℕ × Frame))
    → OpensChild s s' number f w k x l sent → AreExact s → Turns s s' sent

abbrev pub RootTurns : Type 0
RootTurns = (s s' : System) (number : ℕ) (f : Frame) (x : List ℕ) (l : ℕ) (sent : List (ℕ × Frame))
    → OpensRoot s s' number f x l sent → AreExact s → Turns s s' sent

abbrev pub ClosingTurns : Type 0
ClosingTurns = (s s' : System) (number : ℕ) (f : Frame) (x : List ℕ) (k : ℕ) (w : List ℕ) (m : ℕ) (sent : List (ℕ × Frame))
    → ClosesChild s s' number f x k w m sent → AreExact s → Turns s s' sent

abbrev pub LastAnswerTurns : Type 0
LastAnswerTurns = (s s' : System) (number : ℕ) (f : Frame) (x : List ℕ) (k : ℕ) (sent : List (ℕ × Frame))
    → ClosesRoot s s' number f x k sent → AreExact s → Turns s s' sent

-- and a turn keeps places and depths
abbrev pub PlacesKeptByTurn : Type 0
PlacesKeptByTurn = (s s' : System) (sent : List (ℕ × Frame)) → Turns s s' sent → KeepsPlaces s s' → HavePlaces s → HavePlaces s'

abbrev pub DepthsKeptByTurn : Type 0
DepthsKeptByTurn = (s s' : System) (sent : List (ℕ × Frame)) → Turns s s' sent → AreExact s → SendsDeeper s' sent
    → TellsAreDeeper s → TellsAreDeeper s'

-- each session still awaits an answer
abbrev pub AwaitKeptByHandingOn : Type 0
AwaitKeptByHandingOn = (s s' : System) (number : ℕ) (f : Frame) (w : List ℕ) (k : ℕ) (sent : List (ℕ × Frame))
    → (step : HandsOn s s' number f w k sent) → (for_way number (ways_of w k sent) step.before.awaits ≡ [] → ⊥) → Await s → Await s'

abbrev pub AwaitKeptByOpening : Type 0
AwaitKeptByOpening = (s s' : System) (number : ℕ) (f : Frame) (w : List ℕ) (k : ℕ) (x : List ℕ) (l : ℕ) (sent : List (ℕ × Frame))
    → OpensChild s s' number f w k x l sent → AreExact s → SendsIn sent x l → Await s → Await s'

abbrev pub AwaitKeptByRoot : Type 0
AwaitKeptByRoot = (s s' : System) (number : ℕ) (f : Frame) (x : List ℕ) (l : ℕ) (sent : List (ℕ × Frame))
    → OpensRoot s s' number f x l sent → AreExact s → SendsIn sent x l → Await s → Await s'

abbrev pub AwaitKeptByClosing : Type 0
AwaitKeptByClosing = (s s' : System) (number : ℕ) (f : Frame) (x : List ℕ) (k : ℕ) (w : List ℕ) (m : ℕ) (sent : List (ℕ × Frame))
    → ClosesChild s s' number f x k w m sent → AreExact s → SendsIn sent w m → Await s → Await s'

abbrev pub AwaitKeptByLastAnswer : Type 0
AwaitKeptByLastAnswer = (s s' : System) (number : ℕ) (f : Frame) (x : List ℕ) (k : ℕ) (sent : List (ℕ × Frame))
    → ClosesRoot s s' number f x k sent → Await s → Await s'

abbrev pub AwaitKeptByOthers : Type 0
AwaitKeptByOthers = (s s' : System) → LeavesSessions s s' → Await s → Await s'

-- ---- frames by number, and starts of joins

-- a frame that is taken goes for good, and what is sent comes with new numbers
abbrev pub FramesAreExchanged : Type 0
FramesAreExchanged = (s s' : System) (number : ℕ) (frame : Frame) (sent : List Frame) → IsTaken s s' number frame sent → AreNumbered s
    → Exchanges s s' number frame (numbered_from s.next sent)

abbrev pub SeekingKeptByJoin : Type 0
SeekingKeptByJoin = (p : SettingsValue) (s s' : System) (x via : List ℕ) → (start : StartsJoin s s' x) → SeeksBy s s' x via start
    → BeforeJoin p s → Seeking s → AreOfSeekers s → Seeking s' × AreOfSeekers s'

-- a frame whose taker says of each link that it changes is such a step
abbrev pub WordsSaidByFrame : Type 0
WordsSaidByFrame = (s s' : System) (number : ℕ) (frame : Frame) → (step : TakesFrame s s' number frame)
    → HasDone s s' frame.to step.after step.sent → SaysLinks step.before step.after step.words
    → SaysNoMore frame step.after step.messages → AreStamped s → has_table step.before.status
    → SaysWords s s' frame.to × KeepsForgets s s' frame.to

-- a Seek at the surrogate
abbrev pub FilledKeptBySeat : Type 0
FilledKeptBySeat = (p : SettingsValue) (s s' : System) (number : ℕ) (w x b : List ℕ) → SeatsJoiner p s s' number w x b
    → BeforeSeat p s x b → AreFilled p s → AreFilled p s'

-- and a Tell at a core node
abbrev pub FilledKeptByTell : Type 0
FilledKeptByTell = (p : SettingsValue) (s s' : System) → TellIsTaken p s s' → AreFilled p s → AreFilled p s'

abbrev pub FilledKeptByKnownTell : Type 0
FilledKeptByKnownTell = (p : SettingsValue) (s s' : System) → KnownTellIsTaken p s s' → AreFilled p s → AreFilled p s'

-- ---- a Seek at the surrogate: its session, its joiner, and who is named

abbrev pub JoinsKeptByRoot : Type 0
JoinsKeptByRoot = (s s' : System) (number : ℕ) (f : Frame) (x : List ℕ) (l : ℕ) (sent : List (ℕ × Frame))
    → (step : OpensRoot s s' number f x l sent) → AreExact s → JoinerIsNew s s' x step.root.joiner → NoDoneAmong sent
    → (f.body ≡ Done → ⊥) → AreAbout s' sent → AreOfJoiners s → AreOfJoiners s' × (EndsOnce s → EndsOnce s')

abbrev pub JoinerIsNewBySeat : Type 0
JoinerIsNewBySeat = (p : SettingsValue) (s s' : System) (number : ℕ) (w x b : List ℕ) → SeatsJoiner p s s' number w x b → IsSeeker s b
    → JoinerIsNew s s' x b

abbrev pub SoftKeptBySeat : Type 0
SoftKeptBySeat = (p : SettingsValue) (s s' : System) (number : ℕ) (w x b : List ℕ) → (step : SeatsJoiner p s s' number w x b)
    → IsSeeker s b → SendsSound s' step.sent → NamesSoft s → NamesSoft s'

-- a Seek that goes on
abbrev pub SeekingKeptBySeek : Type 0
SeekingKeptBySeek = (s s' : System) (number : ℕ) (w x b t : List ℕ) → SeekGoesOn s s' number w x b t → AreNumbered s
    → (Seeking s → Seeking s') × (AreOfSeekers s → AreOfSeekers s')

-- a Tell at a core node, a Seek at the surrogate, and a Done: joining nodes that aren't started stay unknown, and Tells sound, if what is
-- sent is so
abbrev pub KeepsSeekers : System → System → Type 0
KeepsSeekers s s' = (Seeking s → Seeking s') × (AreOfSeekers s → AreOfSeekers s')

abbrev pub SeekingKeptByTell : Type 0
SeekingKeptByTell = (p : SettingsValue) (s s' : System) (number : ℕ) (w x : List ℕ) (tell : TellFields) (watch : List Slot)
    → (step : TakesTell s s' number w x tell watch) → IsCoreNode s x → IsJoiner s tell.joiner → SendsCovers p s' step.sent
    → KeepsSeekers s s' × (TellsAreSound p s → TellsAreSound p s')

abbrev pub SeekingKeptByKnownTell : Type 0
SeekingKeptByKnownTell = (p : SettingsValue) (s s' : System) (number : ℕ) (w x : List ℕ) (tell : TellFields) (watch : List Slot)
    → (step : TakesKnownTell s s' number w x tell watch) → IsCoreNode s x → IsJoiner s tell.joiner → SendsCovers p s' step.sent
    → KeepsSeekers s s' × (TellsAreSound p s → TellsAreSound p s')

abbrev pub SeekingKeptBySeat : Type 0
SeekingKeptBySeat = (p : SettingsValue) (s s' : System) (number : ℕ) (w x b : List ℕ) → (step : SeatsJoiner p s s' number w x b)
    → IsCoreNode s x → IsSeeker s b → SendsCovers p s' step.sent → AreNumbered s → Seeking s
    → Seeking s' × (AreOfSeekers s → AreOfSeekers s') × (TellsAreSound p s → TellsAreSound p s')

abbrev pub SeekingKeptByDone : Type 0
SeekingKeptByDone = (p : SettingsValue) (s s' : System) (number : ℕ) (w e : List ℕ) → (step : TakesDone s s' number w e)
    → NothingOnWay s e → SendsCovers p s' step.sent → KeepsSeekers s s' × (TellsAreSound p s → TellsAreSound p s')

-- ---- what the laws of steps ask for, from the invariant

abbrev pub InvariantGivesTell : Type 0
InvariantGivesTell = (p : SettingsValue) (s : System) (from x : List ℕ) (fields : TellFields) (watch : List Slot) → Basis p s
    → IsUnderWay s from x (tell_body fields watch) → IsCoreNode s x → IsTellOf p s x fields.joiner fields.prefix fields.level

abbrev pub InvariantGivesQuiet : Type 0
InvariantGivesQuiet = (p : SettingsValue) (s : System) (w e : List ℕ) → Basis p s → IsUnderWay s w e Done → NothingOnWay s e

abbrev pub InvariantGivesBefore : Type 0
InvariantGivesBefore = (p : SettingsValue) (s : System) → Invariant p s → s.departing ≡ None → BeforeTell p s × BeforeDone p s

abbrev pub InvariantGivesSeat : Type 0
InvariantGivesSeat = (p : SettingsValue) (s : System) (from x b : List ℕ) → Basis p s → s.departing ≡ None
    → IsUnderWay s from x (Seek b) → IsCoreNode s x → BeforeSeat p s x b
