-- The laws: what a kind of step keeps of the invariant.
use Rattle.std.specs.Prelude.{◌≡◌, ℕ, ◌≤◌, List}
use Rattle.tap_name.specs.Prefix.{lcp}
use Rattle.tap_name.specs.Settings.{SettingsValue}
use Rattle.tap_wire.specs.declared.frame.Body.TheVariants.{Done}
use Rattle.tap_wire.specs.declared.frame.Frame.{Frame}
use Rattle.tap_safety.specs.Remembered.{OpenSession, TieWord}
use Rattle.tap_safety.specs.System.{System, AmongFrames, IsCoreNode, IsJoiner, IsUnderWay}
use Rattle.tap_safety.specs.Regions.{IsGiven}
use Rattle.tap_safety.specs.Parts.{Cover, Covered, HoleFree, Low, Meet}
use Rattle.tap_safety.specs.TellStep.{KnownTellIsTaken, TellIsTaken}
use Rattle.tap_safety.specs.DoneStep.{DoneIsTaken, NothingOnWay}
use Rattle.tap_safety.specs.SeekStep.{JoinerIsGreeted}
use Rattle.tap_safety.specs.Sessions.{AreExact, AwaitsLast, Belongs, IsOpen, IsRootless}
use Rattle.tap_safety.specs.SessionSteps.{OpensChild}
use Rattle.tap_safety.specs.Joins.{AreOfJoiners, EndsOnce}
use Rattle.tap_safety.specs.Ties.{TakesLink, TiesAreTold, Versions}

-- a Tell that is taken anew at a core node keeps tables without holes, and what leads to them
abbrev pub CoverKeptByTell : Type 0
CoverKeptByTell = (p : SettingsValue) (s s' : System) → TellIsTaken p s s' → Cover p s'

abbrev pub CoveredKeptByTell : Type 0
CoveredKeptByTell = (p : SettingsValue) (s s' : System) → TellIsTaken p s s' → Covered p s'

abbrev pub MeetKeptByTell : Type 0
MeetKeptByTell = (p : SettingsValue) (s s' : System) → TellIsTaken p s s' → Meet s → Meet s'

abbrev pub LowKeptByTell : Type 0
LowKeptByTell = (p : SettingsValue) (s s' : System) → TellIsTaken p s s' → Low s → Low s'

abbrev pub HoleFreeKeptByTell : Type 0
HoleFreeKeptByTell = (p : SettingsValue) (s s' : System) → TellIsTaken p s s' → HoleFree p s'

-- and a Tell of a joiner that the core node covers so already keeps Cover
abbrev pub CoverKeptByKnownTell : Type 0
CoverKeptByKnownTell = (p : SettingsValue) (s s' : System) → KnownTellIsTaken p s s' → Cover p s'

-- a Done keeps tables without holes, and what leads to them
abbrev pub CoverKeptByDone : Type 0
CoverKeptByDone = (p : SettingsValue) (s s' : System) → DoneIsTaken p s s' → Cover p s'

abbrev pub LowKeptByDone : Type 0
LowKeptByDone = (p : SettingsValue) (s s' : System) → DoneIsTaken p s s' → Low s'

abbrev pub HoleFreeKeptByDone : Type 0
HoleFreeKeptByDone = (p : SettingsValue) (s s' : System) → DoneIsTaken p s s' → HoleFree p s'

-- a new joiner is given the slot of each core node with which it shares at most its prefix
abbrev pub LowOfNewJoiner : Type 0
LowOfNewJoiner = (p : SettingsValue) (s s' : System) (x b : List ℕ) → JoinerIsGreeted p s s' x b
    → (e : List ℕ) → IsCoreNode s e → lcp b e ≤ lcp x b → IsGiven s' b e

-- the sessions are exact once one is opened for a frame that is taken
abbrev pub SessionsKeptByOpening : Type 0
SessionsKeptByOpening = (s s' : System) (number : ℕ) (f : Frame) (w : List ℕ) (k : ℕ) (x : List ℕ) (l : ℕ)
    (sent : List (ℕ × Frame)) → OpensChild s s' number f w k x l sent → AreExact s → AreExact s'

-- if no root session of a joiner is open, no session of it is
abbrev pub NoSessionWithoutRoot : Type 0
NoSessionWithoutRoot = (s : System) (b : List ℕ) → AreExact s → IsRootless s b
    → (y : List ℕ) (l : ℕ) (session : OpenSession) → IsOpen s y l session → session.joiner ≡ b → ⊥

-- if the root session of a joiner awaits one frame alone, it is its only session
abbrev pub OnlyTheRootIsLeft : Type 0
OnlyTheRootIsLeft = (s : System) (x : List ℕ) (k number : ℕ) → AreExact s → (last : AwaitsLast s x k number)
    → (y : List ℕ) (l : ℕ) (session : OpenSession) → IsOpen s y l session → session.joiner ≡ last.root.joiner → (y ≡ x) × (l ≡ k)

-- and no other frame belongs to a session of the joiner
abbrev pub OnlyTheLastFrameIsLeft : Type 0
OnlyTheLastFrameIsLeft = (s : System) (x : List ℕ) (k number : ℕ) → AreExact s → (last : AwaitsLast s x k number)
    → (m : ℕ) (f : Frame) (y : List ℕ) (l : ℕ) (session : OpenSession) → AmongFrames m f s.frames → Belongs f y l
    → IsOpen s y l session → session.joiner ≡ last.root.joiner → m ≡ number

-- nothing of a joiner's own is under way once its Done is
abbrev pub QuietOnceDone : Type 0
QuietOnceDone = (s : System) (w e : List ℕ) → AreExact s → AreOfJoiners s → EndsOnce s → IsJoiner s e → IsUnderWay s w e Done
    → NothingOnWay s e

-- a word that is taken keeps the ties and their versions
abbrev pub TiesKeptByLink : Type 0
TiesKeptByLink = (s s' : System) (x t : List ℕ) (word : TieWord) → TakesLink s s' x t word → TiesAreTold s → Versions s → TiesAreTold s'

abbrev pub VersionsKeptByLink : Type 0
VersionsKeptByLink = (s s' : System) (x t : List ℕ) (word : TieWord) → TakesLink s s' x t word → Versions s → Versions s'
