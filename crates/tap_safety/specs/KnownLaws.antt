-- The laws of what the frames, the names and the stamps of a system keep, whatever the kind of step.
use Rattle.std.specs.Prelude.{◌≡◌, ◌⊎◌, ℕ, ◌+◌, ◌<◌, ◌≤◌, Bool, List, [], ◌∷◌, None, Some}
use Rattle.tap_name.specs.Name.{IsName}
use Rattle.tap_name.specs.Settings.{SettingsValue}
use Rattle.tap_wire.specs.declared.frame.Body.TheVariants.{Link}
use Rattle.tap_wire.specs.declared.frame.Frame.{Frame}
use Rattle.tap_link.specs.declared.kind.Kind.{Kind}
use Rattle.tap_rule.specs.Node.{NodeState, link_to}
use Rattle.tap_rule.specs.Node.Status.{Ceased, Gone}
use Rattle.tap_rule.specs.Sent.{IsAmong}
use Rattle.tap_safety.specs.System.{System, IsCoreNode}
use Rattle.tap_safety.specs.Bookkeeping.{AreStamped, EndedHaveNoLinks, HasCore, HaveEnds, NodesHaveNames, has_table}
use Rattle.tap_safety.specs.Departing.{Departure}
use Rattle.tap_safety.specs.FrameSteps.{TakesFrame}
use Rattle.tap_safety.specs.Move.Move.{Delivers}
use Rattle.tap_safety.specs.Moved.{HasDone, moved}
use Rattle.tap_safety.specs.Notices.{AreNoNotices, IsAtPeace, IsNoticeless, LeavesNotices, Notices, UntilRest}
use Rattle.tap_safety.specs.Seeking.{HasNode}
use Rattle.tap_safety.specs.Soft.{AddsSoundLinks}
use Rattle.tap_safety.specs.Spelled.{AreAtMost, AreSpelled, SendsSpelled}
use Rattle.tap_safety.specs.Exchanges.{ChangesAt, HasSent, IsSent, IsTaken}
use Rattle.tap_safety.specs.Ties.{Versions}

-- ---- names

-- nodes have names of the settings, if who acts has one
abbrev pub NamesKept : Type 0
NamesKept = (p : SettingsValue) (s s' : System) (x : List ℕ) (after : NodeState) (sent : List Frame) → HasDone s s' x after sent
    → IsName p x → NodesHaveNames p s → NodesHaveNames p s'

-- a node that acts is no new one, and who joins is one more
abbrev pub FewKept : Type 0
FewKept = (s s' : System) (x : List ℕ) (after : NodeState) (sent : List Frame) (most : ℕ) → HasDone s s' x after sent
    → HasNode s x → AreAtMost s most → AreAtMost s' most

abbrev pub FewKeptByJoin : Type 0
FewKeptByJoin = (s s' : System) (x : List ℕ) (after : NodeState) (sent : List Frame) (most : ℕ) → HasDone s s' x after sent
    → AreAtMost s most → AreAtMost s' (most + 1)

-- frames have spellings, if those that are sent have
abbrev pub SpelledKeptByFrame : Type 0
SpelledKeptByFrame = (p : SettingsValue) (s s' : System) (number : ℕ) (frame : Frame) (sent : List Frame) → IsTaken s s' number frame sent
    → SendsSpelled p sent → AreSpelled p s → AreSpelled p s'

abbrev pub SpelledKeptByStart : Type 0
SpelledKeptByStart = (p : SettingsValue) (s s' : System) (sent : List Frame) → HasSent s s' sent → SendsSpelled p sent → AreSpelled p s
    → AreSpelled p s'

-- ---- ends

-- each frame that is sent goes from x to another node
abbrev pub SendsAway : System → List ℕ → List Frame → Type 0
SendsAway s x sent = (f : Frame) → IsAmong f sent → (f.from ≡ x) × (f.to ≡ x → ⊥) × HasNode s f.to

-- who gets a surrogate is a node
abbrev pub SeatsNodes : System → System → Type 0
SeatsNodes s s' = (b x : List ℕ) → s'.surrogate b ≡ Some x → (s.surrogate b ≡ Some x) ⊎ HasNode s b

abbrev pub EndsKeptByFrame : Type 0
EndsKeptByFrame = (s s' : System) (number : ℕ) (frame : Frame) (x : List ℕ) (after : NodeState) (sent : List Frame)
    → IsTaken s s' number frame sent → HasDone s s' x after sent → SendsAway s x sent → SeatsNodes s s' → HaveEnds s → HaveEnds s'

abbrev pub EndsKeptByStart : Type 0
EndsKeptByStart = (s s' : System) (x : List ℕ) (after : NodeState) (sent : List Frame) → HasSent s s' sent → HasDone s s' x after sent
    → SendsAway s x sent → SeatsNodes s s' → HaveEnds s → HaveEnds s'

-- ---- a core node

-- some node is core, if the one that acts stays core, or isn't the only one
abbrev pub CoreKept : Type 0
CoreKept = (s s' : System) (x : List ℕ) (after : NodeState) (sent : List Frame) → HasDone s s' x after sent
    → (IsCoreNode s x → IsCoreNode s' x) ⊎ ((y : List ℕ) × IsCoreNode s y × (y ≡ x → ⊥)) → HasCore s → HasCore s'

-- ---- ended nodes

-- a node that has ended has no link, if the one that acts has none once it has ended
abbrev pub EndedKept : Type 0
EndedKept = (s s' : System) (x : List ℕ) (after : NodeState) (sent : List Frame) → HasDone s s' x after sent
    → ((t : List ℕ) (kind : Kind) → link_to after t ≡ Some kind → (after.status ≡ Gone → ⊥) × (after.status ≡ Ceased → ⊥))
    → EndedHaveNoLinks s → EndedHaveNoLinks s'

-- ---- stamps

-- no Link stands twice among these frames
abbrev pub LinksAreOnce : List Frame → Type 0
LinksAreOnce [] = Unit
LinksAreOnce (f ∷ fs) = (((version : ℕ) (on : Bool) → f.body ≡ Link version on → IsAmong f fs → ⊥)) × LinksAreOnce fs

-- A node stamps its words: each Link that is sent is its own, with a number that its stamp had not yet given, and now has, if it
-- still has a table.
pub record Stamps (before after : NodeState) (x : List ℕ) (sent : List Frame) : Type 0 where
  pub table : has_table after.status → has_table before.status × (before.stamp ≤ after.stamp)
  pub from : (w t : List ℕ) (version : ℕ) (on : Bool) → IsSent sent w t (Link version on) → (w ≡ x) × has_table before.status
  pub new : (w t : List ℕ) (version : ℕ) (on : Bool) → IsSent sent w t (Link version on) → before.stamp < version
  pub given : has_table after.status → (w t : List ℕ) (version : ℕ) (on : Bool) → IsSent sent w t (Link version on)
      → version ≤ after.stamp
  pub once : LinksAreOnce sent

abbrev pub StampsKeptByFrame : Type 0
StampsKeptByFrame = (s s' : System) (number : ℕ) (frame : Frame) (x : List ℕ) (before after : NodeState) (sent : List Frame)
    → IsTaken s s' number frame sent → ChangesAt s s' x before after → HasDone s s' x after sent → Stamps before after x sent
    → Versions s → AreStamped s → AreStamped s'

abbrev pub StampsKeptByStart : Type 0
StampsKeptByStart = (s s' : System) (x : List ℕ) (before after : NodeState) (sent : List Frame) → HasSent s s' sent
    → ChangesAt s s' x before after → HasDone s s' x after sent → Stamps before after x sent → Versions s → AreStamped s → AreStamped s'

-- and by the start of a join, at which a new name sends no Link
abbrev pub StampsKeptByJoin : Type 0
StampsKeptByJoin = (s s' : System) (x : List ℕ) (after : NodeState) (sent : List Frame) → HasSent s s' sent → HasDone s s' x after sent
    → s.node x ≡ None → ((w t : List ℕ) (version : ℕ) (on : Bool) → IsSent sent w t (Link version on) → ⊥) → HaveEnds s → AreStamped s
    → AreStamped s'

-- ---- while nobody departs

abbrev pub PeaceIsKept : Type 0
PeaceIsKept = (p : SettingsValue) (s : System) (number : ℕ) → s.departing ≡ None → (moved p s (Delivers number)).departing ≡ None

abbrev pub NoticesKeptAtPeace : Type 0
NoticesKeptAtPeace = (s s' : System) → IsAtPeace s s' → Notices s → Notices s'

-- whoever departs does so until no frame is under way
abbrev pub DepartsUntilRest : Type 0
DepartsUntilRest = (p : SettingsValue) (s : System) (number : ℕ) → UntilRest s (moved p s (Delivers number))

abbrev pub NoticesKeptBySteps : Type 0
NoticesKeptBySteps = (s s' : System) → LeavesNotices s s' → Notices s → Notices s'

abbrev pub FrameLeavesNotices : Type 0
FrameLeavesNotices = (s s' : System) (number : ℕ) (frame : Frame) → (step : TakesFrame s s' number frame)
    → IsNoticeless s s' number frame step → LeavesNotices s s'

-- a frame whose taker stays what it is, marks no link and sends no notice is such a step, and nobody departs or is marked after it
abbrev pub FrameIsAtPeace : Type 0
FrameIsAtPeace = (s s' : System) (number : ℕ) (frame : Frame) → (step : TakesFrame s s' number frame) → AreNoNotices step.messages
    → AddsSoundLinks s' step.before step.after → s.departing ≡ None → s'.departing ≡ None → Departure s
    → IsAtPeace s s' × Departure s'
