-- The other parts of the invariant, once a notice is delivered, and once a node has started to leave.
use Rattle.std.specs.Prelude.{List, ℕ}
use Rattle.tap_name.specs.Settings.{SettingsValue}
use Rattle.tap_wire.specs.declared.frame.Body.{Body}
use Rattle.tap_rule.specs.Event.Start.{Leave}
use Rattle.tap_rule.specs.Node.{NodeState}
use Rattle.tap_safety.specs.Awaited.{AreAwaitedOnce}
use Rattle.tap_safety.specs.Bookkeeping.{AreStamped, Await, EndedHaveNoLinks, HasCore, HavePlaces, TellsAreDeeper}
use Rattle.tap_safety.specs.Counted.{AreCountedSo}
use Rattle.tap_safety.specs.Filled.{AreFilled}
use Rattle.tap_safety.specs.Invariant.{Invariant}
use Rattle.tap_safety.specs.Move.{may_start}
use Rattle.tap_safety.specs.Notices.{IsNotice}
use Rattle.tap_safety.specs.Sessions.{AreExact}
use Rattle.tap_safety.specs.Soft.{NamesSoft}
use Rattle.tap_safety.specs.System.{System}
use Rattle.tap_moves.specs.CalmMoves.{AreSought}
use Rattle.tap_moves.specs.Delivered.{after_delivery, after_start}
use Rattle.tap_moves.specs.InvariantLaws.{IsDelivery}
use Rattle.tap_moves.specs.KnownNames.{AreNodes}
use Rattle.tap_moves.specs.TiesLaws.{WordsStand}
use Rattle.tap_moves.specs.EndMoves.{HaveAskers}

-- sessions and what they await are exact, and Tells are one deeper than theirs
pub record HaveSessions (s : System) : Type 0 where
  pub exact : AreExact s
  pub awaited : AreAwaitedOnce s
  pub await : Await s
  pub counted : AreCountedSo s
  pub deeper : TellsAreDeeper s
  pub places : HavePlaces s

-- the tables have no holes, links are to whom they may be, some node is core, and a node that has ended has no link
pub record HaveTables (p : SettingsValue) (s : System) : Type 0 where
  pub filled : AreFilled p s
  pub soft : NamesSoft s
  pub has_core : HasCore s
  pub ended : EndedHaveNoLinks s

-- so it is after each notice, whatever the status of its receiver
abbrev pub AfterNotice : (SettingsValue → System → Type 0) → Type 0
AfterNotice Part = (p : SettingsValue) (s : System) (number : ℕ) (node : NodeState) (from : List ℕ) (body : Body)
    → IsDelivery p s number node from body → IsNotice body → Part p (after_delivery p s number)

-- and once a node has started to leave
abbrev pub AfterLeaving : (SettingsValue → System → Type 0) → Type 0
AfterLeaving Part = (p : SettingsValue) (s : System) (x : List ℕ) → Invariant p s → AreNodes p s → may_start p s x Leave
    → Part p (after_start p s x Leave)

abbrev pub NoticeSessions : Type 0
NoticeSessions = AfterNotice (λ p s. HaveSessions s)

abbrev pub LeavingSessions : Type 0
LeavingSessions = AfterLeaving (λ p s. HaveSessions s)

-- who isn't started is known to nobody but its one Seek, and Tells are sound
abbrev pub NoticeSeeks : Type 0
NoticeSeeks = AfterNotice AreSought

abbrev pub LeavingSeeks : Type 0
LeavingSeeks = AfterLeaving AreSought

abbrev pub NoticeTables : Type 0
NoticeTables = (p : SettingsValue) (s : System) (number : ℕ) (node : NodeState) (from : List ℕ) (body : Body)
    → IsDelivery p s number node from body → AreFilled p s → IsNotice body → HaveTables p (after_delivery p s number)

abbrev pub LeavingTables : Type 0
LeavingTables = AfterLeaving HaveTables

-- a word is under way once, and while a node has a table its stamp is no less than its words' versions
abbrev pub NoticeStamped : Type 0
NoticeStamped = AfterNotice (λ p s. AreStamped s)

abbrev pub LeavingStamped : Type 0
LeavingStamped = AfterLeaving (λ p s. AreStamped s)

-- the last words of links stand
abbrev pub NoticeWords : Type 0
NoticeWords = AfterNotice (λ p s. WordsStand s)

abbrev pub LeavingWords : Type 0
LeavingWords = AfterLeaving (λ p s. WordsStand s)

-- ---- all parts together

-- the invariant holds after each notice, if who asks can be answered
abbrev pub NoticeKeeps : Type 0
NoticeKeeps = (p : SettingsValue) (s : System) (number : ℕ) (node : NodeState) (from : List ℕ) (body : Body)
    → IsDelivery p s number node from body → AreFilled p s → HaveAskers s → IsNotice body → Invariant p (after_delivery p s number)

-- and once a node has started to leave
abbrev pub LeavingKeeps : Type 0
LeavingKeeps = (p : SettingsValue) (s : System) (x : List ℕ) → Invariant p s → AreNodes p s → HaveAskers s → may_start p s x Leave
    → Invariant p (after_start p s x Leave)
