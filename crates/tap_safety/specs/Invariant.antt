-- The invariant of a system: its parts.
use Rattle.tap_name.specs.Settings.{SettingsValue}
use Rattle.tap_safety.specs.System.{System}
use Rattle.tap_safety.specs.Exchanges.{AreNumbered}
use Rattle.tap_safety.specs.Soft.{NamesSoft}
use Rattle.tap_safety.specs.Seeking.{AreOfSeekers, Seeking}
use Rattle.tap_safety.specs.Sessions.{AreExact}
use Rattle.tap_safety.specs.Awaited.{AreAwaitedOnce}
use Rattle.tap_safety.specs.Joins.{AreOfJoiners, EndsOnce}
use Rattle.tap_safety.specs.Tells.{TellsAreSound}
use Rattle.tap_safety.specs.Filled.{AreFilled}
use Rattle.tap_safety.specs.Ceased.{Ceased}
use Rattle.tap_safety.specs.Ties.{TiesAreTold, Versions}
use Rattle.tap_safety.specs.Bookkeeping.{AreStamped, Await, EndedHaveNoLinks, HasCore, HaveEnds, HavePlaces, NodesHaveNames, TellsAreDeeper}
use Rattle.tap_safety.specs.Counted.{AreCountedSo}
use Rattle.tap_safety.specs.Departing.{Departure}
use Rattle.tap_safety.specs.Notices.{Notices}
use Rattle.tap_safety.specs.Spelled.{AreAtMost, AreSpelled, most_names}

-- The basis of the invariant: all its parts but those about tables without holes. It is kept from itself alone, but by departures.
pub record Basis (p : SettingsValue) (s : System) : Type 0 where
  -- Settled, Seeking, Sessions
  pub soft : NamesSoft s
  pub seeking : Seeking s
  pub exact : AreExact s
  pub awaited : AreAwaitedOnce s
  pub of_joiners : AreOfJoiners s
  pub tells : TellsAreSound p s
  pub counted : AreCountedSo s
  -- Ceased, Ties and Departure
  pub ceased : Ceased s
  pub ties : TiesAreTold s
  pub departure : Departure s
  pub notices : Notices s
  -- seekers, ends of joins, bookkeeping, versions, and the numbers of the frames
  pub seekers : AreOfSeekers s
  pub ends_once : EndsOnce s
  pub await : Await s
  pub deeper : TellsAreDeeper s
  pub places : HavePlaces s
  pub ends : HaveEnds s
  pub versions : Versions s
  pub stamped : AreStamped s
  pub ended : EndedHaveNoLinks s
  pub has_core : HasCore s
  pub numbered : AreNumbered s
  -- names and spellings
  pub names : NodesHaveNames p s
  pub few : AreAtMost s most_names
  pub spelled : AreSpelled p s

-- the basis, and tables without holes
pub record Invariant (p : SettingsValue) (s : System) : Type 0 where
  pub basis : Basis p s
  -- Covered, Meet, Cover, Low and Hole-free
  pub filled : AreFilled p s
