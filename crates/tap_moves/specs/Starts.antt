-- What a node starts, but a departure: each part of the invariant, and the whole of it, once the node has.
use Rattle.std.specs.Prelude.{ℕ, List}
use Rattle.tap_name.specs.Settings.{SettingsValue}
use Rattle.tap_rule.specs.Event.{Start}
use Rattle.tap_rule.specs.Event.Start.{Leave}
use Rattle.tap_safety.specs.Awaited.{AreAwaitedOnce}
use Rattle.tap_safety.specs.Bookkeeping.{HasCore, HavePlaces}
use Rattle.tap_safety.specs.FewSessions.{SessionsAreFew}
use Rattle.tap_safety.specs.Filled.{AreFilled}
use Rattle.tap_safety.specs.Invariant.{Basis}
use Rattle.tap_safety.specs.Move.{may_start}
use Rattle.tap_safety.specs.Soft.{NamesSoft}
use Rattle.tap_safety.specs.System.{System}
use Rattle.tap_moves.specs.CalmMoves.{AreSought, IsPeaceful}
use Rattle.tap_moves.specs.Delivered.{after_start}
use Rattle.tap_moves.specs.SessionMoves.{AreBooked}
use Rattle.tap_moves.specs.KnownNames.{AreNodes, IsNamedStart}
use Rattle.tap_moves.specs.TiesLaws.{WordsStand}
use Rattle.tap_moves.specs.EndMoves.{HaveAskers}

-- a start that is no departure
abbrev pub IsNoDeparture : Start → Type 0
IsNoDeparture Leave = ⊥
IsNoDeparture _ = Unit {0}

-- this holds once a node has started what it may start, but a departure, if the basis of the invariant held before
abbrev pub AfterStarts : (SettingsValue → System → Type 0) → Type 0
AfterStarts holds = (p : SettingsValue) (s : System) (x : List ℕ) (start : Start) → Basis p s → may_start p s x start
    → IsNoDeparture start → holds p (after_start p s x start)

-- settled links are to core nodes, and pins to soft ones
abbrev pub StartSoft : Type 0
StartSoft = AfterStarts (λ p s. NamesSoft s)

-- who isn't started is known to nobody but its one Seek, and Tells are sound
abbrev pub StartSeeks : Type 0
StartSeeks = AfterStarts (λ p s. AreSought p s)

-- the last words of links stand, and a Forget is to come wherever a pin is on a node that has ceased
abbrev pub StartWords : Type 0
StartWords = AfterStarts (λ p s. WordsStand s)

-- each session awaits an answer, as many as its node waits for; and a Tell is one deeper than its session
abbrev pub StartBooks : Type 0
StartBooks = AfterStarts (λ p s. AreBooked s)

-- each session awaits each answer once, and those that it awaits are open
abbrev pub StartAwaits : Type 0
StartAwaits = AfterStarts (λ p s. AreAwaitedOnce s)

-- each session has its place, at a node that has opened as many
abbrev pub StartPlaces : Type 0
StartPlaces = AfterStarts (λ p s. HavePlaces s)

-- some node is core
abbrev pub StartCore : Type 0
StartCore = AfterStarts (λ p s. HasCore s)

-- nobody departs, and no notice is under way; such a start comes while nobody departs
abbrev pub StartPeaceful : Type 0
StartPeaceful = AfterStarts (λ p s. IsPeaceful s)

-- what may be started brings names and words alone
abbrev pub StartIsNamed : Type 0
StartIsNamed = (p : SettingsValue) (s : System) (x : List ℕ) (start : Start) → may_start p s x start → IsNamedStart p start

-- the basis of the invariant, and what is kept beside it: each node is one, who asks can be answered, and few sessions are open
abbrev pub StartKeeps : Type 0
StartKeeps = (p : SettingsValue) (s : System) (x : List ℕ) (start : Start) → Basis p s → AreNodes p s → HaveAskers s
    → SessionsAreFew p s → may_start p s x start → IsNoDeparture start
    → Basis p (after_start p s x start) × AreNodes p (after_start p s x start) × HaveAskers (after_start p s x start)
    × SessionsAreFew p (after_start p s x start)

-- and tables without holes stay so, with what leads to them
abbrev pub StartKeepsFilled : Type 0
StartKeepsFilled = (p : SettingsValue) (s : System) (x : List ℕ) (start : Start) → Basis p s → AreNodes p s → may_start p s x start
    → IsNoDeparture start → AreFilled p s → AreFilled p (after_start p s x start)
