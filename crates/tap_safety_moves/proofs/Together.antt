-- The basis of the invariant, put together from its parts as the laws of moves have them; and with tables without holes, the whole.
use Rattle.tap_name.specs.Settings.{SettingsValue}
use Rattle.tap_safety.specs.Bookkeeping.{AreStamped, EndedHaveNoLinks, HasCore}
use Rattle.tap_safety.specs.FewSessions.{SessionsAreFew}
use Rattle.tap_safety.specs.Filled.{AreFilled}
use Rattle.tap_safety.specs.Soft.{NamesSoft}
use Rattle.tap_safety.specs.System.{System}
use Rattle.tap_moves.specs.CalmMoves.{AreSought}
use Rattle.tap_moves.specs.SessionMoves.{AreNamed}
use Rattle.tap_moves.specs.KnownNames.{AreNodes}
use Rattle.tap_moves.specs.TiesLaws.{WordsStand}
use Rattle.tap_moves.specs.EndMoves.{HaveBothEnds}
use Rattle.tap_moves.specs.JoinMoves.{HaveJoiners}
use Rattle.tap_moves.specs.DepartingMoves.{DepartsInOrder}
use Rattle.tap_moves.specs.PartMoves.{HaveSessions}
use Rattle.tap_safety_moves.specs.Shallow.{AreShallow}
use Rattle.tap_safety_moves.specs.Sound.{Sound, SoundBasis}

pub record HasParts (p : SettingsValue) (s : System) : Type 0 where
  pub soft : NamesSoft s
  pub has_core : HasCore s
  pub ended : EndedHaveNoLinks s
  pub sought : AreSought p s
  pub sessions : HaveSessions s
  pub joiners : HaveJoiners s
  pub words : WordsStand s
  pub stamped : AreStamped s
  pub order : DepartsInOrder s
  pub named : AreNamed p s
  pub ends : HaveBothEnds s
  pub nodes : AreNodes p s
  pub few : SessionsAreFew p s
  pub shallow : AreShallow s

pub put_together : (p : SettingsValue) (s : System) → HasParts p s → SoundBasis p s
put_together p s has = record {
  basis = record {
    soft = has.soft;
    seeking = has.sought.seeking;
    exact = has.sessions.exact;
    awaited = has.sessions.awaited;
    of_joiners = has.joiners.of_joiners;
    tells = has.sought.tells;
    counted = has.sessions.counted;
    ceased = has.words.ceased;
    ties = has.words.ties;
    departure = has.order.departure;
    notices = has.order.notices;
    seekers = has.sought.seekers;
    ends_once = has.joiners.ends_once;
    await = has.sessions.await;
    deeper = has.sessions.deeper;
    places = has.sessions.places;
    ends = has.ends.ends;
    versions = has.words.versions;
    stamped = has.stamped;
    ended = has.ended;
    has_core = has.has_core;
    numbered = has.named.numbered;
    names = has.named.names;
    few = has.named.few;
    spelled = has.named.spelled;
  };
  nodes = has.nodes;
  askers = has.ends.askers;
  few = has.few;
  shallow = has.shallow;
}

-- the basis of the whole
pub basis_of : (p : SettingsValue) (s : System) → Sound p s → SoundBasis p s
basis_of p s sound = record {
  basis = sound.invariant.basis;
  nodes = sound.nodes;
  askers = sound.askers;
  few = sound.few;
  shallow = sound.shallow;
}

-- and the whole of its basis and tables without holes
pub with_tables : (p : SettingsValue) (s : System) → SoundBasis p s → AreFilled p s → Sound p s
with_tables p s sound filled = record {
  invariant = record { basis = sound.basis; filled = filled };
  nodes = sound.nodes;
  askers = sound.askers;
  few = sound.few;
  shallow = sound.shallow;
}

-- the basis holds after a step, and tables have no holes if they had none
abbrev pub KeepsBoth : SettingsValue → System → System → Type 0
KeepsBoth p s s' = SoundBasis p s' × (AreFilled p s → AreFilled p s')
