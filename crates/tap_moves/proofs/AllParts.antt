-- The whole invariant after each notice, and once a node has started to leave.
-- Cited above: leaving_keeps, notice_keeps
use Rattle.tap_name.specs.Settings.{SettingsValue}
use Rattle.tap_rule.specs.Event.Start.{Leave}
use Rattle.tap_rule.specs.RuleLaws.{frame_to}
use Rattle.tap_safety.specs.Bookkeeping.{AreStamped}
use Rattle.tap_safety.specs.Invariant.{Invariant}
use Rattle.tap_safety.specs.System.{System}
use Rattle.tap_moves.specs.CalmMoves.{AreSought}
use Rattle.tap_moves.specs.Delivered.{after_delivery, after_start}
use Rattle.tap_moves.specs.SessionMoves.{AreNamed}
use Rattle.tap_moves.specs.TiesLaws.{WordsStand}
use Rattle.tap_moves.proofs.SessionMoves.{frame_names, start_names}
use Rattle.tap_moves.specs.EndMoves.{HaveBothEnds}
use Rattle.tap_moves.specs.JoinMoves.{HaveJoiners}
use Rattle.tap_moves.proofs.EndMoves.{frame_ends, start_ends}
use Rattle.tap_moves.proofs.NoticeMoves.{notice_joins}
use Rattle.tap_moves.proofs.StartMoves.{start_joins}
use Rattle.tap_moves.specs.DepartingMoves.{DepartsInOrder}
use Rattle.tap_moves.specs.PartMoves.{HaveSessions, HaveTables, LeavingKeeps, NoticeKeeps}
use Rattle.tap_moves.proofs.DepartureMoves.{notice_in_order}
use Rattle.tap_moves.proofs.PartMoves.{leaving_seeks, leaving_sessions, leaving_tables, notice_seeks, notice_sessions, notice_tables}
use Rattle.tap_moves.proofs.LeaveStamps.{leaving_stamped, notice_stamped}
use Rattle.tap_moves.proofs.LeaveStarts.{leaving_in_order}
use Rattle.tap_moves.proofs.LeaveWords.{leaving_words, notice_words}

-- the parts are the invariant
all_parts : (p : SettingsValue) (s : System) → HaveTables p s → HaveSessions s → AreSought p s → HaveJoiners s → DepartsInOrder s
    → WordsStand s → AreStamped s → HaveBothEnds s → AreNamed p s → Invariant p s
all_parts p s tables sessions sought joiners order words stamped ends named = record {
  basis = record {
    soft = tables.soft;
    seeking = sought.seeking;
    exact = sessions.exact;
    awaited = sessions.awaited;
    of_joiners = joiners.of_joiners;
    tells = sought.tells;
    counted = sessions.counted;
    ceased = words.ceased;
    ties = words.ties;
    departure = order.departure;
    notices = order.notices;
    seekers = sought.seekers;
    ends_once = joiners.ends_once;
    await = sessions.await;
    deeper = sessions.deeper;
    places = sessions.places;
    ends = ends.ends;
    versions = words.versions;
    stamped = stamped;
    ended = tables.ended;
    has_core = tables.has_core;
    numbered = named.numbered;
    names = named.names;
    few = named.few;
    spelled = named.spelled;
  };
  filled = tables.filled;
}

-- after a notice
pub notice_keeps : NoticeKeeps
notice_keeps p s number node from body is filled askers notice =
    all_parts p (after_delivery p s number) (notice_tables p s number node from body is filled notice)
    (notice_sessions p s number node from body is notice) (notice_seeks p s number node from body is notice)
    (notice_joins p s number node from body is notice) (notice_in_order p s number node from body is notice)
    (notice_words p s number node from body is notice) (notice_stamped p s number node from body is notice)
    (frame_ends p s number (frame_to node from body) node is.invariant is.nodes askers is.among is.at)
    (frame_names p s number (frame_to node from body) node is.invariant is.nodes is.among is.at)

-- and after the start of a departure
pub leaving_keeps : LeavingKeeps
leaving_keeps p s x inv nodes askers may =
    all_parts p (after_start p s x Leave) (leaving_tables p s x inv nodes may) (leaving_sessions p s x inv nodes may)
    (leaving_seeks p s x inv nodes may) (start_joins p s x Leave inv.basis may) (leaving_in_order p s x inv nodes may)
    (leaving_words p s x inv nodes may) (leaving_stamped p s x inv nodes may) (start_ends p s x Leave inv.basis nodes askers may tt)
    (start_names p s x Leave inv.basis nodes may tt)
