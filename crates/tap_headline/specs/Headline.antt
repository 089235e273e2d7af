-- The headline, which holds of each log of a run, however far the run has come and however it has ended.
--
-- Rule: docs/FORMATS.md, "The course of a run" and "The ways a run ends".
use Rattle.std.specs.Prelude.{List, ◌++◌}
use Rattle.tap_name.specs.Settings.{SettingsValue}
use Rattle.tap_log.specs.declared.record.Record.{Record}
use Rattle.tap_runs.specs.Beginning.{Beginning}
use Rattle.tap_safe_runs.specs.SafeLogs.{AtMomentsOf, IsSafeThroughout}
use Rattle.tap_safe_runs.specs.Safe.{IsRun}
use Rattle.tap_pointer_runs.specs.Paths.{PointersOnTheirPaths}
use Rattle.tap_pointer_runs.specs.Alone.{LookupsAloneAreExact}
use Rattle.tap_pointer_runs.specs.AnsweredOnce.{LookupsAreAnswered}
use Rattle.tap_pointer_runs.specs.LookupAnswers.{AnswersWerePublished}
use Rattle.tap_pointer_runs.specs.NoServer.{AnsweredNoneWereDisturbed, LookupsEndWithoutServer}
use Rattle.tap_cast_runs.specs.ReachAll.{CastsReachAll}
use Rattle.tap_cast_runs.specs.AwaitedAnswers.{AnswersAreAwaited, RestHasNoCastSessions}
use Rattle.tap_cast_runs.specs.Clause.{WatchClauseHolds}
use Rattle.tap_bounds_runs.specs.AtRest.{LookupsAtRestSendFew, PublicationsAtRestSendFew}
use Rattle.tap_bounds_runs.specs.Joins.{JoinsSendFew}
use Rattle.tap_headline.specs.AsLogged.{FramesAreAsLogged, NodesAreAsLogged}
use Rattle.tap_headline.specs.Endings.{MayEnd}
use Rattle.tap_headline.specs.HasInvariant.{FramesAreReceivedIn, HasInvariant}

-- The headline, at each moment of the log. The system to which the log has come has the frames and nodes that the log says: those that are
-- outstanding under way, and who is core, present, gone, joining and departing. The whole invariant holds of its nodes, and each frame that
-- was taken was received by a node to which it wasn't strange. It is safe: there is a core node, no table has a hole, walks lead to the one
-- root, and at rest who is present is core, and who departed is gone. At rest pointers stand exactly on their paths. Each lookup is answered
-- once at most, and at rest it is answered. One made alone from a rest is answered exactly. However lookups overlap,
-- each answer names a server that was published; one without a server comes from a node that held no pair of the object and had no next hop,
-- and at some moment of the lookup no such pair was published, or a frame was outstanding that is of no lookup. Casts reach all whom they are
-- for. Each answer that is outstanding comes to an open session, and at rest no session of casts is open. The watch clause holds. Few frames were
-- sent if nothing but joins was accepted; and few by a lookup or a publication that is accepted at a rest, until another start is accepted.
pub record HasHeadline (p : SettingsValue) (log : List Record) : Type 0 where
  pub frames_as_logged : AtMomentsOf log (FramesAreAsLogged p)
  pub nodes_as_logged : AtMomentsOf log (NodesAreAsLogged p)
  pub invariant : AtMomentsOf log (HasInvariant p)
  pub received : AtMomentsOf log (FramesAreReceivedIn p)
  pub safe : IsSafeThroughout p log
  pub pointers : AtMomentsOf log (PointersOnTheirPaths p)
  pub answered_lookups : AtMomentsOf log (LookupsAreAnswered p)
  pub lookups : AtMomentsOf log (LookupsAloneAreExact p)
  pub answers : AtMomentsOf log (AnswersWerePublished p)
  pub lookup_ends : AtMomentsOf log (LookupsEndWithoutServer p)
  pub disturbed_lookups : AtMomentsOf log (AnsweredNoneWereDisturbed p)
  pub casts : AtMomentsOf log (CastsReachAll p)
  pub awaited : AtMomentsOf log (AnswersAreAwaited p)
  pub cast_sessions : AtMomentsOf log (RestHasNoCastSessions p)
  pub watches : AtMomentsOf log (WatchClauseHolds p)
  pub join_frames : AtMomentsOf log (JoinsSendFew p)
  pub lookup_frames : AtMomentsOf log (LookupsAtRestSendFew p)
  pub publication_frames : AtMomentsOf log (PublicationsAtRestSendFew p)

-- the log of a run has it, and it has it still if how the run has ended stands after it, or a step that is refused
pub record EndedLogsHaveHeadline : Type 0 where
  pub going : (b : Beginning) (log : List Record) → IsRun b log → HasHeadline b.settings log
  pub ended : (b : Beginning) (log ending : List Record) → IsRun b log → MayEnd log ending → HasHeadline b.settings (log ++ ending)
