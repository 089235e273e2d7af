-- Each log of a run has the headline, and so it has with its ending.
-- Cited above: ended_logs_have_headline
use Rattle.std.proofs.Common.{List, [], ◌∷◌, ◌++◌}
use Rattle.tap_log.specs.declared.record.Record.{Record}
use Rattle.tap_log.specs.declared.record.Record.TheVariants.{Finished, Spent, Step as StepRecord}
use Rattle.tap_runs.specs.Beginning.{Beginning}
use Rattle.tap_safe_runs.specs.SafeLogs.{IsSafeThroughout}
use Rattle.tap_safe_runs.specs.Safe.{IsRun}
use Rattle.tap_safe_runs.proofs.SafeLogs.{ended_logs_are_safe}
use Rattle.tap_pointer_runs.specs.Paths.{PointersOnTheirPaths}
use Rattle.tap_pointer_runs.proofs.Runs.{on_paths_at}
use Rattle.tap_pointer_runs.specs.Alone.{LookupsAloneAreExact}
use Rattle.tap_pointer_runs.specs.AnsweredOnce.{LookupsAreAnswered}
use Rattle.tap_pointer_runs.specs.LookupAnswers.{AnswersWerePublished}
use Rattle.tap_pointer_runs.proofs.Alone.{alone_at}
use Rattle.tap_pointer_runs.proofs.AnsweredOnce.{answered_at_moments}
use Rattle.tap_pointer_runs.proofs.RunAnswers.{answers_at}
use Rattle.tap_pointer_runs.specs.NoServer.{AnsweredNoneWereDisturbed, LookupsEndWithoutServer}
use Rattle.tap_pointer_runs.proofs.NoServer.{disturbed_at_moments, ends_at_moments}
use Rattle.tap_cast_runs.specs.ReachAll.{CastsReachAll}
use Rattle.tap_cast_runs.proofs.ReachAll.{reach_all_at}
use Rattle.tap_cast_runs.specs.AwaitedAnswers.{AnswersAreAwaited, RestHasNoCastSessions}
use Rattle.tap_cast_runs.proofs.Sessions.{answers_awaited_at, rest_sessions_at}
use Rattle.tap_cast_runs.specs.Clause.{WatchClauseHolds}
use Rattle.tap_cast_runs.proofs.Clause.{clause_at}
use Rattle.tap_bounds_runs.specs.AtRest.{LookupsAtRestSendFew, PublicationsAtRestSendFew}
use Rattle.tap_bounds_runs.proofs.AtRest.{lookups_at, publications_at}
use Rattle.tap_bounds_runs.specs.Joins.{JoinsSendFew}
use Rattle.tap_bounds_runs.proofs.JoinLogs.{joins_at}
use Rattle.tap_headline.specs.AsLogged.{FramesAreAsLogged, NodesAreAsLogged}
use Rattle.tap_headline.specs.Endings.{MayEnd}
use Rattle.tap_headline.specs.Headline.{EndedLogsHaveHeadline, HasHeadline}
use Rattle.tap_headline.specs.HasInvariant.{FramesAreReceivedIn, HasInvariant}
use Rattle.tap_headline.proofs.AsLogged.{frames_at, frames_stay, nodes_at, nodes_stay}
use Rattle.tap_headline.proofs.Ended.{IsEnded, run_ended}
use Rattle.tap_headline.proofs.KeptByEnds.{at_ended, at_run}
use Rattle.tap_headline.proofs.FewStay.{joins_stay, lookup_frames_stay, publication_frames_stay}
use Rattle.tap_headline.proofs.HasInvariant.{invariant_at, invariant_stays, received_at, received_stay}
use Rattle.tap_headline.proofs.Stays.{answered_lookups_stay, answers_stay, awaited_stay, cast_sessions_stay, casts_stay, disturbed_lookups_stay, lookup_ends_stay, lookups_stay, pointers_stay, watches_stay}

-- by how it has ended it is safe throughout
safe_with : (b : Beginning) (log ending : List Record) → IsRun b log → MayEnd log ending → IsSafeThroughout b.settings (log ++ ending)
unfolding MayEnd
safe_with b log (Finished steps ∷ []) run may = ended_logs_are_safe.finished b log steps run
safe_with b log (Spent limit ∷ []) run may = ended_logs_are_safe.spent b log limit run
safe_with b log (StepRecord index step ∷ Spent limit ∷ []) run may = ended_logs_are_safe.cut b log index step limit run
safe_with b log (StepRecord index step ∷ []) run may = ended_logs_are_safe.refused b log index step may.refusal run may.is
safe_with b log ending run may = absurd may

run_has_headline : (b : Beginning) (log : List Record) → IsRun b log → HasHeadline b.settings log
run_has_headline b log run = record {
  frames_as_logged = at_run FramesAreAsLogged frames_at b log run;
  nodes_as_logged = at_run NodesAreAsLogged nodes_at b log run;
  invariant = at_run HasInvariant invariant_at b log run;
  received = at_run FramesAreReceivedIn received_at b log run;
  safe = ended_logs_are_safe.going b log run;
  pointers = at_run PointersOnTheirPaths on_paths_at b log run;
  answered_lookups = at_run LookupsAreAnswered answered_at_moments b log run;
  lookups = at_run LookupsAloneAreExact alone_at b log run;
  answers = at_run AnswersWerePublished answers_at b log run;
  lookup_ends = at_run LookupsEndWithoutServer ends_at_moments b log run;
  disturbed_lookups = at_run AnsweredNoneWereDisturbed disturbed_at_moments b log run;
  casts = at_run CastsReachAll reach_all_at b log run;
  awaited = at_run AnswersAreAwaited answers_awaited_at b log run;
  cast_sessions = at_run RestHasNoCastSessions rest_sessions_at b log run;
  watches = at_run WatchClauseHolds clause_at b log run;
  join_frames = at_run JoinsSendFew joins_at b log run;
  lookup_frames = at_run LookupsAtRestSendFew lookups_at b log run;
  publication_frames = at_run PublicationsAtRestSendFew publications_at b log run;
}

ended_has_headline : (b : Beginning) (log ending : List Record) → MayEnd log ending → IsEnded b log ending
    → HasHeadline b.settings (log ++ ending)
ended_has_headline b log ending may ended = record {
  frames_as_logged = at_ended FramesAreAsLogged frames_at frames_stay b log ending ended;
  nodes_as_logged = at_ended NodesAreAsLogged nodes_at nodes_stay b log ending ended;
  invariant = at_ended HasInvariant invariant_at invariant_stays b log ending ended;
  received = at_ended FramesAreReceivedIn received_at received_stay b log ending ended;
  safe = safe_with b log ending ended.run may;
  pointers = at_ended PointersOnTheirPaths on_paths_at pointers_stay b log ending ended;
  answered_lookups = at_ended LookupsAreAnswered answered_at_moments answered_lookups_stay b log ending ended;
  lookups = at_ended LookupsAloneAreExact alone_at lookups_stay b log ending ended;
  answers = at_ended AnswersWerePublished answers_at answers_stay b log ending ended;
  lookup_ends = at_ended LookupsEndWithoutServer ends_at_moments lookup_ends_stay b log ending ended;
  disturbed_lookups = at_ended AnsweredNoneWereDisturbed disturbed_at_moments disturbed_lookups_stay b log ending ended;
  casts = at_ended CastsReachAll reach_all_at casts_stay b log ending ended;
  awaited = at_ended AnswersAreAwaited answers_awaited_at awaited_stay b log ending ended;
  cast_sessions = at_ended RestHasNoCastSessions rest_sessions_at cast_sessions_stay b log ending ended;
  watches = at_ended WatchClauseHolds clause_at watches_stay b log ending ended;
  join_frames = at_ended JoinsSendFew joins_at joins_stay b log ending ended;
  lookup_frames = at_ended LookupsAtRestSendFew lookups_at lookup_frames_stay b log ending ended;
  publication_frames = at_ended PublicationsAtRestSendFew publications_at publication_frames_stay b log ending ended;
}

pub ended_logs_have_headline : EndedLogsHaveHeadline
ended_logs_have_headline = record {
  going = run_has_headline;
  ended = λ b log ending run may. ended_has_headline b log ending may (run_ended b log run ending may);
}
