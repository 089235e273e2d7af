-- At each moment of a run its casts reach all whom they are for.
-- Cited above: reach_all_at
use Rattle.std.proofs.Common.{◌≡◌, ℕ, nat_le, Bool, true, List, [], ◌++◌, take, Some, refl, ap, subst, ◌∙◌}
use Rattle.std.specs.Prelude.{◌&&◌}
use Rattle.std.proofs.lemmas.Bool.{le-leb}
use Rattle.tap_name.specs.Names.{has_name}
use Rattle.tap_name.specs.Prefix.{lcp}
use Rattle.tap_log.specs.declared.record.Record.{Record}
use Rattle.tap_log.specs.declared.record.Record.TheVariants.{CastFrom}
use Rattle.tap_history.specs.Core.{core_of}
use Rattle.tap_rule.specs.Sent.{IsAmong}
use Rattle.tap_runs.specs.Beginning.{Beginning}
use Rattle.tap_safe_runs.specs.Lawful.{beginning_in}
use Rattle.tap_safe_runs.specs.SafeLogs.{OfLawfulLogs}
use Rattle.tap_safe_runs.specs.Moments.{AtEachMoment}
use Rattle.tap_safe_runs.specs.Safe.{IsRun}
use Rattle.tap_safe_runs.proofs.Lawful.{lawful_logs_are_safe}
use Rattle.tap_safe_runs.proofs.Safe.{run_at_moment, run_more}
use Rattle.tap_safe_runs.proofs.Each.{StandsIn, each_of_run}
use Rattle.tap_cast_runs.specs.Begun.{IsBegunRight}
use Rattle.tap_cast_runs.specs.RunCasts.{casts_of}
use Rattle.tap_cast_runs.specs.ReachAll.{CastsReachAll, IsOfAudience, ReachesWhomItHasTo, ReachesWhomItMay}
use Rattle.tap_cast_runs.proofs.CastsBegun.{begins_right}
use Rattle.tap_cast_runs.proofs.Once.{closed_has_reached_all, reaches_at_most_once, rest_says_closed, right_group}
use Rattle.tap_cast_runs.proofs.Said.{are_said, stays_to_end}

module _ (b : Beginning) (log : List Record) (before group : List Record) (stands : StandsIn b log before group) where
  may_reach : ReachesWhomItMay before group
  may_reach cast name says =
      let right = right_group b before group stands.run stands.steps stands.follows cast name says in
      let said = are_said b (before ++ group) cast right.run (run_more b before group stands.run stands.follows stands.steps) right.started in
      record {
        core = right.core;
        level = right.run.level;
        word = said.word;
        caster = right.run.caster;
        begun = said.there;
        begins = right.begins;
      }

  -- a cast that the group says to begin is so remembered at the end of the log
  begun_right : (cast level : ℕ) (word caster : List ℕ) → IsAmong (CastFrom cast word level caster) group
      → IsBegunRight before log cast level caster
  begun_right cast level word caster among =
      let begun = begins_right b before group stands.run stands.steps stands.follows cast level word caster among in
      let last = stays_to_end b (before ++ group) stands.later cast begun.run
      (run_more b before group stands.run stands.follows stands.steps) stands.names stands.each begun.started in
      record {
        run = last.now;
        started = subst (λ l. (casts_of l).cast cast ≡ Some last.now) stands.are last.started;
        caster_is = last.caster ∙ begun.caster_is;
        level_is = last.level ∙ begun.level_is;
        audience = λ name. ap (λ (a : List ℕ → Bool). a name) last.audience ∙ begun.audience name;
      }

  has_to_reach : IsRun b log → ReachesWhomItHasTo log before group
  has_to_reach run cast level word caster among =
      let begun = begun_right cast level word caster among in
      record {
        all = λ closed name of.
            closed_has_reached_all b log cast begun.run name run closed begun.started
            (begun.audience name ∙ in_both name of);
        rest = λ still. rest_says_closed b log cast begun.run run still begun.started;
      }
    where
      in_both : (name : List ℕ) → IsOfAudience before level caster name
          → (has_name (core_of before) name && nat_le level (lcp caster name)) ≡ true
      in_both name of = rw (of.core, le-leb level (lcp caster name) of.begins) refl

pub run_reaches_all : (b : Beginning) (log : List Record) → IsRun b log → CastsReachAll b.settings log
run_reaches_all b log run = record {
  reached = λ cast name. (reaches_at_most_once b log cast name run).0;
  closed = λ cast. (reaches_at_most_once b log cast [] run).1;
  right = each_of_run b log ReachesWhomItMay (may_reach b log) run;
  all = each_of_run b log (ReachesWhomItHasTo log) (λ before group stands. has_to_reach b log before group stands run) run;
}

pub reach_all_at : AtEachMoment CastsReachAll
reach_all_at b log m run is = run_reaches_all b (take m log) (run_at_moment b log m run is)

pub lawful_reach_all : OfLawfulLogs CastsReachAll
lawful_reach_all s log valid played m = reach_all_at (beginning_in s) log m (lawful_logs_are_safe.runs s log valid played)
