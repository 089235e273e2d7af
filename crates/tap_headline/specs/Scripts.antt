-- What holds of each log of a run, however far the run has come or however it has ended.
--
-- Rule: docs/FORMATS.md, "What comes next" and "The course of a run".
use Rattle.std.specs.Prelude.{◌≡◌, List, ◌∷◌, take}
use Rattle.tap_scenario.specs.Scenario.{IsScript, ScenarioValue}
use Rattle.tap_log.specs.declared.record.Record.{Record}
use Rattle.tap_log.specs.Log.{begun_steps}
use Rattle.tap_log.specs.Reduced.{reduced}
use Rattle.tap_runs.specs.Beginning.{begin_record}
use Rattle.tap_carried.specs.ReducedLogs.{AgreesWithReduced}
use Rattle.tap_lawful.specs.Next.{beginning_in, begun_count}
use Rattle.tap_lawful.specs.Lawful.{IsLogOf, IsUncarriedLogOf}
use Rattle.tap_safe_runs.specs.SafeLogs.{AtMomentsOf}
use Rattle.tap_headline.specs.Carried.{IsMomentOfReduced}
use Rattle.tap_headline.specs.Headline.{HasHeadline}
use Rattle.tap_headline.specs.RootSets.{RootSetsAreRight}

-- What holds of the log of a run that isn't carried. Up to each moment of it, its reduced log has the headline, by the settings of the scenario:
-- docs/PROOFS.md, "The headline, sentence by sentence". The moment is one of the reduced log, a rest is a rest; and both say the same of frames,
-- nodes and pairs, and refuse the same starts and observations. The whole reduced log has the headline too; a log without added records is its own
-- reduced log. And what root sets have told is right.
pub record RunHasHeadline (s : ScenarioValue) (log : List Record) : Type 0 where
  pub headline : AtMomentsOf log (λ front. HasHeadline s.settings (reduced front))
  pub moments : AtMomentsOf log IsMomentOfReduced
  pub agreement : AtMomentsOf log AgreesWithReduced
  pub whole : HasHeadline s.settings (reduced log)
  pub root_sets : RootSetsAreRight s.settings log

-- each log of a run has it: that of one which isn't over, or which ended early for want of memory, and that of one which is over
abbrev pub UncarriedLogsHaveHeadline : Type 0
UncarriedLogsHaveHeadline = (s : ScenarioValue) (log : List Record) → IsScript s → IsUncarriedLogOf s log → RunHasHeadline s log

-- and so has each reduced log
abbrev pub LogsHaveHeadline : Type 0
LogsHaveHeadline = (s : ScenarioValue) (log : List Record) → IsScript s → IsLogOf s log → HasHeadline s.settings log

-- the log begins as the scenario does, and its steps are the scenario's first ones
pub record FollowsScript (s : ScenarioValue) (log : List Record) : Type 0 where
  pub begins : (rest : List Record) × (log ≡ begin_record (beginning_in s) ∷ rest)
  pub steps : begun_steps log ≡ take (begun_count log) s.steps

abbrev pub LogsFollowScripts : Type 0
LogsFollowScripts = (s : ScenarioValue) (log : List Record) → IsLogOf s log → FollowsScript s log
