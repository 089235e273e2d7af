-- What the last record of a log says of how its run has ended.
use Rattle.std.proofs.Common.{◌≡◌, ℕ, List, [], ◌∷◌, ◌++◌, length, Some, ap, sym, subst, ◌∙◌, append-nil, append_assoc}
use Rattle.tap_scenario.specs.Scenario.{ScenarioValue}
use Rattle.tap_log.specs.declared.record.Record.{Record}
use Rattle.tap_log.specs.declared.record.Record.TheVariants.{Spent, Finished}
use Rattle.tap_log.specs.Log.{begun_steps, last_of}
use Rattle.tap_log.proofs.MoreRecords.{begun_steps-push, last_of-push}
use Rattle.tap_lawful.specs.Lawful.{IsFinished, IsPlayed, IsSpent, step_alone}
use Rattle.tap_lawful.proofs.BegunSteps.{played_all}
use Rattle.tap_headline.specs.LastRecord.{HasAllSteps, LogsEndSo}

pub all_steps : (s : ScenarioValue) (played : List Record) → begun_steps played ≡ s.steps
    → HasAllSteps s (played ++ Finished (length s.steps) ∷ [])
all_steps s played steps =
    let last = Finished (length s.steps) in
    record {
      steps = begun_steps-push played last ∙ append-nil (begun_steps played) ∙ steps;
      last = last_of-push played last;
    }

pub finished_says : (s : ScenarioValue) (played log : List Record) → IsPlayed s played → IsFinished s played log → HasAllSteps s log
finished_says s played log is over = subst (HasAllSteps s) (sym over.log_is) (all_steps s played (played_all s played is over.none))

-- the last record says it, whatever stands of a group before it
pub spent_last : (played alone : List Record) (limit : ℕ) → last_of (played ++ (alone ++ Spent limit ∷ [])) ≡ Some (Spent limit)
spent_last played alone limit =
    ap last_of (sym (append_assoc played alone (Spent limit ∷ []))) ∙ last_of-push (played ++ alone) (Spent limit)

pub spent_says : (s : ScenarioValue) (played log : List Record) → IsSpent s played log → last_of log ≡ Some (Spent s.frames)
spent_says s played log over = ap last_of over.log_is ∙ spent_last played (step_alone over.group) s.frames

pub logs_end_so : LogsEndSo
logs_end_so = record {
  going = λ s log played. played.going;
  finished = finished_says;
  spent = λ s played log is over. spent_says s played log over;
}
