-- The laws of a log's own scenario.
-- Cited above: own_scripts_hold
use Rattle.std.proofs.Common.{◌≡◌, ◌≤◌, List, ◌∷◌, ◌++◌, length, drop, All, ap, sym, subst, ◌∙◌, arith, length-append}
use Rattle.std.specs.List.{prefix_len, take_while}
use Rattle.std.proofs.lemmas.List.{take-append-drop}
use Rattle.tap_scenario.specs.Scenario.{IsScript, most_steps}
use Rattle.tap_scenario.specs.Step.{IsStep}
use Rattle.tap_scenario.specs.declared.step.Step.{Step}
use Rattle.tap_log.specs.declared.record.Record.{Record}
use Rattle.tap_log.specs.declared.record.Record.TheVariants.{Begin}
use Rattle.tap_log.specs.Kinds.{is_carried}
use Rattle.tap_log.specs.Log.{begun_steps}
use Rattle.tap_lawful.specs.PlayedLaws.{BeginsWith}
use Rattle.tap_lawful.proofs.Alike.{begun-append}
use Rattle.tap_own_scripts.specs.Own.{goes_on, own_script, own_steps}
use Rattle.tap_own_scripts.specs.OwnLaws.{BeginsLawful, BeginsLogOf, OwnScripts, TellsScript}
use Rattle.tap_own_scripts.proofs.Carries.{fronts_begin, is_own}
use Rattle.tap_own_scripts.proofs.Fronts.{all_front, front_of}

-- ---- what begins a lawful log

carried_by : (first log : List Record) → BeginsWith first log → BeginsLawful first → BeginsLogOf (own_script log) first
carried_by first log begins lawful =
    let known = lawful.lawful in
    subst (λ l. BeginsLogOf (own_script l) first) (sym (front_of first log begins))
    (fronts_begin known.script known.valid lawful.log known.run first (drop (length first) lawful.log)
    (front_of first lawful.log lawful.begins) (drop (length first) log))

-- ---- the own steps are first ones of those that were begun

own_first : (items : List Record) → (later : List Step) × (begun_steps items ≡ own_steps items ++ later)
own_first items =
    let n = prefix_len goes_on items in (
      begun_steps (drop n items),
      ap begun_steps (sym (take-append-drop n items)) ∙ begun-append (take_while goes_on items) (drop n items),
    )

first_few : (steps later all : List Step) → all ≡ steps ++ later → length all ≤ most_steps → length steps ≤ most_steps
first_few steps later all is few =
    let size = ap length is ∙ length-append steps later in omega (arith, size, few)

told : (log : List Record) → TellsScript log → IsScript (own_script log)
unfolding own_script
told (Begin settings frames members ∷ items) tells =
    let begin = tells.beginning in
    let first = own_first items in
    let carried = is_carried (Begin settings frames members ∷ items) in
    record {
      settings = begin.settings;
      frames_from = begin.frames_from;
      frames_to = begin.frames_to;
      members_from = begin.members_from;
      members_to = begin.members_to;
      members = begin.members;
      distinct = begin.distinct;
      steps_to = first_few (own_steps items) first.0 (begun_steps items) first.1 tells.few;
      steps = all_front (IsStep settings carried) (own_steps items) first.0 (subst (All (IsStep settings carried)) first.1 tells.steps);
    }
told log tells = tells.beginning

pub own_scripts_hold : OwnScripts
own_scripts_hold = record {
  own = λ log lawful. (is_own lawful.script lawful.valid log lawful.run).run;
  valid = λ log lawful. (is_own lawful.script lawful.valid log lawful.run).script;
  carries = carried_by;
  told = told;
}
