use Rattle.std.proofs.Common.{◌≡◌, ◌∙◌, IfOk, ap, subst, sym}
use Rattle.std.specs.List.{filter_map}
use Rattle.tap_scenario.specs.Scenario.{IsScript, ScenarioValue}
use Rattle.tap_log.specs.Kinds.{step_of}
use Rattle.tap_judge.proofs.Scripts.{own_made, own_valid}
use Rattle.tap_judge.proofs.own_run.own_scenario.Goals as goal

pub of-requires : goal.of-requires
of-requires c =
    let steps = c.as_slice.ensures.value ∙ c.in_ok-steps.ensures ∙ ap (filter_map step_of) c.before_end.ensures in
    subst IsScript
    (own_made c.args.log.now c.index-log-0.result c.in-Begin.settings c.in-Begin.frames c.in-Begin.members c.is_carried.result c.as_slice.result.now
    c.requires c.index-log-0.is c.in-Begin.is c.is_carried.ensures steps)
    (own_valid c.args.log.now c.requires)

pub returns : goal.returns
returns c =
    let steps = c.as_slice.ensures.value ∙ c.in_ok-steps.ensures ∙ ap (filter_map step_of) c.before_end.ensures in
    subst (λ (x : ScenarioValue). IfOk c.of.result (λ s. s ≡ x))
    (sym (own_made c.args.log.now c.index-log-0.result c.in-Begin.settings c.in-Begin.frames c.in-Begin.members c.is_carried.result c.as_slice.result.now
    c.requires c.index-log-0.is c.in-Begin.is c.is_carried.ensures steps))
    c.of.ensures
