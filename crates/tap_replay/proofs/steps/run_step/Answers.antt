use Rattle.std.proofs.Common.{◌≡◌, inl, true, Err, ap, subst, ◌∙◌}
use Rattle.tap_runs.specs.Course.{is_choice}
use Rattle.tap_engine.specs.Outcome.{WorldAnswersAs, step_outcome}
use Rattle.tap_replay.specs.StepCalls.{IsCallOf}
use Rattle.tap_replay.proofs.Stepping.{begun_last, has_refused, mark_runs, noted_answers, settle_goes}
use Rattle.tap_replay.proofs.steps.run_step.Goals as goal

pub returns-in_default-call_of : goal.returns-in_default-call_of
returns-in_default-call_of c =
    let w = c.args.world.now in
    let step = c.args.step.now in
    let chosen : is_choice step ≡ true = subst (IsCallOf step) c.in_default-call_of.is c.call_of.ensures in
    subst (λ o. WorldAnswersAs o w c.mark.result c.mark.new.self)
    (mark_runs w c.requires.may c.args.index step chosen
    (settle_goes w.beginning.settings w.log step c.requires.played c.requires.names c.in_default.not-Deliver chosen))
    c.mark.ensures.answers

pub note-requires : goal.note-requires
note-requires c =
    let w = c.args.world.now in
    let v = c.try_step.new.world in
    let step = c.args.step.now in
    let refusal = c.in-Err-Refused.refusal in
    let at = c.in-Err-Refused.is ∙ ap Err c.in-Err-Refused.field-0-is in
    let refused = has_refused w v c.args.index step refusal c.requires.may.runs
    (subst (λ r. WorldAnswersAs (step_outcome w c.args.index step) w r v) at c.try_step.ensures) in
    record { step = step; last = begun_last w v c.args.index step refused.begun; may = inl refused.noted }

pub returns-in-Err-Refused : goal.returns-in-Err-Refused
returns-in-Err-Refused c =
    let w = c.args.world.now in
    let v = c.try_step.new.world in
    let step = c.args.step.now in
    let refusal = c.in-Err-Refused.refusal in
    let at = c.in-Err-Refused.is ∙ ap Err c.in-Err-Refused.field-0-is in
    let refused = has_refused w v c.args.index step refusal c.requires.may.runs
    (subst (λ r. WorldAnswersAs (step_outcome w c.args.index step) w r v) at c.try_step.ensures) in
    noted_answers w v c.args.index step refused.begun c.note.new.self refusal c.note.result c.requires.may refused.first
    c.note.ensures.memory c.note.ensures.answers
