use Rattle.std.proofs.Common.{ap, sym, ◌∙◌}
use Rattle.std.specs.Prelude.{nat_lt}
use Rattle.tap_lawful.specs.Due.{chosen_in}
use Rattle.tap_lawful.specs.Next.{begun_count}
use Rattle.tap_replay.proofs.Running.{more_frame, more_step, whole_more}
use Rattle.tap_replay.proofs.run.Run.is_more.Goals as goal

pub returns-then-is_due : goal.returns-then-is_due
returns-then-is_due c =
    let s = c.args.scenario.now in
    let w = c.args.self.now.world in
    sym (whole_more s w c.requires.goes_on ∙ more_frame s w.log c.outstanding.result c.outstanding.ensures
    (sym (c.is_due.ensures.due (chosen_in w.log) c.requires.choice) ∙ c.if-is_due.true))

pub returns : goal.returns
returns c =
    let s = c.args.scenario.now in
    let w = c.args.self.now.world in
    ap (λ n. nat_lt n c.step_count.result) c.requires.begun ∙ ap (nat_lt (begun_count w.log)) c.step_count.ensures.value
    ∙ sym (whole_more s w c.requires.goes_on ∙ more_step s w.log c.outstanding.result c.outstanding.ensures
    (sym (c.is_due.ensures.due (chosen_in w.log) c.requires.choice) ∙ c.if-is_due.false))
