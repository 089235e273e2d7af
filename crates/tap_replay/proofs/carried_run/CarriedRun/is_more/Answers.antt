use Rattle.std.proofs.Common.{ap, sym, ◌∙◌}
use Rattle.std.specs.Prelude.{nat_lt}
use Rattle.std.proofs.lemmas.Bool.{false≢true}
use Rattle.tap_engine.specs.World.{whole_log}
use Rattle.tap_lawful.specs.CarriedDue.Due.{ArrivalDue, TickDue}
use Rattle.tap_lawful.specs.Next.{begun_count}
use Rattle.tap_replay.specs.Ticks.{due_by_ticks}
use Rattle.tap_replay.proofs.CarriedChoosing.{no_arrival, nothing_due, some_arrival, tick}
use Rattle.tap_replay.proofs.CarriedRunning.{more_due, more_step}
use Rattle.tap_replay.proofs.Running.{some_at}
use Rattle.tap_replay.proofs.carried_run.CarriedRun.is_more.Goals as goal
use Rattle.tap_replay.proofs.carried_run.CarriedRun.is_more.Goals.{then-is_due, else-is_due}

pub returns-then-is_due-2 : goal.returns-then-is_due-2
returns-then-is_due-2 c =
    let s = c.args.scenario.now in
    let run = c.args.self.now in
    let log = whole_log run.carried.world in
    let all = c.under_way.ensures s c.requires.carries in
    let count = c.under_way.result in
    c.if-is_due-2.true
    ∙ sym (elim c.if-is_due.branch [
      | then-is_due w ↦
          let at = some_arrival log run.choice run.ticks c.requires.chosen count all
          (λ chosen of. sym w.if-is_due.true ∙ c.is_due.ensures.due chosen of) in
          more_due s log (ArrivalDue at.1.line) at.1.due
      | else-is_due w ↦
          let none = no_arrival log run.choice run.ticks c.requires.chosen count all
          (λ chosen of. sym w.if-is_due.false ∙ c.is_due.ensures.due chosen of) in
          let due = sym (w.is_due-else-is_due.ensures ∙ ap (due_by_ticks run.ticks) (w.is_stranded.ensures s c.requires.carries))
          ∙ sym w.value-is ∙ c.if-is_due-2.true in
          more_due s log TickDue (tick log run.choice run.ticks c.requires.chosen count all none due)
    ])

pub returns-else-is_due-2 : goal.returns-else-is_due-2
returns-else-is_due-2 c =
    let s = c.args.scenario.now in
    let run = c.args.self.now in
    let log = whole_log run.carried.world in
    let all = c.under_way.ensures s c.requires.carries in
    let count = c.under_way.result in
    elim c.if-is_due.branch [
      | then-is_due w ↦ absurd (false≢true (sym c.if-is_due-2.false ∙ w.value-is ∙ w.if-is_due.true))
      | else-is_due w ↦
          let none = no_arrival log run.choice run.ticks c.requires.chosen count all
          (λ chosen of. sym w.if-is_due.false ∙ c.is_due.ensures.due chosen of) in
          let due = sym (w.is_due-else-is_due.ensures ∙ ap (due_by_ticks run.ticks) (w.is_stranded.ensures s c.requires.carries))
          ∙ sym w.value-is ∙ c.if-is_due-2.false in
          ap (λ n. nat_lt n c.step_count.result) c.requires.begun ∙ ap (nat_lt (begun_count log)) c.step_count.ensures.value
          ∙ sym (more_step s log (nothing_due log run.choice run.ticks c.requires.chosen count all none due) ∙ some_at s.steps (begun_count log))
    ]
