use Rattle.std.proofs.Common.{◌≡◌, not, ap, sym, subst, ◌∙◌}
use Rattle.tap_carried_world.specs.Adds.{AddsNext}
use Rattle.tap_engine.specs.World.{whole_log}
use Rattle.tap_lawful.specs.Next.{begun_count}
use Rattle.tap_replay.specs.declared.carried_run.CarriedRun.{CarriedRun}
use Rattle.tap_replay.specs.Choice.{IsChoiceOf, begun_by}
use Rattle.tap_replay.specs.Ticks.{AreTicksOf}
use Rattle.tap_replay.proofs.CarriedRunning.{choice_adds, no_refusal, refused_adds, some_refusal}
use Rattle.tap_replay.proofs.carried_run.CarriedRun.choose.Goals as goal
use Rattle.tap_replay.proofs.carried_run.CarriedRun.choose.Goals.{then-is_none, else-is_none}

pub returns : goal.returns
returns c =
    let s = c.args.scenario.now in
    let run = c.args.self.now in
    let step = c.args.step.now in
    let next = c.requires.next in
    let mid : CarriedRun = c.if-is_none.self in
    let before : CarriedRun =
    record { alloc = run.alloc; carried = run.carried; begun = begun_count (whole_log run.carried.world); choice = run.choice; ticks = run.ticks } in
    let after : CarriedRun = record { alloc = mid.alloc; carried = c.choose.new.self; begun = mid.begun; choice = mid.choice; ticks = mid.ticks } in
    elim c.if-is_none.branch [
      | then-is_none w ↦
          let same : mid ≡ record { alloc = run.alloc; carried = run.carried; begun = run.begun; choice = w.of-self.result; ticks = w.of-self-then-is_none.result } =
          w.self-is in
          choice_adds s before after c.requires.carries step next.none next.step_is (ap (λ (r : CarriedRun). r.begun) same ∙ next.index_is)
          c.requires.kind
          (sym (c.refusal.ensures s c.requires.carries) ∙ no_refusal c.refusal.result (c.is_none.ensures ∙ ap not w.if-is_none.true))
          (subst (λ (r : CarriedRun). IsChoiceOf (begun_by step) r.choice) (sym same) w.of-self.ensures)
          (subst (λ (r : CarriedRun). AreTicksOf step 0 r.ticks) (sym same) w.of-self-then-is_none.ensures) c.choose.result
          (subst (λ (r : CarriedRun). AddsNext s r.carried.world c.choose.result c.choose.new.self.world c.choose.new.self.carrier) same
          c.choose.ensures)
      | else-is_none w ↦
          let same : mid ≡ record { alloc = run.alloc; carried = run.carried; begun = run.begun; choice = run.choice; ticks = run.ticks } = w.self-is in
          let refused = some_refusal c.refusal.result (c.is_none.ensures ∙ ap not w.if-is_none.false) in
          refused_adds s before after c.requires.carries step next.none next.step_is (ap (λ (r : CarriedRun). r.begun) same ∙ next.index_is)
          refused.0 (sym (c.refusal.ensures s c.requires.carries) ∙ refused.1) (ap (λ (r : CarriedRun). r.choice) same ∙ c.requires.nothing.0)
          (ap (λ (r : CarriedRun). r.ticks) same ∙ c.requires.nothing.1) c.choose.result
          (subst (λ (r : CarriedRun). AddsNext s r.carried.world c.choose.result c.choose.new.self.world c.choose.new.self.carrier) same
          c.choose.ensures)
    ]
