use Rattle.std.proofs.Common.{[], ◌∷◌, ◌++◌, ap, sym, subst, ◌∙◌}
use Rattle.tap_log.specs.declared.record.Record.TheVariants.{Step as StepRecord}
use Rattle.tap_ledger.specs.Added.{CanAdd}
use Rattle.tap_ledger.proofs.Adding.{can_first, can_rest}
use Rattle.tap_engine.proofs.engine.Engine.add_step_with.Goals as goal

pub add_step-requires-clause-can_add : goal.add_step-requires-clause-can_add
add_step-requires-clause-can_add c =
    let log = c.args.self.now.ledger.records in
    subst (λ l. CanAdd l (StepRecord c.args.index c.args.step.now ∷ [])) (sym c.reserve.ensures.records)
    (can_first log (StepRecord c.args.index c.args.step.now ∷ []) (c.args.item ∷ []) c.requires)

pub push_reserved-requires-clause-can_add : goal.push_reserved-requires-clause-can_add
push_reserved-requires-clause-can_add c =
    let log = c.args.self.now.ledger.records in
    subst (λ l. CanAdd l (c.args.item ∷ []))
    (sym (c.add_step.ensures.log ∙ ap (λ l. l ++ StepRecord c.args.index c.args.step.now ∷ []) c.reserve.ensures.records))
    (can_rest log (StepRecord c.args.index c.args.step.now ∷ []) (c.args.item ∷ []) c.requires)
