use Rattle.std.proofs.Common.{refl, ◌≡◌, inr, None, Some, [], ◌∷◌, ◌++◌, ap, sym, ◌∙◌, arith}
use Rattle.std.proofs.lemmas.Result.{err_from_is_err_and}
use Rattle.tap_log.specs.declared.record.Record.TheVariants.{Step as StepRecord}
use Rattle.tap_history.specs.Refusals.{first_refusal}
use Rattle.tap_engine.specs.declared.engine.Engine.{Engine}
use Rattle.tap_engine.proofs.Leading.{reserved_ready}
use Rattle.tap_engine.proofs.NamedSteps.{damaging_names}
use Rattle.tap_engine.proofs.QuietGroups.{alone_fits, copied_group, log_alone, quiet_fits, quiet_refused, short_leads, quiet_whole, same_alone}
use Rattle.tap_engine.proofs.engine.Engine.garble.Goals as goal

pub returns-in_err-refusal-clause-leads : goal.returns-in_err-refusal-clause-leads
returns-in_err-refusal-clause-leads c =
    let made = err_from_is_err_and c.from_residual.result c.from_residual.ensures.1 in
    rw (made.1, made.2)
    (short_leads c.args.self.now c.requires.ready c.args.index c.args.step.now c.refusal_of.new.self c.refusal_of.ensures.same
    c.refusal_of.ensures.log)

pub add_step-requires-clause-can_add : goal.add_step-requires-clause-can_add
add_step-requires-clause-can_add c =
    alone_fits c.args.self.now c.requires.ready c.args.index c.args.step.now c.refusal_of.new.self c.refusal_of.ensures.log

pub returns-in-Some-clause-leads : goal.returns-in-Some-clause-leads
returns-in-Some-clause-leads c =
    let m = c.args.self.now in
    let after = c.add_step.new.self in
    quiet_refused m c.requires.ready c.args.index c.args.step.now c.requires.next (inr c.requires.kind)
    (damaging_names m.settings c.args.step.now c.requires.kind) after
    (log_alone m c.refusal_of.new.self after c.refusal_of.ensures.same c.add_step.ensures.same)
    (omega (arith, c.add_step.ensures.spare, c.in_ok-refusal.ensures.room)) c.in-Some.refusal
    (sym c.in_ok-refusal.ensures.refusal ∙ c.in-Some.is)
    (c.add_step.ensures.log ∙ ap (λ l. l ++ StepRecord c.args.index c.args.step.now ∷ []) c.refusal_of.ensures.log)

pub garbled-requires-clause-ready : goal.garbled-requires-clause-ready
garbled-requires-clause-ready c =
    reserved_ready c.args.self.now c.refusal_of.new.self c.requires.ready c.refusal_of.ensures.same c.refusal_of.ensures.log
    c.in_ok-refusal.ensures.room

pub garbled-requires-clause-accepted : goal.garbled-requires-clause-accepted
garbled-requires-clause-accepted c =
    ap (λ l. first_refusal l c.args.step.now) c.refusal_of.ensures.log ∙ sym c.in_ok-refusal.ensures.refusal ∙ c.in_default.is

pub returns-in_err-item-clause-leads : goal.returns-in_err-item-clause-leads
returns-in_err-item-clause-leads c =
    let made = err_from_is_err_and c.from_residual-in_err-item.result c.from_residual-in_err-item.ensures.1 in
    rw (made.1, made.2)
    (short_leads c.args.self.now c.requires.ready c.args.index c.args.step.now c.garbled.new.self (same_alone c.args.self.now c.refusal_of.new.self c.garbled.new.self c.garbled.ensures.same c.refusal_of.ensures.same)
    (ap (λ (q : Engine). q.ledger.records) c.garbled.ensures.same ∙ c.refusal_of.ensures.log))

pub add_step_with-requires : goal.add_step_with-requires
add_step_with-requires c =
    let m = c.args.self.now in
    let n = c.refusal_of.new.self in
    let step = c.args.step.now in
    quiet_fits m c.requires.ready c.args.index step c.garbled.new.self (StepRecord c.args.index step ∷ c.in_ok-item.item ∷ []) (ap (λ (q : Engine). q.ledger.records) c.garbled.ensures.same ∙ c.refusal_of.ensures.log)
    (inr c.requires.kind)
    (copied_group m n c.args.index step (Some c.in_ok-item.item) (StepRecord c.args.index step ∷ c.in_ok-item.item ∷ []) c.refusal_of.ensures.same c.refusal_of.ensures.log
    c.requires.kind (sym c.in_ok-refusal.ensures.refusal ∙ c.in_default.is) c.in_ok-item.ensures.garbled
    refl)

pub returns-in_err-add_step_with-clause-leads : goal.returns-in_err-add_step_with-clause-leads
returns-in_err-add_step_with-clause-leads c =
    let m = c.args.self.now in
    let made = err_from_is_err_and c.from_residual-in_err-add_step_with.result c.from_residual-in_err-add_step_with.ensures.1 in
    rw (made.1, made.2)
    (short_leads m c.requires.ready c.args.index c.args.step.now c.add_step_with.new.self
    (log_alone m c.garbled.new.self c.add_step_with.new.self ((same_alone c.args.self.now c.refusal_of.new.self c.garbled.new.self c.garbled.ensures.same c.refusal_of.ensures.same)) c.add_step_with.ensures.same)
    (ap (λ (q : Engine). q.ledger.records) c.in_err-add_step_with.ensures.err ∙ (ap (λ (q : Engine). q.ledger.records) c.garbled.ensures.same ∙ c.refusal_of.ensures.log)))

pub returns-clause-leads : goal.returns-clause-leads
returns-clause-leads c =
    let m = c.args.self.now in
    let n = c.refusal_of.new.self in
    let after = c.add_step_with.new.self in
    let step = c.args.step.now in
    let accepted : first_refusal m.ledger.records step ≡ None = sym c.in_ok-refusal.ensures.refusal ∙ c.in_default.is in
    quiet_whole m c.requires.ready c.args.index step c.requires.next (inr c.requires.kind)
    (damaging_names m.settings c.args.step.now c.requires.kind) after
    (log_alone m c.garbled.new.self after ((same_alone c.args.self.now c.refusal_of.new.self c.garbled.new.self c.garbled.ensures.same c.refusal_of.ensures.same)) c.in_ok-add_step_with.ensures.same) c.in_ok-add_step_with.ensures.room
    (StepRecord c.args.index step ∷ c.in_ok-item.item ∷ []) accepted
    (copied_group m n c.args.index step (Some c.in_ok-item.item) (StepRecord c.args.index step ∷ c.in_ok-item.item ∷ []) c.refusal_of.ensures.same c.refusal_of.ensures.log
    c.requires.kind accepted c.in_ok-item.ensures.garbled
    refl)
    (c.in_ok-add_step_with.ensures.ok ∙ ap (λ l. l ++ (StepRecord c.args.index step ∷ c.in_ok-item.item ∷ [])) ((ap (λ (q : Engine). q.ledger.records) c.garbled.ensures.same ∙ c.refusal_of.ensures.log)))
