use Rattle.std.proofs.Common.{inl, ap, ◌∙◌, subst}
use Rattle.tap_history.specs.Refusals.{first_refusal}
use Rattle.tap_overlay.specs.Overlay.{OverlayValue}
use Rattle.tap_engine.specs.WorldHeadline.{WorldHasHeadline}
use Rattle.tap_engine.specs.World.{WorldValue}
use Rattle.tap_engine.specs.declared.engine.Engine.{Engine}
use Rattle.tap_world.proofs.Worlds.{ready_of, step_answers, step_keeps, step_unended, unspent}
use Rattle.tap_engine.specs.Outcome.{refusal_in, stops}
use Rattle.tap_engine.proofs.HeadlineOfWorld.{kept_headline}
use Rattle.tap_world.proofs.world.World.observe.Goals as goal

pub invariant_of-self : goal.invariant_of-self
invariant_of-self c =
    let w = c.self.inside in
    let may = rw (← c.self.view_is) at c.requires.goes_on in
    rw (c.refusal_in-self-inside.ensures, c.stops-self-inside.ensures)
    (step_keeps w.engine w.refused w.stopped c.self.invariant may c.if-self.false c.observe-answer.new.self c.observe-answer.result c.args.index c.args.step.now
    c.observe-answer.ensures.leads)

pub returns-clause-answers : goal.returns-clause-answers
returns-clause-answers c =
    let w = c.self.inside in
    let may = rw (← c.self.view_is) at c.requires.goes_on in
    rw (c.refusal_in-self-inside.ensures, c.stops-self-inside.ensures, ← c.self.view_is)
    (step_answers w.engine w.refused w.stopped c.self.invariant may c.if-self.false c.observe-answer.new.self c.observe-answer.result c.args.index c.args.step.now
    c.observe-answer.ensures.leads c.observe-answer.ensures.added)

pub returns-clause-unspent : goal.returns-clause-unspent
returns-clause-unspent c =
    let w = c.self.inside in
    let may = rw (← c.self.view_is) at c.requires.goes_on in
    unspent w.engine (ready_of w.engine w.refused w.stopped c.self.invariant may c.if-self.false) c.args.index c.args.step.now
    (inl c.requires.kind) c.observe-answer.result c.observe-answer.new.self c.observe-answer.ensures.leads

pub returns-clause-unchanged : goal.returns-clause-unchanged
returns-clause-unchanged c = λ refusal is.
    ap (λ (o : OverlayValue). o.nodes) (c.observe-answer.ensures.leads.nodes refusal is) ∙ ap (λ (x : WorldValue). x.nodes) c.self.view_is

pub returns-clause-nodes : goal.returns-clause-nodes
returns-clause-nodes c =
    ap (λ (m : Engine). m.overlay.nodes) c.observe-answer.ensures.alone ∙ ap (λ (x : WorldValue). x.nodes) c.self.view_is

pub returns-clause-ended : goal.returns-clause-ended
returns-clause-ended c = λ is.
    let m = c.self.inside.engine in
    absurd (step_unended m c.observe-answer.new.self c.observe-answer.result c.args.index c.args.step.now
    (first_refusal m.ledger.records c.args.step.now) c.observe-answer.ensures.leads is)

pub returns-then-self-clause-headline : goal.returns-then-self-clause-headline
returns-then-self-clause-headline c =
    let w = c.self.inside in
    subst WorldHasHeadline c.self.view_is
    (kept_headline w.engine w.refused w.stopped c.self.invariant)

pub returns-clause-headline : goal.returns-clause-headline
returns-clause-headline c =
    let w = c.self.inside in
    let may = rw (← c.self.view_is) at c.requires.goes_on in
    let given = c.observe-answer.result in
    kept_headline c.observe-answer.new.self (refusal_in given) (stops given)
    (step_keeps w.engine w.refused w.stopped c.self.invariant may c.if-self.false c.observe-answer.new.self given c.args.index c.args.step.now
    c.observe-answer.ensures.leads)
