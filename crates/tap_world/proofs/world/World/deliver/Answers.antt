use Rattle.std.proofs.Common.{slice_get, ap, ◌∙◌, subst}
use Rattle.tap_history.specs.Moments.{outstanding}
use Rattle.tap_overlay.specs.Overlay.{OverlayValue}
use Rattle.tap_engine.specs.WorldHeadline.{WorldHasHeadline}
use Rattle.tap_engine.specs.World.{WorldValue}
use Rattle.tap_world.proofs.Worlds.{deliver_answers, deliver_keeps, takes_unended}
use Rattle.tap_engine.specs.Holders.{HoldersAreExactAtRest}
use Rattle.tap_engine.specs.Outcome.{stops}
use Rattle.tap_engine.proofs.HeadlineOfWorld.{kept_headline, kept_holders}
use Rattle.tap_world.proofs.world.World.deliver.Goals as goal

pub invariant_of-self : goal.invariant_of-self
invariant_of-self c =
    let w = c.self.inside in
    let may = rw (← c.self.view_is) at c.requires in
    rw c.stops-self-inside.ensures
    (deliver_keeps w.engine w.refused w.stopped c.self.invariant may c.if-self.false c.deliver-answer.new.self c.deliver-answer.result c.args.place
    c.deliver-answer.ensures.leads)

pub returns-clause-answers : goal.returns-clause-answers
returns-clause-answers c =
    let w = c.self.inside in
    let may = rw (← c.self.view_is) at c.requires in
    rw (c.stops-self-inside.ensures, ← c.self.view_is)
    (deliver_answers w.engine w.refused w.stopped c.self.invariant may c.if-self.false c.deliver-answer.new.self c.deliver-answer.result c.args.place
    c.deliver-answer.ensures.leads c.deliver-answer.ensures.added)

pub returns-clause-unchanged : goal.returns-clause-unchanged
returns-clause-unchanged c = λ refusal is.
    ap (λ (o : OverlayValue). o.nodes) (c.deliver-answer.ensures.leads.nodes refusal is) ∙ ap (λ (x : WorldValue). x.nodes) c.self.view_is

pub returns-clause-ended : goal.returns-clause-ended
returns-clause-ended c = λ is.
    let m = c.self.inside.engine in
    absurd (takes_unended m c.deliver-answer.new.self c.deliver-answer.result (slice_get (outstanding m.ledger.records) c.args.place)
    c.deliver-answer.ensures.leads is)

pub returns-then-self-clause-headline : goal.returns-then-self-clause-headline
returns-then-self-clause-headline c =
    let w = c.self.inside in
    subst WorldHasHeadline c.self.view_is
    (kept_headline w.engine w.refused w.stopped c.self.invariant)

pub returns-then-self-clause-holders : goal.returns-then-self-clause-holders
returns-then-self-clause-holders c =
    let w = c.self.inside in
    subst (λ (v : WorldValue). HoldersAreExactAtRest v.log) c.self.view_is (kept_holders w.engine w.refused w.stopped c.self.invariant)

pub returns-clause-headline : goal.returns-clause-headline
returns-clause-headline c =
    let w = c.self.inside in
    let may = rw (← c.self.view_is) at c.requires in
    let given = c.deliver-answer.result in
    kept_headline c.deliver-answer.new.self w.refused (stops given)
    (deliver_keeps w.engine w.refused w.stopped c.self.invariant may c.if-self.false c.deliver-answer.new.self given c.args.place
    c.deliver-answer.ensures.leads)

pub returns-clause-holders : goal.returns-clause-holders
returns-clause-holders c =
    let w = c.self.inside in
    let may = rw (← c.self.view_is) at c.requires in
    let given = c.deliver-answer.result in
    kept_holders c.deliver-answer.new.self w.refused (stops given)
    (deliver_keeps w.engine w.refused w.stopped c.self.invariant may c.if-self.false c.deliver-answer.new.self given c.args.place
    c.deliver-answer.ensures.leads)
