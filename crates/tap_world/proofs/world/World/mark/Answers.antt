use Rattle.std.proofs.Common.{true, sym, ap, subst, None, false}
use Rattle.tap_engine.specs.WorldHeadline.{WorldHasHeadline}
use Rattle.tap_engine.specs.KeptEngine.{AreKept}
use Rattle.tap_engine.specs.declared.engine.Engine.{Engine}
use Rattle.tap_engine.proofs.Addable.{step_fits}
use Rattle.tap_engine.proofs.Counting.{few_sent_most}
use Rattle.tap_engine.proofs.Keeping.{all_still, kept_short}
use Rattle.tap_world.proofs.Marks.{marked_kept}
use Rattle.tap_world.proofs.Worlds.{kept_of, next_of, ready_of}
use Rattle.tap_engine.proofs.HeadlineOfWorld.{kept_headline}
use Rattle.tap_world.proofs.world.World.mark.Goals as goal

pub mark-requires : goal.mark-requires
mark-requires c =
    let w = c.self.inside in
    let may = rw (← c.self.view_is) at c.requires.goes_on in
    step_fits w.engine.ledger.records c.args.index c.args.step.now
    (few_sent_most w.engine (ready_of w.engine w.refused w.stopped c.self.invariant may c.if-self.false))

pub invariant_of-self : goal.invariant_of-self
invariant_of-self c =
    let w = c.self.inside in
    let may = rw (← c.self.view_is) at c.requires.goes_on in
    let ready = ready_of w.engine w.refused w.stopped c.self.invariant may c.if-self.false in
    let after = c.mark.new.self in
    let same = c.mark.ensures.same in
    subst (λ r. AreKept after r true) (sym may.noted)
    (kept_short w.engine after ready (ap (λ (q : Engine). q.settings) same) (ap (λ (q : Engine). q.frames) same) c.in-Err.ensures.err
    (all_still w.engine.overlay after.overlay (ap (λ (q : Engine). q.overlay) same)))

pub invariant_of-self-in_default : goal.invariant_of-self-in_default
invariant_of-self-in_default c =
    let w = c.self.inside in
    let may = rw (← c.self.view_is) at c.requires.goes_on in
    let next = rw (← c.self.view_is) at c.requires.next in
    let ready = ready_of w.engine w.refused w.stopped c.self.invariant may c.if-self.false in
    let after = c.mark.new.self in
    let same = c.mark.ensures.same in
    kept_of after w.refused w.stopped may.noted c.if-self.false
    (marked_kept w.engine after ready c.args.index c.args.step.now (next_of w.engine w.refused w.stopped c.args.index next) c.requires.kind
    (record { settings = ap (λ (q : Engine). q.settings) same; frames = ap (λ (q : Engine). q.frames) same; log = c.in_default.ensures.ok })
    (ap (λ (q : Engine). q.overlay) same) c.in_default.ensures.room)

pub returns-then-self-clause-headline : goal.returns-then-self-clause-headline
returns-then-self-clause-headline c =
    let w = c.self.inside in
    subst WorldHasHeadline c.self.view_is
    (kept_headline w.engine w.refused w.stopped c.self.invariant)

pub returns-in-Err-clause-headline : goal.returns-in-Err-clause-headline
returns-in-Err-clause-headline c =
    let w = c.self.inside in
    let may = rw (← c.self.view_is) at c.requires.goes_on in
    let ready = ready_of w.engine w.refused w.stopped c.self.invariant may c.if-self.false in
    let after = c.mark.new.self in
    let same = c.mark.ensures.same in
    kept_headline after None true
    (kept_short w.engine after ready (ap (λ (q : Engine). q.settings) same) (ap (λ (q : Engine). q.frames) same) c.in-Err.ensures.err
    (all_still w.engine.overlay after.overlay (ap (λ (q : Engine). q.overlay) same)))

pub returns-clause-headline : goal.returns-clause-headline
returns-clause-headline c =
    let w = c.self.inside in
    let may = rw (← c.self.view_is) at c.requires.goes_on in
    let next = rw (← c.self.view_is) at c.requires.next in
    let ready = ready_of w.engine w.refused w.stopped c.self.invariant may c.if-self.false in
    let after = c.mark.new.self in
    let same = c.mark.ensures.same in
    kept_headline after None false
    (marked_kept w.engine after ready c.args.index c.args.step.now (next_of w.engine w.refused w.stopped c.args.index next) c.requires.kind
    (record { settings = ap (λ (q : Engine). q.settings) same; frames = ap (λ (q : Engine). q.frames) same; log = c.in_default.ensures.ok })
    (ap (λ (q : Engine). q.overlay) same) c.in_default.ensures.room)
