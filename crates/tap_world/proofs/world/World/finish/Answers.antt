use Rattle.std.proofs.Common.{◌≡◌, length, sym, ap, ◌∙◌, None, false, subst}
use Rattle.tap_log.specs.Log.{begun_steps}
use Rattle.tap_engine.specs.WorldHeadline.{WorldHasHeadline}
use Rattle.tap_engine.specs.World.{HasNodesOfLog, WorldValue}
use Rattle.tap_engine.specs.declared.engine.Engine.{Engine}
use Rattle.tap_engine.proofs.Addable.{finished_fits}
use Rattle.tap_engine.proofs.Counting.{few_sent_most, room_left}
use Rattle.tap_world.proofs.Marks.{finished_kept}
use Rattle.tap_world.proofs.Nodes.{kept_nodes}
use Rattle.tap_world.proofs.Worlds.{kept_of, ready_of}
use Rattle.tap_engine.proofs.HeadlineOfWorld.{kept_headline}
use Rattle.tap_world.proofs.world.World.finish.Goals as goal

pub finish-requires-clause-room : goal.finish-requires-clause-room
finish-requires-clause-room c =
    let w = c.self.inside in
    let may = rw (← c.self.view_is) at c.requires.goes_on in
    room_left w.engine (ready_of w.engine w.refused w.stopped c.self.invariant may c.if-self.false)

pub finish-requires-clause-can_add : goal.finish-requires-clause-can_add
finish-requires-clause-can_add c =
    let w = c.self.inside in
    let may = rw (← c.self.view_is) at c.requires.goes_on in
    finished_fits w.engine.ledger.records c.args.steps
    (few_sent_most w.engine (ready_of w.engine w.refused w.stopped c.self.invariant may c.if-self.false))

pub invariant_of-self : goal.invariant_of-self
invariant_of-self c =
    let w = c.self.inside in
    let may = rw (← c.self.view_is) at c.requires.goes_on in
    let ready = ready_of w.engine w.refused w.stopped c.self.invariant may c.if-self.false in
    let all = c.requires.all ∙ ap (λ (x : WorldValue). length (begun_steps x.log)) (sym c.self.view_is) in
    let after = c.finish.new.self in
    kept_of after w.refused w.stopped may.noted c.if-self.false
    (finished_kept w.engine after ready c.args.steps all (record {
      settings = ap (λ (q : Engine). q.settings) c.finish.ensures.same;
      frames = ap (λ (q : Engine). q.frames) c.finish.ensures.same;
      log = c.finish.ensures.log;
    })
    (ap (λ (q : Engine). q.overlay) c.finish.ensures.same))

pub returns-then-self-clause-state : goal.returns-then-self-clause-state
returns-then-self-clause-state c = λ runs.
    let w = c.self.inside in
    let goes : w.stopped ≡ false = ap (λ (x : WorldValue). x.stopped) c.self.view_is ∙ runs in
    subst HasNodesOfLog c.self.view_is (kept_nodes w.engine w.refused w.stopped c.self.invariant goes)

pub returns-clause-state : goal.returns-clause-state
returns-clause-state c = λ runs.
    let w = c.self.inside in
    let may = rw (← c.self.view_is) at c.requires.goes_on in
    let ready = ready_of w.engine w.refused w.stopped c.self.invariant may c.if-self.false in
    let all = c.requires.all ∙ ap (λ (x : WorldValue). length (begun_steps x.log)) (sym c.self.view_is) in
    let after = c.finish.new.self in
    kept_nodes after w.refused w.stopped
    (kept_of after w.refused w.stopped may.noted c.if-self.false
    (finished_kept w.engine after ready c.args.steps all (record {
      settings = ap (λ (q : Engine). q.settings) c.finish.ensures.same;
      frames = ap (λ (q : Engine). q.frames) c.finish.ensures.same;
      log = c.finish.ensures.log;
    })
    (ap (λ (q : Engine). q.overlay) c.finish.ensures.same)))
    runs

pub returns-then-self-clause-headline : goal.returns-then-self-clause-headline
returns-then-self-clause-headline c =
    let w = c.self.inside in
    subst WorldHasHeadline c.self.view_is
    (kept_headline w.engine w.refused w.stopped c.self.invariant)

pub returns-clause-headline : goal.returns-clause-headline
returns-clause-headline c =
    let w = c.self.inside in
    let may = rw (← c.self.view_is) at c.requires.goes_on in
    let ready = ready_of w.engine w.refused w.stopped c.self.invariant may c.if-self.false in
    let all = c.requires.all ∙ ap (λ (x : WorldValue). length (begun_steps x.log)) (sym c.self.view_is) in
    let after = c.finish.new.self in
    kept_headline after None false
    (finished_kept w.engine after ready c.args.steps all (record {
      settings = ap (λ (q : Engine). q.settings) c.finish.ensures.same;
      frames = ap (λ (q : Engine). q.frames) c.finish.ensures.same;
      log = c.finish.ensures.log;
    })
    (ap (λ (q : Engine). q.overlay) c.finish.ensures.same))
