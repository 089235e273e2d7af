use Rattle.std.proofs.Common.{None, false, subst, sym, ap, arith}
use Rattle.tap_engine.specs.WorldHeadline.{WorldHasHeadline}
use Rattle.tap_engine.specs.KeptEngine.{AreKept, world_value}
use Rattle.tap_engine.specs.Outcome.{MayNote}
use Rattle.tap_engine.specs.declared.engine.Engine.{Engine}
use Rattle.tap_world.proofs.Marks.{note_fits, note_room, noted_kept}
use Rattle.tap_engine.proofs.HeadlineOfWorld.{kept_headline}
use Rattle.tap_world.proofs.world.World.note.Goals as goal

pub note-requires-clause-room : goal.note-requires-clause-room
note-requires-clause-room c =
    let w = c.self.inside in
    let kept = subst (AreKept w.engine w.refused) c.if-self.false c.self.invariant in
    let may : MayNote (world_value w.engine w.refused w.stopped) c.args.index c.args.refusal = rw (← c.self.view_is) at c.requires in
    let two = note_room w.engine w.refused kept c.args.index c.args.refusal (record { step = may.step; last = may.last; may = may.may }) in
    omega (arith, two)

pub note-requires-clause-can_add : goal.note-requires-clause-can_add
note-requires-clause-can_add c =
    let w = c.self.inside in
    let kept = subst (AreKept w.engine w.refused) c.if-self.false c.self.invariant in
    let may : MayNote (world_value w.engine w.refused w.stopped) c.args.index c.args.refusal = rw (← c.self.view_is) at c.requires in
    note_fits w.engine w.refused kept c.args.index c.args.refusal (record { step = may.step; last = may.last; may = may.may })

pub invariant_of-self : goal.invariant_of-self
invariant_of-self c =
    let w = c.self.inside in
    let kept = subst (AreKept w.engine w.refused) c.if-self.false c.self.invariant in
    let may : MayNote (world_value w.engine w.refused w.stopped) c.args.index c.args.refusal = rw (← c.self.view_is) at c.requires in
    let may_note : MayNote (world_value w.engine w.refused false) c.args.index c.args.refusal = record { step = may.step; last = may.last; may = may.may } in
    let two = note_room w.engine w.refused kept c.args.index c.args.refusal may_note in
    let after = c.note.new.self in
    subst (AreKept after None) (sym c.if-self.false)
    (noted_kept w.engine w.refused kept c.args.index c.args.refusal may_note after
    (record {
      settings = ap (λ (q : Engine). q.settings) c.note.ensures.same;
      frames = ap (λ (q : Engine). q.frames) c.note.ensures.same;
      log = c.note.ensures.log;
    })
    (ap (λ (q : Engine). q.overlay) c.note.ensures.same)
    (omega (arith, c.note.ensures.spare, two)))

pub returns-then-self-clause-headline : goal.returns-then-self-clause-headline
returns-then-self-clause-headline c =
    let w = c.self.inside in
    subst WorldHasHeadline c.self.view_is
    (kept_headline w.engine w.refused w.stopped c.self.invariant)

pub returns-clause-headline : goal.returns-clause-headline
returns-clause-headline c =
    let w = c.self.inside in
    let kept = subst (AreKept w.engine w.refused) c.if-self.false c.self.invariant in
    let may : MayNote (world_value w.engine w.refused w.stopped) c.args.index c.args.refusal = rw (← c.self.view_is) at c.requires in
    let may_note : MayNote (world_value w.engine w.refused false) c.args.index c.args.refusal = record { step = may.step; last = may.last; may = may.may } in
    let two = note_room w.engine w.refused kept c.args.index c.args.refusal may_note in
    let after = c.note.new.self in
    kept_headline after None false
    (noted_kept w.engine w.refused kept c.args.index c.args.refusal may_note after
    (record {
      settings = ap (λ (q : Engine). q.settings) c.note.ensures.same;
      frames = ap (λ (q : Engine). q.frames) c.note.ensures.same;
      log = c.note.ensures.log;
    })
    (ap (λ (q : Engine). q.overlay) c.note.ensures.same)
    (omega (arith, c.note.ensures.spare, two)))
