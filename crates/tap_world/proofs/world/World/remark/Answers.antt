use Rattle.std.proofs.Common.{◌∙◌, [], ◌∷◌, ◌++◌, None, Err, false, true, ap, sym, subst, refl, arith}
use Rattle.std.proofs.lemmas.Bool.{false≢true}
use Rattle.tap_engine.specs.WorldHeadline.{WorldHasHeadline}
use Rattle.tap_ledger.specs.Woven.{remark_after}
use Rattle.tap_engine.specs.KeptEngine.{AreKept, world_value}
use Rattle.tap_engine.specs.Kinds.{awaits_roots}
use Rattle.tap_engine.specs.Outcome.{Remarks}
use Rattle.tap_engine.specs.World.{WorldValue}
use Rattle.tap_engine.specs.declared.engine.Engine.{Engine}
use Rattle.tap_engine.proofs.Keeping.{all_still, kept_short}
use Rattle.tap_world.proofs.Remarks.{awaits_three, remarked_kept, seen_told, told_added, told_short, told_stopped}
use Rattle.tap_world.proofs.Worlds.{kept_of, ready_of}
use Rattle.tap_engine.proofs.HeadlineOfWorld.{kept_headline}
use Rattle.tap_world.proofs.world.World.remark.Goals as goal

pub invariant_of-self : goal.invariant_of-self
invariant_of-self c =
    let w = c.self.inside in
    let may = rw (← c.self.view_is) at c.requires.goes_on in
    let ready = ready_of w.engine w.refused w.stopped c.self.invariant may c.if-self.false in
    let after = c.remark.new.self in
    let same = c.remark.ensures.same in
    subst (λ r. AreKept after r true) (sym may.noted)
    (kept_short w.engine after ready (ap (λ (q : Engine). q.settings) same) (ap (λ (q : Engine). q.frames) same) c.remark.ensures.log
    (all_still w.engine.overlay after.overlay (ap (λ (q : Engine). q.overlay) same)))

pub invariant_of-self-in_default : goal.invariant_of-self-in_default
invariant_of-self-in_default c =
    let w = c.self.inside in
    let may = rw (← c.self.view_is) at c.requires.goes_on in
    let ready = ready_of w.engine w.refused w.stopped c.self.invariant may c.if-self.false in
    kept_of c.remark.new.self w.refused w.stopped may.noted c.if-self.false
    (remarked_kept w.engine c.remark.new.self ready c.args.item c.remark.ensures.same c.remark.ensures.log c.in_default.ensures.ok
    c.remark.ensures.room)

pub returns-then-self-clause-headline : goal.returns-then-self-clause-headline
returns-then-self-clause-headline c =
    let w = c.self.inside in
    subst WorldHasHeadline c.self.view_is
    (kept_headline w.engine w.refused w.stopped c.self.invariant)

pub returns-in-Err-clause-headline : goal.returns-in-Err-clause-headline
returns-in-Err-clause-headline c =
    let w = c.self.inside in
    let may = rw (← c.self.view_is) at c.requires.goes_on in
    let ready = ready_of w.engine w.refused w.stopped c.self.invariant may c.if-self.false in
    let after = c.remark.new.self in
    let same = c.remark.ensures.same in
    kept_headline after None true
    (kept_short w.engine after ready (ap (λ (q : Engine). q.settings) same) (ap (λ (q : Engine). q.frames) same) c.remark.ensures.log
    (all_still w.engine.overlay after.overlay (ap (λ (q : Engine). q.overlay) same)))

pub returns-clause-headline : goal.returns-clause-headline
returns-clause-headline c =
    let w = c.self.inside in
    let may = rw (← c.self.view_is) at c.requires.goes_on in
    let ready = ready_of w.engine w.refused w.stopped c.self.invariant may c.if-self.false in
    kept_headline c.remark.new.self None false
    (remarked_kept w.engine c.remark.new.self ready c.args.item c.remark.ensures.same c.remark.ensures.log c.in_default.ensures.ok
    c.remark.ensures.room)

pub returns-then-self-clause-remarks : goal.returns-then-self-clause-remarks
returns-then-self-clause-remarks c =
    told_stopped c.args.item c.args.self.now (ap (λ (v : WorldValue). v.stopped) (sym c.self.view_is) ∙ c.if-self.true)

pub returns-in-Err-clause-remarks : goal.returns-in-Err-clause-remarks
returns-in-Err-clause-remarks c =
    let w = c.self.inside in
    let v = c.args.self.now in
    let after = world_value c.remark.new.self w.refused true in
    subst (λ s. Remarks c.args.item v (Err s) after) (sym c.from.ensures)
    (told_short c.args.item v after (ap (λ (x : WorldValue). x.stopped) (sym c.self.view_is) ∙ c.if-self.false)
    (ap (λ (q : Engine). world_value q w.refused true) c.in-Err.ensures.err ∙ ap (λ (x : WorldValue). record x { stopped = true }) c.self.view_is))

pub returns-clause-remarks : goal.returns-clause-remarks
returns-clause-remarks c =
    let w = c.self.inside in
    let item = c.args.item in
    let v = c.args.self.now in
    told_added item v (world_value c.remark.new.self w.refused w.stopped) (ap (λ (x : WorldValue). x.stopped) (sym c.self.view_is) ∙ c.if-self.false)
    (seen_told w.engine c.remark.new.self item w.refused w.stopped c.remark.ensures.same c.remark.ensures.log c.in_default.ensures.ok
    ∙ ap (λ (x : WorldValue). record x { added = x.added ++ remark_after x.log item ∷ [] }) c.self.view_is)

pub returns-in-Err-clause-roots : goal.returns-in-Err-clause-roots
returns-in-Err-clause-roots c = λ tells awaits.
    let w = c.self.inside in
    let may = rw (← c.self.view_is) at c.requires.goes_on in
    let ready = ready_of w.engine w.refused w.stopped c.self.invariant may c.if-self.false in
    let was = (ready.kept.go_on refl).room ready.unfinished in
    let three = awaits_three w.engine.ledger.records w.engine.ledger.added
    (ap (λ (x : WorldValue). awaits_roots x.log x.added) c.self.view_is ∙ awaits) in
    absurd (false≢true (c.in-Err.ensures.roots tells (omega (arith, was, three))))
