use Rattle.std.proofs.Common.{◌<◌, rules, sym, subst, ◌∙◌}
use Rattle.tap_pointer.specs.Pointers.{PointersValue}
use Rattle.tap_pointer.specs.Reconcile.{AreLaid, AreLaidBeside}
use Rattle.tap_pointer.proofs.Laws.{laid_sends_nothing}
use Rattle.tap_pointer.proofs.Lowest.{laid_below}
use Rattle.tap_pointer.proofs.pointers.Pointers.reconcile_at.Goals as goal
use Rattle.tap_pointer.proofs.pointers.Pointers.reconcile_at.Goals.{After-from_vec}

-- no pair is held at the level or below it
are_laid : (c : After-from_vec) → AreLaid c.args.table.now c.args.self.now
are_laid c =
    let t = c.args.table.now in
    let inside : PointersValue = record { owner = c.self.inside.owner; pairs = c.self.inside.pairs.entries } in
    let below : c.args.level < c.self.inside.lowest = search rules in
    subst (AreLaid t) c.self.view_is
    (laid_below t c.args.level c.self.inside.lowest inside c.self.invariant.2 below
    (subst (AreLaidBeside t c.args.level) (sym c.self.view_is) c.requires.others))

pub returns-then-level-self-clause-answer : goal.returns-then-level-self-clause-answer
returns-then-level-self-clause-answer c =
    let laid = are_laid (goal.at.returns-then-level-self-clause-answer c).After-from_vec in
    c.from_vec.ensures ∙ c.new.ensures.items ∙ sym (laid_sends_nothing c.args.table.now c.args.stamp.now c.args.self.now laid).0

pub returns-then-level-self-clause-after : goal.returns-then-level-self-clause-after
returns-then-level-self-clause-after c =
    let laid = are_laid (goal.at.returns-then-level-self-clause-after c).After-from_vec in
    sym (laid_sends_nothing c.args.table.now c.args.stamp.now c.args.self.now laid).1

pub returns-then-level-self-clause-laid : goal.returns-then-level-self-clause-laid
returns-then-level-self-clause-laid c = are_laid (goal.at.returns-then-level-self-clause-laid c).After-from_vec
