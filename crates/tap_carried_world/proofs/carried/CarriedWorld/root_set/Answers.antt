use Rattle.std.proofs.Common.{sym, subst}
use Rattle.tap_scenario.specs.declared.step.Step.TheVariants.{RootSet}
use Rattle.tap_root_sets.specs.AskedRoots.{AnswersRootSet, MayAsk}
use Rattle.tap_carried_world.specs.Comes.{BeginsNext}
use Rattle.tap_carried_world.proofs.CarriedRunLaws.{laws}
use Rattle.tap_carried_world.proofs.RootSets.{is_salted_so, may_ask, root_set_adds}
use Rattle.tap_carried_world.proofs.Seen.{adds_seen, carries_both, plain_of, seen}
use Rattle.tap_carried_world.proofs.Worlds.{may_begin, may_go_on}
use Rattle.tap_carried_world.proofs.carried.CarriedWorld.root_set.Goals as goal

pub root_set-requires-clause-may : goal.root_set-requires-clause-may
root_set-requires-clause-may c =
    let s = c.args.scenario.now in
    let w = c.self.inside.world in
    let d = c.self.inside.carrier in
    let of = carries_both w d c.args.self.now c.self.view_is s c.requires.carries in
    let plain = plain_of w c.log.result.now.records c.log.ensures.records c.log.ensures.reduced in
    subst (λ p. MayAsk p w) (sym c.settings.ensures.value) (may_ask laws s w d of plain)

pub root_set-requires-clause-goes_on : goal.root_set-requires-clause-goes_on
root_set-requires-clause-goes_on c =
    let s = c.args.scenario.now in
    let w = c.self.inside.world in
    let d = c.self.inside.carrier in
    let of = carries_both w d c.args.self.now c.self.view_is s c.requires.carries in
    let plain = plain_of w c.log.result.now.records c.log.ensures.records c.log.ensures.reduced in
    may_go_on laws s of.script w of.goes_on plain

pub root_set-requires-clause-next : goal.root_set-requires-clause-next
root_set-requires-clause-next c =
    let s = c.args.scenario.now in
    let w = c.self.inside.world in
    let d = c.self.inside.carrier in
    let of = carries_both w d c.args.self.now c.self.view_is s c.requires.carries in
    let plain = plain_of w c.log.result.now.records c.log.ensures.records c.log.ensures.reduced in
    let step = RootSet c.args.object c.args.asker in
    let next = seen w d c.args.self.now c.self.view_is (λ x. BeginsNext s x.world c.args.index step) c.requires.next in
    may_begin laws s of.script w of.goes_on plain c.args.index step next.step_is next.index_is

pub root_set-requires-clause-salted : goal.root_set-requires-clause-salted
root_set-requires-clause-salted c =
    let s = c.args.scenario.now in
    let w = c.self.inside.world in
    let d = c.self.inside.carrier in
    let of = carries_both w d c.args.self.now c.self.view_is s c.requires.carries in
    let step = RootSet c.args.object c.args.asker in
    let next = seen w d c.args.self.now c.self.view_is (λ x. BeginsNext s x.world c.args.index step) c.requires.next in
    rw c.settings.ensures.value (is_salted_so laws s w d of c.args.index c.args.object c.args.asker next)

pub returns : goal.returns
returns c =
    let s = c.args.scenario.now in
    let w = c.self.inside.world in
    let d = c.self.inside.carrier in
    let of = carries_both w d c.args.self.now c.self.view_is s c.requires.carries in
    let step = RootSet c.args.object c.args.asker in
    let next = seen w d c.args.self.now c.self.view_is (λ x. BeginsNext s x.world c.args.index step) c.requires.next in
    adds_seen w d c.args.self.now c.self.view_is s c.root_set.result c.root_set.new.world c.begin.new.self
    (root_set_adds laws s w d of c.args.index c.args.object c.args.asker next c.root_set.result c.root_set.new.world c.begin.new.self c.begin.ensures
    (subst (λ p. AnswersRootSet p c.args.index c.args.object c.args.asker w c.root_set.result c.root_set.new.world) c.settings.ensures.value
    c.root_set.ensures))
