use Rattle.std.proofs.Common.{◌≡◌, None, ap, sym, subst, ◌∙◌}
use Rattle.tap_engine.specs.Outcome.{WorldAnswersAs, finish_outcome}
use Rattle.tap_engine.proofs.WholeLogs.{finish_added}
use Rattle.tap_engine.specs.World.{whole_log}
use Rattle.tap_lawful.specs.CarriedNext.{carried_next_group}
use Rattle.tap_lawful.specs.CarriedRuns.{IsCarriedFinished}
use Rattle.tap_lawful.specs.Next.{begun_count}
use Rattle.tap_carried_world.proofs.Beginning.{all_begun, finish_answers, finished_log}
use Rattle.tap_carried_world.proofs.CarriedRunLaws.{laws}
use Rattle.tap_carried_world.proofs.Seen.{carries_both, plain_of, seen, world_is}
use Rattle.tap_carried_world.proofs.Worlds.{may_go_on}
use Rattle.tap_carried_world.proofs.carried.CarriedWorld.finish.Goals as goal

pub finish-requires-clause-goes_on : goal.finish-requires-clause-goes_on
finish-requires-clause-goes_on c =
    let s = c.args.scenario.now in
    let w = c.self.inside.world in
    let of = carries_both w c.self.inside.carrier c.args.self.now c.self.view_is s c.requires.carries in
    may_go_on laws s of.script w of.goes_on (plain_of w c.log.result.now.records c.log.ensures.records c.log.ensures.reduced)

pub finish-requires-clause-all : goal.finish-requires-clause-all
finish-requires-clause-all c =
    let s = c.args.scenario.now in
    let w = c.self.inside.world in
    let of = carries_both w c.self.inside.carrier c.args.self.now c.self.view_is s c.requires.carries in
    let count = c.requires.count ∙ ap (λ v. begun_count (whole_log v)) (sym (world_is w c.self.inside.carrier c.args.self.now c.self.view_is)) in
    all_begun laws s w c.self.inside.carrier of c.args.steps count
    (plain_of w c.log.result.now.records c.log.ensures.records c.log.ensures.reduced)

pub returns-clause-log : goal.returns-clause-log
returns-clause-log c =
    let s = c.args.scenario.now in
    let w = c.self.inside.world in
    let v = c.finish.new.self in
    let d = c.self.inside.carrier in
    let same = world_is w d c.args.self.now c.self.view_is in
    let of = carries_both w d c.args.self.now c.self.view_is s c.requires.carries in
    let count = c.requires.count ∙ ap (λ x. begun_count (whole_log x)) (sym same) in
    let none = seen w d c.args.self.now c.self.view_is (λ x. carried_next_group s (whole_log x.world) ≡ None) c.requires.none in
    let answered = finish_answers laws s w d of c.args.steps count c.finish.result v c.finish.ensures.answers c.finish.ensures.memory in
    subst (λ x. IsCarriedFinished s (whole_log x) (whole_log v)) same
    (finished_log laws s w d of c.args.steps count none v
    (finish_added w v c.log.ensures.within c.args.steps
    (subst (λ r. WorldAnswersAs (finish_outcome w c.args.steps) w r v) answered c.finish.ensures.answers)))
