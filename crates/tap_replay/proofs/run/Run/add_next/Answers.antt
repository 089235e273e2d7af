use Rattle.std.proofs.Common.{refl, ap, sym, ◌∙◌}
use Rattle.tap_lawful.specs.Due.{chosen_in, place_by}
use Rattle.tap_replay.proofs.Adding.{frame_adds}
use Rattle.tap_replay.proofs.Running.{may_go_on}
use Rattle.tap_replay.proofs.run.Run.add_next.Goals as goal

pub deliver-requires : goal.deliver-requires
deliver-requires c = may_go_on c.args.scenario.now c.requires.run.valid c.args.self.now.world c.requires.run.goes_on

pub returns-in-Some : goal.returns-in-Some
returns-in-Some c =
    let chosen = chosen_in c.args.self.now.world.log in
    let choice = c.requires.run.choice in
    frame_adds c.args.scenario.now c.args.self.now _ c.requires.run c.log.ensures.within c.in-Some.place
    (ap (place_by chosen) (sym c.outstanding.ensures) ∙ sym (c.in-Some.ensures.place chosen choice)) c.deliver.result refl
    (c.in-Some.ensures.next chosen choice) c.deliver.ensures.answers
