use Rattle.std.proofs.Common.{◌∙◌, ap, subst, sym}
use Rattle.tap_engine.specs.World.{HasNodesOfLog, WorldValue, whole_log}
use Rattle.tap_headline.specs.Runs.{HasHeadlineBy}
use Rattle.tap_lawful.specs.Runs.{IsLawful}
use Rattle.tap_replay.specs.Player.{over_by}
use Rattle.tap_replay.specs.Runs.{LeavesWorld}
use Rattle.tap_replay.proofs.ByCarrier.{IsRun, left_nodes}
use Rattle.tap_replay.proofs.whole.replay.Goals as goal

pub returns-in-Over-clause-left : goal.returns-in-Over-clause-left
returns-in-Over-clause-left c =
    let s = c.args.scenario.now in
    subst (LeavesWorld s c.in-Over.end) (sym c.into_world.ensures)
    (subst (λ over. IsRun s.carrier over s c.turn.new.self.world) (c.turn.ensures.over ∙ ap over_by c.in-Over.is) c.turn.ensures.played)

pub returns-in-Over-clause-nodes : goal.returns-in-Over-clause-nodes
returns-in-Over-clause-nodes c = λ done.
    let s = c.args.scenario.now in
    let w = c.turn.new.self.world in
    subst HasNodesOfLog (sym c.into_world.ensures)
    (left_nodes s.carrier s c.in-Over.end w
    (subst (λ over. IsRun s.carrier over s w) (c.turn.ensures.over ∙ ap over_by c.in-Over.is) c.turn.ensures.played) done)

pub returns-in-Over-clause-lawful : goal.returns-in-Over-clause-lawful
returns-in-Over-clause-lawful c = subst (λ (w : WorldValue). IsLawful (whole_log w)) (sym c.into_world.ensures) c.turn.ensures.lawful

pub returns-in-Over-clause-headline : goal.returns-in-Over-clause-headline
returns-in-Over-clause-headline c =
    subst (λ (w : WorldValue). HasHeadlineBy c.args.scenario.now (whole_log w)) (sym c.into_world.ensures) c.turn.ensures.headline
