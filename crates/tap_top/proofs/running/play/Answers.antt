use Rattle.std.proofs.Common.{◌∙◌, ap}
use Rattle.tap_replay.specs.Player.{over_by}
use Rattle.tap_top.proofs.Left.{is_left}
use Rattle.tap_top.proofs.running.play.Goals as goal

pub loop-end-preserved : goal.loop-end-preserved
loop-end-preserved g c = record {
  played = c.turns_and_put.ensures.played;
  begun = c.turns_and_put.ensures.over ∙ ap over_by c.in_default.is;
  put = c.turns_and_put.ensures.put;
  settings = c.turns_and_put.ensures.settings;
  reports = λ mode first reports. c.turns_and_put.ensures.reports mode first (c.loop-end.invariant.reports mode first reports);
}

pub returns-in-Over-clause-left : goal.returns-in-Over-clause-left
returns-in-Over-clause-left g c =
    is_left c.args.scenario.now c.turns_and_put.new.player c.in-Over.end c.turns_and_put.ensures.played
    (c.turns_and_put.ensures.over ∙ ap over_by c.in-Over.is)

pub returns-in-Over-clause-reports : goal.returns-in-Over-clause-reports
returns-in-Over-clause-reports g c = λ mode first reports.
    c.turns_and_put.ensures.reports mode first (c.loop-end.invariant.reports mode first reports)
