use Rattle.std.proofs.Common.{◌∙◌, ap}
use Rattle.tap_replay.specs.Player.{over_by}
use Rattle.tap_judge.proofs.printed.play_on.Goals as goal

pub loop-text-preserved : goal.loop-text-preserved
loop-text-preserved c = record {
  played = c.turns_and_put.ensures.played;
  begun = c.turns_and_put.ensures.over ∙ ap over_by c.in-More.is;
  put = c.turns_and_put.ensures.put;
  settings = c.turns_and_put.ensures.settings;
  reports = λ mode first reports. c.turns_and_put.ensures.reports mode first (c.loop-text.invariant.reports mode first reports);
}
