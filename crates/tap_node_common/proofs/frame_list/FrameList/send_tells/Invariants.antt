use Rattle.std.proofs.Common.{◌≡◌, ◌++◌, drop, map}
use Rattle.tap_rule.specs.Sending.{message_frame}
use Rattle.tap_node_common.specs.Spellings.{HaveSpellings, spelled}
use Rattle.tap_node_common.specs.Targets.{tell_to}
use Rattle.tap_node_common.proofs.frame_list.FrameList.send_tells.Given as goal

abbrev pub invariant-loop-target : goal.invariant-loop-target
invariant-loop-target l = record {
  sent : l.self ++ spelled l.settings (map (message_frame l.from) (map (tell_to l.fields l.watch) (drop l.target-index l.target-items)))
      ≡ l.fn.self ++ spelled l.settings (map (message_frame l.from) (map (tell_to l.fields l.watch) l.targets));
  left : HaveSpellings l.settings
      (map (message_frame l.from) (map (tell_to l.fields l.watch) (drop l.target-index l.target-items)));
}
