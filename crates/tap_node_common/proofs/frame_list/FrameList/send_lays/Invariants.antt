use Rattle.std.proofs.Common.{◌≡◌, ◌++◌, drop, map}
use Rattle.tap_rule.specs.Sending.{lay_frame}
use Rattle.tap_node_common.specs.Spellings.{HaveSpellings, spelled}
use Rattle.tap_node_common.proofs.frame_list.FrameList.send_lays.Given as goal

abbrev pub invariant-loop-lay : goal.invariant-loop-lay
invariant-loop-lay l = record {
  sent : l.self ++ spelled l.settings (map (lay_frame l.from) (drop l.lay-index l.lay-items))
      ≡ l.fn.self ++ spelled l.settings (map (lay_frame l.from) l.lays);
  left : HaveSpellings l.settings (map (lay_frame l.from) (drop l.lay-index l.lay-items));
}
