use Rattle.std.proofs.Common.{◌≡◌, ◌++◌, drop, map}
use Rattle.tap_rule.specs.Sending.{link_frame}
use Rattle.tap_node_common.specs.Spellings.{HaveSpellings, spelled}
use Rattle.tap_node_common.proofs.frame_list.FrameList.push_links.Given as goal

abbrev pub invariant-loop-word : goal.invariant-loop-word
invariant-loop-word l = record {
  sent : l.self ++ spelled l.settings (map (link_frame l.from) (drop l.word-index l.words))
      ≡ l.fn.self ++ spelled l.settings (map (link_frame l.from) l.words);
  left : HaveSpellings l.settings (map (link_frame l.from) (drop l.word-index l.words));
}
