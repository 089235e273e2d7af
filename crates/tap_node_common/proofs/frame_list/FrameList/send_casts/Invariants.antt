use Rattle.std.proofs.Common.{◌≡◌, ℕ, ◌++◌, drop, map}
use Rattle.tap_wire.specs.declared.frame.Body.TheVariants.{Cast}
use Rattle.tap_rule.specs.Sending.{message_frame}
use Rattle.tap_node_common.specs.Spellings.{HaveSpellings, spelled}
use Rattle.tap_node_common.specs.Targets.{cast_to}
use Rattle.tap_node_common.proofs.frame_list.FrameList.send_casts.Given as goal

abbrev pub invariant-loop-target : goal.invariant-loop-target
invariant-loop-target l = record {
  sender : l.frame.from ≡ l.from;
  body : (level : ℕ) × (l.frame.body ≡ Cast l.fn.fields.cast level l.fn.fields.session l.fn.fields.depth l.fn.fields.word);
  sent : l.self ++ spelled l.settings (map (message_frame l.from) (map (cast_to l.fn.fields) (drop l.target-index l.target-items)))
      ≡ l.fn.self ++ spelled l.settings (map (message_frame l.from) (map (cast_to l.fn.fields) l.targets));
  left : HaveSpellings l.settings (map (message_frame l.from) (map (cast_to l.fn.fields) (drop l.target-index l.target-items)));
}
