use Rattle.std.proofs.Common.{◌≡◌, [], take}
use Rattle.std.specs.List.{filter_map}
use Rattle.tap_log.specs.Frames.{sent_bytes}
use Rattle.tap_log.proofs.frames.bytes_of.Given as goal

abbrev pub invariant-loop-item : goal.invariant-loop-item
invariant-loop-item l = filter_map (sent_bytes l.number) (take l.item-index l.records) ≡ []
