use Rattle.std.proofs.Common.{take, drop}
use Rattle.std.specs.List.{flat_map}
use Rattle.tap_wire.specs.Spelling.{slot_bytes}
use Rattle.tap_wire.specs.Writing.{HasRoom, Puts}
use Rattle.tap_wire.proofs.writing.put_watch.Given as goal

abbrev pub invariant-loop-slot : goal.invariant-loop-slot
invariant-loop-slot l = record {
  so_far : Puts l.fn.out l.fn.at (flat_map slot_bytes (take l.slot-index l.slot-items)) l.out l.next;
  room : HasRoom l.out l.next (flat_map slot_bytes (drop l.slot-index l.slot-items));
}
