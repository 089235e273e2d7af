use Rattle.std.proofs.Common.{take, drop}
use Rattle.std.specs.List.{flat_map}
use Rattle.tap_wire.specs.Spelling.{link_bytes}
use Rattle.tap_wire.specs.Writing.{HasRoom, Puts}
use Rattle.tap_wire.proofs.writing.put_links.Given as goal

abbrev pub invariant-loop-link : goal.invariant-loop-link
invariant-loop-link l = record {
  so_far : Puts l.fn.out l.fn.at (flat_map link_bytes (take l.link-index l.link-items)) l.out l.next;
  room : HasRoom l.out l.next (flat_map link_bytes (drop l.link-index l.link-items));
}
