use Rattle.std.proofs.Common.{take}
use Rattle.std.specs.List.Sorted.{IsSorted}
use Rattle.std.specs.Map.{keys_of}
use Rattle.tap_name.specs.Order.{name_cmp}
use Rattle.tap_overlay.proofs.AtRest.{AreMade}
use Rattle.tap_overlay.proofs.overlay.members_at_rest.Given as goal

abbrev pub invariant-loop-member : goal.invariant-loop-member
invariant-loop-member l = record {
  made : AreMade l.settings l.members (take l.member-index l.members) l.nodes.entries;
  ascending : IsSorted name_cmp (keys_of l.nodes.entries);
}
