use Rattle.std.proofs.Common.{◌≡◌, take}
use Rattle.tap_table.specs.Members.{holders_at_rest}
use Rattle.tap_table.proofs.rest.holders_over.Given as goal

abbrev pub invariant-loop-member : goal.invariant-loop-member
invariant-loop-member l = l.holders ≡ holders_at_rest l.settings l.owner l.names (take l.member-index l.names)
