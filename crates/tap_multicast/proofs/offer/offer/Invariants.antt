use Rattle.std.proofs.Common.{◌≡◌, ◌++◌}
use Rattle.tap_table.specs.ByName.{by_name}
use Rattle.tap_table.proofs.Stepping.{in_ranges}
use Rattle.tap_multicast.specs.Offer.{is_offered, offered_as}
use Rattle.tap_multicast.specs.Slots.{offered_in}
use Rattle.tap_multicast.proofs.Picked.{picked}
use Rattle.tap_multicast.proofs.offer.offer.Given as goal

abbrev pub invariant-loop-i : goal.invariant-loop-i
invariant-loop-i l =
    l.offer.items ++ in_ranges (offered_in l.table l.watch l.cover.joiner) l.table.settings l.table.owner l.i
    ≡ picked offered_as (is_offered l.table l.watch l.cover.joiner) (by_name l.table)
