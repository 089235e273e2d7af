use Rattle.std.proofs.Common.{◌≡◌, ◌≤◌, ◌+◌, drop}
use Rattle.tap_log.specs.Counts.{resent_count, resent_from}
use Rattle.tap_log.proofs.counts.resent_count.Given as goal

abbrev pub invariant-loop-item : goal.invariant-loop-item
invariant-loop-item l = (l.count + resent_from l.resends (drop l.item-index l.records) ≡ resent_count l.records) × (l.count ≤ l.item-index)
