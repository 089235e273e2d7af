use Rattle.std.proofs.Common.{◌≡◌, map, take}
use Rattle.tap_depart.specs.Leaving.{notice_for}
use Rattle.tap_depart.proofs.leaving.notices_for.Given as goal

abbrev pub invariant-loop-holder : goal.invariant-loop-holder
invariant-loop-holder l = l.notices.items ≡ map (notice_for l.table) (take l.holder-index l.holders)
