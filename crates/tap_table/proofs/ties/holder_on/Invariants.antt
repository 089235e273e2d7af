use Rattle.tap_table.proofs.Holders.{IsRest}
use Rattle.tap_table.proofs.ties.holder_on.Given as goal

abbrev pub invariant-loop-holder : goal.invariant-loop-holder
invariant-loop-holder l = IsRest l.holders l.i l.holder-index l.left
