use Rattle.std.proofs.Common.{◌≡◌, take}
use Rattle.tap_ledger.proofs.names.Names.of.Given as goal

abbrev pub invariant-loop-name : goal.invariant-loop-name
invariant-loop-name l = l.all ≡ record { names = take l.name-index l.names; room = 0 }
