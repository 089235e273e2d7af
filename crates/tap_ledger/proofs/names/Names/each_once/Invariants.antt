use Rattle.std.proofs.Common.{◌≡◌, [], take}
use Rattle.std.specs.Prelude.{fold}
use Rattle.tap_history.specs.Names.{with_name}
use Rattle.tap_ledger.proofs.names.Names.each_once.Given as goal

abbrev pub invariant-loop-name : goal.invariant-loop-name
invariant-loop-name l = l.all ≡ record { names = fold with_name [] (take l.name-index l.names); room = 0 }
