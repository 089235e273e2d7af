use Rattle.std.proofs.Common.{◌≡◌, rules}
use Rattle.std.specs.Map.{keys_of}
use Rattle.tap_scenario.proofs.Keys.{known_keys}
use Rattle.tap_scenario.proofs.document.has_known_keys.Goals as goal

pub loop-key-init : goal.loop-key-init
loop-key-init c =
    let start : c.into_iter-key-iterator.result ≡ keys_of c.args.table.now.entries = search rules in
    rw start (known_keys c.args.table.now.entries)
