use Rattle.std.proofs.Common.{◌≡◌, true, is_some, sym, ◌∙◌}
use Rattle.tap_multicast.proofs.Answering.{has_slot-is}
use Rattle.tap_multicast.proofs.offer.is_watched.Goals as goal

pub returns-then-is_some : goal.returns-then-is_some
returns-then-is_some c =
    let some : is_some c.args.primary.now ≡ true = sym c.is_some.ensures ∙ c.if-is_some.true in
    rw some (has_slot-is c.args.watch.now c.args.slot c.has.result c.has.ensures)
