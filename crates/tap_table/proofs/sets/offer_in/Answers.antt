use Rattle.std.proofs.Common.{arith}
use Rattle.tap_table.proofs.Counted.{few_offered}
use Rattle.tap_table.proofs.sets.offer_in.Goals as goal

pub returns-then-len-lt-MOST_LINKS_OF_SLOT-clause-few : goal.returns-then-len-lt-MOST_LINKS_OF_SLOT-clause-few
returns-then-len-lt-MOST_LINKS_OF_SLOT-clause-few c =
    few_offered c.args.set.now c.offer.new.self c.args.target (omega (arith, c.len.ensures.count, c.if-len-lt-MOST_LINKS_OF_SLOT.true))
    c.in_ok-offer.ensures.after
