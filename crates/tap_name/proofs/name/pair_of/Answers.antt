use Rattle.tap_name.proofs.Halves.{product_joins}
use Rattle.tap_name.proofs.name.pair_of.Goals as goal

pub returns : goal.returns
returns c =
    rw (c.from.ensures, c.from-2.ensures) (product_joins c.args.first c.args.second c.requires.first c.requires.second)
