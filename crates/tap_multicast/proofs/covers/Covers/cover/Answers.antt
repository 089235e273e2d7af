use Rattle.tap_multicast.proofs.Regions.{joiner_is_name, prefix_within}
use Rattle.tap_multicast.proofs.covers.Covers.cover.Goals as goal

pub left_watch-requires-clause-joiner : goal.left_watch-requires-clause-joiner
left_watch-requires-clause-joiner c =
    joiner_is_name c.args.table.now c.settings.ensures.valid c.args.watch.now c.args.joiner c.args.prefix c.args.level c.requires

pub left_watch-requires-clause-prefix : goal.left_watch-requires-clause-prefix
left_watch-requires-clause-prefix c =
    prefix_within c.args.table.now c.settings.ensures.valid c.args.watch.now c.args.joiner c.args.prefix c.args.level c.requires
