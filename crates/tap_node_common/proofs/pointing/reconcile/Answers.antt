use Rattle.tap_node_common.proofs.Lays.{lays-reconciled}
use Rattle.tap_node_common.proofs.pointing.reconcile.Goals as goal

pub send_lays-requires-clause-lays : goal.send_lays-requires-clause-lays
send_lays-requires-clause-lays c =
    rw (c.in_ok-lays.ensures.answer, c.of.ensures.value)
    (lays-reconciled c.args.table.now c.args.stamp.now c.args.pointers.now c.of.ensures.table c.owner-owner.ensures.valid
    c.requires.names c.requires.hops)
