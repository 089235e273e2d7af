use Rattle.std.proofs.Common.{◌≤◌, length, arith}
use Rattle.tap_pointer.specs.Pointers.{pair_of, pointer_at}
use Rattle.tap_pointer.proofs.Laws.{are-lay_applied}
use Rattle.tap_node_common.proofs.Lays.{lays-reconciled}
use Rattle.tap_node_common.proofs.Pairs.{hops-lay_applied, named-lay_applied}
use Rattle.tap_node_common.specs.Pointing.{lay_taken}
use Rattle.tap_node_common.proofs.pointing.take_lay.Goals as goal

pub send_lays-requires-clause-lays : goal.send_lays-requires-clause-lays
send_lays-requires-clause-lays c =
    let t = c.args.table.now in
    let pointers = c.args.pointers.now in
    let lay = c.args.lay.now in
    let pair = pair_of lay.object lay.server in
    let pointer = pointer_at lay.level lay.on in
    let most : lay.level ≤ length lay.object = omega (arith, c.requires.level.1, c.requires.object.len) in
    let are = are-lay_applied pointers c.owner-owner.ensures.valid pair lay.from lay.version pointer c.requires.level.0 most in
    rw (c.in_ok-lays.ensures.answer, c.of.ensures.value)
    (lays-reconciled t c.args.stamp.now (lay_taken pointers lay) c.of.ensures.table are
    (named-lay_applied t.settings pointers pair lay.from lay.version pointer (c.requires.object, c.requires.server) c.requires.names)
    (hops-lay_applied t.settings pointers pair lay.from lay.version pointer c.requires.hops))
