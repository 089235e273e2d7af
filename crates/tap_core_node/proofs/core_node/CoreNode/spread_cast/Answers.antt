use Rattle.std.proofs.Common.{◌+◌, arith}
use Rattle.tap_node_common.specs.declared.cast_fields.CastFields.{CastFields}
use Rattle.tap_node_common.specs.Sender.{sender_of}
use Rattle.tap_core_node.proofs.CastSteps.{casts_spelled}
use Rattle.tap_core_node.proofs.core_node.CoreNode.spread_cast.Goals as goal

pub send_casts-requires : goal.send_casts-requires
send_casts-requires c =
    let number = c.in_ok-session.ensures.number in
    let fields : CastFields = record {
      cast = c.args.copy.now.cast;
      session = c.in_ok-session.session;
      depth = c.args.copy.now.depth + 1;
      word = c.in_ok-letters.letters;
    } in
    rw c.sender-sender.ensures.value (casts_spelled (sender_of c.args.self.now.core.table)
    (rw c.sender-sender.ensures.value at c.sender-sender.ensures.name) fields c.args.targets.now (omega (arith, number))
    (rw c.in_ok-letters.ensures.value c.requires.word) c.requires.names c.requires.levels)
