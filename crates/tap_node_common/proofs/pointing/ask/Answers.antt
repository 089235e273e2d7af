use Rattle.std.proofs.Common.{◌≡◌, [], ◌∷◌, ◌++◌, arith, sym, ◌∙◌}
use Rattle.tap_wire.specs.declared.frame.Body.TheVariants.{Find}
use Rattle.tap_rule.specs.Reaction.{message}
use Rattle.tap_node_common.specs.Sender.{message_bytes}
use Rattle.tap_node_common.proofs.Finds.{ask_at_root, ask_goes_on, ask_served}
use Rattle.tap_node_common.proofs.pointing.ask.Goals as goal

pub returns-in-Some : goal.returns-in-Some
returns-in-Some c =
    ask_served c.args.table.now c.args.pointers.now c.args.sent.now c.args.ticket c.args.object c.in-Some.server
    (sym c.lookup.ensures ∙ c.in-Some.is)

pub send-requires-clause-to : goal.send-requires-clause-to
send-requires-clause-to c =
    rw c.of.ensures.value (c.next_hop.ensures.node c.in-Hop.to c.in-Hop.level c.in-Hop.is).is_name

pub send-requires-clause-body : goal.send-requires-clause-body
send-requires-clause-body c =
    let hop = c.next_hop.ensures.node c.in-Hop.to c.in-Hop.level c.in-Hop.is in
    rw (c.of.ensures.value, c.owner.ensures.value) (c.requires.object, c.owner.ensures.valid.owner, (omega (arith, hop.above), hop.within))

pub returns-in-Root : goal.returns-in-Root
returns-in-Root c =
    ask_at_root c.args.table.now c.args.pointers.now c.args.sent.now c.args.ticket c.args.object (sym c.lookup.ensures ∙ c.in_default.is)
    (sym c.next_hop.ensures.value ∙ c.in-Root.is)

pub returns-in_ok-send-in-Hop : goal.returns-in_ok-send-in-Hop
returns-in_ok-send-in-Hop c =
    let frames : c.send.new.sent ≡ c.args.sent.now ++ message_bytes c.of.result
    (message c.in-Hop.to (Find c.args.ticket c.args.object c.owner.result c.in-Hop.level) ∷ []) = c.in_ok-send-in-Hop.ensures in
    ask_goes_on c.args.table.now c.args.pointers.now c.args.sent.now c.args.ticket c.args.object c.in-Hop.to c.in-Hop.level c.send.new.sent
    (sym c.lookup.ensures ∙ c.in_default.is) (sym c.next_hop.ensures.value ∙ c.in-Hop.is)
    (rw (c.of.ensures.value, c.owner.ensures.value) at frames)
