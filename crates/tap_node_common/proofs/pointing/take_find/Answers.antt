use Rattle.std.proofs.Common.{[], ◌∷◌, ◌++◌, None, Some, arith, sym, ap, ◌∙◌}
use Rattle.std.proofs.lemmas.Result.{on_ok_weaker}
use Rattle.tap_wire.specs.declared.frame.Body.TheVariants.{Answer, Find}
use Rattle.tap_rule.specs.Reaction.{message}
use Rattle.tap_node_common.specs.declared.sender.Sender.{Sender}
use Rattle.tap_node_common.specs.Sender.{message_bytes}
use Rattle.tap_node_common.proofs.Finds.{find_at_root, find_goes_on, find_served}
use Rattle.tap_node_common.proofs.Pairs.{server_named}
use Rattle.tap_node_common.proofs.pointing.take_find.Goals as goal

pub send-requires-clause-body : goal.send-requires-clause-body
send-requires-clause-body c =
    let find = c.args.find.now in
    rw c.of-sender.ensures.value
    (server_named c.args.table.now.settings find.object c.in-Some.server c.args.pointers.now c.requires.names
    (sym c.lookup.ensures ∙ c.in-Some.is))

pub returns-in-Some : goal.returns-in-Some
returns-in-Some c =
    let find = c.args.find.now in
    on_ok_weaker c.send.result
    (λ sent.
    find_served c.args.table.now c.args.pointers.now c.args.sent.now find.ticket find.object find.asker find.level c.send.new.sent
    c.in-Some.server (sym c.lookup.ensures ∙ c.in-Some.is)
    (sent ∙ ap (λ (s : Sender). c.args.sent.now ++ message_bytes s (message find.asker (Answer find.ticket (Some c.in-Some.server)) ∷ []))
    c.of-sender.ensures.value))
    c.send.ensures

pub send-requires-in-Hop-clause-to : goal.send-requires-in-Hop-clause-to
send-requires-in-Hop-clause-to c =
    rw c.of-sender.ensures.value (c.next_hop.ensures.node c.in-Hop.to c.in-Hop.level c.in-Hop.is).is_name

pub send-requires-in-Hop-clause-body : goal.send-requires-in-Hop-clause-body
send-requires-in-Hop-clause-body c =
    let hop = c.next_hop.ensures.node c.in-Hop.to c.in-Hop.level c.in-Hop.is in
    rw c.of-sender.ensures.value (c.requires.object, c.requires.asker, (omega (arith, hop.above), hop.within))

pub returns-in-Root : goal.returns-in-Root
returns-in-Root c =
    let find = c.args.find.now in
    on_ok_weaker c.send-in-Root.result
    (λ sent.
    find_at_root c.args.table.now c.args.pointers.now c.args.sent.now find.ticket find.object find.asker find.level c.send-in-Root.new.sent
    (sym c.lookup.ensures ∙ c.in_default.is) (sym c.next_hop.ensures.value ∙ c.in-Root.is)
    (sent ∙ ap (λ (s : Sender). c.args.sent.now ++ message_bytes s (message find.asker (Answer find.ticket None) ∷ []))
    c.of-sender.ensures.value))
    c.send-in-Root.ensures

pub returns-in-Hop : goal.returns-in-Hop
returns-in-Hop c =
    let find = c.args.find.now in
    on_ok_weaker c.send-in-Hop.result
    (λ sent.
    find_goes_on c.args.table.now c.args.pointers.now c.args.sent.now find.ticket find.object find.asker find.level c.send-in-Hop.new.sent
    c.in-Hop.to c.in-Hop.level (sym c.lookup.ensures ∙ c.in_default.is) (sym c.next_hop.ensures.value ∙ c.in-Hop.is)
    (sent ∙ ap (λ (s : Sender). c.args.sent.now ++ message_bytes s
    (message c.in-Hop.to (Find find.ticket find.object find.asker c.in-Hop.level) ∷ [])) c.of-sender.ensures.value))
    c.send-in-Hop.ensures
