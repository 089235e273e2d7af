use Rattle.tap_overlay.proofs.Joined.{has_joined, inserted_named, only_want}
use Rattle.tap_overlay.proofs.overlay.Overlay.join.Goals as goal

pub invariant_of-self-in-Ok : goal.invariant_of-self-in-Ok
invariant_of-self-in-Ok c =
    let call = c.insert_sorted.ensures in
    inserted_named c.self.inside.settings c.args.name c.args.via c.self.inside.nodes c.insert_sorted.new.self c.in_ok-node.node
    c.seek_by.new.self c.seek_by.result c.in-Ok.turn c.in_ok-node.ensures c.seek_by.ensures c.in-Ok.is c.insert_sorted.result call.updates
    call.sorted call.err c.self.invariant

pub returns-in_ok-insert_sorted-in-Ok-clause-joined : goal.returns-in_ok-insert_sorted-in-Ok-clause-joined
returns-in_ok-insert_sorted-in-Ok-clause-joined c =
    rw (← c.self.view_is)
    (has_joined c.self.inside.settings c.args.name c.args.via c.self.inside.nodes c.insert_sorted.new.self c.in_ok-node.node c.seek_by.new.self
    c.seek_by.result c.in-Ok.turn c.in_ok-node.ensures c.seek_by.ensures c.in-Ok.is c.in_ok-insert_sorted-in-Ok.ensures.updates)

pub invariant_of-self : goal.invariant_of-self
invariant_of-self c =
    let call = c.insert_sorted.ensures in
    inserted_named c.self.inside.settings c.args.name c.args.via c.self.inside.nodes c.insert_sorted.new.self c.in_ok-node.node
    c.seek_by.new.self c.seek_by.result c.in-Ok.turn c.in_ok-node.ensures c.seek_by.ensures c.in-Ok.is c.insert_sorted.result call.updates
    call.sorted call.err c.self.invariant

pub only_memory-requires : goal.only_memory-requires
only_memory-requires c =
    only_want c.self.inside.settings c.args.name c.args.via c.in_ok-node.node c.seek_by.new.self c.seek_by.result c.in_ok-node.ensures
    c.seek_by.ensures c.in-Err.fault c.in-Err.is
