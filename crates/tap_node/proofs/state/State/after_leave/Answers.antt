use Rattle.std.proofs.Common.{◌∙◌, ap}
use Rattle.tap_rule.specs.Leaving.{with_departure}
use Rattle.tap_node_common.specs.States.{core_state_of}
use Rattle.tap_core_node.specs.State.{core_state}
use Rattle.tap_leaving_node.specs.State.{leaving_state}
use Rattle.tap_node.proofs.ByStatus.{is_core}
use Rattle.tap_node.proofs.LastNumbers.{departs}
use Rattle.tap_node.proofs.state.State.after_leave.Goals as goal

pub finish-requires-clause-pairs : goal.finish-requires-clause-pairs
finish-requires-clause-pairs c =
    let was = c.in_ok-node.ensures.after ∙ ap (λ r. with_departure (core_state_of r.0 r.1)) c.into_parts-core.ensures in
    let sound = rw c.in-Core.is at c.requires.sound in
    let room = rw c.in-Core.is at c.requires.room in
    (departs (core_state c.in-Core.node) (leaving_state c.in_ok-node.node) was sound room).pairs

pub finish-requires-clause-hops : goal.finish-requires-clause-hops
finish-requires-clause-hops c =
    let was = c.in_ok-node.ensures.after ∙ ap (λ r. with_departure (core_state_of r.0 r.1)) c.into_parts-core.ensures in
    let sound = rw c.in-Core.is at c.requires.sound in
    let room = rw c.in-Core.is at c.requires.room in
    (departs (core_state c.in-Core.node) (leaving_state c.in_ok-node.node) was sound room).hops

pub finish-requires-clause-numbers : goal.finish-requires-clause-numbers
finish-requires-clause-numbers c =
    let was = c.in_ok-node.ensures.after ∙ ap (λ r. with_departure (core_state_of r.0 r.1)) c.into_parts-core.ensures in
    let sound = rw c.in-Core.is at c.requires.sound in
    let room = rw c.in-Core.is at c.requires.room in
    (departs (core_state c.in-Core.node) (leaving_state c.in_ok-node.node) was sound room).last

pub send_notices-requires-clause-pairs : goal.send_notices-requires-clause-pairs
send_notices-requires-clause-pairs c =
    let was = c.in_ok-node.ensures.after ∙ ap (λ r. with_departure (core_state_of r.0 r.1)) c.into_parts-core.ensures in
    let sound = rw c.in-Core.is at c.requires.sound in
    let room = rw c.in-Core.is at c.requires.room in
    (departs (core_state c.in-Core.node) (leaving_state c.in_ok-node.node) was sound room).pairs

pub send_notices-requires-clause-hops : goal.send_notices-requires-clause-hops
send_notices-requires-clause-hops c =
    let was = c.in_ok-node.ensures.after ∙ ap (λ r. with_departure (core_state_of r.0 r.1)) c.into_parts-core.ensures in
    let sound = rw c.in-Core.is at c.requires.sound in
    let room = rw c.in-Core.is at c.requires.room in
    (departs (core_state c.in-Core.node) (leaving_state c.in_ok-node.node) was sound room).hops

pub send_notices-requires-clause-numbers : goal.send_notices-requires-clause-numbers
send_notices-requires-clause-numbers c =
    let was = c.in_ok-node.ensures.after ∙ ap (λ r. with_departure (core_state_of r.0 r.1)) c.into_parts-core.ensures in
    let sound = rw c.in-Core.is at c.requires.sound in
    let room = rw c.in-Core.is at c.requires.room in
    (departs (core_state c.in-Core.node) (leaving_state c.in_ok-node.node) was sound room).notices

pub unreachable-requires : goal.unreachable-requires
unreachable-requires c = is_core c.args.sender.now.settings c.args.sender.now.name c.args.self c.requires.at c.in_default.not-Core
