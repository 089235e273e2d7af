use Rattle.tap_carried_world.specs.Comes.{TicksNext}
use Rattle.tap_carried_world.proofs.CarriedRunLaws.{laws}
use Rattle.tap_carried_world.proofs.Seen.{adds_seen, carries_both, plain_of, seen}
use Rattle.tap_carried_world.proofs.TickGroups.{tick_done, tick_keeps, tick_packets, tick_room}
use Rattle.tap_carried_world.proofs.Worlds.{may_go_on}
use Rattle.tap_carried_world.proofs.carried.CarriedWorld.tick.Goals as goal

pub tick-requires-clause-goes_on : goal.tick-requires-clause-goes_on
tick-requires-clause-goes_on c =
    let s = c.args.scenario.now in
    let w = c.self.inside.world in
    let d = c.self.inside.carrier in
    let of = carries_both w d c.args.self.now c.self.view_is s c.requires.carries in
    may_go_on laws s of.script w of.goes_on (plain_of w c.log.result.now.records c.log.ensures.records c.log.ensures.reduced)

pub tick-requires-clause-keeps : goal.tick-requires-clause-keeps
tick-requires-clause-keeps c =
    let s = c.args.scenario.now in
    let w = c.self.inside.world in
    let d = c.self.inside.carrier in
    let of = carries_both w d c.args.self.now c.self.view_is s c.requires.carries in
    tick_keeps laws s w d of

pub tick-requires-clause-packets : goal.tick-requires-clause-packets
tick-requires-clause-packets c =
    let s = c.args.scenario.now in
    let w = c.self.inside.world in
    let d = c.self.inside.carrier in
    let of = carries_both w d c.args.self.now c.self.view_is s c.requires.carries in
    tick_packets laws s w d of

pub tick-requires-clause-room : goal.tick-requires-clause-room
tick-requires-clause-room c =
    let s = c.args.scenario.now in
    let w = c.self.inside.world in
    let d = c.self.inside.carrier in
    let of = carries_both w d c.args.self.now c.self.view_is s c.requires.carries in
    tick_room laws s w d of

pub returns : goal.returns
returns c =
    let s = c.args.scenario.now in
    let w = c.self.inside.world in
    let d = c.self.inside.carrier in
    let of = carries_both w d c.args.self.now c.self.view_is s c.requires.carries in
    adds_seen w d c.args.self.now c.self.view_is s c.tick.result c.tick.new.world c.tick.new.self
    (tick_done laws s w d of (seen w d c.args.self.now c.self.view_is (λ x. TicksNext x.world) c.requires.next) c.tick.result c.tick.new.world
    c.tick.new.self c.tick.ensures)
