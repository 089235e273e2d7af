use Rattle.std.proofs.Common.{◌≡◌, Err, ap, sym, subst, ◌∙◌}
use Rattle.std.proofs.lemmas.Result.{err_from_is_err_and}
use Rattle.tap_engine.specs.declared.stop.Stop.TheVariants.{NoMemory}
use Rattle.tap_carry.specs.declared.net.Packet.{Packet}
use Rattle.tap_engine.specs.World.{whole_log}
use Rattle.tap_carrier.specs.Sending.{HasDropped}
use Rattle.tap_carried_world.specs.Adds.{AddsNext, HasAdded}
use Rattle.tap_carried_world.specs.Comes.{ArrivesNext}
use Rattle.tap_carried_world.specs.Taking.{CanTake, HasTaken, IsToTake, TakesFrame}
use Rattle.tap_carried_world.proofs.CarriedRunLaws.{laws}
use Rattle.tap_carried_world.proofs.PacketArrivals.{ack_adds, ack_counts, again_adds, again_room, arrive_stops, arrived_goes, first_is, is_numbered, new_lacks, still_goes}
use Rattle.tap_carried_world.proofs.PacketPlaces.{in_net, place_in_net}
use Rattle.tap_carried_world.proofs.Seen.{adds_seen, carries_both, plain_of, seen, world_is}
use Rattle.tap_carried_world.proofs.TakenArrivals.{can_take, is_to_take, last_adds, last_room, take_stops}
use Rattle.tap_carried_world.proofs.Worlds.{may_go_on}
use Rattle.tap_carried_world.proofs.carried.CarriedWorld.arrive.Goals as goal

pub arrive-requires-clause-goes_on : goal.arrive-requires-clause-goes_on
arrive-requires-clause-goes_on c =
    let s = c.args.scenario.now in
    let w = c.self.inside.world in
    let d = c.self.inside.carrier in
    let of = carries_both w d c.args.self.now c.self.view_is s c.requires.carries in
    let plain = plain_of w c.log.result.now.records c.log.ensures.records c.log.ensures.reduced in
    may_go_on laws s of.script w of.goes_on plain

pub arrive-requires-clause-there : goal.arrive-requires-clause-there
arrive-requires-clause-there c =
    let s = c.args.scenario.now in
    let w = c.self.inside.world in
    let d = c.self.inside.carrier in
    let of = carries_both w d c.args.self.now c.self.view_is s c.requires.carries in
    let next = seen w d c.args.self.now c.self.view_is (λ x. ArrivesNext x.world c.args.place) c.requires.next in
    let net = in_net s.settings (whole_log w) d.boxes.net of.keeps.boxes.net c.args.place next.line next.there in
    place_in_net s.settings (whole_log w) d.boxes.net of.keeps.boxes.net c.args.place next.line next.there

pub returns-in_err-packet : goal.returns-in_err-packet
returns-in_err-packet c =
    let s = c.args.scenario.now in
    let w = c.self.inside.world in
    let d = c.self.inside.carrier in
    let of = carries_both w d c.args.self.now c.self.view_is s c.requires.carries in
    let next = seen w d c.args.self.now c.self.view_is (λ x. ArrivesNext x.world c.args.place) c.requires.next in
    let net = in_net s.settings (whole_log w) d.boxes.net of.keeps.boxes.net c.args.place next.line next.there in
    let stop = c.in_err-packet.field-0.0 in
    let made = err_from_is_err_and c.from_residual.result c.from_residual.ensures.1 in
    let given : c.from_residual.result ≡ Err stop = made.1 ∙ ap Err made.2 in
    adds_seen w d c.args.self.now c.self.view_is s c.from_residual.result c.arrive.new.world c.arrive.new.self
    (subst (λ r. AddsNext s w r c.arrive.new.world c.arrive.new.self) (sym given)
    (arrive_stops laws s w d of c.args.place next Packet (HasDropped next.line.number d c.arrive.new.self) stop c.arrive.new.world c.arrive.new.self (c.in_err-packet.ensures.adds _ net)))

pub acked-requires : goal.acked-requires
acked-requires c =
    let s = c.args.scenario.now in
    let w = c.self.inside.world in
    let d = c.self.inside.carrier in
    let of = carries_both w d c.args.self.now c.self.view_is s c.requires.carries in
    let next = seen w d c.args.self.now c.self.view_is (λ x. ArrivesNext x.world c.args.place) c.requires.next in
    let net = in_net s.settings (whole_log w) d.boxes.net of.keeps.boxes.net c.args.place next.line next.there in
    let v = c.arrive.new.world in
    let q = c.in_ok-packet.packet in
    let e = c.arrive.new.self in
    let is = c.in_ok-packet.ensures.packet _ net in
    let adds = c.in_ok-packet.ensures.adds _ net in
    ack_counts laws s w d of c.args.place next (sym (ap (λ x. x.ack) is) ∙ c.if-packet.true) e q adds.1 is

pub returns-then-packet : goal.returns-then-packet
returns-then-packet c =
    let s = c.args.scenario.now in
    let w = c.self.inside.world in
    let d = c.self.inside.carrier in
    let of = carries_both w d c.args.self.now c.self.view_is s c.requires.carries in
    let next = seen w d c.args.self.now c.self.view_is (λ x. ArrivesNext x.world c.args.place) c.requires.next in
    let net = in_net s.settings (whole_log w) d.boxes.net of.keeps.boxes.net c.args.place next.line next.there in
    let v = c.arrive.new.world in
    let q = c.in_ok-packet.packet in
    let e = c.arrive.new.self in
    let is = c.in_ok-packet.ensures.packet _ net in
    let adds = c.in_ok-packet.ensures.adds _ net in
    subst (λ x. HasAdded s x v c.acked.new.self) (world_is w d c.args.self.now c.self.view_is)
    (ack_adds laws s w d of c.args.place next (sym (ap (λ x. x.ack) is) ∙ c.if-packet.true) v e c.acked.new.self q adds.0 adds.1 is c.acked.ensures.boxes
    c.acked.ensures.same)

pub is_new-requires : goal.is_new-requires
is_new-requires c =
    let s = c.args.scenario.now in
    let w = c.self.inside.world in
    let d = c.self.inside.carrier in
    let of = carries_both w d c.args.self.now c.self.view_is s c.requires.carries in
    let next = seen w d c.args.self.now c.self.view_is (λ x. ArrivesNext x.world c.args.place) c.requires.next in
    let net = in_net s.settings (whole_log w) d.boxes.net of.keeps.boxes.net c.args.place next.line next.there in
    let v = c.arrive.new.world in
    let q = c.in_ok-packet.packet in
    let e = c.arrive.new.self in
    let is = c.in_ok-packet.ensures.packet _ net in
    let adds = c.in_ok-packet.ensures.adds _ net in
    let carries = sym (ap (λ x. x.ack) is) ∙ c.if-packet.false in
    is_numbered laws s w d of c.args.place next carries q is

pub returns-in_err-is_new : goal.returns-in_err-is_new
returns-in_err-is_new c =
    let s = c.args.scenario.now in
    let w = c.self.inside.world in
    let d = c.self.inside.carrier in
    let of = carries_both w d c.args.self.now c.self.view_is s c.requires.carries in
    let next = seen w d c.args.self.now c.self.view_is (λ x. ArrivesNext x.world c.args.place) c.requires.next in
    let net = in_net s.settings (whole_log w) d.boxes.net of.keeps.boxes.net c.args.place next.line next.there in
    let v = c.arrive.new.world in
    let q = c.in_ok-packet.packet in
    let e = c.arrive.new.self in
    let is = c.in_ok-packet.ensures.packet _ net in
    let adds = c.in_ok-packet.ensures.adds _ net in
    let carries = sym (ap (λ x. x.ack) is) ∙ c.if-packet.false in
    let made = err_from_is_err_and c.from_residual-in_err-is_new.result c.from_residual-in_err-is_new.ensures.1 in
    let given : c.from_residual-in_err-is_new.result ≡ Err NoMemory = made.1 ∙ ap Err (made.2 ∙ c.in_err-is_new.ensures.memory) in
    adds_seen w d c.args.self.now c.self.view_is s c.from_residual-in_err-is_new.result v c.is_new.new.self
    (subst (λ r. AddsNext s w r v c.is_new.new.self) (sym given) (new_lacks laws s w d of c.args.place next carries v c.is_new.new.self adds.0))

pub acknowledge-requires-clause-goes_on : goal.acknowledge-requires-clause-goes_on
acknowledge-requires-clause-goes_on c =
    let s = c.args.scenario.now in
    let w = c.self.inside.world in
    let d = c.self.inside.carrier in
    let of = carries_both w d c.args.self.now c.self.view_is s c.requires.carries in
    let next = seen w d c.args.self.now c.self.view_is (λ x. ArrivesNext x.world c.args.place) c.requires.next in
    let net = in_net s.settings (whole_log w) d.boxes.net of.keeps.boxes.net c.args.place next.line next.there in
    let v = c.arrive.new.world in
    let q = c.in_ok-packet.packet in
    let e = c.arrive.new.self in
    let is = c.in_ok-packet.ensures.packet _ net in
    let adds = c.in_ok-packet.ensures.adds _ net in
    let plain = plain_of w c.log.result.now.records c.log.ensures.records c.log.ensures.reduced in
    arrived_goes laws s w d of c.args.place next v adds.0 (may_go_on laws s of.script w of.goes_on plain)

pub acknowledge-requires-clause-runs : goal.acknowledge-requires-clause-runs
acknowledge-requires-clause-runs c =
    let s = c.args.scenario.now in
    let w = c.self.inside.world in
    let d = c.self.inside.carrier in
    let of = carries_both w d c.args.self.now c.self.view_is s c.requires.carries in
    let next = seen w d c.args.self.now c.self.view_is (λ x. ArrivesNext x.world c.args.place) c.requires.next in
    let net = in_net s.settings (whole_log w) d.boxes.net of.keeps.boxes.net c.args.place next.line next.there in
    let v = c.arrive.new.world in
    let q = c.in_ok-packet.packet in
    let e = c.arrive.new.self in
    let is = c.in_ok-packet.ensures.packet _ net in
    let adds = c.in_ok-packet.ensures.adds _ net in
    (still_goes laws s w d of c.args.place next v adds.0).unstopped

pub acknowledge-requires-clause-room : goal.acknowledge-requires-clause-room
acknowledge-requires-clause-room c =
    let s = c.args.scenario.now in
    let w = c.self.inside.world in
    let d = c.self.inside.carrier in
    let of = carries_both w d c.args.self.now c.self.view_is s c.requires.carries in
    let next = seen w d c.args.self.now c.self.view_is (λ x. ArrivesNext x.world c.args.place) c.requires.next in
    let net = in_net s.settings (whole_log w) d.boxes.net of.keeps.boxes.net c.args.place next.line next.there in
    let v = c.arrive.new.world in
    let q = c.in_ok-packet.packet in
    let e = c.arrive.new.self in
    let is = c.in_ok-packet.ensures.packet _ net in
    let adds = c.in_ok-packet.ensures.adds _ net in
    let carries = sym (ap (λ x. x.ack) is) ∙ c.if-packet.false in
    let f = c.is_new.new.self in
    let known = c.in_ok-is_new.ensures.first ∙ first_is laws s w d of c.args.place next carries e q adds.1 is in
    let again = sym known ∙ c.if-not-branch.true in
    again_room laws s w d of c.args.place next carries again v e f q adds.0 adds.1 is c.in_ok-is_new.ensures.after c.is_new.ensures.same

pub returns-then-not-branch : goal.returns-then-not-branch
returns-then-not-branch c =
    let s = c.args.scenario.now in
    let w = c.self.inside.world in
    let d = c.self.inside.carrier in
    let of = carries_both w d c.args.self.now c.self.view_is s c.requires.carries in
    let next = seen w d c.args.self.now c.self.view_is (λ x. ArrivesNext x.world c.args.place) c.requires.next in
    let net = in_net s.settings (whole_log w) d.boxes.net of.keeps.boxes.net c.args.place next.line next.there in
    let v = c.arrive.new.world in
    let q = c.in_ok-packet.packet in
    let e = c.arrive.new.self in
    let is = c.in_ok-packet.ensures.packet _ net in
    let adds = c.in_ok-packet.ensures.adds _ net in
    let carries = sym (ap (λ x. x.ack) is) ∙ c.if-packet.false in
    let f = c.is_new.new.self in
    let known = c.in_ok-is_new.ensures.first ∙ first_is laws s w d of c.args.place next carries e q adds.1 is in
    let again = sym known ∙ c.if-not-branch.true in
    adds_seen w d c.args.self.now c.self.view_is s c.acknowledge.result c.acknowledge.new.world c.acknowledge.new.self
    (again_adds laws s w d of c.args.place next carries again v e f q adds.0 adds.1 is c.in_ok-is_new.ensures.after c.is_new.ensures.same c.acknowledge.result
    c.acknowledge.new.world c.acknowledge.new.self c.acknowledge.ensures)

pub take-requires-clause-goes_on : goal.take-requires-clause-goes_on
take-requires-clause-goes_on c =
    let s = c.args.scenario.now in
    let w = c.self.inside.world in
    let d = c.self.inside.carrier in
    let of = carries_both w d c.args.self.now c.self.view_is s c.requires.carries in
    let next = seen w d c.args.self.now c.self.view_is (λ x. ArrivesNext x.world c.args.place) c.requires.next in
    let net = in_net s.settings (whole_log w) d.boxes.net of.keeps.boxes.net c.args.place next.line next.there in
    let v = c.arrive.new.world in
    let q = c.in_ok-packet.packet in
    let e = c.arrive.new.self in
    let is = c.in_ok-packet.ensures.packet _ net in
    let adds = c.in_ok-packet.ensures.adds _ net in
    let plain = plain_of w c.log.result.now.records c.log.ensures.records c.log.ensures.reduced in
    arrived_goes laws s w d of c.args.place next v adds.0 (may_go_on laws s of.script w of.goes_on plain)

pub take-requires-clause-runs : goal.take-requires-clause-runs
take-requires-clause-runs c =
    let s = c.args.scenario.now in
    let w = c.self.inside.world in
    let d = c.self.inside.carrier in
    let of = carries_both w d c.args.self.now c.self.view_is s c.requires.carries in
    let next = seen w d c.args.self.now c.self.view_is (λ x. ArrivesNext x.world c.args.place) c.requires.next in
    let net = in_net s.settings (whole_log w) d.boxes.net of.keeps.boxes.net c.args.place next.line next.there in
    let v = c.arrive.new.world in
    let q = c.in_ok-packet.packet in
    let e = c.arrive.new.self in
    let is = c.in_ok-packet.ensures.packet _ net in
    let adds = c.in_ok-packet.ensures.adds _ net in
    (still_goes laws s w d of c.args.place next v adds.0).unstopped

pub take-requires-clause-take : goal.take-requires-clause-take
take-requires-clause-take c =
    let s = c.args.scenario.now in
    let w = c.self.inside.world in
    let d = c.self.inside.carrier in
    let of = carries_both w d c.args.self.now c.self.view_is s c.requires.carries in
    let next = seen w d c.args.self.now c.self.view_is (λ x. ArrivesNext x.world c.args.place) c.requires.next in
    let net = in_net s.settings (whole_log w) d.boxes.net of.keeps.boxes.net c.args.place next.line next.there in
    let plain = plain_of w c.log.result.now.records c.log.ensures.records c.log.ensures.reduced in
    let v = c.arrive.new.world in
    let q = c.in_ok-packet.packet in
    let e = c.arrive.new.self in
    let is = c.in_ok-packet.ensures.packet _ net in
    let adds = c.in_ok-packet.ensures.adds _ net in
    let carries = sym (ap (λ x. x.ack) is) ∙ c.if-packet.false in
    let f = c.is_new.new.self in
    let known = c.in_ok-is_new.ensures.first ∙ first_is laws s w d of c.args.place next carries e q adds.1 is in
    let waits = sym known ∙ c.if-not-branch.false in
    let frame_is : q.frame ≡ next.line.frame = ap (λ x. x.frame) is in
    subst (λ n. IsToTake s v n f) (sym frame_is)
    (is_to_take laws s w d of c.args.place next plain carries waits v adds.0 e f q adds.1 is c.in_ok-is_new.ensures.after c.is_new.ensures.same)

pub take-requires-clause-carry : goal.take-requires-clause-carry
take-requires-clause-carry c =
    let s = c.args.scenario.now in
    let w = c.self.inside.world in
    let d = c.self.inside.carrier in
    let of = carries_both w d c.args.self.now c.self.view_is s c.requires.carries in
    let next = seen w d c.args.self.now c.self.view_is (λ x. ArrivesNext x.world c.args.place) c.requires.next in
    let net = in_net s.settings (whole_log w) d.boxes.net of.keeps.boxes.net c.args.place next.line next.there in
    let plain = plain_of w c.log.result.now.records c.log.ensures.records c.log.ensures.reduced in
    let v = c.arrive.new.world in
    let q = c.in_ok-packet.packet in
    let e = c.arrive.new.self in
    let is = c.in_ok-packet.ensures.packet _ net in
    let adds = c.in_ok-packet.ensures.adds _ net in
    let carries = sym (ap (λ x. x.ack) is) ∙ c.if-packet.false in
    let f = c.is_new.new.self in
    let known = c.in_ok-is_new.ensures.first ∙ first_is laws s w d of c.args.place next carries e q adds.1 is in
    let waits = sym known ∙ c.if-not-branch.false in
    let frame_is : q.frame ≡ next.line.frame = ap (λ x. x.frame) is in
    subst (λ n. CanTake s v n) (sym frame_is) (can_take laws s w d of c.args.place next plain carries waits v adds.0)

pub returns-in_err-take : goal.returns-in_err-take
returns-in_err-take c =
    let s = c.args.scenario.now in
    let w = c.self.inside.world in
    let d = c.self.inside.carrier in
    let of = carries_both w d c.args.self.now c.self.view_is s c.requires.carries in
    let next = seen w d c.args.self.now c.self.view_is (λ x. ArrivesNext x.world c.args.place) c.requires.next in
    let net = in_net s.settings (whole_log w) d.boxes.net of.keeps.boxes.net c.args.place next.line next.there in
    let plain = plain_of w c.log.result.now.records c.log.ensures.records c.log.ensures.reduced in
    let v = c.arrive.new.world in
    let q = c.in_ok-packet.packet in
    let e = c.arrive.new.self in
    let is = c.in_ok-packet.ensures.packet _ net in
    let adds = c.in_ok-packet.ensures.adds _ net in
    let carries = sym (ap (λ x. x.ack) is) ∙ c.if-packet.false in
    let f = c.is_new.new.self in
    let known = c.in_ok-is_new.ensures.first ∙ first_is laws s w d of c.args.place next carries e q adds.1 is in
    let waits = sym known ∙ c.if-not-branch.false in
    let frame_is : q.frame ≡ next.line.frame = ap (λ x. x.frame) is in
    let stop = c.in_err-take.field-0.0 in
    let u = c.take.new.self.world in
    let x = c.take.new.self.carrier in
    let made = err_from_is_err_and c.from_residual-in_err-take.result c.from_residual-in_err-take.ensures.1 in
    let given : c.from_residual-in_err-take.result ≡ Err stop = made.1 ∙ ap Err made.2 in
    adds_seen w d c.args.self.now c.self.view_is s c.from_residual-in_err-take.result u x
    (subst (λ r. AddsNext s w r u x) (sym given)
    (take_stops laws s w d of c.args.place next plain carries waits v adds.0 stop u x
    (subst (λ n. TakesFrame s n v (Err stop) u x) frame_is (subst (λ r. TakesFrame s q.frame v r u x) c.in_err-take.was c.take.ensures))))

pub acknowledge-requires-2-clause-room : goal.acknowledge-requires-2-clause-room
acknowledge-requires-2-clause-room c =
    let s = c.args.scenario.now in
    let w = c.self.inside.world in
    let d = c.self.inside.carrier in
    let of = carries_both w d c.args.self.now c.self.view_is s c.requires.carries in
    let next = seen w d c.args.self.now c.self.view_is (λ x. ArrivesNext x.world c.args.place) c.requires.next in
    let net = in_net s.settings (whole_log w) d.boxes.net of.keeps.boxes.net c.args.place next.line next.there in
    let plain = plain_of w c.log.result.now.records c.log.ensures.records c.log.ensures.reduced in
    let v = c.arrive.new.world in
    let q = c.in_ok-packet.packet in
    let e = c.arrive.new.self in
    let is = c.in_ok-packet.ensures.packet _ net in
    let adds = c.in_ok-packet.ensures.adds _ net in
    let carries = sym (ap (λ x. x.ack) is) ∙ c.if-packet.false in
    let f = c.is_new.new.self in
    let known = c.in_ok-is_new.ensures.first ∙ first_is laws s w d of c.args.place next carries e q adds.1 is in
    let waits = sym known ∙ c.if-not-branch.false in
    let frame_is : q.frame ≡ next.line.frame = ap (λ x. x.frame) is in
    let u = c.self-2.inside.world in
    let x = c.self-2.inside.carrier in
    let taken = subst (λ n. HasTaken s n v u x) frame_is (seen u x c.take.new.self c.self-2.view_is (λ b. HasTaken s q.frame v b.world b.carrier)
    (subst (λ r. TakesFrame s q.frame v r c.take.new.self.world c.take.new.self.carrier) c.in_ok-take.was c.take.ensures)) in
    last_room laws s w d of c.args.place next plain carries waits v adds.0 u x taken

pub returns : goal.returns
returns c =
    let s = c.args.scenario.now in
    let w = c.self.inside.world in
    let d = c.self.inside.carrier in
    let of = carries_both w d c.args.self.now c.self.view_is s c.requires.carries in
    let next = seen w d c.args.self.now c.self.view_is (λ x. ArrivesNext x.world c.args.place) c.requires.next in
    let net = in_net s.settings (whole_log w) d.boxes.net of.keeps.boxes.net c.args.place next.line next.there in
    let plain = plain_of w c.log.result.now.records c.log.ensures.records c.log.ensures.reduced in
    let v = c.arrive.new.world in
    let q = c.in_ok-packet.packet in
    let e = c.arrive.new.self in
    let is = c.in_ok-packet.ensures.packet _ net in
    let adds = c.in_ok-packet.ensures.adds _ net in
    let carries = sym (ap (λ x. x.ack) is) ∙ c.if-packet.false in
    let f = c.is_new.new.self in
    let known = c.in_ok-is_new.ensures.first ∙ first_is laws s w d of c.args.place next carries e q adds.1 is in
    let waits = sym known ∙ c.if-not-branch.false in
    let frame_is : q.frame ≡ next.line.frame = ap (λ x. x.frame) is in
    let u = c.self-2.inside.world in
    let x = c.self-2.inside.carrier in
    let taken = subst (λ n. HasTaken s n v u x) frame_is (seen u x c.take.new.self c.self-2.view_is (λ b. HasTaken s q.frame v b.world b.carrier)
    (subst (λ r. TakesFrame s q.frame v r c.take.new.self.world c.take.new.self.carrier) c.in_ok-take.was c.take.ensures)) in
    adds_seen w d c.args.self.now c.self.view_is s c.acknowledge-2.result c.acknowledge-2.new.world c.acknowledge-2.new.self
    (last_adds laws s w d of c.args.place next plain carries waits v adds.0 u x taken c.acknowledge-2.result c.acknowledge-2.new.world c.acknowledge-2.new.self q is c.acknowledge-2.ensures)
