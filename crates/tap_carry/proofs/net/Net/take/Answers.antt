use Rattle.std.proofs.Common.{◌≡◌, ◌+◌, Some, slice_get, sym}
use Rattle.tap_carry.specs.Net.{packets_less}
use Rattle.tap_carry.specs.NetKept.{packets_of}
use Rattle.tap_carry.proofs.Packets.{packet_of-less}
use Rattle.tap_carry.proofs.Kept.{less-taken, net-taken, packet-taken, value-taken}
use Rattle.tap_carry.proofs.net.Net.take.Goals as goal

at : (c : goal.After-struct_known-1) → slice_get c.self.inside.places.frames c.args.place ≡ Some c.in_ok-flight.flight
at c = sym c.in_ok-flight.ensures.frame

pub invariant_of-self-2 : goal.invariant_of-self-2
invariant_of-self-2 c =
    net-taken c.self.inside.ended c.self.inside.places c.self.inside.packets c.self.inside.room c.self.invariant c.len.ensures.outstanding c.args.place c.in_ok-flight.flight (at c)
    c.take.new.self c.in_ok-flight.ensures.after c.remove.new.self c.remove.ensures.updates c.remove.ensures.len

pub returns-clause-packet : goal.returns-clause-packet
returns-clause-packet c = rw (← c.self.view_is)
    (packet-taken c.self.inside.ended c.self.inside.places c.self.inside.packets c.self.inside.room c.self.invariant c.len.ensures.outstanding c.args.place c.in_ok-flight.flight (at c)
    c.take.new.self c.in_ok-flight.ensures.after c.remove.new.self c.remove.ensures.updates c.index-packet.result.now (sym c.index-packet.ensures))

pub returns-clause-after : goal.returns-clause-after
returns-clause-after c = rw (← c.self.view_is)
    (value-taken c.self.inside.ended c.self.inside.places c.self.inside.packets c.self.inside.room c.self.invariant c.len.ensures.outstanding c.args.place c.in_ok-flight.flight (at c)
    c.take.new.self c.in_ok-flight.ensures.after c.remove.new.self c.remove.ensures.updates)

less : (c : goal.After-struct_known-1) → packets_of c.self.inside.ended c.remove.new.self c.take.new.self.frames
    ≡ packets_less (packets_of c.self.inside.ended c.self.inside.packets c.self.inside.places.frames) (c.self.inside.ended + c.in_ok-flight.flight.number)
less c =
    less-taken c.self.inside.ended c.self.inside.places c.self.inside.packets c.self.inside.room c.self.invariant c.len.ensures.outstanding c.args.place c.in_ok-flight.flight (at c)
    c.take.new.self c.in_ok-flight.ensures.after c.remove.new.self c.remove.ensures.updates c.index-packet.result.now (sym c.index-packet.ensures)

pub returns-clause-less : goal.returns-clause-less
returns-clause-less c = rw (← c.self.view_is) (less c)

pub returns-clause-look_up : goal.returns-clause-look_up
returns-clause-look_up c = λ n. rw (← c.self.view_is, less c)
    (packet_of-less (packets_of c.self.inside.ended c.self.inside.packets c.self.inside.places.frames) (c.self.inside.ended + c.in_ok-flight.flight.number) n)
