use Rattle.std.proofs.Common.{◌≡◌, ◌+◌, ◌-◌, ◌<◌, List, ◌∷◌, [], ◌++◌, count_by, slice_index_or, Option, None, Some, is_some, refl, ap, ◌∙◌, arith}
use Rattle.tap_outstanding.specs.Outstanding.{OutstandingValue, frame_with}
use Rattle.slab.specs.Slab.{Slab, Updates, get, slab_len}
use Rattle.tap_carry.specs.declared.net.Packet.{Packet}
use Rattle.tap_carry.specs.Net.{NetValue, most_packets, put_with}
use Rattle.tap_carry.proofs.Kept.{found-put, net-put, net_of, value-put}
use Rattle.tap_carry.proofs.net.Net.put_next.Goals as goal

slots : (c : goal.After-send_reserved) → c.reserve.new.self.slots ≡ c.self.inside.packets.slots
slots c = ap (λ (s : Slab Packet). s.slots) c.reserve.ensures.rest_kept

free : (c : goal.After-send_reserved) → get c.self.inside.packets c.insert_reserved-key.result ≡ None
free c = rw (slots c) at c.insert_reserved-key.ensures.was_vacant

updates : (c : goal.After-send_reserved)
    → Updates c.self.inside.packets c.insert_reserved-key.new.self c.insert_reserved-key.result (Some c.args.packet)
updates c = record {
  changed = c.insert_reserved-key.ensures.updates.changed;
  others = λ other apart. c.insert_reserved-key.ensures.updates.others other apart ∙ ap (λ (l : List (Option Packet)). slice_index_or l other None) (slots c);
}

len : (c : goal.After-send_reserved) → slab_len c.insert_reserved-key.new.self ≡ slab_len c.self.inside.packets + 1
len c = c.insert_reserved-key.ensures.len ∙ ap (λ (l : List (Option Packet)). count_by is_some l + 1) (slots c)

frames : (c : goal.After-send_reserved)
    → c.send_reserved.new.self.frames ≡ c.self.inside.places.frames ++ frame_with c.self.inside.places.sent c.insert_reserved-key.result ∷ []
frames c = ap (λ (o : OutstandingValue). o.frames) c.send_reserved.ensures.after ∙ rw (c.make_room.ensures.sent, c.make_room.ensures.frames) refl

sent : (c : goal.After-send_reserved) → c.send_reserved.new.self.sent ≡ c.self.inside.places.sent + 1
sent c = ap (λ (o : OutstandingValue). o.sent) c.send_reserved.ensures.after ∙ rw c.make_room.ensures.sent refl

after_put : (c : goal.After-send_reserved)
    → net_of c.self.inside.ended c.send_reserved.new.self c.insert_reserved-key.new.self ≡ put_with (net_of c.self.inside.ended c.self.inside.places c.self.inside.packets) c.args.packet
after_put c =
    value-put c.self.inside.ended c.self.inside.places c.self.inside.packets c.self.inside.room c.self.invariant c.send_reserved.new.self c.insert_reserved-key.new.self c.args.packet
    c.insert_reserved-key.result (frames c) (free c) (updates c)
    (sent c)

few : (c : goal.After-send_reserved) → c.self.inside.ended + c.self.inside.places.sent < most_packets
few c = let made = ap (λ (n : NetValue). n.made) c.self.view_is in omega (arith, made, c.requires)

pub invariant_of-self-2 : goal.invariant_of-self-2
invariant_of-self-2 c =
    let room = ap (λ (o : OutstandingValue). o.room) c.send_reserved.ensures.after in
    net-put c.self.inside.ended c.self.inside.places c.self.inside.packets c.self.inside.room c.self.invariant c.send_reserved.new.self c.insert_reserved-key.new.self c.args.packet
    c.insert_reserved-key.result (frames c) (free c) (updates c) (c.in_ok-self-inside.field-0 - 1) (sent c) (len c)
    (omega (arith, room, c.in_ok-self-inside.ensures.ok.1)) (few c)

pub returns-clause-after : goal.returns-clause-after
returns-clause-after c = rw (← c.self.view_is) (after_put c)

pub returns-clause-look_up : goal.returns-clause-look_up
returns-clause-look_up c = λ n. rw (← c.self.view_is)
    (found-put c.self.inside.ended c.self.inside.places c.self.inside.packets c.self.inside.room c.self.invariant (net_of c.self.inside.ended c.send_reserved.new.self c.insert_reserved-key.new.self) c.args.packet n (after_put c))
