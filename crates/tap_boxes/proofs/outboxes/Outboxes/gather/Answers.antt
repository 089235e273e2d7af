use Rattle.std.proofs.Common.{rules, ◌≡◌, ℕ, List, ◌∷◌, ◌++◌, map, refl, ap, sym, ◌∙◌, arith, subst, append-nil, append_assoc}
use Rattle.std.specs.List.{flat_map}
use Rattle.std.specs.List.Sorted.{IsPermutation}
use Rattle.std.proofs.lemmas.List.Sorted.{IsNonDecreasingBy-from_sort_by_key}
use Rattle.tap_carry.specs.declared.net.Packet.{Packet}
use Rattle.tap_carry.specs.Outbox.{OutboxValue}
use Rattle.tap_packets.specs.Matching.{data_packet_of}
use Rattle.tap_boxes.proofs.outboxes.Outboxes.gather.Goals as goal

-- the data packets of what these outboxes keep
abbrev packets_in : List (List ℕ × OutboxValue) → List Packet
packets_in boxes = flat_map (λ (entry : List ℕ × OutboxValue). map (data_packet_of entry.0) entry.1.awaits) boxes

one_more : (all done after : List Packet) (boxes rest : List (List ℕ × OutboxValue)) (name : List ℕ) (box : OutboxValue)
    → boxes ≡ (name, box) ∷ rest → after ≡ done ++ map (data_packet_of name) box.awaits → done ++ packets_in boxes ≡ all
    → after ++ packets_in rest ≡ all
one_more all done after boxes rest name box split added before =
    ap (λ l. l ++ packets_in rest) added
    ∙ append_assoc done (map (data_packet_of name) box.awaits) (packets_in rest)
    ∙ ap (λ l. done ++ packets_in l) (sym split) ∙ before

pub loop-name-init : goal.loop-name-init
loop-name-init c =
    rw (← c.self.view_is, c.reserve.ensures.items, c.new-packets.ensures.items, c.into_iter-name-iterator.ensures.into_iter_gives.0) refl

pub loop-name-preserved : goal.loop-name-preserved
loop-name-preserved c =
    let list = c.deref.ensures.value ∙ c.in_ok-gather.ensures.all ∙ ap (λ l. l ++ c.in-Some.outbox.now.awaits) c.clear.ensures.items in
    one_more _ c.loop-name.packets.items c.add_packets.new.packets.items c.loop-name.name-iterator c.next.new.self c.in-Some.name.now
    c.in-Some.outbox.now c.in-Some.ensures.steps
    (c.in_ok-add_packets.ensures ∙ ap (λ l. c.loop-name.packets.items ++ map (data_packet_of c.in-Some.name.now) l) list)
    c.loop-name.invariant

pub returns-clause-all : goal.returns-clause-all
returns-clause-all c =
    subst (λ l. IsPermutation l c.sort_unstable_by_key.new.self.items)
    (sym (append-nil c.loop-name.packets.items)
    ∙ ap (λ l. c.loop-name.packets.items ++ packets_in l) (sym c.in-None.ensures.steps.0) ∙ c.loop-name.invariant)
    c.sort_unstable_by_key.ensures.permutation

pub returns-clause-sorted : goal.returns-clause-sorted
returns-clause-sorted c = λ i j d less within.
    IsNonDecreasingBy-from_sort_by_key (λ (packet : Packet). packet.frame) c.sort_unstable_by_key.new.self.items
    c.sort_unstable_by_key.ensures.sorted (λ a r f' called. search rules) i j d (omega (arith, less)) within
