use Rattle.std.proofs.Common.{get_or, arith, refl, subst}
use Rattle.std.specs.List.{flat_map}
use Rattle.tap_name.specs.declared.slot.Slot.{Slot}
use Rattle.tap_wire.specs.Spelling.{slot_bytes}
use Rattle.tap_wire.specs.Writing.{Puts}
use Rattle.tap_wire.proofs.Appending.{piece_fits, others_fit, one_more, all_added}
use Rattle.tap_wire.proofs.writing.put_watch.Goals as goal

pub put_slot-next-requires : goal.put_slot-next-requires
put_slot-next-requires c =
    let slots = c.as_slice-slot-items.result.now in
    let none : Slot = record { level = 0; digit = 0 } in
    piece_fits slot_bytes slots c.loop-slot.slot-index (get_or slots c.loop-slot.slot-index none) none c.loop-slot.out c.loop-slot.next (omega arith) refl
    c.loop-slot.invariant.room

pub loop-slot-preserved : goal.loop-slot-preserved
loop-slot-preserved c = record {
  so_far = one_more slot_bytes c.as_slice-slot-items.result.now c.loop-slot.slot-index _ _ c.args.out.now c.loop-slot.out c.put_slot-next.new.out c.args.at c.loop-slot.next c.put_slot-next.result
      (omega arith) refl c.loop-slot.invariant.so_far c.put_slot-next.ensures;
  room = others_fit slot_bytes c.as_slice-slot-items.result.now c.loop-slot.slot-index _ _ c.loop-slot.out c.put_slot-next.new.out c.loop-slot.next c.put_slot-next.result
      (omega arith) refl c.loop-slot.invariant.room c.put_slot-next.ensures;
}

pub returns : goal.returns
returns c = subst (λ slots. Puts c.args.out.now c.args.at (flat_map slot_bytes slots) c.loop-slot.out c.loop-slot.next) c.as_slice-slot-items.ensures.value
    (all_added slot_bytes c.as_slice-slot-items.result.now c.loop-slot.slot-index c.args.out.now c.loop-slot.out c.args.at c.loop-slot.next (omega arith)
    c.loop-slot.invariant.so_far)
