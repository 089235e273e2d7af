use Rattle.std.proofs.Common.{◌≡◌, ◌+◌, ◌*◌, ◌-◌, None, List}
use Rattle.tap_name.specs.declared.slot.Slot.{Slot}
use Rattle.tap_wire.specs.Fields.{slots_at}
use Rattle.tap_wire.proofs.Loops.{with_front}
use Rattle.tap_wire.proofs.lists.check_slots.Given as goal

abbrev pub invariant-loop : goal.invariant-loop
invariant-loop l = record {
  reads : (front : List Slot) × (with_front front (slots_at l.settings l.prefix (l.count - l.counter) l.before l.place l.bytes)
      ≡ slots_at l.settings l.prefix l.count None l.start l.bytes);
  at : l.place ≡ l.start + 2 * l.counter;
}
