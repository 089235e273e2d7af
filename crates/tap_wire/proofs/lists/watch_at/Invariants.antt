use Rattle.std.proofs.Common.{◌≡◌, ◌+◌, ◌*◌, ◌-◌, None, vec_len, vec_capacity}
use Rattle.tap_wire.specs.Fields.{slots_at}
use Rattle.tap_wire.proofs.Loops.{with_front}
use Rattle.tap_wire.proofs.lists.watch_at.Given as goal

abbrev pub invariant-loop : goal.invariant-loop
invariant-loop l = record {
  reads : with_front l.slots.items (slots_at l.settings l.prefix (l.count - l.counter) l.before l.place l.bytes)
      ≡ slots_at l.settings l.prefix l.count None l.start l.bytes;
  at : l.place ≡ l.start + 2 * l.counter;
  len : vec_len l.slots ≡ l.counter;
  room : vec_capacity l.slots ≡ l.count;
}
