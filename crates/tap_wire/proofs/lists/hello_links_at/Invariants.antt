use Rattle.std.proofs.Common.{◌≡◌, ◌+◌, ◌*◌, ◌-◌, None, vec_len, vec_capacity}
use Rattle.std.specs.Option.{option_copied}
use Rattle.tap_wire.specs.Fields.{hello_links_at}
use Rattle.tap_wire.proofs.Loops.{with_front}
use Rattle.tap_wire.proofs.lists.hello_links_at.Given as goal

abbrev pub invariant-loop : goal.invariant-loop
invariant-loop l = record {
  reads : with_front l.links.items (hello_links_at l.settings (l.count - l.counter) (option_copied l.before) l.place l.bytes)
      ≡ hello_links_at l.settings l.count None l.start l.bytes;
  at : l.place ≡ l.start + l.counter * l.size;
  len : vec_len l.links ≡ l.counter;
  room : vec_capacity l.links ≡ l.count;
}
