use Rattle.std.proofs.Common.{◌≡◌, ◌+◌, ◌*◌, ◌-◌, None, List}
use Rattle.tap_name.specs.declared.slot.Offered.{Offered}
use Rattle.std.specs.Option.{option_copied}
use Rattle.tap_wire.specs.Fields.{hello_links_at}
use Rattle.tap_wire.proofs.Loops.{with_front}
use Rattle.tap_wire.proofs.lists.check_links.Given as goal

abbrev pub invariant-loop : goal.invariant-loop
invariant-loop l = record {
  reads : (front : List Offered)
      × (with_front front (hello_links_at l.settings (l.count - l.counter) (option_copied l.before) l.place l.bytes)
      ≡ hello_links_at l.settings l.count None l.start l.bytes);
  at : l.place ≡ l.start + l.counter * l.size;
}
