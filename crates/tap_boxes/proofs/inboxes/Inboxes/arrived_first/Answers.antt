use Rattle.std.proofs.Common.{◌≡◌, None, ap, sym, ◌∙◌}
use Rattle.std.specs.Map.{lookup}
use Rattle.tap_carry.specs.Arrivals.{no_arrivals}
use Rattle.tap_carry.specs.Names.{is_name}
use Rattle.tap_boxes.specs.Boxes.{InboxesValue}
use Rattle.tap_boxes.proofs.Lookups.{arrives-in, box-found}
use Rattle.tap_boxes.proofs.inboxes.Inboxes.arrived_first.Goals as goal

pub returns-clause-after : goal.returns-clause-after
returns-clause-after c =
    let none : lookup (is_name c.args.name) c.self.inside.boxes.entries ≡ None =
    ap (λ (boxes : InboxesValue). lookup (is_name c.args.name) boxes) c.self.view_is ∙ c.requires.none in
    rw (← c.self.view_is)
    (arrives-in c.self.inside.boxes.entries c.insert.new.self.entries c.args.name c.args.from c.args.seq c.new-inbox.result c.arrived.new.self
    (box-found no_arrivals c.self.inside.boxes.entries c.args.name None none ∙ sym c.new-inbox.ensures.value)
    c.in_ok-insert.ensures.updates.0
    c.in_ok-first.ensures.after)
