use Rattle.std.proofs.Common.{◌≡◌, insert, map, Some, arith, ◌∙◌}
use Rattle.tap_link.proofs.Present.{holds, insert_is, present_is, full_is}
use Rattle.tap_link.proofs.places.Places.insert.Goals as goal

pub invariant_of-self-2 : goal.invariant_of-self-2
invariant_of-self-2 g c =
    let held = holds c.self.inside.links.items c.args.self.now c.self.invariant.full c.self.view_is in
    let after : c.insert.new.self.items ≡ map Some (insert c.args.self.now c.args.at c.args.link) =
    c.in_ok-insert.ensures.ok ∙ insert_is c.self.inside.links.items c.args.self.now c.args.at c.args.link held in
    record { full = full_is c.insert.new.self.items _ after; inline = omega arith }

pub returns-clause-ok : goal.returns-clause-ok
returns-clause-ok g c =
    let held = holds c.self.inside.links.items c.args.self.now c.self.invariant.full c.self.view_is in
    let after : c.insert.new.self.items ≡ map Some (insert c.args.self.now c.args.at c.args.link) =
    c.in_ok-insert.ensures.ok ∙ insert_is c.self.inside.links.items c.args.self.now c.args.at c.args.link held in
    present_is c.insert.new.self.items _ after
