use Rattle.std.proofs.Common.{◌≡◌, slice_get, remove, map, Some, arith, ◌∙◌}
use Rattle.tap_link.proofs.Present.{holds, place_is, remove_is, present_is, full_is, never_none}
use Rattle.tap_link.proofs.places.Places.remove.Goals as goal

pub unreachable-requires : goal.unreachable-requires
unreachable-requires g c =
    let held = holds c.self.inside.links.items c.args.self.now c.self.invariant.full c.self.view_is in
    let is : slice_get c.args.self.now c.args.at ≡ c.remove.result =
    place_is c.self.inside.links.items c.args.self.now c.args.at c.remove.result held c.requires c.remove.ensures.value in
    never_none c.args.self.now c.args.at c.requires (is ∙ c.in-None.is)

pub invariant_of-self : goal.invariant_of-self
invariant_of-self g c =
    let held = holds c.self.inside.links.items c.args.self.now c.self.invariant.full c.self.view_is in
    let after : c.remove.new.self.items ≡ map Some (remove c.args.self.now c.args.at) =
    c.remove.ensures.items ∙ remove_is c.self.inside.links.items c.args.self.now c.args.at held in
    record { full = full_is c.remove.new.self.items _ after; inline = omega arith }

pub returns-clause-taken : goal.returns-clause-taken
returns-clause-taken g c =
    let held = holds c.self.inside.links.items c.args.self.now c.self.invariant.full c.self.view_is in
    place_is c.self.inside.links.items c.args.self.now c.args.at c.remove.result held c.requires c.remove.ensures.value ∙ c.in-Some.is

pub returns-clause-rest : goal.returns-clause-rest
returns-clause-rest g c =
    let held = holds c.self.inside.links.items c.args.self.now c.self.invariant.full c.self.view_is in
    let after : c.remove.new.self.items ≡ map Some (remove c.args.self.now c.args.at) =
    c.remove.ensures.items ∙ remove_is c.self.inside.links.items c.args.self.now c.args.at held in
    present_is c.remove.new.self.items _ after
