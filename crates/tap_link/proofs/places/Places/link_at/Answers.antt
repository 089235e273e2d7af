use Rattle.std.proofs.Common.{◌≡◌, slice_get, ◌∙◌}
use Rattle.tap_link.proofs.Present.{holds, place_is, never_none}
use Rattle.tap_link.proofs.places.Places.link_at.Goals as goal

pub unreachable-requires : goal.unreachable-requires
unreachable-requires g c =
    let held = holds c.self.inside.links.items c.args.self.now c.self.invariant.full c.self.view_is in
    let is : slice_get c.args.self.now c.args.at ≡ c.index-deref-at.result =
    place_is c.self.inside.links.items c.args.self.now c.args.at c.index-deref-at.result held c.requires
    (rw c.deref.ensures at c.index-deref-at.is) in
    never_none c.args.self.now c.args.at c.requires (is ∙ c.in-None.is)

pub returns : goal.returns
returns g c =
    let held = holds c.self.inside.links.items c.args.self.now c.self.invariant.full c.self.view_is in
    let is : slice_get c.args.self.now c.args.at ≡ c.index-deref-at.result =
    place_is c.self.inside.links.items c.args.self.now c.args.at c.index-deref-at.result held c.requires
    (rw c.deref.ensures at c.index-deref-at.is) in
    is ∙ c.in-Some.is
