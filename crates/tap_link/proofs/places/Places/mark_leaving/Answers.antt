use Rattle.std.proofs.Common.{◌≡◌, slice_get, set, Some, sym, ap, ◌∙◌}
use Rattle.tap_link.specs.declared.kind.Kind.TheVariants.{Leaving}
use Rattle.tap_link.proofs.Present.{holds, place_is, set_is, present_is, full_is, never_none}
use Rattle.tap_link.proofs.Search.{entry_is}
use Rattle.tap_link.proofs.places.Places.mark_leaving.Goals as goal

pub unreachable-requires-in-None : goal.unreachable-requires-in-None
unreachable-requires-in-None g c =
    let held = holds c.self.inside.links.items c.args.self.now c.self.invariant.full c.self.view_is in
    let is : slice_get c.args.self.now c.args.at ≡ c.in-Some.place.now =
    place_is c.self.inside.links.items c.args.self.now c.args.at c.in-Some.place.now held c.requires.within c.in-Some.ensures.value in
    never_none c.args.self.now c.args.at c.requires.within (is ∙ c.in-None.is)

pub invariant_of-self : goal.invariant_of-self
invariant_of-self g c =
    let held = holds c.self.inside.links.items c.args.self.now c.self.invariant.full c.self.view_is in
    record {
      full = full_is _ _ (set_is c.self.inside.links.items c.args.self.now c.args.at c.mark_leaving.new.self held);
      inline = c.self.invariant.inline;
    }

pub returns : goal.returns
returns g c x at_x =
    let held = holds c.self.inside.links.items c.args.self.now c.self.invariant.full c.self.view_is in
    let is : slice_get c.args.self.now c.args.at ≡ c.in-Some.place.now =
    place_is c.self.inside.links.items c.args.self.now c.args.at c.in-Some.place.now held c.requires.within c.in-Some.ensures.value in
    let same : Some x ≡ Some c.in-Some-place.link = sym at_x ∙ is ∙ c.in-Some-place.is in
    let target : c.mark_leaving.new.self.target ≡ x.target = cc in
    present_is _ _ (set_is c.self.inside.links.items c.args.self.now c.args.at c.mark_leaving.new.self held)
    ∙ ap (set c.args.self.now c.args.at) (entry_is c.mark_leaving.new.self x Leaving target c.mark_leaving.ensures.kind)
