use Rattle.std.proofs.Common.{◌-◌, arith, sym, ap, Some, ◌∙◌}
use Rattle.smallvec.specs.SmallVec.{small_vec_len}
use Rattle.tap_link.proofs.Present.{take_is, full_is, never_empty_at}
use Rattle.tap_link.proofs.places.Places.cease.Goals as goal

pub loop-place-preserved : goal.loop-place-preserved
loop-place-preserved g c =
    let places = c.loop-place.self-inside.links in
    let after = c.pop.ensures.rest ∙ take_is places.items _ (small_vec_len places - 1) c.loop-place.invariant.full in
    record { full = full_is c.pop.new.self.items _ after; inline = omega arith }

pub unreachable-requires : goal.unreachable-requires
unreachable-requires g c =
    let places = c.loop-place.self-inside.links in
    never_empty_at places.items (small_vec_len places - 1) c.loop-place.invariant.full
    (sym c.pop.ensures.value ∙ c.in-Some.is ∙ ap Some c.in-None.is)
