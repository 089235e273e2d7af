use Rattle.std.proofs.Common.{◌≡◌, arith}
use Rattle.tap_table.proofs.Counted.{counted_after, few_slots, fits_after}
use Rattle.tap_table.specs.Sets.{has_primary}
use Rattle.tap_table.proofs.WithPrimaries.{noted_after}
use Rattle.tap_table.proofs.sets.Sets.pin.Goals as goal

pub overflow_add-self : goal.overflow_add-self
overflow_add-self c =
    let fits = fits_after c.self.inside.sets.items c.self.inside.links c.args.number c.self.inside.empty_from c.index_mut-set.result.now
    c.self.invariant.counted (rw (← c.self.view_is) at c.requires) c.index_mut-set.ensures.value c.pin_in.new.set c.len-before.result
    c.len-now.result c.len-before.ensures.count c.len-now.ensures.count c.pin_in.ensures.few in
    omega (arith, fits)

pub past-empty_from-requires : goal.past-empty_from-requires
past-empty_from-requires c =
    few_slots c.self.inside.sets.items c.self.inside.links c.args.number c.self.inside.empty_from c.index_mut-set.result.now
    c.self.invariant.counted (rw (← c.self.view_is) at c.requires) c.index_mut-set.ensures.value

pub invariant_of-self-2 : goal.invariant_of-self-2
invariant_of-self-2 c =
    let has : c.has_primary.result ≡ has_primary c.pin_in.new.set = c.has_primary.ensures in
    record {
      counted = counted_after c.self.inside.sets.items c.self.inside.links c.args.number c.self.inside.empty_from c.index_mut-set.result.now
          c.self.invariant.counted (rw (← c.self.view_is) at c.requires) c.index_mut-set.ensures.value c.pin_in.new.set c.len-before.result
          c.len-now.result c.past-empty_from.result c.len-before.ensures.count c.len-now.ensures.count c.pin_in.ensures.few
          c.past-empty_from.ensures.after c.past-empty_from.ensures.least;
      primaries = noted_after c.self.inside.sets.items c.self.inside.with_primary.items c.self.invariant.primaries c.args.number
          c.pin_in.new.set c.has_primary.result has;
    }
