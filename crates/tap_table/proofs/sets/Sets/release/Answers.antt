use Rattle.std.proofs.Common.{◌≡◌, arith}
use Rattle.tap_table.proofs.Counted.{counted_fewer, fewer_released, fits_fewer}
use Rattle.tap_table.specs.Sets.{has_primary}
use Rattle.tap_table.proofs.WithPrimaries.{noted_after}
use Rattle.tap_table.proofs.sets.Sets.release.Goals as goal

pub overflow_add-self : goal.overflow_add-self
overflow_add-self c =
    let old = c.index_mut-set.result.now in
    let new = c.release-answer.new.self in
    let fewer = fewer_released old new c.args.by.from c.len-before.ensures.valid c.release-answer.ensures.after in
    let fits = fits_fewer c.self.inside.sets.items c.self.inside.links c.args.number c.self.inside.empty_from old c.self.invariant.counted
    (rw (← c.self.view_is) at c.requires) c.index_mut-set.ensures.value new c.len-before.result c.len-now.result
    c.len-before.ensures.count c.len-now.ensures.count fewer in
    omega (arith, fits)

pub invariant_of-self : goal.invariant_of-self
invariant_of-self c =
    let old = c.index_mut-set.result.now in
    let new = c.release-answer.new.self in
    let fewer = fewer_released old new c.args.by.from c.len-before.ensures.valid c.release-answer.ensures.after in
    let has : c.has_primary.result ≡ has_primary c.release-answer.new.self = c.has_primary.ensures in
    record {
      counted = counted_fewer c.self.inside.sets.items c.self.inside.links c.args.number c.self.inside.empty_from old c.self.invariant.counted
          (rw (← c.self.view_is) at c.requires) c.index_mut-set.ensures.value new c.len-before.result c.len-now.result
          c.len-before.ensures.count c.len-now.ensures.count fewer;
      primaries = noted_after c.self.inside.sets.items c.self.inside.with_primary.items c.self.invariant.primaries c.args.number
          c.release-answer.new.self c.has_primary.result has;
    }
