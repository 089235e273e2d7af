use Rattle.std.proofs.Common.{◌≡◌, length, arith, refl}
use Rattle.tap_table.specs.Sets.{has_primary}
use Rattle.tap_table.proofs.Counted.{as_many_marked, counted_as_many}
use Rattle.tap_table.proofs.WithPrimaries.{noted_after}
use Rattle.tap_table.proofs.sets.Sets.mark_leaving.Goals as goal

pub invariant_of-self : goal.invariant_of-self
invariant_of-self c =
    let old = c.index_mut-set.result.now in
    let new = c.mark_leaving-answer.new.self in
    let as_many = as_many_marked old new c.args.target c.mark_leaving-answer.ensures.after in
    let has : c.has_primary.result ≡ has_primary new = c.has_primary.ensures in
    record {
      counted = counted_as_many c.self.inside.sets.items c.self.inside.links c.args.number c.self.inside.empty_from old
          c.self.invariant.counted (rw (← c.self.view_is) at c.requires) c.index_mut-set.ensures.value new (length old.links)
          (length new.links) refl refl (omega (arith, as_many)) as_many;
      primaries = noted_after c.self.inside.sets.items c.self.inside.with_primary.items c.self.invariant.primaries c.args.number
          new c.has_primary.result has;
    }
