use Rattle.std.proofs.Common.{length, arith, ap}
use Rattle.tap_table.proofs.RowLists.{place_found, place_later, place_within, slot_is, slots_are, slots_len}
use Rattle.tap_table.proofs.table.Table.place_of_link.Goals as goal

pub returns-then-link-links : goal.returns-then-link-links
returns-then-link-links c =
    let t = c.args.self.now in
    let sets = c.as_slice-sets.result.now in
    let are = slots_are t c.self.inside.owner c.self.inside.settings c.self.inside.sets sets c.self.view_is
    c.as_slice-sets.ensures in
    let len = slots_len t sets are in
    let here = ap length (slot_is t sets c.loop-number.number c.index-sets-number.result are c.loop-number-test.true c.index-sets-number.is)
    in
    place_found t c.args.i c.loop-number.number c.loop-number.link (omega (arith, len, c.loop-number-test.true))
    (omega (arith, here, c.len-links.ensures.count, c.if-link-links.true)) c.loop-number.invariant

pub loop-number-preserved : goal.loop-number-preserved
loop-number-preserved c =
    let t = c.args.self.now in
    let sets = c.as_slice-sets.result.now in
    let are = slots_are t c.self.inside.owner c.self.inside.settings c.self.inside.sets sets c.self.view_is
    c.as_slice-sets.ensures in
    let len = slots_len t sets are in
    let here = ap length (slot_is t sets c.loop-number.number c.index-sets-number.result are c.loop-number-test.true c.index-sets-number.is)
    in
    place_later t c.args.i c.loop-number.number c.loop-number.link _ (omega (arith, len, c.loop-number-test.true))
    (omega (arith, here, c.len-links.ensures.count, c.if-link-links.false)) c.loop-number.invariant

pub unreachable-requires : goal.unreachable-requires
unreachable-requires c =
    let t = c.args.self.now in
    let sets = c.as_slice-sets.result.now in
    let are = slots_are t c.self.inside.owner c.self.inside.settings c.self.inside.sets sets c.self.view_is
    c.as_slice-sets.ensures in
    let len = slots_len t sets are in
    absurd (place_within t c.args.i c.loop-number.number c.loop-number.link c.requires c.loop-number.invariant
    (omega (arith, len, c.loop-number-test.false)))
