use Rattle.std.proofs.Common.{◌≡◌, ◌<◌, ◌≤◌, ◌-◌, ◌∙◌, ap, arith, rules, sym, true, false, length, get_or, nat_le}
use Rattle.std.specs.Ordering.{is_lt}
use Rattle.std.specs.List.Sorted.{IsPartitionPoint}
use Rattle.std.proofs.Math.Dec.{leb-zero}
use Rattle.std.proofs.lemmas.List.Sorted.{IsPartitionPoint-from_clause}
use Rattle.tap_name.specs.Prefix.{lcp}
use Rattle.tap_table.specs.Table.{name_cmp}
use Rattle.tap_table.proofs.LeastShared.{held_near_first, held_past_first, parted_below, stands_at_part}
use Rattle.tap_table.proofs.rest.least_shared.Goals as goal
use Rattle.tap_table.proofs.rest.least_shared.Goals.{After-partition_point-below}

-- the owner stands at the number of the names below it
stands : (c : After-partition_point-below) → (c.partition_point-below.result < length c.args.names.now)
    × (get_or c.args.names.now c.partition_point-below.result c.args.owner.now ≡ c.args.owner.now)
stands c =
    let owner = c.args.owner.now in
    let names = c.args.names.now in
    let below = c.partition_point-below.result in
    let parted : IsPartitionPoint (λ name. is_lt (name_cmp name owner) ≡ true) (λ name. is_lt (name_cmp name owner) ≡ false) names below =
    IsPartitionPoint-from_clause (λ name. is_lt (name_cmp name owner)) names below c.partition_point-below.ensures.partitioned
    (parted_below owner names c.requires.ascending) (λ a r q k. search rules) in
    stands_at_part owner names below c.requires.ascending c.requires.among parted

pub returns-then-below-width : goal.returns-then-below-width
returns-then-below-width c other is_other apart =
    let place = stands (goal.at.returns-then-below-width c).After-partition_point-below in
    let near = rw c.width-width.ensures.value at c.if-below-width.true in
    held_near_first c.args.settings.now c.args.owner.now c.args.names.now c.requires.owner c.requires.names c.requires.ascending
    c.partition_point-below.result place.0 place.1 other is_other apart near ∙ sym (leb-zero (lcp other c.args.owner.now))

pub returns-else-below-width : goal.returns-else-below-width
returns-else-below-width c other is_other apart =
    let owner = c.args.owner.now in
    let names = c.args.names.now in
    let below = c.partition_point-below.result in
    let place = stands (goal.at.returns-else-below-width c).After-partition_point-below in
    let width = c.width-width.ensures.value in
    let limits = c.width-width.ensures.valid in
    let name = c.index-names-below.result in
    let past : c.args.settings.now.width ≤ below = omega (arith, width, c.if-below-width.false) in
    let at : name ≡ get_or names (below - c.args.settings.now.width) name =
    rw width at c.index-names-below.is in
    held_past_first c.args.settings.now owner names c.requires.owner c.requires.names c.requires.ascending below place.0 place.1
    other is_other apart limits.width_from past name
    ∙ ap (λ n. nat_le (lcp n owner) (lcp other owner)) (sym at)
    ∙ ap (λ n. nat_le n (lcp other owner)) (sym c.lcp.ensures.shared)
