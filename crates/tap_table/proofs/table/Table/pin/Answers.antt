use Rattle.tap_link.specs.LinkSet.{pinned}
use Rattle.tap_table.specs.Table.{name_cmp}
use Rattle.tap_table.proofs.KeptTable.{IsTable-pinned, width-pinned}
use Rattle.tap_table.proofs.SetChanges.{IsNear, is_table, sets_after_result, table_after_result, within_sets}
use Rattle.tap_table.proofs.table.Table.pin.Goals as goal
use Rattle.tap_table.proofs.table.Table.pin.Goals.{After-number_of-number}

is_near : (c : After-number_of-number)
    → IsNear c.self.inside.owner c.self.inside.settings c.self.inside.sets c.args.self.now c.args.target c.number_of-number.result
is_near c =
    record {
      view = c.self.view_is;
      are = c.self.invariant;
      is_name = c.requires.name;
      other = c.requires.other;
      place = c.number_of-number.ensures;
    }

pub pin-requires : goal.pin-requires
pin-requires c = within_sets (is_near (goal.at.pin-requires c).After-number_of-number)

pub invariant_of-self : goal.invariant_of-self
invariant_of-self c =
    let is = is_near (goal.at.invariant_of-self c).After-number_of-number in
    sets_after_result is (λ s. pinned name_cmp s c.args.target) c.pin.new.self c.pin.result c.pin.ensures.after
    c.pin.ensures.same (λ s. width-pinned s c.args.target)
    (IsTable-pinned c.args.self.now c.args.target (is_table is) c.requires.name c.requires.other)

pub returns-clause-after : goal.returns-clause-after
returns-clause-after c =
    table_after_result (is_near (goal.at.returns-clause-after c).After-number_of-number) (λ s. pinned name_cmp s c.args.target)
    c.pin.new.self c.pin.result c.pin.ensures.after
