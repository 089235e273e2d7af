use Rattle.tap_link.specs.LinkSet.{forgotten}
use Rattle.tap_table.specs.Table.{name_cmp}
use Rattle.tap_table.proofs.KeptTable.{IsTable-forgotten, width-forgotten}
use Rattle.tap_table.proofs.SetChanges.{IsNear, is_table, near_is, sets_after, table_after, within_sets}
use Rattle.tap_table.proofs.table.Table.forget.Goals as goal
use Rattle.tap_table.proofs.table.Table.forget.Goals.{After-number_of-number}

is_near : (c : After-number_of-number)
    → IsNear c.self.inside.owner c.self.inside.settings c.self.inside.sets c.args.self.now c.args.by.from c.number_of-number.result
is_near c =
    record {
      view = c.self.view_is;
      are = c.self.invariant;
      is_name = c.requires.name;
      other = c.requires.other;
      place = c.number_of-number.ensures;
    }

pub forget-requires : goal.forget-requires
forget-requires c = within_sets (is_near (goal.at.forget-requires c).After-number_of-number)

pub invariant_of-self : goal.invariant_of-self
invariant_of-self c =
    let is = is_near (goal.at.invariant_of-self c).After-number_of-number in
    sets_after is (λ s. forgotten name_cmp s c.args.by.from) c.forget.new.self c.forget.ensures.after
    (λ s. width-forgotten s c.args.by.from)
    (IsTable-forgotten c.args.self.now c.args.by.from (is_table is) c.requires.name c.requires.other)

pub returns-clause-answer : goal.returns-clause-answer
returns-clause-answer c =
    rw (near_is (is_near (goal.at.returns-clause-answer c).After-number_of-number)) at c.forget.ensures.answer

pub returns-clause-after : goal.returns-clause-after
returns-clause-after c =
    table_after (is_near (goal.at.returns-clause-after c).After-number_of-number) (λ s. forgotten name_cmp s c.args.by.from)
    c.forget.new.self c.forget.ensures.after
