use Rattle.tap_link.specs.LinkSet.{marked}
use Rattle.tap_table.specs.Table.{name_cmp}
use Rattle.tap_table.proofs.KeptTable.{IsTable-marked, width-marked}
use Rattle.tap_table.proofs.SetChanges.{IsNear, is_table, near_is, sets_after, table_after, within_sets}
use Rattle.tap_table.proofs.table.Table.mark_leaving.Goals as goal
use Rattle.tap_table.proofs.table.Table.mark_leaving.Goals.{After-number_of-number}

is_near : (c : After-number_of-number)
    → IsNear c.self.inside.owner c.self.inside.settings c.self.inside.sets c.args.self.now c.args.target c.number_of-number.result
is_near c =
    record {
      view = c.self.view_is;
      are = c.self.invariant;
      is_name = c.requires.name;
      other = c.requires.other;
      place = c.number_of-number.ensures;
    }

pub mark_leaving-requires : goal.mark_leaving-requires
mark_leaving-requires c = within_sets (is_near (goal.at.mark_leaving-requires c).After-number_of-number)

pub invariant_of-self : goal.invariant_of-self
invariant_of-self c =
    let is = is_near (goal.at.invariant_of-self c).After-number_of-number in
    sets_after is (λ s. marked name_cmp s c.args.target) c.mark_leaving.new.self c.mark_leaving.ensures.after
    (λ s. width-marked s c.args.target)
    (IsTable-marked c.args.self.now c.args.target (is_table is) c.requires.name c.requires.other)

pub returns-clause-answer : goal.returns-clause-answer
returns-clause-answer c =
    rw (near_is (is_near (goal.at.returns-clause-answer c).After-number_of-number)) at c.mark_leaving.ensures.answer

pub returns-clause-after : goal.returns-clause-after
returns-clause-after c =
    table_after (is_near (goal.at.returns-clause-after c).After-number_of-number) (λ s. marked name_cmp s c.args.target)
    c.mark_leaving.new.self c.mark_leaving.ensures.after
