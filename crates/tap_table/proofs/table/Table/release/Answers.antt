use Rattle.std.proofs.Common.{refl}
use Rattle.tap_link.specs.LinkSet.{released}
use Rattle.tap_table.specs.Table.{name_cmp}
use Rattle.tap_table.proofs.KeptTable.{IsTable-released}
use Rattle.tap_table.proofs.SetChanges.{IsNear, is_table, near_is, sets_after, table_after, within_sets}
use Rattle.tap_table.proofs.table.Table.release.Goals as goal
use Rattle.tap_table.proofs.table.Table.release.Goals.{After-number_of-number}

is_near : (c : After-number_of-number)
    → IsNear c.self.inside.owner c.self.inside.settings c.self.inside.sets c.args.self.now c.args.by.from c.number_of-number.result
is_near c =
    record {
      view = c.self.view_is;
      are = c.self.invariant;
      is_name = c.requires.name;
      other = c.requires.other;
      place = c.number_of-number.ensures;
    }

pub release-requires : goal.release-requires
release-requires c = within_sets (is_near (goal.at.release-requires c).After-number_of-number)

pub invariant_of-self : goal.invariant_of-self
invariant_of-self c =
    let is = is_near (goal.at.invariant_of-self c).After-number_of-number in
    sets_after is (λ s. released name_cmp s c.args.by.from) c.release.new.self c.release.ensures.after (λ _. refl)
    (IsTable-released c.args.self.now c.args.by.from (is_table is) c.requires.name c.requires.other)

pub returns-clause-answer : goal.returns-clause-answer
returns-clause-answer c =
    rw (near_is (is_near (goal.at.returns-clause-answer c).After-number_of-number)) at c.release.ensures.answer

pub returns-clause-after : goal.returns-clause-after
returns-clause-after c =
    table_after (is_near (goal.at.returns-clause-after c).After-number_of-number) (λ s. released name_cmp s c.args.by.from)
    c.release.new.self c.release.ensures.after
