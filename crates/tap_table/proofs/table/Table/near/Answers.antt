use Rattle.std.proofs.Common.{◌∙◌, arith, ap, length, get_or}
use Rattle.tap_table.proofs.SetChanges.{IsNear, few_sets, near_at, within_sets}
use Rattle.tap_table.proofs.table.Table.near.Goals as goal
use Rattle.tap_table.proofs.table.Table.near.Goals.{After-as_slice}

is_near : (c : After-as_slice)
    → IsNear c.self.inside.owner c.self.inside.settings c.self.inside.sets c.args.self.now c.args.name.now c.number_of-number.result
is_near c =
    record {
      view = c.self.view_is;
      are = c.self.invariant;
      is_name = c.requires.name;
      other = c.requires.other;
      place = c.number_of-number.ensures;
    }

pub offset_bounds-as_slice-number : goal.offset_bounds-as_slice-number
offset_bounds-as_slice-number c = omega (arith, few_sets (is_near (goal.at.offset_bounds-as_slice-number c).After-as_slice))

pub bounds-as_slice-number : goal.bounds-as_slice-number
bounds-as_slice-number c =
    let within = within_sets (is_near (goal.at.bounds-as_slice-number c).After-as_slice) in
    omega (arith, within, ap length c.as_slice.ensures)

pub returns : goal.returns
returns c =
    let set = c.index-as_slice-number.result in
    c.index-as_slice-number.is ∙ ap (λ l. get_or l c.number_of-number.result set) c.as_slice.ensures
    ∙ near_at (is_near (goal.at.returns c).After-as_slice) set
