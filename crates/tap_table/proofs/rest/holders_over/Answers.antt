use Rattle.std.proofs.Common.{◌≡◌, ◌+◌, take, filter, sym, ◌∙◌, subst, All, List, ℕ, Bool}
use Rattle.std.specs.declared.cmp.Ordering.TheVariants.{Less}
use Rattle.tap_name.specs.Name.{IsName}
use Rattle.tap_register.specs.declared.registers.Entry.{Entry}
use Rattle.tap_table.specs.Members.{holders_at_rest, holds}
use Rattle.tap_table.specs.Table.{name_cmp}
use Rattle.tap_table.proofs.Holding.{above_holders, holder-more, holder-skip, words_below}
use Rattle.tap_table.proofs.LeastShared.{held_exactly_where}
use Rattle.tap_table.proofs.rest.holders_over.Goals as goal
use Rattle.tap_table.proofs.rest.holders_over.Goals.{then-is_holder+in_ok-push_last, else-is_holder}

pub push_last-requires : goal.push_last-requires
push_last-requires c =
    let p = c.args.settings.now in
    let owner = c.args.owner.now in
    let names = c.args.names.now in
    let i = c.loop-member.member-index in
    let name = c.member-item.result in
    let front = filter (holds p owner names) (take i names) in
    let over = above_holders p owner names i name c.requires.ascending c.loop-member-test.true c.member-item.is in
    let AreBelow : List (Entry (List ℕ) Bool) → Type 0 = λ l. All (λ e. name_cmp e.key name ≡ Less) l in
    subst AreBelow (sym c.loop-member.invariant) (words_below name front over)

pub loop-member-preserved : goal.loop-member-preserved
loop-member-preserved c =
    let p = c.args.settings.now in
    let owner = c.args.owner.now in
    let names = c.args.names.now in
    let i = c.loop-member.member-index in
    let name = c.member-item.result in
    let P : List ℕ → Type 0 = IsName p in
    let is_name = subst P (sym c.member-item.is) (c.requires.names i name c.loop-member-test.true) in
    let held = held_exactly_where p owner names c.least_shared-least.result c.least_shared-least.ensures name is_name
    ∙ sym c.is_holder.ensures in
    let Done : List (Entry (List ℕ) Bool) → Type 0 = λ l. l ≡ holders_at_rest p owner names (take (i + 1) names) in
    elim c.if-is_holder.branch [
      | then-is_holder+in_ok-push_last w ↦
          let has = held ∙ w.if-is_holder.true in
          subst Done (sym w.holders-is)
          (holder-more p owner names i name c.loop-member.holders w.push_last.new.self c.loop-member-test.true c.member-item.is has
          c.loop-member.invariant w.in_ok-push_last.ensures.ok)
      | else-is_holder w ↦
          let skip = holder-skip p owner names i name c.loop-member-test.true c.member-item.is (held ∙ w.if-is_holder.false) in
          subst Done (sym w.holders-is) (c.loop-member.invariant ∙ skip)
    ]
