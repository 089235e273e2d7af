use Rattle.std.proofs.Common.{◌∙◌, ap, sym, subst, List, ℕ}
use Rattle.tap_link.specs.LinkSet.{LinkSetValue}
use Rattle.tap_table.specs.Table.{AreSets, IsTable, table_of}
use Rattle.tap_table.proofs.Slots.{empty_is, empty_sets-are}
use Rattle.tap_table.proofs.table.Table.new.Goals as goal

pub invariant_of-result : goal.invariant_of-result
invariant_of-result c =
    let p = c.args.settings.now in
    let Are : List (LinkSetValue (List ℕ)) → Type 0 = AreSets c.args.owner p in
    let sets = rw (c.base.ensures.value, c.digits.ensures.value, c.width.ensures.value) at c.in_ok-new.ensures in
    subst Are (sym sets) (empty_sets-are p c.args.owner c.base.ensures.valid c.requires)

pub returns-clause-value : goal.returns-clause-value
returns-clause-value c =
    let p = c.args.settings.now in
    let sets = rw (c.base.ensures.value, c.digits.ensures.value, c.width.ensures.value) at c.in_ok-new.ensures in
    ap (table_of c.args.owner p) sets ∙ empty_is p c.args.owner

pub returns-clause-valid : goal.returns-clause-valid
returns-clause-valid c =
    let p = c.args.settings.now in
    let sets = rw (c.base.ensures.value, c.digits.ensures.value, c.width.ensures.value) at c.in_ok-new.ensures in
    let Are : List (LinkSetValue (List ℕ)) → Type 0 = λ sets. IsTable (table_of c.args.owner p sets) in
    subst Are (sym sets) (empty_sets-are p c.args.owner c.base.ensures.valid c.requires).valid
