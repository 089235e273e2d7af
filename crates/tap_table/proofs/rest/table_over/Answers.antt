use Rattle.std.proofs.Common.{◌≡◌, take_all, sym, subst, ◌∙◌, List, ℕ, inl, inr}
use Rattle.std.specs.Prelude.{bytes_eq}
use Rattle.std.proofs.lemmas.Bool.{cases_Bool, true≢false}
use Rattle.std.proofs.lemmas.Slice.Eq.{bytes_eq-Decides}
use Rattle.tap_name.specs.Name.{IsName}
use Rattle.tap_table.specs.Table.{IsTable}
use Rattle.tap_table.proofs.AtRest.{IsTable-at_rest}
use Rattle.tap_table.proofs.SettledOn.{HasSettled, settled_on_all, settled_on_none, settled_on_other, settled_on_owner}
use Rattle.tap_table.proofs.rest.table_over.Goals as goal

pub loop-name-init : goal.loop-name-init
loop-name-init c = settled_on_none c.args.settings.now c.args.owner _ c.in_ok-table.ensures.value

pub settle_on-requires : goal.settle_on-requires
settle_on-requires c =
    let P : List ℕ → Type 0 = IsName c.args.settings.now in
    let item = c.name-item.result in
    rw c.loop-name.invariant.settings_are (subst P (sym c.name-item.is)
    (c.requires.names c.loop-name.name-index item c.loop-name-test.true))

pub loop-name-preserved : goal.loop-name-preserved
loop-name-preserved c =
    let p = c.args.settings.now in
    let owner = c.args.owner in
    let names = c.args.names.now in
    let i = c.loop-name.name-index in
    let name = c.name-item.result in
    let has = c.loop-name.invariant in
    let P : List ℕ → Type 0 = IsName p in
    let is_name = subst P (sym c.name-item.is) (c.requires.names i name c.loop-name-test.true) in
    elim (cases_Bool (bytes_eq name owner)) [
      | inl e ↦
          let own = (bytes_eq-Decides name owner).0 e in
          settled_on_owner p owner names i name c.loop-name.table c.settle_on.new.table has c.loop-name-test.true c.name-item.is own
          (c.in_ok-settle_on.ensures.owner (own ∙ sym has.owner_is))
      | inr e ↦
          let other : name ≡ owner → ⊥ = λ same. true≢false (sym ((bytes_eq-Decides name owner).1 same) ∙ e) in
          settled_on_other p owner names i name c.loop-name.table c.settle_on.new.table has c.requires.owner is_name c.requires.ascending
          c.loop-name-test.true c.name-item.is other (c.in_ok-settle_on.ensures.other (λ same. other (same ∙ has.owner_is)))
    ]

pub returns-clause-value : goal.returns-clause-value
returns-clause-value c =
    let names = c.args.names.now in
    let Has : List (List ℕ) → Type 0 = λ l. HasSettled c.args.settings.now c.args.owner l c.loop-name.table in
    settled_on_all c.args.settings.now c.args.owner names c.loop-name.table
    (subst Has (take_all c.loop-name.name-index names c.loop-name-test.false) c.loop-name.invariant)

pub returns-clause-valid : goal.returns-clause-valid
returns-clause-valid c =
    let p = c.args.settings.now in
    let names = c.args.names.now in
    let Has : List (List ℕ) → Type 0 = λ l. HasSettled p c.args.owner l c.loop-name.table in
    let is = settled_on_all p c.args.owner names c.loop-name.table
    (subst Has (take_all c.loop-name.name-index names c.loop-name-test.false) c.loop-name.invariant) in
    let limits = rw c.in_ok-table.ensures.value at c.in_ok-table.ensures.valid.limits in
    subst IsTable (sym is) (IsTable-at_rest p c.args.owner names limits c.requires.owner c.requires.names c.requires.ascending)
