use Rattle.std.proofs.Common.{◌∙◌, sym}
use Rattle.std.proofs.lemmas.List.{nil_from_length}
use Rattle.tap_surrogate.proofs.Nearest.{root-nil, first_is_nearest, item_among, nearest_stays, nearest_changes, nearest_seen_is_root}
use Rattle.tap_surrogate.proofs.root.root_of.Goals as goal
use Rattle.tap_surrogate.proofs.root.root_of.Goals.{then-is_nearer, else-is_nearer}

pub returns-in_err-first-clause-value : goal.returns-in_err-first-clause-value
returns-in_err-first-clause-value c =
    let none = nil_from_length c.args.names.now (rw c.as_slice.ensures at c.in_err-first.ensures.cases) in
    rw none (c.from_residual.ensures ∙ sym (root-nil c.args.settings.now.base c.args.object.now))

pub loop-name-init : goal.loop-name-init
loop-name-init c =
    first_is_nearest c.args.settings.now c.args.object.now c.args.names.now c.in_ok-first.first.now c.in_ok-first.others.now
    (sym c.as_slice.ensures ∙ c.in_ok-first.ensures.cases.0)

pub is_nearer-requires-clause-a : goal.is_nearer-requires-clause-a
is_nearer-requires-clause-a c =
    c.requires.names c.name-item.result
    (item_among c.args.names.now c.in_ok-first.first.now c.in_ok-first.others.now c.loop-name.name-index c.name-item.result
    (sym c.as_slice.ensures ∙ c.in_ok-first.ensures.cases.0) c.loop-name-test.true c.name-item.is)

pub is_nearer-requires-clause-b : goal.is_nearer-requires-clause-b
is_nearer-requires-clause-b c = c.requires.names c.loop-name.nearest.now c.loop-name.invariant.among

pub loop-name-preserved : goal.loop-name-preserved
loop-name-preserved c =
    let p = c.args.settings.now in
    let object = c.args.object.now in
    let names = c.args.names.now in
    let first = c.in_ok-first.first.now in
    let others = c.in_ok-first.others.now in
    let i = c.loop-name.name-index in
    let item = c.name-item.result in
    let nearest = c.loop-name.nearest.now in
    elim c.if-is_nearer.branch [
      | then-is_nearer w ↦
          rw w.nearest-is (nearest_changes p object names first others i item nearest c.requires.names c.requires.object
          (sym c.as_slice.ensures ∙ c.in_ok-first.ensures.cases.0)
          c.loop-name-test.true c.name-item.is c.loop-name.invariant w.if-is_nearer.ensures.nearer)
      | else-is_nearer w ↦
          rw w.nearest-is (nearest_stays p object names first others i item nearest c.loop-name-test.true c.name-item.is
          c.loop-name.invariant w.if-is_nearer.ensures.other)
    ]

pub returns-clause-value : goal.returns-clause-value
returns-clause-value c =
    sym (nearest_seen_is_root c.args.settings.now c.args.object.now c.args.names.now c.in_ok-first.first.now c.in_ok-first.others.now
    c.loop-name.name-index c.loop-name.nearest.now
    c.requires.names c.requires.object (sym c.as_slice.ensures ∙ c.in_ok-first.ensures.cases.0) c.loop-name-test.false
    c.loop-name.invariant)
