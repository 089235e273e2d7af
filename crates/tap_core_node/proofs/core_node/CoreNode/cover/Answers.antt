use Rattle.std.proofs.Common.{sym, ◌∙◌}
use Rattle.std.proofs.lemmas.Result.{on_ok_weaker}
use Rattle.tap_table.specs.Ties.{AreTies}
use Rattle.tap_multicast.proofs.Regions.{joiner_is_name, prefix_within}
use Rattle.tap_rule.specs.Node.{NodeState}
use Rattle.tap_core_node.specs.Requests.{asked_with}
use Rattle.tap_core_node.specs.State.{core_state}
use Rattle.tap_core_node.proofs.Covers.{above_now, few_now, named_now, offer_now, slots_now, within_now}
use Rattle.tap_core_node.proofs.Spreads.{covered_before, covered_now}
use Rattle.tap_core_node.proofs.core_node.CoreNode.cover.Goals as goal

pub returns-in-Already : goal.returns-in-Already
returns-in-Already c =
    let node : NodeState = core_state c.args.self.now in
    let found = rw (c.table-table.ensures.value, c.ties.ensures) at c.in_ok-cover.ensures.answer in
    on_ok_weaker c.answer.result
    (covered_before node (asked_with c.args.request.now c.args.watch.now) c.args.sent.now c.cover.new.self _ (sym found ∙ c.in-Already.is)
    c.in_ok-cover.ensures.after)
    (rw c.sender.ensures.value at c.answer.ensures)

pub returns-in-Now : goal.returns-in-Now
returns-in-Now c =
    let node : NodeState = core_state c.args.self.now in
    let found = rw (c.table-table.ensures.value, c.ties.ensures) at c.in_ok-cover.ensures.answer in
    on_ok_weaker c.spread.result
    (covered_now node (asked_with c.args.request.now c.args.watch.now) c.args.sent.now c.cover.new.self _ _ c.in-Now.first c.in-Now.offer
    c.in-Now.targets c.in-Now.left
    (sym found ∙ c.in-Now.is) c.in_ok-cover.ensures.after)
    c.spread.ensures

pub spread-requires-clause-offer : goal.spread-requires-clause-offer
spread-requires-clause-offer c =
    let request = c.args.request.now in
    let found = rw (c.table-table.ensures.value, c.ties.ensures) at c.in_ok-cover.ensures.answer in
    let ties : AreTies c.args.self.now.core = rw c.ties.ensures at c.table-table.ensures.valid in
    offer_now c.args.self.now.parts.covers c.args.self.now.core.table c.args.watch.now request.joiner request.prefix request.level
    ties.table c.requires.fits c.requires.slots c.requires.few c.in-Now.first c.in-Now.offer c.in-Now.targets c.in-Now.left
    (sym found ∙ c.in-Now.is)

pub spread-requires-clause-names : goal.spread-requires-clause-names
spread-requires-clause-names c =
    let request = c.args.request.now in
    let found = rw (c.table-table.ensures.value, c.ties.ensures) at c.in_ok-cover.ensures.answer in
    let ties : AreTies c.args.self.now.core = rw c.ties.ensures at c.table-table.ensures.valid in
    named_now c.args.self.now.parts.covers c.args.self.now.core.table c.args.watch.now request.joiner request.prefix request.level
    ties.table c.requires.fits c.requires.slots c.requires.few c.in-Now.first c.in-Now.offer c.in-Now.targets c.in-Now.left
    (sym found ∙ c.in-Now.is)

pub spread-requires-clause-above : goal.spread-requires-clause-above
spread-requires-clause-above c =
    let request = c.args.request.now in
    let found = rw (c.table-table.ensures.value, c.ties.ensures) at c.in_ok-cover.ensures.answer in
    let ties : AreTies c.args.self.now.core = rw c.ties.ensures at c.table-table.ensures.valid in
    above_now c.args.self.now.parts.covers c.args.self.now.core.table c.args.watch.now request.joiner request.prefix request.level
    ties.table c.requires.fits c.requires.slots c.requires.few c.in-Now.first c.in-Now.offer c.in-Now.targets c.in-Now.left
    (sym found ∙ c.in-Now.is)

pub spread-requires-clause-within : goal.spread-requires-clause-within
spread-requires-clause-within c =
    let request = c.args.request.now in
    let found = rw (c.table-table.ensures.value, c.ties.ensures) at c.in_ok-cover.ensures.answer in
    let ties : AreTies c.args.self.now.core = rw c.ties.ensures at c.table-table.ensures.valid in
    within_now c.args.self.now.parts.covers c.args.self.now.core.table c.args.watch.now request.joiner request.prefix request.level
    ties.table c.requires.fits c.requires.slots c.requires.few c.in-Now.first c.in-Now.offer c.in-Now.targets c.in-Now.left
    (sym found ∙ c.in-Now.is)

pub spread-requires-clause-slots : goal.spread-requires-clause-slots
spread-requires-clause-slots c =
    let request = c.args.request.now in
    let found = rw (c.table-table.ensures.value, c.ties.ensures) at c.in_ok-cover.ensures.answer in
    let ties : AreTies c.args.self.now.core = rw c.ties.ensures at c.table-table.ensures.valid in
    slots_now c.args.self.now.parts.covers c.args.self.now.core.table c.args.watch.now request.joiner request.prefix request.level
    ties.table c.requires.fits c.requires.slots c.requires.few c.in-Now.first c.in-Now.offer c.in-Now.targets c.in-Now.left
    (sym found ∙ c.in-Now.is)

pub spread-requires-clause-few : goal.spread-requires-clause-few
spread-requires-clause-few c =
    let request = c.args.request.now in
    let found = rw (c.table-table.ensures.value, c.ties.ensures) at c.in_ok-cover.ensures.answer in
    let ties : AreTies c.args.self.now.core = rw c.ties.ensures at c.table-table.ensures.valid in
    few_now c.args.self.now.parts.covers c.args.self.now.core.table c.args.watch.now request.joiner request.prefix request.level
    ties.table c.requires.fits c.requires.slots c.requires.few c.in-Now.first c.in-Now.offer c.in-Now.targets c.in-Now.left
    (sym found ∙ c.in-Now.is)

pub spread-requires-clause-joiner : goal.spread-requires-clause-joiner
spread-requires-clause-joiner c =
    let request = c.args.request.now in
    let ties : AreTies c.args.self.now.core = rw c.ties.ensures at c.table-table.ensures.valid in
    joiner_is_name c.args.self.now.core.table ties.table c.args.watch.now request.joiner request.prefix request.level c.requires.fits

pub spread-requires-clause-prefix : goal.spread-requires-clause-prefix
spread-requires-clause-prefix c =
    let request = c.args.request.now in
    let ties : AreTies c.args.self.now.core = rw c.ties.ensures at c.table-table.ensures.valid in
    prefix_within c.args.self.now.core.table ties.table c.args.watch.now request.joiner request.prefix request.level c.requires.fits
