use Rattle.std.proofs.Common.{◌<◌, get_or, sym, ap, ◌∙◌, arith}
use Rattle.std.proofs.lemmas.Bool.{ne_eqb}
use Rattle.tap_surrogate.specs.Nodes.{core_links}
use Rattle.tap_surrogate.proofs.CoreLinks.{least_link_of}
use Rattle.tap_surrogate.proofs.Least.{hop_is_least}
use Rattle.tap_surrogate.proofs.Paths.{own_is_taken, link_is_taken}
use Rattle.tap_surrogate.proofs.walk.hop_at.Goals as goal

pub returns-in-Some-clause-least : goal.returns-in-Some-clause-least
returns-in-Some-clause-least g c =
    let nodes = g.T.Tables.nodes c.args.tables.now in
    let table = c.args.table.now in
    let digit = c.loop-digit.digit in
    let links = c.slot-links.result.now.links in
    let base_is = c.base-base.ensures.value ∙ ap (λ p. p.base) (c.settings.ensures.value ∙ c.requires.settings) in
    let same_base = ap (λ p. p.base) c.requires.settings in
    let below : digit < table.settings.base = omega (arith, base_is, same_base, c.loop-digit.invariant.below) in
    let links_are = ap (λ s. s.links) c.slot-links.ensures in
    let first = sym c.in-Some.is ∙ c.first_core.ensures.value in
    hop_is_least nodes table c.args.level digit links c.in-Some.to c.settings.ensures.valid c.requires.table below links_are first
    c.in-Some.ensures.least

pub returns-in-Some-clause-value : goal.returns-in-Some-clause-value
returns-in-Some-clause-value g c =
    let nodes = g.T.Tables.nodes c.args.tables.now in
    let table = c.args.table.now in
    let base = c.base-base.result in
    let wanted = c.args.wanted in
    let digit = c.loop-digit.digit in
    let links = c.slot-links.result.now.links in
    let base_is = c.base-base.ensures.value ∙ ap (λ p. p.base) (c.settings.ensures.value ∙ c.requires.settings) in
    let same_base = ap (λ p. p.base) c.requires.settings in
    let own_is = c.requires.own in
    let below : digit < table.settings.base = omega (arith, base_is, same_base, c.loop-digit.invariant.below) in
    let other = ne_eqb (get_or table.owner c.args.level 0) digit (λ same. c.loop-digit-test.true (sym same ∙ sym own_is)) in
    let links_are = ap (λ s. s.links) c.slot-links.ensures in
    let least = least_link_of nodes table c.args.level digit links c.requires.table below links_are in
    let link = least ∙ sym c.first_core.ensures.value ∙ c.in-Some.is in
    let wanted_below : wanted < base = omega (arith, base_is, c.requires.wanted) in
    let taken = link_is_taken base (core_links nodes) table.owner c.args.level wanted digit c.in-Some.to wanted_below
    c.loop-digit.invariant.below other link c.loop-digit.invariant.first in
    rw base_is at taken

pub returns-clause-value : goal.returns-clause-value
returns-clause-value g c =
    let links = core_links (g.T.Tables.nodes c.args.tables.now) in
    let node = c.args.table.now.owner in
    let base = c.base-base.result in
    let wanted = c.args.wanted in
    let base_is = c.base-base.ensures.value ∙ ap (λ p. p.base) (c.settings.ensures.value ∙ c.requires.settings) in
    let own_is = c.requires.own in
    let wanted_below : wanted < base = omega (arith, base_is, c.requires.wanted) in
    let taken = own_is_taken base links node c.args.level wanted c.loop-digit.digit wanted_below c.loop-digit.invariant.below
    (c.loop-digit-test.false ∙ own_is) c.loop-digit.invariant.first in
    rw base_is at taken
