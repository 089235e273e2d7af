use Rattle.std.proofs.Common.{◌≡◌, nat_eq, ap, ◌∙◌}
use Rattle.std.specs.List.{common_prefix_len}
use Rattle.tap_table.specs.Table.{TableValue, offered, place_of}
use Rattle.tap_pointer.specs.Reconcile.{AreLaidBeside}
use Rattle.tap_test_parts.proofs.Offered.{laid-offered_beside}
use Rattle.tap_test_parts.proofs.pointer.link.Goals as goal

pub reconcile_at-requires-clause-others : goal.reconcile_at-requires-clause-others
reconcile_at-requires-clause-others g c =
    let t : TableValue = c.args.table.now in
    let name = c.name_of-name.result in
    let owner : c.owner.result ≡ t.owner = c.owner.ensures.value ∙ ap (λ (u : TableValue). u.owner) c.offer.ensures.after in
    let level : c.lcp-level.result ≡ (place_of t.owner name).level =
    c.lcp-level.ensures.value ∙ ap (λ own. common_prefix_len nat_eq own name) owner in
    let beside : AreLaidBeside (offered t name) (place_of t.owner name).level c.args.pointers.now =
    laid-offered_beside t name c.settings.ensures.valid (rw c.settings.ensures.value at c.name_of-name.ensures) c.offer.ensures.other
    c.args.pointers.now c.requires.names c.requires.laid in
    rw (c.offer.ensures.after, level) beside
