use Rattle.std.proofs.Common.{◌∙◌, sym, arith}
use Rattle.tap_table.proofs.Hops.{hop_exactly, hop_is}
use Rattle.tap_table.proofs.DigitTaken.{root_exactly}
use Rattle.tap_table.proofs.table.Table.next_hop.Goals as goal

pub returns-clause-root : goal.returns-clause-root
returns-clause-root c =
    rw c.next_from.ensures.value
    (root_exactly c.args.self.now c.args.level c.args.object.now c.next_from.ensures.valid c.requires.name c.requires.level)

pub returns-clause-hop : goal.returns-clause-hop
returns-clause-hop c to next =
    let both = hop_exactly c.args.self.now c.args.object.now to next c.args.level (omega (arith, c.requires.level, c.requires.name.len)) in
    (λ is. both.0 (sym c.next_from.ensures.value ∙ is), λ hops. c.next_from.ensures.value ∙ both.1 hops)

pub returns-clause-node : goal.returns-clause-node
returns-clause-node c to next is =
    let both = hop_exactly c.args.self.now c.args.object.now to next c.args.level (omega (arith, c.requires.level, c.requires.name.len)) in
    hop_is c.args.self.now c.args.object.now to next c.args.level c.next_from.ensures.valid c.requires.name
    (both.0 (sym c.next_from.ensures.value ∙ is))
