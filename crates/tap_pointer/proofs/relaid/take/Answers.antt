use Rattle.std.proofs.Common.{◌≤◌, length, All, subst, sym}
use Rattle.std.specs.Cmp.Lexicographic.{nat_list_cmp_total}
use Rattle.tap_name.specs.Order.{name_cmp}
use Rattle.tap_register.proofs.Applied.{All-applied}
use Rattle.tap_pointer.specs.declared.state.PairState.{PairState}
use Rattle.tap_pointer.proofs.relaid.take.Goals as goal

pub wanted_hop-wanted-requires-clause-levels : goal.wanted_hop-wanted-requires-clause-levels
wanted_hop-wanted-requires-clause-levels c =
    let object = c.args.pair.now.object in
    let registers = c.args.state.now.registers in
    let levels =
    All-applied name_cmp nat_list_cmp_total registers c.args.from c.args.version c.args.pointer (λ r. r.value.level ≤ length object)
    c.requires.levels c.requires.level in
    subst (λ (s : PairState). All (λ r. r.value.level ≤ length object) s.registers) (sym c.in_ok-taken.ensures.after) levels
