use Rattle.std.proofs.Common.{sym, ◌∙◌, arith}
use Rattle.tap_pointer.proofs.Levels.{held_at_level, level_most}
use Rattle.tap_pointer.proofs.laying.wanted_hop.Goals as goal

pub next_hop-requires-clause-name : goal.next_hop-requires-clause-name
next_hop-requires-clause-name c =
    c.requires.name (held_at_level c.args.state.now c.in-Some.level (sym c.level_held.ensures ∙ c.in-Some.is))

pub next_hop-requires-clause-level : goal.next_hop-requires-clause-level
next_hop-requires-clause-level c =
    let state = c.args.state.now in
    let is = sym c.level_held.ensures ∙ c.in-Some.is in
    let name = c.requires.name (held_at_level state c.in-Some.level is) in
    let most = level_most _ state c.in-Some.level c.requires.levels is in
    omega (arith, most, name.len)
