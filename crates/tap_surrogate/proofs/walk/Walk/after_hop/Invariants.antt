use Rattle.std.proofs.Common.{◌≡◌, drop}
use Rattle.tap_surrogate.specs.Nodes.{core_links}
use Rattle.tap_surrogate.specs.Walk.{walk_on}
use Rattle.tap_surrogate.proofs.walk.Walk.after_hop.Given as goal

abbrev pub invariant-loop-level : goal.invariant-loop-level
invariant-loop-level g l =
    let base = (g.T.Tables.parameters l.tables).base in
    let links = core_links (g.T.Tables.nodes l.tables)
    in walk_on base links l.self.node l.self.level (drop l.self.level l.self.object)
    ≡ walk_on base links l.self.node l.level (drop l.level l.self.object)
