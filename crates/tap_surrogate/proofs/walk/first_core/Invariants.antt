use Rattle.std.proofs.Common.{◌≡◌, drop, filter, map}
use Rattle.tap_name.specs.Root.{first_of}
use Rattle.tap_surrogate.proofs.walk.first_core.Given as goal

abbrev pub invariant-loop-at : goal.invariant-loop-at
invariant-loop-at g l =
    let core = (g.T.Tables.nodes l.tables).core in
    let targets = map (λ e. e.target) l.links.links
    in first_of (filter core targets) ≡ first_of (filter core (drop l.at targets))
