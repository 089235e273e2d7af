use Rattle.std.proofs.Common.{◌≡◌, ◌++◌, ◌-◌}
use Rattle.tap_surrogate.specs.Nodes.{core_links}
use Rattle.tap_surrogate.specs.Standing.{IsStanding, path_left}
use Rattle.tap_surrogate.specs.Walk.{walk}
use Rattle.tap_surrogate.proofs.walk.walk_path.Given as goal

abbrev pub invariant-loop-path : goal.invariant-loop-path
invariant-loop-path g l =
    let p = g.T.Tables.parameters l.tables in
    let nodes = g.T.Tables.nodes l.tables
    in record {
      standing : IsStanding p nodes l.walk;
      whole : l.path ++ path_left p.base (core_links nodes) l.walk ≡ walk p.base (core_links nodes) l.fn.from l.fn.object;
    }

abbrev pub decreases-loop-path : goal.decreases-loop-path
decreases-loop-path g l = (g.T.Tables.parameters l.tables).digits - l.walk.level
