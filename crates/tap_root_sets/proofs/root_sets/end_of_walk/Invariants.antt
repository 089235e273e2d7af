use Rattle.std.proofs.Common.{◌≡◌, ◌-◌}
use Rattle.tap_surrogate.specs.Nodes.{core_links}
use Rattle.tap_surrogate.specs.Standing.{IsStanding, path_left}
use Rattle.tap_surrogate.specs.Walk.{walk, walk_end}
use Rattle.tap_root_sets.proofs.root_sets.end_of_walk.Given as goal

abbrev pub invariant-loop-root : goal.invariant-loop-root
invariant-loop-root g l =
    let p = g.T.Tables.parameters l.tables in
    let nodes = g.T.Tables.nodes l.tables
    in record {
      standing : IsStanding p nodes l.walk;
      ends : walk_end (path_left p.base (core_links nodes) l.walk) ≡ walk_end (walk p.base (core_links nodes) l.fn.from l.fn.object);
    }

abbrev pub decreases-loop-root : goal.decreases-loop-root
decreases-loop-root g l = (g.T.Tables.parameters l.tables).digits - l.walk.level
