use Rattle.tap_surrogate.specs.Nodes.{core_links}
use Rattle.tap_surrogate.specs.Walk.{walk, walk_end}
use Rattle.tap_root_sets.proofs.Walking.{hop_keeps}
use Rattle.tap_root_sets.proofs.root_sets.end_of_walk.Goals as goal

pub loop-root-preserved : goal.loop-root-preserved
loop-root-preserved g c =
    let p = g.T.Tables.parameters c.args.tables.now in
    let nodes = g.T.Tables.nodes c.args.tables.now in
    let end = walk_end (walk p.base (core_links nodes) c.args.from c.args.object) in
    record {
      standing = c.next.ensures.standing;
      ends = hop_keeps p nodes c.loop-root.walk c.next.new.self end c.in_default.ensures.step.1 c.loop-root.invariant.ends;
    }
