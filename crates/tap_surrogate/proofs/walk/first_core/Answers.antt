use Rattle.std.proofs.Common.{sym}
use Rattle.tap_surrogate.proofs.CoreLinks.{first_found, first_comes_later}
use Rattle.tap_surrogate.proofs.Least.{first_is_least}
use Rattle.tap_surrogate.proofs.walk.first_core.Goals as goal

pub returns-then-is_core-clause-least : goal.returns-then-is_core-clause-least
returns-then-is_core-clause-least g c =
    let core = (g.T.Tables.nodes c.args.tables.now).core in
    let target = c.target_at-target.result in
    first_is_least core c.args.links.now.links target c.len-at-end.ensures.valid.ascending
    (first_found core _ c.loop-at.at target _ c.loop-at.invariant c.target_at-target.ensures c.is_core.ensures c.if-is_core.true)

pub returns-then-is_core-clause-value : goal.returns-then-is_core-clause-value
returns-then-is_core-clause-value g c =
    let core = (g.T.Tables.nodes c.args.tables.now).core in
    let target = c.target_at-target.result in
    sym (first_found core _ c.loop-at.at target _ c.loop-at.invariant c.target_at-target.ensures c.is_core.ensures c.if-is_core.true)

pub loop-at-preserved : goal.loop-at-preserved
loop-at-preserved g c =
    let core = (g.T.Tables.nodes c.args.tables.now).core in
    let target = c.target_at-target.result in
    first_comes_later core _ c.loop-at.at target _ c.loop-at.invariant c.target_at-target.ensures c.is_core.ensures c.if-is_core.false
