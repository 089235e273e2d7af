use Rattle.std.proofs.Common.{◌≡◌, ◌∙◌, [], ap, false, subst, ◌≤◌}
use Rattle.tap_log.specs.Counts.{ticket_count}
use Rattle.tap_ledger.specs.Woven.{woven}
use Rattle.tap_ledger.proofs.Woven.{woven_nothing}
use Rattle.tap_engine.specs.WorldHeadline.{WorldHasHeadline}
use Rattle.tap_engine.specs.KeptEngine.{world_value}
use Rattle.tap_engine.specs.Kinds.{most_index}
use Rattle.tap_engine.specs.World.{HasNodesOfLog, WorldValue}
use Rattle.tap_engine.proofs.Endings.{few_tickets}
use Rattle.tap_engine.proofs.HeadlineOfWorld.{kept_headline}
use Rattle.tap_world.proofs.Nodes.{kept_nodes}
use Rattle.tap_world.proofs.world.World.log.Goals as goal

pub returns-clause-tickets : goal.returns-clause-tickets
returns-clause-tickets c =
    let w = c.self.inside in
    subst (λ (v : WorldValue). ticket_count v.log ≤ most_index) c.self.view_is
    (few_tickets (world_value w.engine w.refused w.stopped) c.self.invariant.log)

pub returns-clause-headline : goal.returns-clause-headline
returns-clause-headline c =
    let w = c.self.inside in
    subst WorldHasHeadline c.self.view_is
    (kept_headline w.engine w.refused w.stopped c.self.invariant)

pub returns-clause-unremarked : goal.returns-clause-unremarked
returns-clause-unremarked c = λ none.
    let w = c.self.inside in
    let nothing : w.engine.ledger.added ≡ [] = ap (λ (v : WorldValue). v.added) c.self.view_is ∙ none in
    c.log.ensures.records ∙ ap (woven w.engine.ledger.records) nothing ∙ woven_nothing w.engine.ledger.records
    ∙ ap (λ (v : WorldValue). v.log) c.self.view_is

pub returns-clause-nodes : goal.returns-clause-nodes
returns-clause-nodes c = λ runs.
    let w = c.self.inside in
    let goes : w.stopped ≡ false = ap (λ (x : WorldValue). x.stopped) c.self.view_is ∙ runs in
    subst HasNodesOfLog c.self.view_is (kept_nodes w.engine w.refused w.stopped c.self.invariant goes)
