use Rattle.std.proofs.Common.{◌≡◌, Ok, is_some, ap, sym, subst, ◌∙◌}
use Rattle.std.proofs.lemmas.Bool.{true≢false}
use Rattle.tap_node.specs.Node.{running}
use Rattle.tap_node.specs.Outcome.{start_outcome}
use Rattle.tap_overlay.specs.Overlay.{node_at}
use Rattle.tap_overlay.specs.Start.{MayStart, rule_start}
use Rattle.tap_engine.specs.Working.{HasBegunOf}
use Rattle.tap_engine.specs.declared.engine.Acted.{Acted}
use Rattle.tap_engine.proofs.Starting.{has_done_nothing, has_started, only_memory, some_for}
use Rattle.tap_engine.proofs.Taking.{if_ok, still_has}
use Rattle.tap_engine.proofs.engine.Engine.begin_at.Goals as goal

pub is_suited-requires : goal.is_suited-requires
is_suited-requires c = ap is_some c.requires.there

pub returns-then-is_suited-clause-unsuited : goal.returns-then-is_suited-clause-unsuited
returns-then-is_suited-clause-unsuited c = λ node there not.
    absurd (true≢false (sym c.if-is_suited.true ∙ c.is_suited.ensures node there ∙ not))

pub start-requires : goal.start-requires
start-requires c =
    let o = c.args.self.now.overlay in
    let name = c.args.name in
    let start = c.args.start.now in
    let suited = sym (c.is_suited.ensures (running c.requires.node) c.requires.there) ∙ c.if-is_suited.true in
    some_for (MayStart o.settings start) (node_at o name) (running c.requires.node) (c.requires.may suited) c.requires.there

pub acted_by-requires : goal.acted_by-requires
acted_by-requires c =
    only_memory c.args.self.now.overlay c.start.new.self c.args.name c.args.start.now c.requires c.start.result
    c.start.ensures.step c.start.ensures.settings

pub returns-then-is_suited-clause-begun : goal.returns-then-is_suited-clause-begun
returns-then-is_suited-clause-begun c =
    let o = c.args.self.now.overlay in
    let name = c.args.name in
    let start = c.args.start.now in
    if_ok (λ (acted : Acted). (acted.name ≡ name) × (c.start.result ≡ Ok acted.turn))
    (HasBegunOf o c.start.new.self name (rule_start start))
    (λ acted is. has_started o c.start.new.self name start c.requires c.start.result c.start.ensures.step c.start.ensures.settings
    acted is.0 is.1)
    c.acted_by.result c.acted_by.ensures

pub returns-then-is_suited-clause-still : goal.returns-then-is_suited-clause-still
returns-then-is_suited-clause-still c =
    still_has (λ node. start_outcome node (rule_start c.args.start.now)) c.args.self.now.overlay c.start.new.self c.args.name
    c.start.result c.start.ensures.step c.start.ensures.settings

pub returns-clause-begun : goal.returns-clause-begun
returns-clause-begun c =
    let o = c.args.self.now.overlay in
    let name = c.args.name in
    let start = c.args.start.now in
    let unsuited = sym (c.is_suited.ensures (running c.requires.node) c.requires.there) ∙ c.if-is_suited.false in
    subst (HasBegunOf o o name (rule_start start)) (sym c.nothing_by.ensures) (has_done_nothing o name start c.requires unsuited)
