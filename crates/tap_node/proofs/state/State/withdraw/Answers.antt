use Rattle.std.proofs.Common.{refl}
use Rattle.std.proofs.lemmas.Result.{IfOk-weaker}
use Rattle.tap_rule.specs.Event.Start.{Withdraw}
use Rattle.tap_node.specs.declared.state.State.TheVariants.{Core}
use Rattle.tap_node.proofs.ByStatus.{core_starts, is_core}
use Rattle.tap_node.proofs.state.State.withdraw.Goals as goal

pub returns : goal.returns
returns c =
    IfOk-weaker c.withdraw.result _ _
    (λ news follows.
    core_starts c.args.sender.now.settings c.args.sender.now.name c.args.self.now (Core c.withdraw.new.self) (Withdraw c.args.object)
    c.args.sent.now c.withdraw.new.sent news c.in-Core.node c.withdraw.new.self c.in-Core.is refl follows)
    c.withdraw.ensures

pub unreachable-requires : goal.unreachable-requires
unreachable-requires c = is_core c.args.sender.now.settings c.args.sender.now.name c.args.self.now c.requires.at c.in_default.not-Core
