use Rattle.std.proofs.Common.{refl}
use Rattle.tap_rule.specs.Event.Start.{Abandon}
use Rattle.tap_node_common.specs.declared.news.News.TheVariants.{Nothing}
use Rattle.tap_joining_node.specs.State.{joining_state}
use Rattle.tap_node.specs.declared.state.State.TheVariants.{Joining}
use Rattle.tap_node.proofs.ByStatus.{is_joining, joining_starts}
use Rattle.tap_node.proofs.Started.{gives_up_follows}
use Rattle.tap_node.proofs.state.State.abandon.Goals as goal

pub unreachable-requires : goal.unreachable-requires
unreachable-requires c = is_joining c.args.sender.now.settings c.args.sender.now.name c.args.self.now c.requires.at c.in_default.not-Joining

pub returns : goal.returns
returns c = λ sent.
    let sound = rw c.in-Joining.is at c.requires.sound in
    joining_starts c.args.sender.now.settings c.args.sender.now.name c.args.self.now (Joining c.abandon.new.self) Abandon sent sent Nothing
    c.in-Joining.node c.abandon.new.self c.in-Joining.is refl
    (gives_up_follows (joining_state c.in-Joining.node) tt sound.laid (joining_state c.abandon.new.self) sent c.abandon.ensures)
