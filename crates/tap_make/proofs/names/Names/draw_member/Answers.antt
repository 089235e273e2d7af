use Rattle.std.proofs.Common.{arith}
use Rattle.tap_make.specs.MadeNames.{made_node, member_count}
use Rattle.tap_make.specs.Mixer.{drawn}
use Rattle.tap_make.proofs.Naming.{picked}
use Rattle.tap_make.proofs.names.Names.draw_member.Goals as goal

pub returns-clause-value : goal.returns-clause-value
returns-clause-value c =
    picked c.args.self.now.members (made_node c.args.draws.now.seed) member_count
    (drawn c.args.draws.now.seed c.args.draws.now.place) c.pick.result (omega arith) c.requires.names.members c.pick.ensures.value
