use Rattle.std.proofs.Common.{arith, length}
use Rattle.tap_make.specs.MadeNames.{made_object, object_count}
use Rattle.tap_make.specs.Mixer.{drawn}
use Rattle.tap_make.proofs.Naming.{picked}
use Rattle.tap_make.proofs.names.Names.draw_object.Goals as goal

pub returns-clause-value : goal.returns-clause-value
returns-clause-value c =
    picked c.args.self.now.objects (made_object (length c.args.self.now.newcomers) c.args.draws.now.seed) object_count
    (drawn c.args.draws.now.seed c.args.draws.now.place) c.pick.result (omega arith) c.requires.names.objects c.pick.ensures.value
