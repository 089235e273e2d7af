use Rattle.tap_engine.proofs.Taking.{want_alone}
use Rattle.tap_engine.proofs.engine.acted_by.Goals as goal

pub only_memory-requires : goal.only_memory-requires
only_memory-requires c = want_alone c.args.answer c.in-Err.fault c.requires c.in-Err.is
