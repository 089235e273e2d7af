use Rattle.tap_lawful_shapes.proofs.Ends.{logs_are_shapes}
use Rattle.tap_lawful_shapes.proofs.law.shapes_law.Goals as goal

pub returns : goal.returns
returns c = logs_are_shapes (record { once = c.told_casts_law.ensures.once; numbered = c.run_casts_law.ensures.numbered })
