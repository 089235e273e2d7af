use Rattle.tap_shape.proofs.Printing.{shapes_print}
use Rattle.tap_shape.proofs.law.shape_law.Goals as goal

pub returns : goal.returns
returns c = shapes_print
