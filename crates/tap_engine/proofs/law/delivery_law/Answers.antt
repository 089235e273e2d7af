use Rattle.tap_engine.proofs.Deliveries.{deliveries_refused}
use Rattle.tap_engine.proofs.law.delivery_law.Goals as goal

pub returns : goal.returns
returns c = deliveries_refused
