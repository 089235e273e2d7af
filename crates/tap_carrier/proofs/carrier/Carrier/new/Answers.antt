use Rattle.std.proofs.Common.{false, refl, subst, sym}
use Rattle.tap_log.specs.declared.record.Record.TheVariants.{Carrier}
use Rattle.tap_log.specs.Reduced.{is_added}
use Rattle.tap_boxes.specs.Boxes.{BoxesValue}
use Rattle.tap_carrier.specs.Kept.{KeepsLog}
use Rattle.tap_engine.specs.World.{whole_log}
use Rattle.tap_carrier.proofs.Beginnings.{keeps_new}
use Rattle.tap_carrier.proofs.Remarking.{remarked_one}
use Rattle.tap_carrier.proofs.carrier.Carrier.new.Goals as goal

pub remark-requires-clause-kind : goal.remark-requires-clause-kind
unfolding is_added
remark-requires-clause-kind c = refl

pub returns-clause-world : goal.returns-clause-world
returns-clause-world c = (remarked_one Carrier c.args.world.now c.remark.new.self c.in_ok-remark.ensures.remarks, tt)

pub returns-clause-keeps : goal.returns-clause-keeps
returns-clause-keeps c = λ b begun.
    let after = c.remark.new.self in
    subst (λ (x : BoxesValue). KeepsLog b.settings (whole_log after) (record { boxes = x; resending = false; resent = 0 })) (sym c.new.ensures)
    (keeps_new b c.args.world.now after begun (remarked_one Carrier c.args.world.now after c.in_ok-remark.ensures.remarks))
