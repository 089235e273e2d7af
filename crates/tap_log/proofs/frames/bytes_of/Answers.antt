use Rattle.std.proofs.Common.{◌∙◌, [], ap, sym, arith}
use Rattle.std.specs.Prelude.{option_copied}
use Rattle.tap_log.specs.Frames.{sent_bytes}
use Rattle.tap_log.proofs.Gathering.{first_given, gathered_same}
use Rattle.tap_log.proofs.frames.bytes_of.Goals as goal

pub returns-in-Some : goal.returns-in-Some
returns-in-Some c =
    let here = c.loop-item in
    sym (first_given (sent_bytes c.args.number) c.args.records.now here.item-index c.item-item.result c.in-Some.bytes.now (omega arith)
    c.item-item.is here.invariant (sym c.sent_bytes.ensures ∙ ap option_copied c.in-Some.is))

pub loop-item-preserved : goal.loop-item-preserved
loop-item-preserved c =
    let here = c.loop-item in
    sym (gathered_same (sent_bytes c.args.number) c.args.records.now here.item-index c.item-item.result [] (omega arith) c.item-item.is
    (sym here.invariant) (sym c.sent_bytes.ensures ∙ ap option_copied c.in_default.is))
