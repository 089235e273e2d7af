use Rattle.std.proofs.Common.{rules, ◌≡◌, Err, ◌∙◌, sym}
use Rattle.tap_line.specs.declared.fault.LineFault.TheVariants.{NoLine}
use Rattle.tap_line.proofs.Sent.{bytes_fit, bytes_unfit, bytes_unread}
use Rattle.tap_line.proofs.frames.sent_text.Goals as goal

pub returns-in_err-bytes-clause-none : goal.returns-in_err-bytes-clause-none
returns-in_err-bytes-clause-none c = λ is.
    let same : c.bytes_of_hex.result ≡ Err NoLine = search rules in
    bytes_unread c.args.settings.now c.args.number c.args.kind.now c.args.from.now c.args.to.now c.args.text.now (c.bytes_of_hex.ensures.none same)

pub returns-then-not-is_head-clause-none : goal.returns-then-not-is_head-clause-none
returns-then-not-is_head-clause-none c = λ _.
    let head = rw c.as_slice.ensures at c.is_head.ensures in
    bytes_unfit c.args.settings.now c.args.number c.args.kind.now c.args.from.now c.args.to.now c.args.text.now c.in_ok-bytes.bytes
    c.in_ok-bytes.ensures.ok (sym head ∙ c.if-not-is_head.true)

pub returns-clause-ok : goal.returns-clause-ok
returns-clause-ok c =
    let head = rw c.as_slice.ensures at c.is_head.ensures in
    bytes_fit c.args.settings.now c.args.number c.args.kind.now c.args.from.now c.args.to.now c.args.text.now c.in_ok-bytes.bytes
    c.in_ok-bytes.ensures.ok (sym head ∙ c.if-not-is_head.false)
