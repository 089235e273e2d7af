use Rattle.std.proofs.Common.{◌≡◌, ℕ, ◌+◌, List, length, ap, arith}
use Rattle.std.specs.Prelude.{decimal}
use Rattle.tap_report.specs.Printer.{PrinterValue}
use Rattle.tap_report.proofs.DecimalLemmas.{put_after}
use Rattle.tap_report.proofs.printer.Printer.push_u32.Goals as goal

pub returns-clause-text : goal.returns-clause-text
returns-clause-text c =
    let len = c.self.inside.len in
    let digits = decimal c.args.number in
    let count = c.decimal_len.ensures.value in
    let place : c.write_digits.result ≡ len = omega (arith, c.write_digits.ensures.start, count) in
    let end : len + length digits ≡ len + c.decimal_len.result = omega (arith, count) in
    let before = rw place at c.write_digits.ensures.before in
    let written = rw place at c.write_digits.ensures.written in
    let printer : List ℕ → PrinterValue = λ waiting. record { so_far = c.self.inside.so_far; waiting = waiting } in
    rw (← c.self.view_is)
    (record { is = ap printer (put_after c.self.inside.room c.write_digits.new.buf digits _ len _ end before written) })
