use Rattle.tap_report.proofs.WritesLemmas.{WritesText-then}
use Rattle.tap_judge.proofs.line.write_number.Goals as goal

pub returns : goal.returns
returns g c =
    let first = c.write_text-so_far.ensures in
    let number = rw (c.as_bytes.ensures.value, c.format.ensures.text) at c.write_text-so_far-2.ensures in
    WritesText-then (WritesText-then first number) c.write_text.ensures
