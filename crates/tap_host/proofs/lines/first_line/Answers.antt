use Rattle.std.proofs.Common.{arith}
use Rattle.tap_host.proofs.Finding.{looks, too_long}
use Rattle.tap_host.proofs.lines.first_line.Goals as goal

pub returns-then-unwrap_or-gt-MOST_LINE : goal.returns-then-unwrap_or-gt-MOST_LINE
returns-then-unwrap_or-gt-MOST_LINE c =
    too_long c.args.bytes.now c.end_of_line-end.result c.end_of_line-end.ensures
    (omega (arith, c.if-unwrap_or-gt-MOST_LINE.true, c.unwrap_or.ensures))

pub returns : goal.returns
returns c =
    looks c.args.bytes.now c.end_of_line-end.result c.end_of_line-end.ensures
    (omega (arith, c.if-unwrap_or-gt-MOST_LINE.false, c.unwrap_or.ensures))
