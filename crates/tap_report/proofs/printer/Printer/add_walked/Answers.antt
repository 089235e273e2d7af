use Rattle.std.proofs.Common.{◌-◌, length, arith}
use Rattle.tap_report.proofs.TextLemmas.{node_at-is}
use Rattle.tap_report.proofs.PrintsLemmas.{◌⨾◌}
use Rattle.tap_report.proofs.printer.Printer.add_walked.Goals as goal

pub returns : goal.returns
returns g c =
    let path = c.args.path.now in
    let asker = node_at-is path 0 c.index-path-0.result c.requires c.index-path-0.is in
    let root = node_at-is path (length path - 1) c.index-path-hops.result (omega (arith, c.requires)) c.index-path-hops.is in
    rw asker at c.add_from.ensures ⨾ c.add.ensures ⨾ c.add_names.ensures ⨾ rw root at c.add_name_after.ensures ⨾ c.add_hops.ensures
