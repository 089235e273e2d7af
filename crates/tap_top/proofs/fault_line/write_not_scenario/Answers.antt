use Rattle.tap_report.proofs.WritesLemmas.{WritesText-then}
use Rattle.tap_top.proofs.fault_line.write_not_scenario.Goals as goal

pub returns : goal.returns
returns g c = WritesText-then (WritesText-then c.write_text-so_far.ensures c.write_fault-so_far.ensures) c.write_text.ensures
