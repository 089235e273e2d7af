use Rattle.std.proofs.Common.{◌∙◌}
use Rattle.std.specs.Prelude.{decimal}
use Rattle.tap_report.proofs.WritesLemmas.{WritesText-then}
use Rattle.tap_scenario.specs.Key.{text_of_key}
use Rattle.tap_top.proofs.Texts.{WritesText-same}
use Rattle.tap_top.proofs.fault_line.write_fault.Goals as goal

pub returns-in-BadKey : goal.returns-in-BadKey
returns-in-BadKey g c =
    rw c.in-BadKey.is (WritesText-then c.write_text-so_far.ensures
    (WritesText-same c.as_bytes.result.now (text_of_key c.in-BadKey.key)
    (c.as_bytes.ensures.value ∙ c.text.ensures) c.write_text-in-BadKey.ensures))

pub returns-in-BadValue : goal.returns-in-BadValue
returns-in-BadValue g c =
    rw c.in-BadValue.is (WritesText-then c.write_text-so_far-in-BadValue.ensures
    (WritesText-same c.as_bytes-in-BadValue.result.now (text_of_key c.in-BadValue.key)
    (c.as_bytes-in-BadValue.ensures.value ∙ c.text-in-BadValue.ensures) c.write_text-in-BadValue.ensures))

pub returns-in-BadStep : goal.returns-in-BadStep
returns-in-BadStep g c =
    rw c.in-BadStep.is (WritesText-then c.write_text-so_far-in-BadStep.ensures
    (WritesText-same c.as_bytes-in-BadStep.result.now (decimal c.in-BadStep.index)
    (c.as_bytes-in-BadStep.ensures.value ∙ c.format.ensures.text) c.write_text-in-BadStep.ensures))
