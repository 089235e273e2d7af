-- What the bytes of a source spell, whose state was `old` and is `new`.
use Rattle.std.specs.Prelude.{◌≡◌, ℕ, List, Ok, Err}
use Rattle.tap_io.specs.AllBytes.{HasReadAll}
use Rattle.tap_io.specs.Source.{SourceState}
use Rattle.tap_scenario.specs.Scenario.{ScenarioValue}
use Rattle.tap_scenario.specs.Document.{scenario_of}
use Rattle.tap_scenario.specs.declared.fault.Fault.{Fault}
use Rattle.tap_top.specs.Limits.{most_bytes}

-- all bytes of the source, no more than a text may have, are the text of this script
pub record HasReadScript (old new : SourceState) (script : ScenarioValue) : Type 0 where
  pub bytes : List ℕ
  pub read : HasReadAll most_bytes old new bytes
  pub text : scenario_of bytes ≡ Ok script

-- all bytes of the source, no more than a text may have, are the text of no script, and this is what is wrong first
pub record HasReadFault (old new : SourceState) (fault : Fault) : Type 0 where
  pub bytes : List ℕ
  pub read : HasReadAll most_bytes old new bytes
  pub text : scenario_of bytes ≡ Err fault
