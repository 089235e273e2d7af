-- Bytes that are what the run of a scenario prints.
use Rattle.std.proofs.Common.{◌≡◌, ◌∙◌, ℕ, List, None, append-nil, length, subst}
use Rattle.tap_engine.specs.World.{whole_log}
use Rattle.tap_lawful.specs.Runs.{IsLawful}
use Rattle.tap_lawful_shapes.specs.Laws.{LogsAreShapes}
use Rattle.tap_replay.proofs.ByCarrier.{player_log}
use Rattle.tap_replay.specs.Player.{PlayerValue}
use Rattle.tap_replay.specs.Runs.{HasPlayed}
use Rattle.tap_report.specs.Text.{text_of_log, texts_after}
use Rattle.tap_report.specs.declared.mode.Mode.TheVariants.{Long}
use Rattle.tap_scenario.specs.Scenario.{IsScript, ScenarioValue}
use Rattle.tap_shape.specs.Text.{IsTextOf}
use Rattle.tap_judge.specs.Ending.{IsLawfulText}

-- The log of a player is lawful, however far its run has come; so bytes that are the texts of its records are a lawful text.
pub printed_lawful : LogsAreShapes → (s : ScenarioValue) (p : PlayerValue) (bytes : List ℕ) (records : ℕ) → IsScript s → HasPlayed s p
    → texts_after Long None (whole_log p.world) ≡ bytes → length (whole_log p.world) ≡ records → IsLawfulText bytes records
printed_lawful shapes s p bytes records valid played is size =
    let log = whole_log p.world in
    let lawful : IsLawful log = record { script = s; valid = valid; run = player_log s valid p played } in
    let text : text_of_log Long log ≡ bytes = append-nil (texts_after Long None log) ∙ is in
    record {
      log = log;
      text = subst (λ b. IsTextOf b log) text (shapes.texts log lawful).0;
      lawful = lawful;
      count = size;
    }
