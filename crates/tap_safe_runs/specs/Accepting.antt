-- Which starts a part of a log accepts, and that a lookup is asked for at a rest.
--
-- Rule: docs/FORMATS.md, "The course of a run".
use Rattle.std.specs.Prelude.{◌≡◌, false, true, ℕ, List, [], ◌∷◌, ◌++◌, filter}
use Rattle.tap_scenario.specs.declared.step.Step.TheVariants.{Find}
use Rattle.tap_log.specs.declared.record.Record.{Record}
use Rattle.tap_log.specs.declared.record.Record.TheVariants.{Asked, Step as StepRecord}
use Rattle.tap_history.specs.Core.{accepted_in}
use Rattle.tap_history.specs.Moments.{is_rest}
use Rattle.tap_history.specs.StepAsks.{is_start}

-- none of the steps that these records accept is a start
abbrev pub AcceptNoStart : List Record → Type 0
AcceptNoStart items = filter is_start (accepted_in false items) ≡ []

-- the log has come to a rest, then a lookup is accepted, and then come these records
pub record IsAskedAtRest (log before : List Record) (ticket : ℕ) (object asker : List ℕ) (after : List Record) : Type 0 where
  pub index : ℕ
  pub is : log ≡ before ++ StepRecord index (Find object asker) ∷ Asked ticket object asker ∷ after
  pub rest : is_rest before ≡ true
