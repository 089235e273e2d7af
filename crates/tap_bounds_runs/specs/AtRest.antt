-- How many frames a lookup and a publication send that are accepted at a rest, if no other start is accepted meanwhile.
--
-- Rule: docs/FORMATS.md, "The course of a run".
use Rattle.std.specs.Prelude.{◌≡◌, ℕ, ◌+◌, ◌≤◌, true, List, ◌∷◌, ◌++◌}
use Rattle.tap_name.specs.Settings.{SettingsValue}
use Rattle.tap_scenario.specs.declared.step.Step.TheVariants.{Publish}
use Rattle.tap_log.specs.Counts.{sent_count}
use Rattle.tap_log.specs.declared.record.Record.{Record}
use Rattle.tap_log.specs.declared.record.Record.TheVariants.{Published, Step as StepRecord}
use Rattle.tap_history.specs.Moments.{is_rest}
use Rattle.tap_safe_runs.specs.Accepting.{AcceptNoStart, IsAskedAtRest}

-- a lookup that is accepted at a rest, and all records after it, of which none accepts a start: at most one `Sent` record more than names
-- have digits
abbrev pub LookupsAtRestSendFew : SettingsValue → List Record → Type 0
LookupsAtRestSendFew p log = (before after : List Record) (ticket : ℕ) (object asker : List ℕ)
    → IsAskedAtRest log before ticket object asker after → AcceptNoStart after → sent_count after ≤ p.digits + 1

-- the log has come to a rest, then a publication is accepted, and then come these records
pub record IsPublishedAtRest (log before : List Record) (object server : List ℕ) (after : List Record) : Type 0 where
  pub index : ℕ
  pub is : log ≡ before ++ StepRecord index (Publish object server) ∷ Published object server ∷ after
  pub rest : is_rest before ≡ true

-- a publication that is accepted at a rest, and all records after it, of which none accepts a start: at most as many `Sent` records as names
-- have digits
abbrev pub PublicationsAtRestSendFew : SettingsValue → List Record → Type 0
PublicationsAtRestSendFew p log = (before after : List Record) (object server : List ℕ)
    → IsPublishedAtRest log before object server after → AcceptNoStart after → sent_count after ≤ p.digits
