-- When a world may be asked for roots, and what it makes of it.
--
-- Rule: docs/PROTOCOL.md, "Salted names".
use Rattle.std.specs.Prelude.{◌≡◌, ℕ, false, List, ◌++◌, None, Result, Ok, Err}
use Rattle.tap_name.specs.Settings.{SettingsValue}
use Rattle.tap_scenario.specs.declared.step.Step.TheVariants.{RootSet}
use Rattle.tap_runs.specs.Groups.{step_group}
use Rattle.tap_carried.specs.ReducedLogs.{AgreesWithReduced}
use Rattle.tap_safe_runs.specs.Safe.{IsRun}
use Rattle.tap_engine.specs.World.{WorldValue, whole_log}
use Rattle.tap_engine.specs.declared.stop.Stop.{Stop}
use Rattle.tap_engine.specs.declared.stop.Stop.TheVariants.{NoMemory}
use Rattle.tap_lawful.specs.CarriedNext.{begun_group}

-- The world goes on, and its log of plain records is that of a run with these settings. Its whole log agrees with that.
pub record MayAsk (p : SettingsValue) (w : WorldValue) : Type 0 where
  pub run : IsRun w.beginning w.log
  pub settings : w.beginning.settings ≡ p
  pub agrees : AgreesWithReduced (whole_log w)
  pub runs : w.stopped ≡ false

-- no refusal is left to be noted, and with what the log begins stays
pub record IsLeftSo (before after : WorldValue) : Type 0 where
  pub beginning : after.beginning ≡ before.beginning
  pub noted : after.refused ≡ None

-- the group of a root set was added: the step, and the roots or its refusal; without the roots to the log of plain records
pub record HasAddedRoots (p : SettingsValue) (index : ℕ) (object asker : List ℕ) (before after : WorldValue) : Type 0 where
  pub whole : whole_log after ≡ whole_log before ++ begun_group p (whole_log before) index (RootSet object asker)
  pub log : after.log ≡ before.log ++ step_group p before.log index (RootSet object asker)
  pub left : IsLeftSo before after
  pub runs : after.stopped ≡ false

-- memory was refused, and nothing was added
pub record HasLackedRoots (before after : WorldValue) : Type 0 where
  pub whole : whole_log after ≡ whole_log before
  pub log : after.log ≡ before.log
  pub left : IsLeftSo before after

-- by the answer; no other one comes
abbrev pub AnswersRootSet : SettingsValue → ℕ → List ℕ → List ℕ → WorldValue → Result (Unit {0}) Stop → WorldValue → Type 0
AnswersRootSet p index object asker before (Ok done) after = HasAddedRoots p index object asker before after
AnswersRootSet p index object asker before (Err NoMemory) after = HasLackedRoots before after
AnswersRootSet p index object asker before (Err other) after = ⊥
