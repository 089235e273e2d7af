-- What a root set tells that is accepted.
--
-- Rule: docs/PROTOCOL.md, "Salted names".
use Rattle.std.specs.Prelude.{ℕ, List, [], ◌∷◌, ◌++◌}
use Rattle.tap_name.specs.Settings.{SettingsValue}
use Rattle.tap_salt.specs.Salt.{roots_of}
use Rattle.tap_scenario.specs.declared.step.Step.{Step}
use Rattle.tap_scenario.specs.declared.step.Step.TheVariants.{RootSet}
use Rattle.tap_log.specs.declared.record.Record.{Record}
use Rattle.tap_log.specs.declared.record.Record.TheVariants.{RootsOf, Step as StepRecord}
use Rattle.tap_history.specs.Core.{core_of}

-- the roots of the four salts of this object over the nodes that are core, as they are told to the node that asks
abbrev pub roots_record : SettingsValue → List Record → List ℕ → List ℕ → Record
roots_record p log object asker = RootsOf object asker (roots_of p.base (core_of log) object)

-- a root set has its roots told, and no other step has
unfoldable pub roots_told : SettingsValue → List Record → Step → List Record
roots_told p log (RootSet object asker) = roots_record p log object asker ∷ []
roots_told p log other = []

-- What is told after these records of a group: the roots, if they are a root set alone, so that it isn't refused.
unfoldable pub told_after : SettingsValue → List Record → List Record → List Record
told_after p log (StepRecord index step ∷ []) = roots_told p log step
told_after p log other = []

-- a group with the roots that it tells
abbrev pub with_roots : SettingsValue → List Record → List Record → List Record
with_roots p log group = group ++ told_after p log group
