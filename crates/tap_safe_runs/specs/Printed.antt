-- What a run says of walks and roots.
--
-- Rule: docs/FORMATS.md, "The course of a run".
use Rattle.std.specs.Prelude.{◌≡◌, ◌⊎◌, ℕ, List, [], ◌∷◌, Some}
use Rattle.tap_name.specs.Name.{IsName}
use Rattle.tap_name.specs.Names.{Among}
use Rattle.tap_name.specs.Root.{root}
use Rattle.tap_name.specs.Settings.{SettingsValue}
use Rattle.tap_scenario.specs.declared.step.Step.TheVariants.{Root, Walk}
use Rattle.tap_log.specs.declared.record.Record.{Record}
use Rattle.tap_log.specs.declared.record.Record.TheVariants.{RootOf, Step as StepRecord, Walked}
use Rattle.tap_history.specs.Core.{core_of}
use Rattle.tap_surrogate.specs.WalkLaws.{LeadsToRoot}
use Rattle.tap_runs.specs.Beginning.{Beginning}
use Rattle.tap_runs.specs.Course.{Follows, IsRefused}
use Rattle.tap_safe_runs.specs.Safe.{IsRun}

-- the walk from a core node leads to the one root of the object
pub record IsWalkToRoot (p : SettingsValue) (log : List Record) (object from : List ℕ) (items : List Record) : Type 0 where
  pub path : List (List ℕ)
  pub is : items ≡ Walked object path ∷ []
  pub core : Among from (core_of log)
  pub leads : LeadsToRoot p (core_of log) from object path

-- what follows the step of a walk: a refusal, or such a walk
abbrev pub WalksAreToRoots : Type 0
WalksAreToRoots = (b : Beginning) (log : List Record) (index : ℕ) (object from : List ℕ) (items : List Record) → IsRun b log
    → IsName b.settings object → Follows b log (StepRecord index (Walk object from) ∷ items)
    → IsRefused index items ⊎ IsWalkToRoot b.settings log object from items

-- the root of the object over the core nodes
pub record IsTheRoot (p : SettingsValue) (log : List Record) (object : List ℕ) (items : List Record) : Type 0 where
  pub found : List ℕ
  pub is : items ≡ RootOf object found ∷ []
  pub root : root p.base (core_of log) object ≡ Some found

-- what follows the step that asks for a root: it is never refused
abbrev pub RootsAreFound : Type 0
RootsAreFound = (b : Beginning) (log : List Record) (index : ℕ) (object : List ℕ) (items : List Record) → IsRun b log
    → IsName b.settings object → Follows b log (StepRecord index (Root object) ∷ items) → IsTheRoot b.settings log object items
