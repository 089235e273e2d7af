-- What is remembered of a cast is what the log said as it began.
--
-- Rule: docs/FORMATS.md, "The course of a run".
use Rattle.std.specs.Prelude.{◌≡◌, ℕ, nat_le, ◌&&◌, List, ◌++◌, Some}
use Rattle.tap_name.specs.Names.{has_name}
use Rattle.tap_name.specs.Prefix.{lcp}
use Rattle.tap_log.specs.declared.record.Record.{Record}
use Rattle.tap_log.specs.declared.record.Record.TheVariants.{CastFrom}
use Rattle.tap_history.specs.Core.{core_of}
use Rattle.tap_history.specs.Groups.{EachGroup}
use Rattle.tap_rule.specs.Sent.{IsAmong}
use Rattle.tap_runs.specs.Beginning.{Beginning}
use Rattle.tap_runs.specs.Course.{Follows}
use Rattle.tap_runs.specs.Named.{HaveNames}
use Rattle.tap_safe_runs.specs.Safe.{IsRun}
use Rattle.tap_cast_moves.specs.Remembered.{CastRun}
use Rattle.tap_cast_runs.specs.RunCasts.{casts_of}

-- Once the log has come so far, the cast is remembered with this caster and prefix. Its audience are the names that were core at the moment
-- before it began, and begin with the prefix.
pub record IsBegunRight (before log : List Record) (cast level : ℕ) (caster : List ℕ) : Type 0 where
  pub run : CastRun
  pub started : (casts_of log).cast cast ≡ Some run
  pub caster_is : run.caster ≡ caster
  pub level_is : run.level ≡ level
  pub audience : (name : List ℕ) → run.audience name ≡ (has_name (core_of before) name && nat_le level (lcp caster name))

-- so it is of each cast that the group says to begin
abbrev pub BeginsRight : List Record → List Record → Type 0
BeginsRight before group = (cast level : ℕ) (word caster : List ℕ) → IsAmong (CastFrom cast word level caster) group
    → IsBegunRight before (before ++ group) cast level caster

abbrev pub GroupsBeginRight : Type 0
GroupsBeginRight = (b : Beginning) (log : List Record) → IsRun b log → EachGroup BeginsRight log

-- a cast stays as it was begun
pub record StaysBegun (log : List Record) (cast : ℕ) (run : CastRun) : Type 0 where
  pub now : CastRun
  pub started : (casts_of log).cast cast ≡ Some now
  pub caster : now.caster ≡ run.caster
  pub level : now.level ≡ run.level
  pub audience : now.audience ≡ run.audience

-- with one more group
abbrev pub CastsStayBegun : Type 0
CastsStayBegun = (b : Beginning) (log group : List Record) (cast : ℕ) (run : CastRun) → IsRun b log → Follows b log group
    → HaveNames b.settings group → (casts_of log).cast cast ≡ Some run → StaysBegun (log ++ group) cast run
