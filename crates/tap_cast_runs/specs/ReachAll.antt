-- Casts reach all whom they are for, in the words of the log of a run.
--
-- Rule: docs/PROTOCOL.md, "Casts".
use Rattle.std.specs.Prelude.{◌≡◌, ◌≤◌, ℕ, true, List, ◌++◌}
use Rattle.tap_name.specs.Names.{has_name}
use Rattle.tap_name.specs.Prefix.{lcp}
use Rattle.tap_name.specs.Settings.{SettingsValue}
use Rattle.tap_log.specs.declared.record.Record.{Record}
use Rattle.tap_log.specs.declared.record.Record.TheVariants.{CastFrom}
use Rattle.tap_history.specs.Core.{core_of}
use Rattle.tap_history.specs.Groups.{EachGroup}
use Rattle.tap_history.specs.Moments.{is_rest}
use Rattle.tap_rule.specs.Sent.{IsAmong}
use Rattle.tap_cast_runs.specs.ReachedOnce.{closed_count, reached_count}

-- ---- whom a cast may reach

-- The name is core at the moment before this group. The log has said by the end of the group that the cast begins, and the name begins with its prefix.
pub record MayBeReached (before group : List Record) (cast : ℕ) (name : List ℕ) : Type 0 where
  pub core : has_name (core_of before) name ≡ true
  pub level : ℕ
  pub word : List ℕ
  pub caster : List ℕ
  pub begun : IsAmong (CastFrom cast word level caster) (before ++ group)
  pub begins : level ≤ lcp caster name

-- so it is of each name that the group says a cast has reached
abbrev pub ReachesWhomItMay : List Record → List Record → Type 0
ReachesWhomItMay before group = (cast : ℕ) (name : List ℕ) → reached_count cast name group ≡ 1 → MayBeReached before group cast name

-- ---- whom a cast has to reach

-- The name is of the audience of a cast that begins after this log, with this caster and a prefix of so many of its digits: it is core then,
-- and begins with the prefix.
pub record IsOfAudience (before : List Record) (level : ℕ) (caster name : List ℕ) : Type 0 where
  pub core : has_name (core_of before) name ≡ true
  pub begins : level ≤ lcp caster name

-- If the log says that such a cast is closed, it says of each name of the audience that the cast has reached it; and at rest it says that the
-- cast is closed.
pub record HasReachedAll (before log : List Record) (cast level : ℕ) (caster : List ℕ) : Type 0 where
  pub all : closed_count cast log ≡ 1 → (name : List ℕ) → IsOfAudience before level caster name → reached_count cast name log ≡ 1
  pub rest : is_rest log ≡ true → closed_count cast log ≡ 1

-- so it is of each cast that the group says to begin
abbrev pub ReachesWhomItHasTo : List Record → List Record → List Record → Type 0
ReachesWhomItHasTo log before group = (cast level : ℕ) (word caster : List ℕ) → IsAmong (CastFrom cast word level caster) group
    → HasReachedAll before log cast level caster

-- The log says at most once that a cast has reached a name, which is core then and begins with the prefix, and at most once that a cast is
-- closed. Once it is, it has reached its audience, each name that was core as it began and begins with the prefix; and at rest each cast is
-- closed.
pub record CastsReachAll (p : SettingsValue) (log : List Record) : Type 0 where
  pub reached : (cast : ℕ) (name : List ℕ) → reached_count cast name log ≤ 1
  pub closed : (cast : ℕ) → closed_count cast log ≤ 1
  pub right : EachGroup ReachesWhomItMay log
  pub all : EachGroup (ReachesWhomItHasTo log) log
