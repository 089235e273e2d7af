-- What a log says of casts, and what it is to say.
--
-- Rule: docs/FORMATS.md, "The course of a run".
use Rattle.std.specs.Prelude.{◌≡◌, ◌==◌, ℕ, nat_eq, ◌&&◌, ◌≤◌, Bool, true, false, if◌then◌else◌, List, ◌++◌, Option, None, Some}
use Rattle.std.specs.Cmp.Lexicographic.{pointwise}
use Rattle.std.specs.List.{sum_by}
use Rattle.tap_log.specs.declared.record.Record.{Record}
use Rattle.tap_log.specs.declared.record.Record.TheVariants.{Closed, Reached}
use Rattle.tap_name.specs.Names.{has_name}
use Rattle.tap_name.specs.Prefix.{lcp}
use Rattle.tap_history.specs.Core.{core_of}
use Rattle.tap_history.specs.Groups.{EachGroup}
use Rattle.tap_history.specs.Moments.{is_rest}
use Rattle.tap_runs.specs.Beginning.{Beginning}
use Rattle.tap_safe_runs.specs.Safe.{IsRun}
use Rattle.tap_cast_moves.specs.Remembered.{CastRun}
use Rattle.tap_cast_runs.specs.RunCasts.{casts_of}

-- the record says that this cast has reached this name, or that it is closed
unfoldable pub says_reached : ℕ → List ℕ → Record → Bool
says_reached cast name (Reached other there) = (cast == other) && pointwise nat_eq name there
says_reached cast name item = false

unfoldable pub says_closed : ℕ → Record → Bool
says_closed cast (Closed other) = cast == other
says_closed cast item = false

-- how often the log says so
abbrev pub reached_count : ℕ → List ℕ → List Record → ℕ
reached_count cast name log = sum_by (λ item. if says_reached cast name item then 1 else 0) log

abbrev pub closed_count : ℕ → List Record → ℕ
closed_count cast log = sum_by (λ item. if says_closed cast item then 1 else 0) log

-- a cast that was started has reached this name, and is closed
abbrev pub is_reached : Option CastRun → List ℕ → Bool
is_reached None name = false
is_reached (Some run) name = run.reached name

abbrev pub is_closed : Option CastRun → Bool
is_closed None = false
is_closed (Some run) = run.closed

-- The log says once whom a cast has reached, and once that it is closed.
pub record IsToldOnce (log : List Record) : Type 0 where
  pub reached : (cast : ℕ) (name : List ℕ) → reached_count cast name log ≡ (if is_reached ((casts_of log).cast cast) name then 1 else 0)
  pub closed : (cast : ℕ) → closed_count cast log ≡ (if is_closed ((casts_of log).cast cast) then 1 else 0)

abbrev pub RunIsToldOnce : Type 0
RunIsToldOnce = (b : Beginning) (log : List Record) → IsRun b log → IsToldOnce log

-- So a node has at most one such record of a cast, and a cast one of its end at most.
abbrev pub ReachesAtMostOnce : Type 0
ReachesAtMostOnce = (b : Beginning) (log : List Record) (cast : ℕ) (name : List ℕ) → IsRun b log
    → (reached_count cast name log ≤ 1) × (closed_count cast log ≤ 1)

-- once the log says that a cast is closed, it has said of each name of the audience that the cast has reached it
abbrev pub ClosedHasReachedAll : Type 0
ClosedHasReachedAll = (b : Beginning) (log : List Record) (cast : ℕ) (run : CastRun) (name : List ℕ) → IsRun b log
    → closed_count cast log ≡ 1 → (casts_of log).cast cast ≡ Some run → run.audience name ≡ true → reached_count cast name log ≡ 1

-- and at rest it has said of each cast that it is closed
abbrev pub RestSaysClosed : Type 0
RestSaysClosed = (b : Beginning) (log : List Record) (cast : ℕ) (run : CastRun) → IsRun b log → is_rest log ≡ true
    → (casts_of log).cast cast ≡ Some run → closed_count cast log ≡ 1

-- ---- each group

-- the name is core at the moment before this group, and begins with the prefix of the cast
pub record IsReachedRight (before group : List Record) (cast : ℕ) (name : List ℕ) : Type 0 where
  pub core : has_name (core_of before) name ≡ true
  pub run : CastRun
  pub started : (casts_of (before ++ group)).cast cast ≡ Some run
  pub begins : run.level ≤ lcp run.caster name

-- so it is of each name that the group says a cast has reached
abbrev pub ReachesRight : List Record → List Record → Type 0
ReachesRight before group = (cast : ℕ) (name : List ℕ) → reached_count cast name group ≡ 1 → IsReachedRight before group cast name

abbrev pub GroupsReachRight : Type 0
GroupsReachRight = (b : Beginning) (log : List Record) → IsRun b log → EachGroup ReachesRight log
