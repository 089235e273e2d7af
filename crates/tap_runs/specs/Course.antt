-- The course of a run: the system that a log has come to, and which group may follow it.
--
-- Rule: docs/FORMATS.md, "The course of a run".
use Rattle.std.specs.Prelude.{◌≡◌, ◌≤◌, ◌⊎◌, ℕ, Bool, true, false, List, [], ◌∷◌, ◌++◌, Option, None, Some}
use Rattle.tap_name.specs.Settings.{SettingsValue}
use Rattle.tap_scenario.specs.declared.step.Step.{Step}
use Rattle.tap_scenario.specs.declared.step.Step.TheVariants.{Deliver, Settle, SettleNewest, SettleMixed, Tick, Lose, Repeat, RootSet}
use Rattle.tap_log.specs.declared.record.Record.{Record}
use Rattle.tap_log.specs.declared.record.Record.TheVariants.{Begin, Step as StepRecord, Taken, Refused}
use Rattle.tap_log.specs.declared.record.Refusal.{Refusal}
use Rattle.tap_log.specs.Counts.{sent_count}
use Rattle.tap_history.specs.Groups.{EachGroup, beginning_of, groups_of}
use Rattle.tap_history.specs.Moments.{has_number, outstanding}
use Rattle.tap_history.specs.Refusals.{first_refusal}
use Rattle.tap_rule.specs.Event.{Start}
use Rattle.tap_safety.specs.Move.{Move}
use Rattle.tap_safety.specs.Move.Move.{Begins, Delivers}
use Rattle.tap_safety.specs.Moved.{moved}
use Rattle.tap_safety.specs.System.{System}
use Rattle.tap_safety.specs.AtRest.{system_at_rest}
use Rattle.tap_runs.specs.Beginning.{Beginning, IsWithinLimits, begin_record, no_system}
use Rattle.tap_runs.specs.Group.{start_at, step_records, taken_records}

-- ---- the system of a log

-- the move of a step: that of an accepted start
abbrev pub move_of_start : Option Refusal → Option (List ℕ × Start) → Option Move
move_of_start (Some refusal) start = None
move_of_start None None = None
move_of_start None (Some (name, start)) = Some (Begins name start)

-- the move that a group makes after this log, if it makes one
unfoldable pub move_of_group : List Record → List Record → Option Move
move_of_group before (StepRecord index step ∷ items) = move_of_start (first_refusal before step) (start_at before step)
move_of_group before (Taken number ∷ items) = Some (Delivers number)
move_of_group before other = None

-- the system after a move, if there is one
abbrev pub moved_by : SettingsValue → System → Option Move → System
moved_by p s None = s
moved_by p s (Some move) = moved p s move

-- the system after these groups, which follow this log and this system
abbrev pub system_after : SettingsValue → List Record → System → List (List Record) → System
system_after p before s [] = s
system_after p before s (group ∷ groups) =
    system_after p (before ++ group) (moved_by p s (move_of_group before group)) groups

-- the system after the beginning and these groups
unfoldable pub system_from : List Record → List (List Record) → System
system_from (Begin settings frames members ∷ []) groups =
    system_after settings (Begin settings frames members ∷ []) (system_at_rest settings members) groups
system_from other groups = no_system

-- the system that a log has come to
abbrev pub system_of : List Record → System
system_of log = system_from (beginning_of log) (groups_of log)

-- ---- which group may follow

-- the step only chooses what is taken next, what becomes of packets, or whose roots are asked for
unfoldable pub is_choice : Step → Bool
is_choice (Deliver place) = true
is_choice Settle = true
is_choice SettleNewest = true
is_choice (SettleMixed seed) = true
is_choice Tick = true
is_choice (Lose place) = true
is_choice (Repeat place) = true
is_choice (RootSet object asker) = true
is_choice other = false

-- a refusal alone
pub record IsRefused (index : ℕ) (items : List Record) : Type 0 where
  pub refusal : Refusal
  pub is : items ≡ Refused index refusal ∷ []

-- These may follow a `Step`: of a choice nothing or a refusal, and of another step what the refusals and the rule of a node give.
abbrev pub FollowStep : Bool → SettingsValue → List Record → System → ℕ → Step → List Record → Type 0
FollowStep true p before s index step items = (items ≡ []) ⊎ IsRefused index items
FollowStep false p before s index step items = items ≡ step_records p before s index step

-- These may follow a `Taken`: the frame was outstanding, and its receiver acts by its rule; nothing follows if the receiver is no node.
pub record FollowTaken (p : SettingsValue) (before : List Record) (s : System) (number : ℕ) (items : List Record) : Type 0 where
  pub waits : has_number (outstanding before) number ≡ true
  pub are : items ≡ taken_records p before s number

-- the group may follow this log and this system
unfoldable pub MayFollow : SettingsValue → List Record → System → List Record → Type 0
MayFollow p before s (StepRecord index step ∷ items) = FollowStep (is_choice step) p before s index step items
MayFollow p before s (Taken number ∷ items) = FollowTaken p before s number items
MayFollow p before s other = ⊥

-- the group may follow this log, and no more frames are sent than the beginning allows
pub record Follows (b : Beginning) (before group : List Record) : Type 0 where
  pub may : MayFollow b.settings before (system_of before) group
  pub within : sent_count (before ++ group) ≤ b.frames

-- A log, without what only a carrier adds and without root sets, is the course of a run that begins so: each of its groups may follow
-- the log before it. How the steps are numbered, which frame is taken next, which choices are refused and how the log ends isn't said
-- here.
pub record IsCourse (b : Beginning) (log : List Record) : Type 0 where
  pub limits : IsWithinLimits b
  pub begins : beginning_of log ≡ begin_record b ∷ []
  pub each : EachGroup (Follows b) log
