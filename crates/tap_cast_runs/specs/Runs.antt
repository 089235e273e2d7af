-- The watch lists of a run: what is remembered of them, as its log has come to it.
--
-- Rule: docs/FORMATS.md, "The course of a run".
use Rattle.std.specs.Prelude.{◌≡◌, ℕ, true, false, List, [], ◌∷◌, ◌++◌, Option, None, Some}
use Rattle.tap_name.specs.Settings.{SettingsValue}
use Rattle.tap_name.specs.declared.slot.Slot.{Slot}
use Rattle.tap_watch.specs.Watch.{IsWatched}
use Rattle.tap_log.specs.declared.record.Record.{Record}
use Rattle.tap_log.specs.declared.record.Record.TheVariants.{Begin}
use Rattle.tap_history.specs.Groups.{beginning_of, groups_of}
use Rattle.tap_wire.specs.declared.frame.Body.TheVariants.{Done}
use Rattle.tap_rule.specs.RuleLaws.{frame_to}
use Rattle.tap_rule.specs.Node.{NodeState, name_of}
use Rattle.tap_rule.specs.Sent.{IsAmong}
use Rattle.tap_moves.specs.ByRule.{taken_at}
use Rattle.tap_safety.specs.AtRest.{system_at_rest}
use Rattle.tap_safety.specs.Move.{Move}
use Rattle.tap_safety.specs.System.{AmongFrames, CoversAt, System}
use Rattle.tap_runs.specs.Beginning.{Beginning}
use Rattle.tap_runs.specs.Course.{move_of_group, moved_by, system_of}
use Rattle.tap_scenario.specs.Scenario.{IsScript, ScenarioValue}
use Rattle.tap_safe_runs.specs.Lawful.{IsPlayed}
use Rattle.tap_safe_runs.specs.SafeLogs.{AtMomentsOf}
use Rattle.tap_safe_runs.specs.Safe.{IsRun}
use Rattle.tap_cast_runs.specs.SlotAnswers.{Answer, WatchMemory, had_primary, none_answered}
use Rattle.tap_cast_runs.specs.Chains.{ChainsLead}
use Rattle.tap_cast_runs.specs.Had.{AnswersAreHeld, IsHad}
use Rattle.tap_cast_runs.specs.Recalled.{watch_recalled}
use Rattle.tap_cast_runs.specs.Watched.{CoveredFirst, IsAnswered, WatchesAreSound}

-- what is remembered after a move, if there is one
abbrev pub watch_recalled_by : System → WatchMemory → Option Move → WatchMemory
watch_recalled_by s r None = r
watch_recalled_by s r (Some move) = watch_recalled s r move

-- and after these groups, which follow this log, this system and what is remembered then
abbrev pub watches_after : SettingsValue → List Record → System → WatchMemory → List (List Record) → WatchMemory
watches_after p before s r [] = r
watches_after p before s r (group ∷ groups) =
    watches_after p (before ++ group) (moved_by p s (move_of_group before group)) (watch_recalled_by s r (move_of_group before group)) groups

-- after the beginning and these groups
unfoldable pub watches_from : List Record → List (List Record) → WatchMemory
watches_from (Begin settings frames members ∷ []) groups =
    watches_after settings (Begin settings frames members ∷ []) (system_at_rest settings members) none_answered groups
watches_from other groups = none_answered

-- what is remembered of watch lists once a log has come so far
abbrev pub watches_of : List Record → WatchMemory
watches_of log = watches_from (beginning_of log) (groups_of log)

-- What is said of watch lists holds of each run: of the system that its log has come to, and of what is remembered then.
abbrev pub RunWatchesAreKept : Type 0
RunWatchesAreKept = (b : Beginning) (log : List Record) → IsRun b log → WatchesAreSound b.settings (system_of log) (watches_of log)

-- x covered b a first time, and each slot that b waited for, and in which x had a primary then, was answered on the chain that led to it
pub record WasAnswered (p : SettingsValue) (r : WatchMemory) (x b : List ℕ) : Type 0 where
  pub first : CoveredFirst r x b
  pub answered : (slot : Slot) → IsWatched p b first.cover.prefix slot → had_primary first.cover slot ≡ true
      → IsAnswered r b slot first.cover.chain

-- so it is of each node that covers a joiner
abbrev pub RunCoversAreAnswered : Type 0
RunCoversAreAnswered = (b : Beginning) (log : List Record) (x joiner : List ℕ) (level : ℕ) → IsRun b log
    → CoversAt (system_of log) x joiner level → WasAnswered b.settings (watches_of log) x joiner

-- What is said of answers holds of each run.
abbrev pub RunAnswersAreKept : Type 0
RunAnswersAreKept = (b : Beginning) (log : List Record) → IsRun b log → AnswersAreHeld b.settings (system_of log) (watches_of log)

-- What is said of chains holds of each run.
abbrev pub RunChainsAreKept : Type 0
RunChainsAreKept = (b : Beginning) (log : List Record) → IsRun b log → ChainsLead (system_of log) (watches_of log)

-- When a joiner takes its Done, and becomes core, it has a link to each name with which a slot was answered for it, or its slot is full.
abbrev pub RunCoreHasAnswers : Type 0
RunCoreHasAnswers = (b : Beginning) (log : List Record) (number : ℕ) (from : List ℕ) (node : NodeState) → IsRun b log
    → AmongFrames number (frame_to node from Done) (system_of log).frames → (system_of log).node (name_of node) ≡ Some node
    → node.abandoned ≡ false → (answer : Answer) → IsAmong answer (watches_of log).answers → answer.joiner ≡ name_of node
    → IsHad b.settings (name_of node) (taken_at node from Done).state answer.named

-- all that is said of watch lists, answers and chains
pub record WatchesHoldIn (p : SettingsValue) (log : List Record) : Type 0 where
  pub watches : WatchesAreSound p (system_of log) (watches_of log)
  pub answers : AnswersAreHeld p (system_of log) (watches_of log)
  pub chains : ChainsLead (system_of log) (watches_of log)

-- so it is of the log of each run of a scenario that isn't over, up to each of its moments
abbrev pub LawfulWatchesHold : Type 0
LawfulWatchesHold = (s : ScenarioValue) (log : List Record) → IsScript s → IsPlayed s log → AtMomentsOf log (WatchesHoldIn s.settings)
