-- The watch clause: what is answered for a joiner, and that the joiner has it once it is core, in the words of the log of a run.
--
-- Rule: docs/PROTOCOL.md, "Watch lists" and "Covers".
use Rattle.std.specs.Prelude.{◌≡◌, ◌⊎◌, ℕ, ◌≤◌, true, List, ◌++◌, length, Some}
use Rattle.tap_name.specs.Order.{AreAscending}
use Rattle.tap_name.specs.Settings.{SettingsValue}
use Rattle.tap_name.specs.Slot.{Fits}
use Rattle.tap_name.specs.declared.slot.Slot.{Slot}
use Rattle.tap_link.specs.declared.kind.Kind.{Kind}
use Rattle.tap_link.specs.declared.kind.Kind.TheVariants.{Settled}
use Rattle.tap_watch.specs.Watch.{IsWatched}
use Rattle.tap_scenario.specs.Scenario.{IsScript, ScenarioValue}
use Rattle.tap_log.specs.declared.record.Record.{Record}
use Rattle.tap_log.specs.declared.record.Record.TheVariants.{Core}
use Rattle.tap_history.specs.Groups.{EachGroup}
use Rattle.tap_rule.specs.Node.{NodeState, link_to}
use Rattle.tap_rule.specs.Sent.{IsAmong}
use Rattle.tap_safety.specs.System.{CoversAt}
use Rattle.tap_runs.specs.Course.{system_of}
use Rattle.tap_safe_runs.specs.Lawful.{IsPlayed}
use Rattle.tap_safe_runs.specs.SafeLogs.{AtMomentsOf}
use Rattle.tap_cast_runs.specs.SlotAnswers.{Answer, FirstCover, had_primary}
use Rattle.tap_cast_runs.specs.Chains.{ChainIsTold, ChainLeadsTo}
use Rattle.tap_cast_runs.specs.Runs.{watches_of}
use Rattle.tap_cast_runs.specs.Watched.{CoveredFirst, IsAnswered}

-- ---- a slot of a node

-- the node of this name has a link to this one, in this slot
pub record HasLinkIn (owner : List ℕ) (node : NodeState) (slot : Slot) (name : List ℕ) : Type 0 where
  pub kind : Kind
  pub link : link_to node name ≡ Some kind
  pub fits : Fits owner name slot

-- it has as many settled links as the width in this slot
pub record IsFullIn (p : SettingsValue) (owner : List ℕ) (node : NodeState) (slot : Slot) : Type 0 where
  pub names : List (List ℕ)
  pub ascending : AreAscending names
  pub many : p.width ≤ length names
  pub each : (name : List ℕ) → IsAmong name names → (link_to node name ≡ Some Settled) × Fits owner name slot

-- ---- a joiner that becomes core

-- n is a node, and has in each slot that was answered for it a link to the name with which it was answered, or as many settled links as the
-- width
pub record HasAnswers (p : SettingsValue) (log : List Record) (n : List ℕ) : Type 0 where
  pub node : NodeState
  pub is : (system_of log).node n ≡ Some node
  pub has : (answer : Answer) → IsAmong answer (watches_of log).answers → answer.joiner ≡ n
      → HasLinkIn n node answer.slot answer.named ⊎ IsFullIn p n node answer.slot

-- so it is after the group of each node that the group says to be core
abbrev pub CoreHasAnswersNow : SettingsValue → List Record → List Record → Type 0
CoreHasAnswersNow p before group = (n : List ℕ) → IsAmong (Core n) group → HasAnswers p (before ++ group) n

-- ---- the clause

-- Whoever covers a joiner covered it a first time. To each first cover a chain of Tells led from the joiner's surrogate: each node on it was sent a
-- Tell of the joiner by the next one. Each slot of the joiner's full watch list, of the levels up to how many digits it shares with its surrogate,
-- in which the node had a primary then was answered by a node on the chain, be it this one, the surrogate or one between: by itself or by its
-- primary. When a joiner becomes core, it has in each slot that was answered for it a link to the name with which it was answered, or as many
-- settled links as the width.
pub record WatchClauseHolds (p : SettingsValue) (log : List Record) : Type 0 where
  pub first : (w n : List ℕ) (level : ℕ) → CoversAt (system_of log) w n level → CoveredFirst (watches_of log) w n
  pub led : (cover : FirstCover) → IsAmong cover (watches_of log).covers
      → ChainLeadsTo (system_of log) cover.chain cover.table.owner cover.joiner cover.prefix
  pub told : (cover : FirstCover) → IsAmong cover (watches_of log).covers → ChainIsTold p log cover.joiner cover.chain
  pub answered : (cover : FirstCover) → IsAmong cover (watches_of log).covers → (slot : Slot) → IsWatched p cover.joiner cover.prefix slot
      → had_primary cover slot ≡ true → IsAnswered (watches_of log) cover.joiner slot cover.chain
  pub core : EachGroup (CoreHasAnswersNow p) log

-- so it is of the log of each run of a scenario that isn't over, up to each of its moments
abbrev pub LawfulWatchClauseHolds : Type 0
LawfulWatchClauseHolds = (s : ScenarioValue) (log : List Record) → IsScript s → IsPlayed s log
    → AtMomentsOf log (WatchClauseHolds s.settings)
