-- The headline of each log of a carried run, however far the run has come and however it has ended.
--
-- Rule: docs/FORMATS.md, "The course of a run" and "The ways a run ends".
use Rattle.std.specs.Prelude.{◌≡◌, ◌⊎◌, ◌<◌, ◌≤◌, ℕ, true, List, ◌∷◌, ◌++◌, length, take}
use Rattle.tap_scenario.specs.Scenario.{ScenarioValue}
use Rattle.tap_log.specs.declared.record.Record.{Record}
use Rattle.tap_log.specs.declared.record.Record.TheVariants.{Taken}
use Rattle.tap_log.specs.Counts.{packet_count, sent_count}
use Rattle.tap_log.specs.Reduced.{reduced}
use Rattle.tap_history.specs.Moments.{is_moment, is_rest}
use Rattle.tap_packets.specs.Bounds.{most_made}
use Rattle.tap_packets.specs.MayCome.{HasJustArrived}
use Rattle.tap_packets.specs.PacketLaws.{times_taken}
use Rattle.tap_carried.specs.ReducedLogs.{AgreesWithReduced}
use Rattle.tap_lawful.specs.CarriedRuns.{IsCarriedCut, IsCarriedLogOf, IsCarriedPlayed, IsCarriedScript, IsWholeCarriedLogOf}
use Rattle.tap_lawful.specs.Next.{beginning_in}
use Rattle.tap_safe_runs.specs.Safe.{IsRun}
use Rattle.tap_headline.specs.Headline.{HasHeadline}
use Rattle.tap_headline.specs.RootSets.{RootSetsAreRight}

-- ---- moments

-- The log of a carried run has a moment after so many records. If memory ran out within its last group, the end of that is none.
pub record IsCarriedMoment (s : ScenarioValue) (log : List Record) (m : ℕ) : Type 0 where
  pub moment : is_moment log m ≡ true
  pub uncut : (played : List Record) → IsCarriedPlayed s played → IsCarriedCut s played log → m ≤ length played

-- this holds of the log up to each of its moments
abbrev pub AtCarriedMomentsOf : ScenarioValue → List Record → (List Record → Type 0) → Type 0
AtCarriedMomentsOf s log Holds = (m : ℕ) → IsCarriedMoment s log m → Holds (take m log)

-- ---- the headline

-- the end of the log is a moment of its reduced log too, and if it is a rest it is one there
pub record IsMomentOfReduced (log : List Record) : Type 0 where
  pub moment : is_moment (reduced log) (length (reduced log)) ≡ true
  pub rest : is_rest log ≡ true → is_rest (reduced log) ≡ true

-- at rest each frame that was sent was taken exactly once
abbrev pub IsAllTakenAtRest : List Record → Type 0
IsAllTakenAtRest log = is_rest log ≡ true → (frame : ℕ) → frame < sent_count log → times_taken log frame ≡ 1

-- each frame that was taken was outstanding, and a data packet of it had just arrived
abbrev pub AreTakenFromPackets : List Record → Type 0
AreTakenFromPackets log = (before after : List Record) (frame : ℕ) → log ≡ before ++ Taken frame ∷ after → HasJustArrived before frame

-- packets: at most two for each frame that may be sent, two for each step, and two for each packet that steps may make once more
abbrev pub MakesFewPackets : ScenarioValue → List Record → Type 0
MakesFewPackets s log = packet_count log ≤ most_made s.frames (length s.steps)

-- What holds of the log of a carried run. Up to each moment of it, its reduced log has the headline, as that of a run without packets has it; the
-- moment is one of the reduced log, a rest is a rest; and both say the same of frames, nodes and pairs, and refuse the same starts and
-- observations. Whatever packets are lost, repeated or late, frames are taken from packets, none is taken twice, and at a rest each that was sent
-- was taken. Few packets are made. What root sets have told is right.
pub record CarriedRunHasHeadline (s : ScenarioValue) (log : List Record) : Type 0 where
  pub headline : AtCarriedMomentsOf s log (λ front. HasHeadline s.settings (reduced front))
  pub moments : AtCarriedMomentsOf s log IsMomentOfReduced
  pub agreement : AtCarriedMomentsOf s log AgreesWithReduced
  pub arrived : AreTakenFromPackets log
  pub taken_once : (frame : ℕ) → times_taken log frame ≤ 1
  pub rest_all_taken : AtCarriedMomentsOf s log IsAllTakenAtRest
  pub few_packets : MakesFewPackets s log
  pub root_sets : RootSetsAreRight s.settings log

-- each log of a carried run has it: that of one which isn't over, or which ended early for want of memory, and that of one which is over
abbrev pub CarriedLogsHaveHeadline : Type 0
CarriedLogsHaveHeadline = (s : ScenarioValue) (log : List Record) → IsCarriedScript s → IsCarriedLogOf s log → CarriedRunHasHeadline s log

-- Only a log that was cut within a group has its end as no moment: in that of a run which isn't over, and in a whole one, each moment counts.
abbrev pub UncutLogsKeepMoments : Type 0
UncutLogsKeepMoments = (s : ScenarioValue) (log : List Record) (m : ℕ) → IsCarriedPlayed s log ⊎ IsWholeCarriedLogOf s log
    → is_moment log m ≡ true → IsCarriedMoment s log m

-- Up to each moment of one that isn't over, the reduced log is that of a run: so all that is proved of runs holds of it.
abbrev pub ReducedLogsAreRuns : Type 0
ReducedLogsAreRuns = (s : ScenarioValue) (log : List Record) (m : ℕ) → IsCarriedScript s → IsCarriedPlayed s log → is_moment log m ≡ true
    → IsRun (beginning_in s) (reduced (take m log))
