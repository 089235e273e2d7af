-- How a log is compared with the run of its own scenario.
--
-- Rule: docs/FORMATS.md, "The judge".
use Rattle.std.specs.Prelude.{◌==◌, ◌&&◌, ◌||◌, not, Bool, true, false, if◌then◌else◌, Option, None, Some, ◌≡◌, ℕ, ◌+◌, ◌<◌, ◌≤◌, List, length, take}
use Rattle.tap_log.specs.declared.record.Record.{Record}
use Rattle.tap_replay.specs.declared.end.End.TheVariants.{Done, NoMemory as EndNoMemory, Spent}
use Rattle.tap_replay.specs.declared.end.Turned.{Turned}
use Rattle.tap_replay.specs.declared.end.Turned.TheVariants.{More, Over}
use Rattle.tap_judge.specs.declared.verdict.Verdict.{Verdict}
use Rattle.tap_judge.specs.declared.verdict.Verdict.TheVariants.{Lawful, NoMemory, Unlawful}

-- So many records of the two are the same, and one more isn't, or one of them has no more.
pub record SameUntil (run log : List Record) (same : ℕ) : Type 0 where
  pub here : same ≤ length run
  pub there : same ≤ length log
  pub alike : take same log ≡ take same run
  pub apart : same < length run → same < length log → take (same + 1) log ≡ take (same + 1) run → ⊥

-- The verdict on a log that begins the run's, which may have more records. A carried log may stop anywhere within a group. Another one may stop
-- where the run's group ends, also before the end that says that all steps were run.
abbrev pub verdict_at_end : Bool → Bool → ℕ → ℕ → Verdict
verdict_at_end carried done run all =
    if carried || (run == all) then Lawful else if done && (run == all + 1) then Lawful else Unlawful (all + 1)

-- The verdict after a turn of a run that has so many records, and is over or not, and has run all steps or not. Of the log's records, so many
-- are the same. There is none yet if both may go on.
abbrev pub verdict_at : Bool → Bool → Bool → ℕ → ℕ → ℕ → Option Verdict
verdict_at carried over done run all same =
    if same == all then Some (verdict_at_end carried done run all)
    else if (same == run) && not over then None
    else Some (Unlawful (same + 1))

-- by the answer of the turn
abbrev pub verdict_by : Bool → Turned → ℕ → ℕ → ℕ → Option Verdict
verdict_by carried More run all same = verdict_at carried false false run all same
verdict_by carried (Over Done) run all same = verdict_at carried true true run all same
verdict_by carried (Over Spent) run all same = verdict_at carried true false run all same
verdict_by carried (Over EndNoMemory) run all same = Some NoMemory
