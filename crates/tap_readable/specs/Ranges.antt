-- The laws of the numbers of a run: they stay in range, and so each node has room for one more step.
use Rattle.std.specs.Prelude.{◌≡◌, ℕ, ◌≤◌, false, List, length, IfSome}
use Rattle.tap_log.specs.declared.record.Record.{Record}
use Rattle.tap_log.specs.Counts.{cast_count, sent_count, ticket_count}
use Rattle.tap_log.specs.Log.{begun_steps}
use Rattle.tap_history.specs.Groups.{is_ended}
use Rattle.tap_runs.specs.Beginning.{Beginning}
use Rattle.tap_runs.specs.Course.{IsCourse, system_of}
use Rattle.tap_readable.specs.Range.{HasNotMetNext, HasNumbersLeft, IsInRange, steps_with_room}

-- In a course that hasn't ended no more frames were sent than may be, and lookups and casts are numbered no further than steps were run.
-- The numbers of each node are in range. If no more steps were run than leave room, each node has numbers left for one more. And no node
-- has met the cast that begins next.
pub record NumbersInRange : Type 0 where
  pub sent : (b : Beginning) (log : List Record) → IsCourse b log → is_ended log ≡ false → sent_count log ≤ b.frames
  pub tickets : (b : Beginning) (log : List Record) → IsCourse b log → is_ended log ≡ false
      → ticket_count log ≤ length (begun_steps log)
  pub casts : (b : Beginning) (log : List Record) → IsCourse b log → is_ended log ≡ false → cast_count log ≤ length (begun_steps log)
  pub in_range : (b : Beginning) (log : List Record) → IsCourse b log → is_ended log ≡ false
      → (name : List ℕ) → IfSome ((system_of log).node name) IsInRange
  pub left : (b : Beginning) (log : List Record) → IsCourse b log → is_ended log ≡ false → length (begun_steps log) ≤ steps_with_room
      → (name : List ℕ) → IfSome ((system_of log).node name) HasNumbersLeft
  pub unmet : (b : Beginning) (log : List Record) → IsCourse b log → is_ended log ≡ false
      → (name : List ℕ) → IfSome ((system_of log).node name) (HasNotMetNext log)
