-- How far a carried run may go: what falls at each group, and how many packets there may be.
use Rattle.std.specs.Prelude.{◌≡◌, ℕ, ◌+◌, ◌-◌, ◌*◌, ◌<◌, ◌≤◌, Bool, true, false, not, if◌then◌else◌, List, [], ◌∷◌, ◌++◌, length, filter, fold, ◌⊎◌}
use Rattle.tap_scenario.specs.declared.step.Step.TheVariants.{Tick}
use Rattle.tap_log.specs.declared.record.Record.{Record}
use Rattle.tap_log.specs.declared.record.Record.TheVariants.{Step as StepRecord}
use Rattle.tap_log.specs.Counts.{packet_count, resent_count, sent_count}
use Rattle.tap_log.specs.Log.{begun_steps}
use Rattle.tap_log.specs.MoreRecords.{is_resending}
use Rattle.tap_history.specs.Moments.{awaiting, has_number, outstanding}
use Rattle.tap_packets.specs.Packets.{PacketLine, line_frames, lines_under_way}
use Rattle.tap_packets.specs.Groups.{IsCarrierMove, CarrierMove, group_of}
use Rattle.tap_packets.specs.Groups.CarrierMove.{Acts, Arrives, Loses, Repeats, Ticks}

-- ---- counts of frames and packets

-- the frames that await their acknowledgement and of which no packet is under way
abbrev pub stranded : List Record → List ℕ
stranded log = filter (λ frame. not (has_number (line_frames (lines_under_way log)) frame)) (awaiting log)

-- how many of these packets carry their frame, and how many acknowledge it
abbrev pub data_count : List PacketLine → ℕ
data_count lines = length (filter (λ line. not line.ack) lines)

abbrev pub ack_count : List PacketLine → ℕ
ack_count lines = length (filter (λ line. line.ack) lines)

-- how many frames were sent, packets made, data packets and acknowledgements are under way, and frames are stranded
pub record Counts : Type 0 where
  pub sent : ℕ
  pub made : ℕ
  pub carrying : ℕ
  pub acking : ℕ
  pub stranded : ℕ

-- those of a log
abbrev pub counts_of : List Record → Counts
counts_of log = record {
  sent = sent_count log;
  made = packet_count log;
  carrying = data_count (lines_under_way log);
  acking = ack_count (lines_under_way log);
  stranded = length (stranded log);
}

-- ---- what each move changes of them

-- So many frames are sent, packets made, data packets gone and come, acknowledgements gone and come, and at most so many more frames are
-- stranded.
pub record Changes (frames packets gone come gone_acks come_acks more : ℕ) (before after : Counts) : Type 0 where
  pub sent : after.sent ≡ before.sent + frames
  pub made : after.made ≡ before.made + packets
  pub carrying : after.carrying + gone ≡ before.carrying + come
  pub acking : after.acking + gone_acks ≡ before.acking + come_acks
  pub stranded : after.stranded ≤ before.stranded + more

-- 1 if so, else 0
abbrev pub one_when : Bool → ℕ
one_when b = if b then 1 else 0

-- what the arrival of a packet changes if its receiver sends so many frames, by whether it acknowledges and whether its frame is outstanding
abbrev pub ArrivalChanges : ℕ → Bool → Bool → Counts → Counts → Type 0
ArrivalChanges frames true waits before after = Changes 0 0 0 0 1 0 0 before after
ArrivalChanges frames false true before after = Changes frames (frames + 1) 1 frames 0 1 0 before after
ArrivalChanges frames false false before after = Changes 0 1 1 0 0 1 0 before after

-- A tick makes a data packet for each awaiting frame, and none is stranded then. If no packet was under way, all that awaited were.
pub record TickChanges (log : List Record) (before after : Counts) : Type 0 where
  pub changes : Changes 0 (length (awaiting log)) 0 (length (awaiting log)) 0 0 0 before after
  pub none : after.stranded ≡ 0
  pub within : length (awaiting log) ≤ before.sent
  pub all : lines_under_way log ≡ [] → before.stranded ≡ length (awaiting log)

-- what the move changes
abbrev pub IsEffect : List Record → CarrierMove → Counts → Counts → Type 0
IsEffect log (Acts index step items) before after =
    Changes (sent_count items) (sent_count items) 0 (sent_count items) 0 0 0 before after
IsEffect log (Arrives line items) before after =
    ArrivalChanges (sent_count items) line.ack (has_number (outstanding log) line.frame) before after
IsEffect log (Loses index place line) before after = Changes 0 0 (one_when (not line.ack)) 0 (one_when line.ack) 0 1 before after
IsEffect log (Repeats index place line) before after = Changes 0 1 0 (one_when (not line.ack)) 0 (one_when line.ack) 0 before after
IsEffect log Ticks before after = TickChanges log before after

-- ---- what the run's steps have left

-- So many steps are still to begin, `tick` and `repeat` steps have made so many packets, and the tick of a `tick` step is due.
pub record Clock : Type 0 where
  pub left : ℕ
  pub resent : ℕ
  pub due : Bool

-- whether the tick of a `tick` step is due after one more record, and at the end of a log: its last record begins such a step
unfoldable pub due_after : Bool → Record → Bool
due_after before (StepRecord index Tick) = true
due_after before other = false

abbrev pub is_due : List Record → Bool
is_due log = fold due_after false log

-- what the steps of a run, of which there are so many, have left
abbrev pub clock_of : ℕ → List Record → Clock
clock_of steps log = record { left = steps - length (begun_steps log); resent = resent_count log; due = is_due log }

-- how many packets `tick` and `repeat` steps may make
abbrev pub most_resent : ℕ
most_resent = 100000

-- a step begins, which makes so many packets itself
pub record BeginsStep (more : ℕ) (before after : Clock) : Type 0 where
  pub left : before.left ≡ after.left + 1
  pub resent : after.resent ≡ before.resent + more
  pub within : (more ≡ 0) ⊎ (after.resent ≤ most_resent)

-- the tick of a `tick` step
pub record IsDueTick (log : List Record) (before after : Clock) : Type 0 where
  pub was : before.due ≡ true
  pub is : after.due ≡ false
  pub left : after.left ≡ before.left
  pub resent : after.resent ≡ before.resent + length (awaiting log)
  pub within : after.resent ≤ most_resent

-- the tick of a settle: no packet is under way, and some frame awaits its acknowledgement
pub record IsSettlingTick (log : List Record) (before after : Clock) : Type 0 where
  pub none : lines_under_way log ≡ []
  pub some : 1 ≤ length (awaiting log)
  pub same : after ≡ before

-- what the move takes of the steps
abbrev pub IsTurn : List Record → CarrierMove → Clock → Clock → Type 0
IsTurn log (Acts index step items) before after = BeginsStep 0 before after
IsTurn log (Arrives line items) before after = after ≡ before
IsTurn log (Loses index place line) before after = BeginsStep 0 before after
IsTurn log (Repeats index place line) before after = BeginsStep 1 before after
IsTurn log Ticks before after = IsDueTick log before after ⊎ IsSettlingTick log before after

-- ---- what falls

-- what falls at each group, if at most so many frames are sent
abbrev pub measure : ℕ → Clock → Counts → ℕ
measure most clock counts =
    (2 * most + 5) * clock.left + (if clock.due then 2 * most + 1 else 0) + 2 * (most - counts.sent)
    + 2 * counts.carrying + counts.acking + 3 * counts.stranded

-- what never rises: so many packets at most will have been made
abbrev pub packet_bound : ℕ → Clock → Counts → ℕ
packet_bound most clock counts =
    counts.made + 2 * (most - counts.sent) + counts.carrying + 2 * counts.stranded
    + 2 * (most_resent - clock.resent) + 2 * clock.left

-- How many packets a run makes at most that may send so many frames and has so many steps: two for each frame, two for each step, and two for
-- each packet that its `tick` and `repeat` steps may make.
abbrev pub most_made : ℕ → ℕ → ℕ
most_made frames steps = 2 * frames + 2 * steps + 2 * most_resent

-- the measure falls, and the bound doesn't rise
pub record FallsAt (most : ℕ) (clock clock_after : Clock) (before after : Counts) : Type 0 where
  pub falls : measure most clock_after after < measure most clock before
  pub bound : packet_bound most clock_after after ≤ packet_bound most clock before

-- There were so many groups, of a run of so many steps: at most two for each step that has begun and for each packet that was made.
pub record AreFewGroups (steps groups : ℕ) (clock : Clock) (counts : Counts) : Type 0 where
  pub bound : groups + counts.carrying + counts.acking + one_when clock.due + 2 * clock.left ≤ 2 * steps + 2 * counts.made

-- ---- runs

-- the last step sends no packet once more, and no tick is due
pub record IsCalm (log : List Record) : Type 0 where
  pub last : is_resending log ≡ false
  pub due : is_due log ≡ false

-- the tick of a `tick` step is due, and it makes no more packets than these steps may
pub record MayTick (log : List Record) : Type 0 where
  pub due : is_due log ≡ true
  pub resent : resent_count log + length (awaiting log) ≤ most_resent

-- a settle may tick: no packet is under way, and some frame awaits its acknowledgement
pub record MaySettle (log : List Record) : Type 0 where
  pub calm : IsCalm log
  pub none : lines_under_way log ≡ []
  pub some : 1 ≤ length (awaiting log)

-- When a move may come in a run of so many steps: one that begins a step, if a step is left, and if it repeats a packet, only so many times;
-- an arrival not between a `tick` or `repeat` step and the next step; and a tick if it is due, or if a settle may tick.
abbrev pub IsAllowed : ℕ → List Record → CarrierMove → Type 0
IsAllowed steps log (Acts index step items) = length (begun_steps log) < steps
IsAllowed steps log (Arrives line items) = IsCalm log
IsAllowed steps log (Loses index place line) = length (begun_steps log) < steps
IsAllowed steps log (Repeats index place line) = (length (begun_steps log) < steps) × (resent_count log + 1 ≤ most_resent)
IsAllowed steps log Ticks = MayTick log ⊎ MaySettle log

-- the move may come in a run of so many steps that sends at most so many frames
pub record MayMove (steps most : ℕ) (log : List Record) (move : CarrierMove) : Type 0 where
  pub is : IsCarrierMove log move
  pub allowed : IsAllowed steps log move
  pub within : sent_count (log ++ group_of log move) ≤ most

-- these moves may come, one after another
abbrev pub MayMoves : ℕ → ℕ → List Record → List CarrierMove → Type 0
MayMoves steps most log [] = Unit {0}
MayMoves steps most log (move ∷ moves) = MayMove steps most log move × MayMoves steps most (log ++ group_of log move) moves
