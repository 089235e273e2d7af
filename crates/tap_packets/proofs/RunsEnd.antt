-- A run ends, and makes few packets.
-- Cited above: moves_cost_holds, runs_end_holds
use Rattle.std.proofs.Common.{◌≡◌, ℕ, ◌+◌, ◌*◌, ◌≤◌, Bool, true, false, not, List, [], ◌∷◌, ◌++◌, length, refl, ap, sym, arith, subst, inl, inr}
use Rattle.tap_name.specs.Settings.{SettingsValue}
use Rattle.tap_log.specs.declared.record.Record.{Record}
use Rattle.tap_log.specs.Kinds.{sent_number, ended_number, packet_number}
use Rattle.tap_log.specs.Counts.{packet_count}
use Rattle.tap_history.specs.Moments.{has_number, outstanding}
use Rattle.tap_packets.specs.Bounds.{Counts, counts_of, Changes, one_when, ArrivalChanges, TickChanges, IsEffect, Clock, clock_of, BeginsStep, IsDueTick, IsSettlingTick, IsTurn, measure, most_made, packet_bound, AreFewGroups, MayMoves}
use Rattle.tap_packets.specs.Groups.{CarrierMove, group_of, IsCarrierMove, log_after}
use Rattle.tap_packets.specs.PacketLaws.{carried_beginning, MovesCost, RunsEnd}
use Rattle.tap_packets.specs.Packets.{frames_sent, made_packet}
use Rattle.tap_packets.proofs.ClockTurns.{stays, move-turns}
use Rattle.tap_packets.proofs.GroupsCome.{move-follows, keeps-all, beginning-comes}
use Rattle.tap_packets.proofs.KeptForms.{Keeps, keeps_from}
use Rattle.tap_packets.proofs.KeptPackets.{kept-all}
use Rattle.tap_packets.proofs.MeasureFalls.{kinds, move-falls}
use Rattle.tap_packets.proofs.MoveEffects.{move-effect}
use Rattle.tap_packets.specs.Groups.CarrierMove.{Acts, Arrives, Loses, Repeats, Ticks}

-- ---- groups

one-most : (b : Bool) → one_when b ≤ 1
one-most true = omega arith
one-most false = omega arith

step-groups : (steps groups k n gone come gone_acks acks more again : ℕ) (clock clock_after : Clock) (before after : Counts)
    → Changes k n gone come gone_acks acks more before after → BeginsStep again clock clock_after → come + acks ≤ 2 * n
    → AreFewGroups steps groups clock before → AreFewGroups steps (groups + 1) clock_after after
step-groups steps groups k n gone come gone_acks acks more again clock clock_after before after changes begins low are =
    let b = changes.made in let c = changes.carrying in let d = changes.acking in let l = begins.left in
    let due = one-most clock_after.due in
    let was = are.bound in
    record { bound = omega (arith, b, c, d, l, due, was, low) }

arrival-groups : (steps groups k : ℕ) (ack out : Bool) (clock : Clock) (before after : Counts) → ArrivalChanges k ack out before after
    → AreFewGroups steps groups clock before → AreFewGroups steps (groups + 1) clock after
arrival-groups steps groups k true out clock before after changes are =
    let b = changes.made in let c = changes.carrying in let d = changes.acking in let was = are.bound in record {
      bound = omega (arith, b, c, d, was);
    }
arrival-groups steps groups k false true clock before after changes are =
    let b = changes.made in let c = changes.carrying in let d = changes.acking in let was = are.bound in record {
      bound = omega (arith, b, c, d, was);
    }
arrival-groups steps groups k false false clock before after changes are =
    let b = changes.made in let c = changes.carrying in let d = changes.acking in let was = are.bound in record {
      bound = omega (arith, b, c, d, was);
    }

due-groups : (steps groups : ℕ) (log : List Record) (clock clock_after : Clock) (before after : Counts) → TickChanges log before after
    → IsDueTick log clock clock_after
    → AreFewGroups steps groups clock before → AreFewGroups steps (groups + 1) clock_after after
due-groups steps groups log clock clock_after before after tick turn are =
    let b = tick.changes.made in let c = tick.changes.carrying in let d = tick.changes.acking in
    let l = turn.left in let x = ap one_when turn.was in let y = ap one_when turn.is in let was = are.bound in
    record { bound = omega (arith, b, c, d, l, x, y, was) }

settling-groups : (steps groups : ℕ) (log : List Record) (clock clock_after : Clock) (before after : Counts) → TickChanges log before after
    → IsSettlingTick log clock clock_after
    → AreFewGroups steps groups clock before → AreFewGroups steps (groups + 1) clock_after after
settling-groups steps groups log clock clock_after before after tick turn are =
    let b = tick.changes.made in let c = tick.changes.carrying in let d = tick.changes.acking in
    let l = ap (λ (t : Clock). t.left) turn.same in let x = ap (λ (t : Clock). one_when t.due) turn.same in let some = turn.some in
    let was = are.bound in
    record { bound = omega (arith, b, c, d, l, x, some, was) }

move-groups : (steps groups : ℕ) (log : List Record) (move : CarrierMove) (clock clock_after : Clock) (before after : Counts)
    → IsEffect log move before after → IsTurn log move clock clock_after → AreFewGroups steps groups clock before
    → AreFewGroups steps (groups + 1) clock_after after
move-groups steps groups log (Acts index step items) clock clock_after before after effect turn are =
    let k = length (frames_sent items) in
    step-groups steps groups k k 0 k 0 0 0 0 clock clock_after before after effect turn (omega arith) are
move-groups steps groups log (Arrives line items) clock clock_after before after effect turn are =
    subst (λ t. AreFewGroups steps (groups + 1) t after) (sym turn)
    (arrival-groups steps groups (length (frames_sent items)) line.ack
    (has_number (outstanding log) line.frame) clock before after effect are)
move-groups steps groups log (Loses index place line) clock clock_after before after effect turn are =
    step-groups steps groups 0 0 (one_when (not line.ack)) 0 (one_when line.ack) 0 1 0 clock clock_after before after effect turn
    (omega arith) are
move-groups steps groups log (Repeats index place line) clock clock_after before after effect turn are =
    let one = kinds line.ack in
    step-groups steps groups 0 1 0 (one_when (not line.ack)) 0 (one_when line.ack) 0 1 clock clock_after before after effect turn
    (omega (arith, one)) are
move-groups steps groups log Ticks clock clock_after before after effect (inl due) are =
    due-groups steps groups log clock clock_after before after effect due are
move-groups steps groups log Ticks clock clock_after before after effect (inr settling) are =
    settling-groups steps groups log clock clock_after before after effect settling are

-- ---- runs

kept-turn : (log : List Record) (move : CarrierMove) → Keeps log → IsCarrierMove log move → Keeps (log ++ group_of log move)
kept-turn log move kept is = kept-all log (group_of log move) kept (move-follows log move kept is)

run-ends : (steps most : ℕ) (log : List Record) (moves : List CarrierMove) → Keeps log → MayMoves steps most log moves
    → length moves ≤ measure most (clock_of steps log) (counts_of log)
run-ends steps most log [] kept are = omega arith
run-ends steps most log (move ∷ moves) kept are =
    let next = log ++ group_of log move in
    let costs =
    move-falls most log move (clock_of steps log) (clock_of steps next) (counts_of log) (counts_of next)
    (move-effect log move kept are.0.is)
    (move-turns steps log move are.0.is are.0.allowed) are.0.within in
    let falls = costs.falls in
    let rest = run-ends steps most next moves (kept-turn log move kept are.0.is) are.1 in
    omega (arith, falls, rest)

run-packets : (steps most : ℕ) (log : List Record) (moves : List CarrierMove) → Keeps log → MayMoves steps most log moves
    → packet_count (log_after log moves) ≤ packet_bound most (clock_of steps log) (counts_of log)
run-packets steps most log [] kept are = omega arith
run-packets steps most log (move ∷ moves) kept are =
    let next = log ++ group_of log move in
    let costs =
    move-falls most log move (clock_of steps log) (clock_of steps next) (counts_of log) (counts_of next)
    (move-effect log move kept are.0.is)
    (move-turns steps log move are.0.is are.0.allowed) are.0.within in
    let bound = costs.bound in
    let rest = run-packets steps most next moves (kept-turn log move kept are.0.is) are.1 in
    omega (arith, bound, rest)

run-groups-from : (steps most groups : ℕ) (log : List Record) (moves : List CarrierMove) → Keeps log → MayMoves steps most log moves
    → AreFewGroups steps groups (clock_of steps log) (counts_of log)
    → groups + length moves ≤ 2 * steps + 2 * packet_count (log_after log moves)
run-groups-from steps most groups log [] kept are bound = let b = bound.bound in omega (arith, b)
run-groups-from steps most groups log (move ∷ moves) kept are bound =
    let next = log ++ group_of log move in
    let more =
    move-groups steps groups log move (clock_of steps log) (clock_of steps next) (counts_of log) (counts_of next)
    (move-effect log move kept are.0.is)
    (move-turns steps log move are.0.is are.0.allowed) bound in
    let rest = run-groups-from steps most (groups + 1) next moves (kept-turn log move kept are.0.is) are.1 more in
    omega (arith, rest)

-- what there is at the beginning
record IsNothing (counts : Counts) : Type 0 where
  sent : counts.sent ≡ 0
  made : counts.made ≡ 0
  carrying : counts.carrying ≡ 0
  acking : counts.acking ≡ 0
  stranded : counts.stranded ≡ 0

module _ (settings : SettingsValue) (members : List (List ℕ)) (steps most : ℕ) (moves : List CarrierMove) where
  abbrev start : List Record
  start = carried_beginning settings most members

  nothing-yet : IsNothing (counts_of start)
  unfolding sent_number packet_number made_packet ended_number
  nothing-yet = record { sent = refl; made = refl; carrying = refl; acking = refl; stranded = refl }

  start-kept : Keeps start
  start-kept = keeps-all start (beginning-comes settings most members)

  pub run-few : MayMoves steps most start moves → packet_count (log_after start moves) ≤ most_made most steps
  run-few are =
      let all = run-packets steps most start moves start-kept are in
      let none = nothing-yet in
      let a = none.sent in let b = none.made in let c = none.carrying in let d = none.stranded in
      omega (arith, all, a, b, c, d)

  pub run-groups : MayMoves steps most start moves → length moves ≤ 2 * steps + 2 * packet_count (log_after start moves)
  run-groups are =
      let none = nothing-yet in
      let b = none.made in let c = none.carrying in let d = none.acking in
      let due = ap one_when (stays start refl) in
      let all = run-groups-from steps most 0 start moves start-kept are (record { bound = omega (arith, b, c, d, due) }) in
      omega (arith, all)

pub moves_cost_holds : MovesCost
moves_cost_holds = record {
  effects = λ log move kept. move-effect log move (keeps_from log kept);
  falls = move-falls;
  groups = move-groups;
}

pub runs_end_holds : RunsEnd
runs_end_holds = record {
  turns = move-turns;
  ends = λ steps most log moves kept. run-ends steps most log moves (keeps_from log kept);
  packets = λ steps most log moves kept. run-packets steps most log moves (keeps_from log kept);
  few = run-few;
  groups = run-groups;
}
