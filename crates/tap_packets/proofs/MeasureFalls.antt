-- What each move costs: the measure falls, and the bound on packets never rises.
use Rattle.std.proofs.Common.{◌≡◌, ℕ, ◌+◌, ◌*◌, ◌≤◌, Bool, true, false, not, List, length, refl, ap, sym, ◌∙◌, arith, subst, inl, inr}
use Rattle.std.specs.Prelude.{if◌then◌else◌}
use Rattle.tap_log.specs.declared.record.Record.{Record}
use Rattle.tap_history.specs.Moments.{has_number, outstanding}
use Rattle.tap_packets.specs.Bounds.{Counts, Changes, one_when, ArrivalChanges, TickChanges, IsEffect, Clock, BeginsStep, IsDueTick, IsSettlingTick, IsTurn, FallsAt}
use Rattle.tap_packets.specs.Groups.{CarrierMove}
use Rattle.tap_packets.specs.Packets.{frames_sent}
use Rattle.tap_packets.specs.Groups.CarrierMove.{Acts, Arrives, Loses, Repeats, Ticks}

one_more_step : (m l : ℕ) → m * (l + 1) ≡ m * l + m
one_more_step m l = omega arith

due-most : (b : Bool) (n : ℕ) → (if b then n else 0) ≤ n
due-most true n = omega arith
due-most false n = omega arith

-- a step that sends, makes, strands and repeats
step-falls : (most k n come acks more again : ℕ) (gone gone_acks : ℕ) (clock clock_after : Clock) (before after : Counts)
    → Changes k n gone come gone_acks acks more before after → BeginsStep again clock clock_after → after.sent ≤ most
    → 2 * come + acks + 3 * more ≤ 3 + 2 * k → n + come + 2 * more ≤ 2 * k + 2 * again + 2
    → FallsAt most clock clock_after before after
step-falls most k n come acks more again gone gone_acks clock clock_after before after changes begins within low small =
    let a = changes.sent in
    let b = changes.made in
    let c = changes.carrying in
    let d = changes.acking in
    let e = changes.stranded in
    let l = begins.left in
    let r = begins.resent in
    let steps : (2 * most + 5) * clock.left ≡ (2 * most + 5) * clock_after.left + (2 * most + 5) =
    ap (λ x. (2 * most + 5) * x) l ∙ one_more_step (2 * most + 5) clock_after.left in
    let due = due-most clock_after.due (2 * most + 1) in
    record {
      falls = omega (arith, a, c, d, e, steps, due, within, low);
      bound = elim begins.within [
        | inl same ↦ omega (arith, a, b, c, e, l, r, same, within, small)
        | inr w ↦ omega (arith, a, b, c, e, l, r, w, within, small)
      ];
    }

arrival-falls : (most k : ℕ) (ack out : Bool) (clock : Clock) (before after : Counts) → ArrivalChanges k ack out before after
    → after.sent ≤ most
    → FallsAt most clock clock before after
arrival-falls most k true out clock before after changes within =
    let a = changes.sent in let b = changes.made in let c = changes.carrying in let d = changes.acking in let e = changes.stranded in
    record { falls = omega (arith, a, c, d, e, within); bound = omega (arith, a, b, c, e, within) }
arrival-falls most k false true clock before after changes within =
    let a = changes.sent in let b = changes.made in let c = changes.carrying in let d = changes.acking in let e = changes.stranded in
    record { falls = omega (arith, a, c, d, e, within); bound = omega (arith, a, b, c, e, within) }
arrival-falls most k false false clock before after changes within =
    let a = changes.sent in let b = changes.made in let c = changes.carrying in let d = changes.acking in let e = changes.stranded in
    record { falls = omega (arith, a, c, d, e, within); bound = omega (arith, a, b, c, e, within) }

due-falls : (most : ℕ) (log : List Record) (clock clock_after : Clock) (before after : Counts) → TickChanges log before after
    → IsDueTick log clock clock_after → after.sent ≤ most
    → FallsAt most clock clock_after before after
due-falls most log clock clock_after before after tick turn within =
    let a = tick.changes.sent in let b = tick.changes.made in let c = tick.changes.carrying in let d = tick.changes.acking in
    let e = tick.none in let f = tick.within in
    let r = turn.resent in let w = turn.within in let l = turn.left in
    let steps : (2 * most + 5) * clock_after.left ≡ (2 * most + 5) * clock.left = ap (λ x. (2 * most + 5) * x) l in
    let was : (if clock.due then 2 * most + 1 else 0) ≡ 2 * most + 1 = ap (λ t. if t then 2 * most + 1 else 0) turn.was in
    let is : (if clock_after.due then 2 * most + 1 else 0) ≡ 0 = ap (λ t. if t then 2 * most + 1 else 0) turn.is in
    record {
      falls = omega (arith, a, c, d, e, f, steps, was, is, within);
      bound = omega (arith, a, b, c, e, l, r, w, within);
    }

settling-falls : (most : ℕ) (log : List Record) (clock clock_after : Clock) (before after : Counts) → TickChanges log before after
    → IsSettlingTick log clock clock_after → after.sent ≤ most
    → FallsAt most clock clock_after before after
settling-falls most log clock clock_after before after tick turn within =
    let a = tick.changes.sent in let b = tick.changes.made in let c = tick.changes.carrying in let d = tick.changes.acking in
    let e = tick.none in let f = tick.all turn.none in let g = turn.some in
    let l : clock_after.left ≡ clock.left = ap (λ (t : Clock). t.left) turn.same in
    let r : clock_after.resent ≡ clock.resent = ap (λ (t : Clock). t.resent) turn.same in
    let steps : (2 * most + 5) * clock_after.left ≡ (2 * most + 5) * clock.left = ap (λ x. (2 * most + 5) * x) l in
    let due : (if clock_after.due then 2 * most + 1 else 0) ≡ (if clock.due then 2 * most + 1 else 0) =
    ap (λ (t : Clock). if t.due then 2 * most + 1 else 0) turn.same in
    record {
      falls = omega (arith, a, c, d, e, f, g, steps, due, within);
      bound = omega (arith, a, b, c, e, f, l, r, within);
    }

pub kinds : (ack : Bool) → one_when (not ack) + one_when ack ≡ 1
kinds true = refl
kinds false = refl

pub move-falls : (most : ℕ) (log : List Record) (move : CarrierMove) (clock clock_after : Clock) (before after : Counts)
    → IsEffect log move before after → IsTurn log move clock clock_after → after.sent ≤ most → FallsAt most clock clock_after before after
move-falls most log (Acts index step items) clock clock_after before after effect turn within =
    let k = length (frames_sent items) in
    step-falls most k k k 0 0 0 0 0 clock clock_after before after effect turn within (omega arith) (omega arith)
move-falls most log (Arrives line items) clock clock_after before after effect turn within =
    subst (λ t. FallsAt most clock t before after) (sym turn)
    (arrival-falls most (length (frames_sent items)) line.ack (has_number (outstanding log) line.frame) clock before after effect within)
move-falls most log (Loses index place line) clock clock_after before after effect turn within =
    step-falls most 0 0 0 0 1 0 (one_when (not line.ack)) (one_when line.ack) clock clock_after before after effect turn within (omega arith)
    (omega arith)
move-falls most log (Repeats index place line) clock clock_after before after effect turn within =
    let one = kinds line.ack in
    step-falls most 0 1 (one_when (not line.ack)) (one_when line.ack) 0 1 0 0 clock clock_after before after effect turn within
    (omega (arith, one)) (omega (arith, one))
move-falls most log Ticks clock clock_after before after effect (inl due) within =
    due-falls most log clock clock_after before after effect due within
move-falls most log Ticks clock clock_after before after effect (inr settling) within =
    settling-falls most log clock clock_after before after effect settling within
