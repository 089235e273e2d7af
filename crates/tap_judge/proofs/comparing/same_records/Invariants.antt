use Rattle.std.proofs.Common.{length, ◌-◌, ◌≡◌, ◌≤◌, take}
use Rattle.tap_judge.proofs.comparing.same_records.Given as goal

-- so many are there, and the same
abbrev pub invariant-loop-same : goal.invariant-loop-same
invariant-loop-same l = (l.same ≤ length l.run) × (l.same ≤ length l.log) × (take l.same l.log ≡ take l.same l.run)

abbrev pub decreases-loop-same : goal.decreases-loop-same
decreases-loop-same l = length l.run - l.same
