use Rattle.std.proofs.Common.{◌≡◌, length, take}
use Rattle.std.specs.Prelude.{IsTrue}
use Rattle.tap_judge.proofs.expected.is_same.Given as goal

abbrev pub invariant-loop-at : goal.invariant-loop-at
invariant-loop-at l = record {
  even : length l.one ≡ length l.other;
  front : IsTrue l.same → take l.at l.one ≡ take l.at l.other;
}
