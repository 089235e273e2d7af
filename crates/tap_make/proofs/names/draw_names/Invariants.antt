use Rattle.std.proofs.Common.{◌≡◌, ◌+◌, map}
use Rattle.std.specs.List.{range_with_len}
use Rattle.tap_make.specs.Draws.{further}
use Rattle.tap_make.specs.MadeNames.{marked_name}
use Rattle.tap_make.specs.Mixer.{drawn}
use Rattle.tap_make.proofs.names.draw_names.Given as goal

abbrev pub invariant-loop-i : goal.invariant-loop-i
invariant-loop-i l = record {
  names : l.names ≡ map (λ i. marked_name (drawn l.fn.draws.seed (l.fn.draws.place + i)) (l.fn.first + i)) (range_with_len 0 l.i);
  draws : l.draws ≡ further l.fn.draws l.i;
}
