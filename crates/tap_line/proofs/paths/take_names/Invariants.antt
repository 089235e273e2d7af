use Rattle.std.proofs.Common.{◌≡◌, length}
use Rattle.tap_line.specs.Front.{names_before}
use Rattle.tap_line.proofs.Gathered.{after_names}
use Rattle.tap_line.proofs.paths.take_names.Given as goal

abbrev pub invariant-loop-word : goal.invariant-loop-word
invariant-loop-word l =
    names_before l.settings l.stop l.initial.words ≡ after_names l.names (names_before l.settings l.stop l.words)

abbrev pub decreases-loop-word : goal.decreases-loop-word
decreases-loop-word l = length l.words
