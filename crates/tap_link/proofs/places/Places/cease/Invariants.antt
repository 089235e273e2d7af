use Rattle.smallvec.specs.SmallVec.{small_vec_len}
use Rattle.tap_link.specs.Places.{IsFull}
use Rattle.tap_link.proofs.places.Places.cease.Given as goal

abbrev pub invariant-loop-place : goal.invariant-loop-place
invariant-loop-place g l = IsFull l.self-inside.links

abbrev pub decreases-loop-place : goal.decreases-loop-place
decreases-loop-place g l = small_vec_len l.self-inside.links
