use Rattle.std.proofs.Common.{◌<◌, take}
use Rattle.std.specs.Prelude.{All}
use Rattle.tap_test_texts.proofs.report_checks.are_below.Given as goal

abbrev pub invariant-loop-link : goal.invariant-loop-link
invariant-loop-link l = All (λ link. link.slot.digit < l.base) (take l.link-index l.links)
