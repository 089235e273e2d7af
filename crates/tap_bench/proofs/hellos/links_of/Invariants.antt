use Rattle.std.proofs.Common.{All}
use Rattle.tap_name.specs.Name.{IsName}
use Rattle.tap_bench.proofs.hellos.links_of.Given as goal

abbrev pub invariant-loop-number : goal.invariant-loop-number
invariant-loop-number l = All (λ link. IsName l.settings link.name) l.links
