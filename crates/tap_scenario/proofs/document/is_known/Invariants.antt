use Rattle.std.proofs.Common.{◌≡◌, drop, bytes_eq}
use Rattle.std.specs.List.{list_any}
use Rattle.tap_scenario.specs.Key.{text_of_key, known_keys, is_known}
use Rattle.tap_scenario.proofs.document.is_known.Given as goal

abbrev pub invariant-loop-known : goal.invariant-loop-known
invariant-loop-known l = list_any (λ known. bytes_eq l.key (text_of_key known)) (drop l.known-index known_keys) ≡ is_known l.key
