use Rattle.std.proofs.Common.{find, nat_eq}
use Rattle.std.specs.Option.{is_some, option_copied}
use Rattle.std.specs.Cmp.Lexicographic.{pointwise}
use Rattle.tap_surrogate.specs.Standing.{IsStanding}
use Rattle.tap_test_parts.proofs.surrogate.check_steps.Given as goal

abbrev pub invariant-loop-place : goal.invariant-loop-place
invariant-loop-place g l =
    IsStanding l.overlay.settings
    (record {
      table_of = λ name. option_copied (find (λ t. pointwise nat_eq t.now.owner name) l.overlay.tables.items);
      core = λ name. is_some (find (λ t. pointwise nat_eq t.now.owner name) l.overlay.tables.items);
    })
    l.walk
