use Rattle.std.proofs.Common.{◌≡◌, ℕ, ◌<◌}
use Rattle.tap_depart.specs.Replacement.{first_above}
use Rattle.tap_table.proofs.LinksByName.{links_in}
use Rattle.tap_table.proofs.Stepping.{from_digit}
use Rattle.tap_depart.proofs.replacement.first_primary.Given as goal

abbrev pub invariant-loop-digit : goal.invariant-loop-digit
invariant-loop-digit l =
    (level : ℕ) → level < l.range.level
    → first_above l.table.owner level (links_in l.table (from_digit l.range l.digit))
    ≡ first_above l.table.owner level (links_in l.table l.range)
