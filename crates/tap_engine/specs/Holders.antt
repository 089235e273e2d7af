-- Who holds a link, and who is registered as its holder.
--
-- Rule: docs/PROTOCOL.md, "Nodes".
use Rattle.std.specs.Prelude.{◌≡◌, ◌↔◌, ℕ, true, List, Some}
use Rattle.tap_log.specs.declared.record.Record.{Record}
use Rattle.tap_history.specs.Moments.{is_rest}
use Rattle.tap_rule.specs.Node.Status.{Core}
use Rattle.tap_safety.specs.Ceased.{IsRegistered}
use Rattle.tap_safety.specs.System.{System}
use Rattle.tap_safety.specs.Ties.{status_of}
use Rattle.tap_safety.specs.Regions.{Has}
use Rattle.tap_runs.specs.Course.{system_of}
use Rattle.tap_safe_runs.specs.SafeLogs.{AtMomentsOf}

-- of two core nodes, the first is a holder of the second that is on exactly if its table has a link to the second
abbrev pub HoldersAreExact : System → Type 0
HoldersAreExact s = (holder target : List ℕ) → status_of s holder ≡ Some Core → status_of s target ≡ Some Core
    → Has s holder target ↔ IsRegistered s holder target

-- so it is at each rest of a log
abbrev pub HoldersAreExactAtRest : List Record → Type 0
HoldersAreExactAtRest log = AtMomentsOf log (λ before. is_rest before ≡ true → HoldersAreExact (system_of before))
