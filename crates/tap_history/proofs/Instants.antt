-- A moment is within its log.
-- Cited above: moment-within
use Rattle.std.proofs.Common.{◌≡◌, ℕ, zero, suc, ◌≤◌, Bool, true, false, List, length, refl, sym, ◌∙◌, arith}
use Rattle.std.specs.Prelude.{◌&&◌, ◌||◌, nat_eq, nat_le, slice_get, if◌then◌else◌}
use Rattle.std.proofs.lemmas.Bool.{and_parts, leb-true, true≢false}
use Rattle.tap_log.specs.declared.record.Record.{Record}
use Rattle.tap_log.specs.Kinds.{is_carried}
use Rattle.tap_history.specs.Moments.{beginning, ends_before, is_group_end, is_moment}

not_first : (within carried ends : Bool) → (within && (nat_eq 0 (if carried then 2 else 1) || (false && ends))) ≡ false
not_first false carried ends = refl
not_first true true ends = refl
not_first true false ends = refl

pub moment-within : (log : List Record) (m : ℕ) → is_moment log m ≡ true → m ≤ length log
moment-within log m is = leb-true m (length log) (and_parts (nat_le m (length log)) (nat_eq m (beginning log) || is_group_end log m) is).0

-- no moment is in front of the first record
pub moment-begun : (log : List Record) (m : ℕ) → is_moment log m ≡ true → 1 ≤ m
moment-begun log zero is =
    absurd (true≢false (sym is ∙ not_first (nat_le 0 (length log)) (is_carried log) (ends_before (is_carried log) (slice_get log 0))))
moment-begun log (suc m) is = omega arith
