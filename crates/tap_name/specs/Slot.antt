-- the place of one name in another's table, and the order of such places
use Rattle.std.specs.Prelude.{◌≡◌, ◌==◌, nat_eq, ℕ, ◌<◌, ◌≤◌, if◌then◌else◌, List, length, slice_index, Option, None, Some}
use Rattle.std.specs.Prelude.{◌&&◌}
use Rattle.std.specs.Cmp.{IsTotalOrder}
use Rattle.std.specs.List.{common_prefix_len}
use Rattle.std.specs.Ordering.{is_eq, nat_cmp, ordering_then}
use Rattle.std.specs.declared.cmp.Ordering.{Ordering}
use Rattle.std.proofs.Common.{arith}
use Rattle.std.proofs.lemmas.Bool.Decides.{nat_tests}
use Rattle.std.proofs.lemmas.Cmp.{nat_cmp_total, on_total, then_total}
use Rattle.tap_name.specs.declared.slot.Slot.{Slot}

-- the slot of b at a, for two names of one length: their common prefix, and the digit of b after it
abbrev pub slot_at : List ℕ → List ℕ → Option Slot
slot_at a b =
    let level = common_prefix_len nat_eq a b
    in (if level == length a then None else Some (record { level = level; digit = slice_index b level }))

-- b fits this slot of a
abbrev pub Fits : List ℕ → List ℕ → Slot → Type 0
Fits a b slot = slot_at a b ≡ Some slot

-- slots are ordered by level, then digit
abbrev pub slot_cmp : Slot → Slot → Ordering
slot_cmp a b = ordering_then (nat_cmp a.level b.level) (nat_cmp a.digit b.digit)

pub slot_cmp-total : IsTotalOrder slot_cmp
slot_cmp-total = then_total (on_total (λ s. s.level) nat_cmp_total) (on_total (λ s. s.digit) nat_cmp_total)

pub slot_cmp-ties : (a b : Slot) → ((a.level == b.level) && (a.digit == b.digit)) ≡ is_eq (slot_cmp a b)
slot_cmp-ties a b = grind (arith, nat_tests)

-- a stands before b: by level, then digit
pub record Precedes (a b : Slot) : Type 0 where
  pub level : a.level ≤ b.level
  pub digit : a.level ≡ b.level → a.digit < b.digit
