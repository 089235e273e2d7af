-- the least members that fit each slot
use Rattle.std.proofs.Common.{◌≡◌, inl, inr, ℕ, ◌≤◌, List, [], length, arith, subst, ap}
use Rattle.tap_name.specs.declared.slot.Slot.{Slot}
use Rattle.tap_name.specs.Settings.{SettingsValue, AreWithinLimits}
use Rattle.tap_name.specs.Root.{Among, AreNames}
use Rattle.tap_name.specs.Slot.{Fits}
use Rattle.tap_table.specs.Members.{AreLeastFitting}
use Rattle.tap_surrogate.specs.Members.{AreMembersTables}
use Rattle.tap_surrogate.specs.Tables.{Tables}
use Rattle.tap_surrogate.specs.HoleFree.{IsHoleFree}

-- a slot that a member fits is not empty
least_fitting_filled : (width : ℕ) (owner : List ℕ) (slot : Slot) (members links : List (List ℕ)) → 1 ≤ width
    → AreLeastFitting width owner slot members links
    → (member : List ℕ) → Among member members → Fits owner member slot → links ≡ [] → ⊥
least_fitting_filled width owner slot members links wide are member among fits none =
    elim (are.least member among fits) [
      | inl link ↦ let P : List (List ℕ) → Type 0 = Among member in subst P none link
      | inr full ↦ let empty : length links ≡ 0 = ap length none in omega (arith, full.0, empty)
    ]

-- where each slot has the least members that fit, no table has a hole
pub least_leave_no_hole : (p : SettingsValue) (members : List (List ℕ)) (tables : Tables) → AreWithinLimits p → AreNames p members
    → AreMembersTables p members tables → IsHoleFree p members tables
least_leave_no_hole p members tables limits names are =
    record {
      names = names;
      filled = λ a b slot a_member b_member fits. least_fitting_filled p.width a slot members (tables a slot) limits.width_from
          (are a slot a_member) b b_member fits;
      sound = λ a b slot a_member link. let w = (are a slot a_member).fitting b link in (w.1, w.0);
    }
