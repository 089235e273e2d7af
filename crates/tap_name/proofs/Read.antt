-- digits that are all below a base are a name
-- Cited above: all_good
use Rattle.std.proofs.Common.{◌≡◌, ℕ, ◌<◌, ◌≤◌, List, length, get_or, nat_le, arith, Ok}
use Rattle.std.proofs.lemmas.List.Sums.{position_or_len_is}
use Rattle.std.specs.List.{position_or_len}
use Rattle.std.proofs.lemmas.Bool.Decides.{nat_tests}
use Rattle.tap_name.specs.Settings.{SettingsValue}
use Rattle.tap_name.specs.Name.{name_of_digits}

-- each digit before a place is below the base
abbrev pub AreBelow : ℕ → List ℕ → ℕ → Type 0
AreBelow base digits n = (k : ℕ) → k < n → get_or digits k 0 < base

first_bad : (base : ℕ) (digits : List ℕ) (i : ℕ) → i ≤ length digits → AreBelow base digits i
    → (i < length digits → base ≤ get_or digits i 0)
    → position_or_len (λ d. nat_le base d) digits ≡ i
first_bad base digits i within below bad =
    position_or_len_is (λ d. nat_le base d) digits i 0 within (λ k h. let b = below k h in grind (arith, nat_tests))
    (λ h. let b = bad h in grind (arith, nat_tests))

pub all_good : (s : SettingsValue) (digits : List ℕ) → length digits ≡ s.digits → AreBelow s.base digits (length digits)
    → name_of_digits s digits ≡ Ok digits
all_good s digits len below =
    let e = first_bad s.base digits (length digits) (omega arith) below (λ h. absurd (omega arith)) in
    rw (e, len) (grind (arith, nat_tests))
