-- Whether a frame is outstanding, and the last place, by how many there are.
use Rattle.std.proofs.Common.{◌≡◌, ℕ, false, List, [], ◌∷◌, length, Option, None, Some, refl, ap}
use Rattle.std.specs.Prelude.{◌==◌, ◌-◌, if◌then◌else◌}
use Rattle.std.proofs.Math.Dec.{eqb-suc-zero}
use Rattle.tap_history.specs.Moments.{is_none}
use Rattle.tap_engine.specs.Places.{last_place}

some_there : (number : ℕ) (numbers : List ℕ) → (length (number ∷ numbers) == 0) ≡ false
some_there number numbers = eqb-suc-zero (length numbers)

pub none_is : (numbers : List ℕ) → (length numbers == 0) ≡ is_none numbers
none_is [] = refl
none_is (number ∷ numbers) = some_there number numbers

pub last_is : (numbers : List ℕ)
    → ◌≡◌ {A = Option ℕ} (if length numbers == 0 then None else Some (length numbers - 1)) (last_place numbers)
last_is [] = refl
last_is (number ∷ numbers) =
    ap (λ b. if◌then◌else◌ {A = Option ℕ} b None (Some (length (number ∷ numbers) - 1))) (some_there number numbers)
