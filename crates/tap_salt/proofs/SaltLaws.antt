-- the salts of an object are names, and have roots
-- Cited above: salts_are_names_holds, salts_have_roots_holds
use Rattle.std.proofs.Common.{◌≡◌, ℕ, List, [], ◌∷◌, ◌++◌, map, true, Some, refl, inl, inr, ap}
use Rattle.std.specs.List.{filter_map}
use Rattle.tap_name.specs.Settings.{SettingsValue}
use Rattle.tap_name.specs.Name.{IsName, text_of_name}
use Rattle.tap_name.specs.Root.{Among, AreNames, root}
use Rattle.tap_salt.specs.Salt.{is_salted, salt_of, salts_of}
use Rattle.tap_salt.specs.SaltLaws.{SaltsAreNames, SaltsHaveRoots}
use Rattle.tap_salt.proofs.Digests.{name_of_bytes-IsName}
use Rattle.tap_salt.proofs.Roots.{root-there}

salt-IsName : (p : SettingsValue) → is_salted p ≡ true → (object : List ℕ) (number : ℕ) → IsName p (salt_of object number)
salt-IsName p salted object number = name_of_bytes-IsName p salted (text_of_name object ++ number ∷ [])

numbered-AreNames : (p : SettingsValue) → is_salted p ≡ true → (object numbers : List ℕ) → AreNames p (map (salt_of object) numbers)
numbered-AreNames p salted object [] x among = absurd among
numbered-AreNames p salted object (number ∷ numbers) x (inl is) = rw is (salt-IsName p salted object number)
numbered-AreNames p salted object (number ∷ numbers) x (inr among) = numbered-AreNames p salted object numbers x among

pub salts_are_names_holds : SaltsAreNames
salts_are_names_holds p salted object = numbered-AreNames p salted object (1 ∷ 2 ∷ 3 ∷ 4 ∷ [])

-- the roots of objects that are names
abbrev HasRootEach : SettingsValue → List (List ℕ) → List (List ℕ) → Type 0
HasRootEach p names objects =
    (map (root p.base names) objects ≡ map Some (filter_map (root p.base names) objects))
    × ((found : List ℕ) → Among found (filter_map (root p.base names) objects) → Among found names)

-- each object that is a name has a root
has_root_each : (p : SettingsValue) (names : List (List ℕ)) (some : List ℕ) → AreNames p names → Among some names
    → (objects : List (List ℕ)) → AreNames p objects → HasRootEach p names objects
has_root_each p names some valid among [] are = (refl, λ found h. absurd h)
has_root_each p names some valid among (object ∷ objects) are =
    let (found, is, found_among) = root-there p names object some valid (are object (inl refl)) among in
    let others = has_root_each p names some valid among objects (λ x h. are x (inr h)) in (
      rw is (ap (λ roots. Some found ∷ roots) others.0),
      rw is (λ x h. elim h [ inl e ↦ rw e found_among | inr more ↦ others.1 x more ]),
    )

pub salts_have_roots_holds : SaltsHaveRoots
salts_have_roots_holds p salted names valid some among object =
    let each = has_root_each p names some valid among (salts_of object) (salts_are_names_holds p salted object) in
    record { each = each.0; among = each.1 }
