-- the laws of salts
use Rattle.std.specs.Prelude.{◌≡◌, true, List, map, Some}
use Rattle.tap_name.specs.Settings.{SettingsValue}
use Rattle.tap_name.specs.Name.{Name}
use Rattle.tap_name.specs.Root.{Among, AreNames, root}
use Rattle.tap_salt.specs.Salt.{is_salted, salts_of, roots_of}

-- if names are as long as a digest, each salt of an object is a name
abbrev pub SaltsAreNames : Type 0
SaltsAreNames = (p : SettingsValue) → is_salted p ≡ true → (object : Name) → AreNames p (salts_of object)

-- each of the four salts of an object has a root over these names, which is one of them
pub record HaveRoots (p : SettingsValue) (names : List Name) (object : Name) : Type 0 where
  pub each : map (root p.base names) (salts_of object) ≡ map Some (roots_of p.base names object)
  pub among : (found : Name) → Among found (roots_of p.base names object) → Among found names

-- if names are as long as a digest, the salts of each object have roots over any names, of which there is one at least
abbrev pub SaltsHaveRoots : Type 0
SaltsHaveRoots = (p : SettingsValue) → is_salted p ≡ true → (names : List Name) → AreNames p names
    → (some : Name) → Among some names → (object : Name) → HaveRoots p names object
