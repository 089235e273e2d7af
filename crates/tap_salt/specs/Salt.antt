-- Names that are made of a digest, and the salts of an object. The digest is SHA-1.
use Rattle.std.specs.Prelude.{◌==◌, ℕ, Bool, ◌&&◌, List, [], ◌∷◌, ◌++◌, map, Option, None, Some, if◌then◌else◌}
use Rattle.std.specs.List.{filter_map}
use Rattle.sha1.specs.Sha1.{sha1}
use Rattle.tap_name.specs.Settings.{SettingsValue}
use Rattle.tap_name.specs.Name.{Name, text_of_name}
use Rattle.tap_name.specs.Packed.{halves}
use Rattle.tap_name.specs.Root.{root}

-- whether names are as long as a digest: they have 40 digits of base 16
abbrev pub is_salted : SettingsValue → Bool
is_salted p = (p.base == 16) && (p.digits == 40)

-- the name of bytes: the digits of their digest
unfoldable pub name_of_bytes : List ℕ → Name
name_of_bytes bytes = halves (sha1 bytes)

-- the salt of an object with a number: the name of the object's text and then of one byte, the number
abbrev pub salt_of : Name → ℕ → Name
salt_of object number = name_of_bytes (text_of_name object ++ number ∷ [])

-- the four salts of an object
abbrev pub salts_of : Name → List Name
salts_of object = map (salt_of object) (1 ∷ 2 ∷ 3 ∷ 4 ∷ [])

-- the roots of the four salts of an object over a set of names
abbrev pub roots_of : ℕ → List Name → Name → List Name
roots_of base names object = filter_map (root base names) (salts_of object)

-- this, if names are as long as a digest
abbrev pub if_salted : {A : Type 0} → SettingsValue → A → Option A
if_salted p value = if is_salted p then Some value else None
