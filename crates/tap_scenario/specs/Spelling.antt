-- names as words write them: plainly, or as the digest of a word; and objects, which may be salts of others
use Rattle.std.specs.Prelude.{ℕ, ◌==◌, ◌-◌, nat_le, Bool, ◌&&◌, List, [], ◌∷◌, length, take, drop, Option, None, Some, option_and_then, if◌then◌else◌}
use Rattle.std.specs.List.{list_all}
use Rattle.std.specs.Option.{option_or}
use Rattle.tap_name.specs.Settings.{SettingsValue}
use Rattle.tap_name.specs.Name.{Name, name_of_word}
use Rattle.tap_name.specs.Word.{is_word_byte}
use Rattle.tap_salt.specs.Salt.{if_salted, name_of_bytes, salt_of}

-- whether bytes are 1 to 64 lower-case letters and digits
abbrev pub is_spelling : List ℕ → Bool
is_spelling bytes = nat_le 1 (length bytes) && nat_le (length bytes) 64 && list_all is_word_byte bytes

-- the name that a word writes as `@` and letters and digits, whose digest it is
abbrev pub name_of_spelling : SettingsValue → List ℕ → Option Name
name_of_spelling p [] = None
name_of_spelling p (mark ∷ bytes) = if (mark == 64) && is_spelling bytes then if_salted p (name_of_bytes bytes) else None

-- the name that a word writes: digit by digit, or as `@` and a word whose digest it is
unfoldable pub name_in : SettingsValue → List ℕ → Option Name
name_in p word = option_or (name_of_word p word) (name_of_spelling p word)

-- the number of a salt that an ending asks for: `#1` to `#4`
abbrev pub salt_number : List ℕ → Option ℕ
salt_number (mark ∷ digit ∷ []) = if (mark == 35) && nat_le 49 digit && nat_le digit 52 then Some (digit - 48) else None
salt_number _ = None

-- the salt of this number of the object that stands before the ending, or else the name that the word writes
abbrev pub salt_in : SettingsValue → List ℕ → Option ℕ → List ℕ → Option Name
salt_in p object None word = name_in p word
salt_in p object (Some number) word = option_and_then (λ name. if_salted p (salt_of name number)) (name_in p object)

-- the object that a word writes: a salt of an object, if it ends as one, or else a name
unfoldable pub object_in : SettingsValue → List ℕ → Option Name
object_in p word = salt_in p (take (length word - 2) word) (salt_number (drop (length word - 2) word)) word
