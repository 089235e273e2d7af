-- a name is a list of digits; what reading one answers
use Rattle.std.specs.Prelude.{◌≡◌, ◌==◌, ℕ, ◌<◌, nat_le, if◌then◌else◌, List, length, map, position, All, Option, None, Some, Result, Ok, Err}
use Rattle.std.specs.Result.{result_ok}
use Rattle.tap_name.specs.declared.name.NameFault.{NameFault}
use Rattle.tap_name.specs.declared.name.NameFault.TheVariants.{BadLength, BadDigit}
use Rattle.tap_name.specs.Settings.{SettingsValue}
use Rattle.tap_name.specs.Digits.{text_of_digit, digit_of_text}

-- a name: its digits
abbrev pub Name : Type 0
Name = List ℕ

-- a name of these settings: it has their number of digits, each below their base
pub record IsName (p : SettingsValue) (name : List ℕ) : Type 0 where
  pub len : length name ≡ p.digits
  pub below : All (λ d. d < p.base) name

-- the digits, or the first place of one that is none
abbrev pub unless_bad : List ℕ → Option ℕ → Result (List ℕ) NameFault
unless_bad digits None = Ok digits
unless_bad digits (Some place) = Err (BadDigit place)

-- the name of these digit values
abbrev pub name_of_digits : SettingsValue → List ℕ → Result (List ℕ) NameFault
name_of_digits p digits =
    if length digits == p.digits
    then unless_bad digits (position (λ d. nat_le p.base d) digits)
    else Err (BadLength (length digits))

-- the name of this text
abbrev pub name_of_text : SettingsValue → List ℕ → Result (List ℕ) NameFault
name_of_text p text = name_of_digits p (map digit_of_text text)

-- the name that a word spells, where it spells one
abbrev pub name_of_word : SettingsValue → List ℕ → Option (List ℕ)
name_of_word p word = result_ok (name_of_text p word)

-- a name as it is printed
abbrev pub text_of_name : List ℕ → List ℕ
text_of_name name = map text_of_digit name
