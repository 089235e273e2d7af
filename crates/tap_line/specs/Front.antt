-- What the words of a line begin with. Each reader takes words from the front and leaves the others.
use Rattle.std.specs.Prelude.{ℕ, Bool, false, ◌&&◌, nat_le, not, if◌then◌else◌, List, [], ◌∷◌, slice_index, bytes_eq, find, Option, None, Some, option_map, option_and_then, Result, Ok, Err}
use Rattle.std.specs.List.{join_with_byte, list_all}
use Rattle.hex.specs.Hex.{decode_of}
use Rattle.hex.specs.declared.error.FromHexError.{FromHexError}
use Rattle.tap_name.specs.Settings.{SettingsValue}
use Rattle.tap_name.specs.Name.{name_of_word}
use Rattle.tap_scenario.specs.Step.{number_below, with_digits, word_of_bytes}

-- what is read from the front of words, and the words that are left
abbrev pub Front : Type 0 → Type 0
Front A = List (List ℕ) → Option (A × List (List ℕ))

-- one reading after another, up to the first that fails
infixl 10 ◌>>=◌
abbrev pub ◌>>=◌ : {A B : Type 0} → Front A → (A → List (List ℕ) → Option B) → List (List ℕ) → Option B
(first >>= next) words = option_and_then (λ taken. next taken.0 taken.1) (first words)

-- what the first word is read as
abbrev pub first_as : {A : Type 0} → (List ℕ → Option A) → Front A
first_as read [] = None
first_as read (word ∷ words) = option_map (λ value. (value, words)) (read word)

-- a number below this limit
abbrev pub number : ℕ → Front ℕ
number limit = first_as (number_below limit)

-- a name
abbrev pub name : SettingsValue → Front (List ℕ)
name p = first_as (name_of_word p)

-- this word, if the other is the same
abbrev pub same_word : List ℕ → List ℕ → Option (List ℕ)
same_word word other = if bytes_eq other word then Some other else None

-- this very word
abbrev pub word : List ℕ → Front (List ℕ)
word text = first_as (same_word text)

-- the one of these whose text the word is
abbrev pub chosen : {A : Type 0} → (A → List ℕ) → List A → List ℕ → Option A
chosen text choices word = find (λ choice. bytes_eq word (text choice)) choices

-- one of these, each of which has a word
abbrev pub one_of : {A : Type 0} → (A → List ℕ) → List A → Front A
one_of text choices = first_as (chosen text choices)

-- the words of a cast
abbrev pub letters : Front (List ℕ)
letters = first_as word_of_bytes

-- the digit below the base that a word of one byte is
abbrev pub digit_of_word : SettingsValue → List ℕ → Option ℕ
digit_of_word p word = option_map (λ digits. slice_index digits 0) (name_of_word (with_digits 1 p) word)

-- a digit below the base
abbrev pub digit : SettingsValue → Front ℕ
digit p = first_as (digit_of_word p)

-- a capital letter
abbrev pub is_capital : ℕ → Bool
is_capital byte = nat_le 65 byte && nat_le byte 90

-- the bytes, if the text has no capital letter
abbrev pub unless_capital : List ℕ → Result (List ℕ) FromHexError → Option (List ℕ)
unless_capital text (Ok bytes) = if list_all (λ byte. not (is_capital byte)) text then Some bytes else None
unless_capital text (Err fault) = None

-- the bytes that a word of hexadecimal digits spells, in lower case
abbrev pub bytes_of_hex : List ℕ → Option (List ℕ)
bytes_of_hex text = unless_capital text (decode_of text)

-- bytes in hexadecimal digits
abbrev pub hex : Front (List ℕ)
hex = first_as bytes_of_hex

-- names up to this word
abbrev pub names_before : SettingsValue → List ℕ → Front (List (List ℕ))
names_before p stop [] = None
names_before p stop (first ∷ words) =
    if bytes_eq first stop then Some ([], words)
    else option_and_then (λ found. option_map (λ more. (found ∷ more.0, more.1)) (names_before p stop words)) (name_of_word p first)

-- whether the words, with a space between them, are this
abbrev pub is_rest : List ℕ → List (List ℕ) → Bool
is_rest phrase [] = false
is_rest phrase (word ∷ words) = bytes_eq (join_with_byte 32 (word ∷ words)) phrase

-- this, if the words are that
abbrev pub told : {A : Type 0} → List ℕ → A → List (List ℕ) → Option A
told phrase value words = if is_rest phrase words then Some value else None
