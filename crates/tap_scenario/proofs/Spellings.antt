-- names and objects that words write
use Rattle.std.proofs.Common.{◌≡◌, ◌==◌, ◌&&◌, ◌+◌, ◌-◌, ◌<◌, ◌≤◌, ◌∙◌, ℕ, arith, false, List, [], ◌∷◌, ◌++◌, length, length-append, get_or, get_or-drop, take, drop, nat_le, nat_lt, All, Option, None, Some, refl, sym, inl, inr}
use Rattle.std.specs.Option.{option_and_then}
use Rattle.std.proofs.lemmas.Bool.{cases_Bool, and_parts, eqb-true, eq-eqb, ltb-true, ltb-false, true≢false}
use Rattle.std.proofs.lemmas.Bool.Decides.{nat_tests}
use Rattle.std.proofs.Math.ListN.{drop_of_length-le}
use Rattle.std.proofs.Math.Seq.{take-append_seam, drop-append_seam}
use Rattle.tap_name.specs.Settings.{SettingsValue}
use Rattle.tap_name.specs.Digits.{text_of_digit}
use Rattle.tap_name.specs.Name.{IsName, name_of_word, text_of_name}
use Rattle.tap_name.proofs.Texts.{name_of_word-back, name_of_word-text, text_of_name-All}
use Rattle.tap_salt.specs.Salt.{if_salted, is_salted, name_of_bytes, salt_of}
use Rattle.tap_salt.proofs.Digests.{name_of_bytes-IsName}
use Rattle.tap_scenario.specs.Spelling.{is_spelling, name_of_spelling, name_in, salt_number, salt_in, object_in}
use Rattle.tap_scenario.specs.PlainWords.{plain_word}
use Rattle.tap_scenario.proofs.Options.{and_then-back, option_or-back, option_or-None}

if_salted-IsName : (p : SettingsValue) (bytes name : List ℕ) → if_salted p (name_of_bytes bytes) ≡ Some name → IsName p name
if_salted-IsName p bytes name e =
    elim (cases_Bool (is_salted p)) [
      | inr other ↦ absurd (let none : None ≡ Some name = rw other at e in cc)
      | inl salted ↦
          let whole : Some (name_of_bytes bytes) ≡ Some name = rw salted at e in
          let same : name_of_bytes bytes ≡ name = cc in
          rw (← same) (name_of_bytes-IsName p salted bytes)
    ]

name_of_spelling-IsName : (p : SettingsValue) (word name : List ℕ) → name_of_spelling p word ≡ Some name → IsName p name
name_of_spelling-IsName p [] name e = absurd (cc)
name_of_spelling-IsName p (mark ∷ bytes) name e =
    elim (cases_Bool ((mark == 64) && is_spelling bytes)) [
      | inr other ↦ absurd (let none : None ≡ Some name = rw other at e in cc)
      | inl both ↦ if_salted-IsName p bytes name (rw both at e)
    ]

-- what a word writes as a name is one
pub name_in-IsName : (p : SettingsValue) (word name : List ℕ) → p.base ≤ 16 → name_in p word ≡ Some name → IsName p name
unfolding name_in
name_in-IsName p word name small e =
    elim (option_or-back (name_of_word p word) (name_of_spelling p word) name e) [
      | inl plain ↦ (name_of_word-back p word name small plain).1
      | inr spelled ↦ name_of_spelling-IsName p word name spelled
    ]

-- a word is read so: what is read is a name, and if nothing is, the word is no plain name
pub record IsReading (p : SettingsValue) (word : List ℕ) (read : Option (List ℕ)) : Type 0 where
  pub is_name : (name : List ℕ) → read ≡ Some name → IsName p name
  pub none : read ≡ None → name_of_word p word ≡ None

pub name_in-IsReading : (p : SettingsValue) (word : List ℕ) → p.base ≤ 16 → IsReading p word (name_in p word)
unfolding name_in
name_in-IsReading p word small = record {
  is_name = λ name e. name_in-IsName p word name small e;
  none = λ e. option_or-None (name_of_word p word) (name_of_spelling p word) e;
}

-- what a word writes as an object is a name
salt_in-IsName : (p : SettingsValue) (object : List ℕ) (number : Option ℕ) (word name : List ℕ) → p.base ≤ 16
    → salt_in p object number word ≡ Some name → IsName p name
salt_in-IsName p object None word name small e = name_in-IsName p word name small e
salt_in-IsName p object (Some number) word name small e =
    let made = and_then-back (λ found. if_salted p (salt_of found number)) (name_in p object) name e in
    if_salted-IsName p (text_of_name made.0 ++ number ∷ []) name made.2

-- what asks for a salt begins with `#`
salt_number-mark : (ending : List ℕ) (number : ℕ) → salt_number ending ≡ Some number → get_or ending 0 0 ≡ 35
salt_number-mark [] number e = absurd (cc)
salt_number-mark (mark ∷ []) number e = absurd (cc)
salt_number-mark (mark ∷ digit ∷ []) number e =
    elim (cases_Bool ((mark == 35) && nat_le 49 digit && nat_le digit 52)) [
      | inr other ↦ absurd (let none : None ≡ Some number = rw other at e in cc)
      | inl all ↦
          let tests = and_parts ((mark == 35) && nat_le 49 digit) (nat_le digit 52) all in
          eqb-true mark 35 (and_parts (mark == 35) (nat_le 49 digit) tests.0).0
    ]
salt_number-mark (mark ∷ digit ∷ other ∷ others) number e = absurd (cc)

no_mark : (digit : ℕ) → (text_of_digit digit == 35) ≡ false
no_mark digit = grind (arith, nat_tests)

-- a word with `#` in it is no plain name
marked-none : (p : SettingsValue) (word : List ℕ) (at : ℕ) → p.base ≤ 16 → at < length word → get_or word at 0 ≡ 35
    → name_of_word p word ≡ None
marked-none p word at small inside mark = go (name_of_word p word) refl
  where
    go : (read : Option (List ℕ)) → name_of_word p word ≡ read → read ≡ None
    go None e = refl
    go (Some name) e =
        let text = (name_of_word-back p word name small e).0 in
        let unmarked : All (λ byte. (byte == 35) ≡ false) word = rw text (text_of_name-All (λ byte. (byte == 35) ≡ false) no_mark name) in
        let here : (get_or word at 0 == 35) ≡ false = unmarked at 0 inside in
        absurd (true≢false (sym (eq-eqb (get_or word at 0) 35 mark) ∙ here))

-- a word that ends in two bytes which ask for a salt is no plain name
pub ending-none : (p : SettingsValue) (word : List ℕ) (at number : ℕ) → p.base ≤ 16 → at < length word
    → salt_number (drop at word) ≡ Some number → name_of_word p word ≡ None
ending-none p word at number small inside asks =
    let begins : get_or (drop at word) 0 0 ≡ 35 = salt_number-mark (drop at word) number asks in
    let here : at + 0 ≡ at = omega arith in
    marked-none p word at small inside (rw here at (sym (get_or-drop at word 0 0) ∙ begins))

-- two bytes ask for a salt, and so a word has so many
pub asks-inside : (word : List ℕ) (at number : ℕ) → salt_number (drop at word) ≡ Some number → at < length word
asks-inside word at number asks =
    elim (cases_Bool (nat_lt at (length word))) [
      | inl inside ↦ ltb-true at (length word) inside
      | inr out ↦
          let none : drop at word ≡ [] = drop_of_length-le word (ltb-false at (length word) out) in
          absurd (let failed : salt_number [] ≡ Some number = rw none at asks in cc)
    ]

object_in-none : (p : SettingsValue) (word : List ℕ) (number : Option ℕ) → p.base ≤ 16
    → salt_number (drop (length word - 2) word) ≡ number
    → salt_in p (take (length word - 2) word) number word ≡ None → name_of_word p word ≡ None
unfolding name_in
object_in-none p word None small asks e = option_or-None (name_of_word p word) (name_of_spelling p word) e
object_in-none p word (Some number) small asks e =
    ending-none p word (length word - 2) number small (asks-inside word (length word - 2) number asks) asks

pub object_in-IsReading : (p : SettingsValue) (word : List ℕ) → p.base ≤ 16 → IsReading p word (object_in p word)
unfolding object_in
object_in-IsReading p word small = record {
  is_name = λ name e. salt_in-IsName p _ (salt_number (drop (length word - 2) word)) word name small e;
  none = λ e. object_in-none p word (salt_number (drop (length word - 2) word)) small refl e;
}

-- the plain word of what is read is read as that
pub plain_word-read : (p : SettingsValue) (word : List ℕ) (read : Option (List ℕ)) → p.base ≤ 16 → IsReading p word read
    → name_of_word p (plain_word read word) ≡ read
plain_word-read p word None small is = is.none refl
plain_word-read p word (Some name) small is = name_of_word-text p name small (is.is_name name refl)

-- with an ending that asks for a salt, an object is that salt of it
pub object_in-ending : (p : SettingsValue) (object ending : List ℕ) (number : ℕ) → length ending ≡ 2
    → salt_number ending ≡ Some number
    → object_in p (object ++ ending) ≡ option_and_then (λ name. if_salted p (salt_of name number)) (name_in p object)
unfolding object_in
object_in-ending p object ending number two asks =
    let here : length (object ++ ending) - 2 ≡ length object = omega (arith, length-append object ending) in
    let front : take (length (object ++ ending) - 2) (object ++ ending) ≡ object = rw here (take-append_seam object ending) in
    let back : drop (length (object ++ ending) - 2) (object ++ ending) ≡ ending = rw here (drop-append_seam object ending) in
    rw (front, back, asks) refl
