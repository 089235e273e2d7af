-- the word and the prefix of a cast, and their texts
use Rattle.std.proofs.Common.{◌≡◌, ◌↔◌, ◌==◌, ◌&&◌, ℕ, ◌<◌, ◌≤◌, nat_le, true, false, bytes_eq, arith, List, [], ◌∷◌, length, codes, Some, Ok, refl, ap, sym, subst, ◌∙◌, inl, inr}
use Rattle.std.proofs.lemmas.Bool.{cases_Bool, and_parts, leb-true, le-leb}
use Rattle.std.proofs.lemmas.Bool.Decides.{nat_tests}
use Rattle.std.proofs.lemmas.List.{length-map}
use Rattle.std.proofs.lemmas.List.Elements.{All-nil, All-cons}
use Rattle.std.proofs.lemmas.Slice.Eq.{bytes_eq-Decides}
use Rattle.tap_name.specs.Settings.{SettingsValue}
use Rattle.tap_name.specs.Digits.{text_of_digit}
use Rattle.tap_name.specs.Name.{name_of_digits, text_of_name}
use Rattle.tap_name.proofs.Read.{all_good}
use Rattle.tap_name.specs.Word.{IsWord, is_word}
use Rattle.tap_scenario.specs.Step.{IsPrefix, word_of_bytes, with_digits, prefix_of_word, text_of_prefix}
use Rattle.tap_name.proofs.Texts.{name_of_word-back, name_of_word-text, text_of_name-no_space}
use Rattle.tap_name.proofs.Words.{is_word-Decides}
use Rattle.tap_scenario.specs.Words.{HasNoSpace}

-- a word is read as itself
pub word_of_bytes-word : (word : List ℕ) → IsWord word → word_of_bytes word ≡ Some word
word_of_bytes-word word is = rw ((is_word-Decides word).1 is) refl

-- bytes that are read as a word are that word
pub word_of_bytes-back : (bytes word : List ℕ) → word_of_bytes bytes ≡ Some word → (bytes ≡ word) × IsWord word
word_of_bytes-back bytes word read =
    elim (cases_Bool (is_word bytes)) [
      | inr other ↦ absurd (let failed = rw other at read in cc)
      | inl all ↦
          let whole : Some bytes ≡ Some word = rw all at read in
          let same : bytes ≡ word = cc in
          (same, subst IsWord same ((is_word-Decides bytes).0 all))
    ]

-- the text of a prefix has no space
pub no_space_prefix : (prefix : List ℕ) → HasNoSpace (text_of_prefix prefix)
no_space_prefix [] = All-cons (λ byte. (byte == 32) ≡ false) 42 [] refl (All-nil (λ byte. (byte == 32) ≡ false))
no_space_prefix (digit ∷ digits) = text_of_name-no_space (digit ∷ digits)

no_star : (digit : ℕ) → (text_of_digit digit == 42) ≡ false
no_star digit = grind (arith, nat_tests)

-- the text of a prefix is read as that prefix
pub prefix_of_word-text : (p : SettingsValue) (prefix : List ℕ) → p.base ≤ 16 → IsPrefix p prefix
    → prefix_of_word p (text_of_prefix prefix) ≡ Some prefix
prefix_of_word-text p [] small is = refl
prefix_of_word-text p (digit ∷ digits) small is =
    let len = length-map digits text_of_digit in
    let fits : nat_le (length (text_of_name (digit ∷ digits))) p.digits ≡ true =
    le-leb (length (text_of_name (digit ∷ digits))) p.digits (omega (arith, is.few)) in
    let some : nat_le 1 (length (text_of_name (digit ∷ digits))) ≡ true = le-leb 1 (length (text_of_name (digit ∷ digits))) (omega arith) in
    let whole =
    name_of_word-text (with_digits (length (text_of_name (digit ∷ digits))) p) (digit ∷ digits) small
    (record { len = omega arith; below = is.below }) in
    elim (cases_Bool (bytes_eq (text_of_name (digit ∷ digits)) (codes "*"))) [
      | inl star ↦
          let same : text_of_name (digit ∷ digits) ≡ codes "*" = (bytes_eq-Decides (text_of_name (digit ∷ digits)) (codes "*")).0 star in
          let first : text_of_digit digit ≡ 42 = cc in
          absurd (let no_digit = no_star digit in let failed = rw first at no_digit in cc)
      | inr other ↦ rw (other, some, fits) whole
    ]

text_of_prefix-some : (prefix : List ℕ) → 1 ≤ length prefix → text_of_prefix prefix ≡ text_of_name prefix
text_of_prefix-some [] some = absurd (omega arith)
text_of_prefix-some (digit ∷ digits) some = refl

-- a word that is read as a prefix is the text of that prefix
pub prefix_of_word-back : (p : SettingsValue) (word prefix : List ℕ) → p.base ≤ 16 → prefix_of_word p word ≡ Some prefix
    → (word ≡ text_of_prefix prefix) × IsPrefix p prefix
prefix_of_word-back p word prefix small read =
    elim (cases_Bool (bytes_eq word (codes "*"))) [
      | inl star ↦
          let whole : Some [] ≡ Some prefix = rw star at read in
          let none : [] ≡ prefix = cc in
          let text : word ≡ codes "*" = (bytes_eq-Decides word (codes "*")).0 star in
          (text ∙ ap text_of_prefix none, subst (IsPrefix p) none (record { few = omega arith; below = All-nil (λ digit. digit < p.base) }))
      | inr other ↦
          elim (cases_Bool (nat_le 1 (length word) && nat_le (length word) p.digits)) [
            | inr out ↦ absurd (let failed = rw (other, out) at read in cc)
            | inl within ↦
                let limits = and_parts (nat_le 1 (length word)) (nat_le (length word) p.digits) within in
                let from = leb-true 1 (length word) limits.0 in
                let to = leb-true (length word) p.digits limits.1 in
                let back = name_of_word-back (with_digits (length word) p) word prefix small (rw (other, within) at read) in
                let len : length prefix ≡ length word = back.1.len in
                (back.0 ∙ sym (text_of_prefix-some prefix (omega arith)), record { few = omega arith; below = back.1.below })
          ]
    ]

-- both at once
pub prefix_of_word-exact : (p : SettingsValue) (word prefix : List ℕ) → p.base ≤ 16
    → (prefix_of_word p word ≡ Some prefix) ↔ ((word ≡ text_of_prefix prefix) × IsPrefix p prefix)
prefix_of_word-exact p word prefix small =
    (prefix_of_word-back p word prefix small, λ is. ap (prefix_of_word p) is.0 ∙ prefix_of_word-text p prefix small is.1)

-- the digits of a prefix are a name of so many digits
pub name_of_digits-prefix : (p : SettingsValue) (digits : List ℕ) → IsPrefix p digits
    → name_of_digits (with_digits (length digits) p) digits ≡ Ok digits
name_of_digits-prefix p digits is = all_good (with_digits (length digits) p) digits refl (λ k h. is.below k 0 h)
