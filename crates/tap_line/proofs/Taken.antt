-- what was taken from the front of words, and what is taken from it
use Rattle.std.proofs.Common.{◌≡◌, ℕ, ◌^◌, ◌<◌, ◌≤◌, bytes_eq, arith, List, [], ◌∷◌, decimal, Option, Some, refl, ap, ◌∙◌, inl, inr}
use Rattle.std.proofs.lemmas.Bool.{cases_Bool}
use Rattle.std.proofs.lemmas.Slice.Eq.{bytes_eq-Decides}
use Rattle.tap_name.specs.Settings.{SettingsValue}
use Rattle.tap_name.specs.Name.{IsName, name_of_word, text_of_name}
use Rattle.tap_name.proofs.Texts.{name_of_word-back}
use Rattle.tap_scenario.specs.Step.{number_below, only, one_number}
use Rattle.tap_scenario.proofs.Options.{find-passes, option_map-back}
use Rattle.tap_line.specs.Front.{chosen, first_as, name, number, one_of, same_word, word}
use Rattle.tap_scenario.proofs.Numbers.{number_below-back, number_below-decimal}

-- what the first word was read as
pub first_taken : {A : Type 0} (read : List ℕ → Option A) (words : List (List ℕ)) (taken : A × List (List ℕ))
    → first_as read words ≡ Some taken → (first : List ℕ) × (words ≡ first ∷ taken.1) × (read first ≡ Some taken.0)
first_taken read [] taken is = absurd (cc)
first_taken read (first ∷ words) taken is =
    let back = option_map-back (λ value. (value, words)) (read first) taken is in
    let value : back.0 ≡ taken.0 = ap (λ t. t.0) back.2 in
    let rest : words ≡ taken.1 = ap (λ t. t.1) back.2 in
    (first, ap (λ l. first ∷ l) rest, back.1 ∙ ap Some value)

pub number_taken : (limit : ℕ) (words : List (List ℕ)) (taken : ℕ × List (List ℕ)) → number limit words ≡ Some taken
    → (words ≡ decimal taken.0 ∷ taken.1) × (taken.0 < limit)
number_taken limit words taken is =
    let first = first_taken (number_below limit) words taken is in
    let back = number_below-back limit taken.0 first.0 first.2 in
    (first.1 ∙ ap (λ w. w ∷ taken.1) back.0, back.1)

pub name_taken : (p : SettingsValue) (words : List (List ℕ)) (taken : List ℕ × List (List ℕ)) → p.base ≤ 16 → name p words ≡ Some taken
    → (words ≡ text_of_name taken.0 ∷ taken.1) × IsName p taken.0
name_taken p words taken small is =
    let first = first_taken (name_of_word p) words taken is in
    let back = name_of_word-back p first.0 taken.0 small first.2 in
    (first.1 ∙ ap (λ w. w ∷ taken.1) back.0, back.1)

same_word-back : (text first found : List ℕ) → same_word text first ≡ Some found → first ≡ text
same_word-back text first found is =
    elim (cases_Bool (bytes_eq first text)) [
      | inl same ↦ (bytes_eq-Decides first text).0 same
      | inr other ↦ absurd (let failed = rw other at is in cc)
    ]

pub word_taken : (text : List ℕ) (words : List (List ℕ)) (taken : List ℕ × List (List ℕ)) → word text words ≡ Some taken
    → words ≡ text ∷ taken.1
word_taken text words taken is =
    let first = first_taken (same_word text) words taken is in
    first.1 ∙ ap (λ w. w ∷ taken.1) (same_word-back text first.0 taken.0 first.2)

-- the one that was chosen has this word
pub chosen-back : {A : Type 0} (text : A → List ℕ) (choices : List A) (first : List ℕ) (choice : A)
    → chosen text choices first ≡ Some choice → first ≡ text choice
chosen-back text choices first choice is =
    (bytes_eq-Decides first (text choice)).0 (find-passes (λ other. bytes_eq first (text other)) choices choice is)

pub one_taken : {A : Type 0} (text : A → List ℕ) (choices : List A) (words : List (List ℕ)) (taken : A × List (List ℕ))
    → one_of text choices words ≡ Some taken → words ≡ text taken.0 ∷ taken.1
one_taken text choices words taken is =
    let first = first_taken (chosen text choices) words taken is in
    first.1 ∙ ap (λ w. w ∷ taken.1) (chosen-back text choices first.0 taken.0 first.2)

-- no word is left
pub only_taken : {A : Type 0} (value other : A) (words : List (List ℕ)) → only value words ≡ Some other → (words ≡ []) × (value ≡ other)
only_taken value other [] is = (refl, cc)
only_taken value other (first ∷ words) is = absurd (cc)

-- one number was left
pub one_number_taken : (limit : ℕ) (words : List (List ℕ)) (n : ℕ) → one_number limit words ≡ Some n → (words ≡ decimal n ∷ []) × (n < limit)
one_number_taken limit [] n is = absurd (cc)
one_number_taken limit (first ∷ []) n is =
    let back = number_below-back limit n first is in (ap (λ w. w ∷ []) back.0, back.1)
one_number_taken limit (first ∷ second ∷ words) n is = absurd (cc)

-- a number is read from its text
pub number_told : (limit n : ℕ) → n < limit → limit ≤ 2 ^ 64 → number_below limit (decimal n) ≡ Some n
number_told limit n below most = number_below-decimal limit n (decimal n) below (omega (arith, below, most)) refl
