-- what stands after the first word of a step, and its words
use Rattle.std.proofs.Common.{◌≡◌, ℕ, ◌^◌, ◌<◌, ◌≤◌, true, bytes_eq, List, [], ◌∷◌, decimal, Some, refl, ap, inl, inr}
use Rattle.std.proofs.lemmas.Bool.{cases_Bool}
use Rattle.std.proofs.lemmas.Slice.Eq.{bytes_eq-Decides}
use Rattle.tap_name.specs.Settings.{SettingsValue}
use Rattle.tap_name.specs.Name.{IsName, name_of_word, text_of_name}
use Rattle.tap_scenario.specs.Step.{number_below, one_name, two_names, one_number, two_numbers, only}
use Rattle.tap_name.proofs.Texts.{name_of_word-back, name_of_word-text}
use Rattle.tap_scenario.proofs.Options.{option_zip-back}
use Rattle.tap_scenario.proofs.Numbers.{number_below-decimal, number_below-back}

pub only-back : {A : Type 0} (step other : A) (others : List (List ℕ)) → only step others ≡ Some other → (others ≡ []) × (step ≡ other)
only-back step other [] read = (refl, cc)
only-back step other (word ∷ others) read = absurd (cc)

pub one_name-back : (p : SettingsValue) (others : List (List ℕ)) (name : List ℕ) → p.base ≤ 16 → one_name p others ≡ Some name
    → (others ≡ text_of_name name ∷ []) × IsName p name
one_name-back p [] name small read = absurd (cc)
one_name-back p (word ∷ []) name small read =
    let back = name_of_word-back p word name small read in (ap (λ w. w ∷ []) back.0, back.1)
one_name-back p (word ∷ other ∷ others) name small read = absurd (cc)

pub two_names-text : (p : SettingsValue) (link first second : List ℕ) → p.base ≤ 16 → IsName p first × IsName p second
    → two_names p link (text_of_name first ∷ link ∷ text_of_name second ∷ []) ≡ Some (first, second)
two_names-text p link first second small are =
    let same : bytes_eq link link ≡ true = (bytes_eq-Decides link link).1 refl in
    let a = name_of_word-text p first small are.0 in
    let b = name_of_word-text p second small are.1 in
    rw (same, a, b) refl

pub two_names-back : (p : SettingsValue) (link : List ℕ) (others : List (List ℕ)) (names : List ℕ × List ℕ) → p.base ≤ 16
    → two_names p link others ≡ Some names
    → (others ≡ text_of_name names.0 ∷ link ∷ text_of_name names.1 ∷ []) × (IsName p names.0 × IsName p names.1)
two_names-back p link [] names small read = absurd (cc)
two_names-back p link (a ∷ []) names small read = absurd (cc)
two_names-back p link (a ∷ b ∷ []) names small read = absurd (cc)
two_names-back p link (a ∷ b ∷ c ∷ []) names small read =
    elim (cases_Bool (bytes_eq b link)) [
      | inr other ↦ absurd (let failed = rw other at read in cc)
      | inl same ↦
          let zipped = option_zip-back (name_of_word p a) (name_of_word p c) names (rw same at read) in
          let first = name_of_word-back p a names.0 small zipped.0 in
          let second = name_of_word-back p c names.1 small zipped.1 in
          let word : b ≡ link = (bytes_eq-Decides b link).0 same in
          let whole : a ∷ b ∷ c ∷ [] ≡ text_of_name names.0 ∷ link ∷ text_of_name names.1 ∷ [] = cc (first.0, second.0) in
          (whole, (first.1, second.1))
    ]
two_names-back p link (a ∷ b ∷ c ∷ d ∷ others) names small read = absurd (cc)

pub one_number-back : (limit : ℕ) (others : List (List ℕ)) (n : ℕ) → one_number limit others ≡ Some n
    → (others ≡ decimal n ∷ []) × (n < limit)
one_number-back limit [] n read = absurd (cc)
one_number-back limit (word ∷ []) n read =
    let back = number_below-back limit n word read in (ap (λ w. w ∷ []) back.0, back.1)
one_number-back limit (word ∷ other ∷ others) n read = absurd (cc)

pub two_numbers-text : (limit more m n : ℕ) → m < limit → n < more → m < 2 ^ 64 → n < 2 ^ 64
    → two_numbers limit more (decimal m ∷ decimal n ∷ []) ≡ Some (m, n)
two_numbers-text limit more m n below less small tiny =
    let first = number_below-decimal limit m (decimal m) below small refl in
    let second = number_below-decimal more n (decimal n) less tiny refl in
    rw (first, second) refl

pub two_numbers-back : (limit more : ℕ) (others : List (List ℕ)) (numbers : ℕ × ℕ) → two_numbers limit more others ≡ Some numbers
    → (others ≡ decimal numbers.0 ∷ decimal numbers.1 ∷ []) × (numbers.0 < limit) × (numbers.1 < more)
two_numbers-back limit more [] numbers read = absurd (cc)
two_numbers-back limit more (word ∷ others) numbers read =
    let zipped = option_zip-back (number_below limit word) (one_number more others) numbers read in
    let first = number_below-back limit numbers.0 word zipped.0 in
    let second = one_number-back more others numbers.1 zipped.1 in
    let whole : word ∷ others ≡ decimal numbers.0 ∷ decimal numbers.1 ∷ [] = cc (first.0, second.0) in
    (whole, first.1, second.1)
