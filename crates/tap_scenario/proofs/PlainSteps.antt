-- steps whose names and objects are spelled, by their plain words
use Rattle.std.proofs.Common.{◌≡◌, ◌&&◌, ◌≤◌, ◌+◌, ℕ, List, [], ◌∷◌, Bool, true, All, bytes_eq, codes, map, Option, None, Some, option_map, if◌then◌else◌, refl, ap, ◌∙◌, inl, inr}
use Rattle.std.specs.Option.{option_and_then, option_zip}
use Rattle.std.proofs.lemmas.Bool.{cases_Bool}
use Rattle.std.proofs.lemmas.List.Elements.{All-nil, All-cons}
use Rattle.std.proofs.lemmas.Slice.Eq.{bytes_eq-Decides}
use Rattle.tap_name.specs.Settings.{SettingsValue}
use Rattle.tap_name.specs.Name.{name_of_word}
use Rattle.tap_salt.specs.Salt.{if_salted, is_salted, salt_of, salts_of}
use Rattle.tap_scenario.specs.declared.kind.Kind.TheVariants.{Pair}
use Rattle.tap_scenario.specs.declared.kind.NameKind.{NameKind}
use Rattle.tap_scenario.specs.declared.kind.NameKind.TheVariants as named
use Rattle.tap_scenario.specs.declared.kind.PairKind.{PairKind}
use Rattle.tap_scenario.specs.declared.kind.PairKind.TheVariants as paired
use Rattle.tap_scenario.specs.declared.kind.SpreadKind.{SpreadKind}
use Rattle.tap_scenario.specs.declared.kind.SpreadKind.TheVariants.{Scatter, Gather, FindAll}
use Rattle.tap_scenario.specs.declared.step.Step.{Step}
use Rattle.tap_scenario.specs.declared.step.Step.TheVariants.{Publish, Withdraw, Find, Cast}
use Rattle.tap_scenario.specs.Kind.{text_of_kind, link_of_pair}
use Rattle.tap_scenario.specs.PlainWords.{plain_word, one_in, first_in, plain_one, plain_pair, plain_cast, plain_words}
use Rattle.tap_scenario.specs.Spelling.{name_in, salt_number}
use Rattle.tap_scenario.specs.Spread.{pair_of_spread, with_ending, words_for_salts, spread, steps_of_words, steps_of_text}
use Rattle.tap_scenario.specs.Step.{IsStep, one_name, two_names, word_of_bytes, prefix_of_word, cast_of_words, step_of_pair, step_of_text, step_of_words}
use Rattle.tap_scenario.specs.Value.{cons_both}
use Rattle.tap_scenario.specs.Words.{words, words_around}
use Rattle.tap_scenario.proofs.Options.{option_map-back, option_or-back, cons_both-back}
use Rattle.tap_scenario.proofs.StepTexts.{step_of_text-back, step_of_words-back}
use Rattle.tap_scenario.proofs.Spellings.{IsReading, name_in-IsReading, object_in-IsReading, object_in-ending, plain_word-read}

-- the steps of words are steps of the settings
steps_of_words-IsStep : (p : SettingsValue) (carrier : Bool) (given : List (List (List ℕ))) (steps : List Step) → p.base ≤ 16
    → steps_of_words p carrier given ≡ Some steps → All (IsStep p carrier) steps
steps_of_words-IsStep p carrier [] steps small e = let none : [] ≡ steps = cc in rw (← none) (All-nil (IsStep p carrier))
steps_of_words-IsStep p carrier (first ∷ others) steps small e =
    let parts = cons_both-back (step_of_words p carrier (plain_words p first)) (steps_of_words p carrier others) steps e in
    let here = (step_of_words-back p carrier (plain_words p first) parts.0 small parts.2).1 in
    rw (← parts.4) (All-cons (IsStep p carrier) parts.0 parts.1 here (steps_of_words-IsStep p carrier others parts.1 small parts.3))

-- the steps for which a text stands are steps of the settings
pub steps_of_text-IsStep : (p : SettingsValue) (carrier : Bool) (text : List ℕ) (steps : List Step) → p.base ≤ 16
    → steps_of_text p carrier text ≡ Some steps → All (IsStep p carrier) steps
steps_of_text-IsStep p carrier text steps small e =
    elim (option_or-back (option_map (λ step. step ∷ []) (step_of_text p carrier text)) (steps_of_words p carrier (spread (words text))) steps e) [
      | inr spelled ↦ steps_of_words-IsStep p carrier (spread (words text)) steps small spelled
      | inl plain ↦
          let made = option_map-back (λ (step : Step). step ∷ []) (step_of_text p carrier text) steps plain in
          let here = (step_of_text-back p carrier text made.0 small made.1).1 in
          rw (← made.2) (All-cons (IsStep p carrier) made.0 [] here (All-nil (IsStep p carrier)))
    ]

one_in-IsReading : (p : SettingsValue) (kind : NameKind) (word : List ℕ) → p.base ≤ 16 → IsReading p word (one_in p kind word)
one_in-IsReading p named.Root word small = object_in-IsReading p word small
one_in-IsReading p named.Leave word small = name_in-IsReading p word small
one_in-IsReading p named.Table word small = name_in-IsReading p word small
one_in-IsReading p named.Pointers word small = name_in-IsReading p word small
one_in-IsReading p named.Abandon word small = name_in-IsReading p word small

first_in-IsReading : (p : SettingsValue) (pair : PairKind) (word : List ℕ) → p.base ≤ 16 → IsReading p word (first_in p pair word)
first_in-IsReading p paired.Join word small = name_in-IsReading p word small
first_in-IsReading p paired.RootSet word small = name_in-IsReading p word small
first_in-IsReading p paired.Publish word small = object_in-IsReading p word small
first_in-IsReading p paired.Withdraw word small = object_in-IsReading p word small
first_in-IsReading p paired.Find word small = object_in-IsReading p word small
first_in-IsReading p paired.Walk word small = object_in-IsReading p word small

plain_name-read : (p : SettingsValue) (word : List ℕ) → p.base ≤ 16 → name_of_word p (plain_word (name_in p word) word) ≡ name_in p word
plain_name-read p word small = plain_word-read p word (name_in p word) small (name_in-IsReading p word small)

-- the plain words of one name are read as what it writes
pub plain_one-read : (p : SettingsValue) (kind : NameKind) (word : List ℕ) (given : List (List ℕ)) → p.base ≤ 16 → given ≡ word ∷ []
    → one_name p (plain_one p kind given) ≡ one_in p kind word
plain_one-read p kind word given small is =
    rw is (plain_word-read p word (one_in p kind word) small (one_in-IsReading p kind word small))

-- what stands around a word, if nothing else does
pub around-back : (link : List ℕ) (given : List (List ℕ)) (pair : List ℕ × List ℕ) → words_around link given ≡ Some pair
    → given ≡ pair.0 ∷ link ∷ pair.1 ∷ []
around-back link [] pair e = absurd (cc)
around-back link (a ∷ []) pair e = absurd (cc)
around-back link (a ∷ b ∷ []) pair e = absurd (cc)
around-back link (a ∷ b ∷ c ∷ []) pair e =
    elim (cases_Bool (bytes_eq b link)) [
      | inr other ↦ absurd (let none : None ≡ Some pair = rw other at e in cc)
      | inl here ↦
          let word : b ≡ link = (bytes_eq-Decides b link).0 here in
          let whole : Some (a, c) ≡ Some pair = rw here at e in
          let same : (a, c) ≡ pair = cc in
          rw (← same, word) refl
    ]
around-back link (a ∷ b ∷ c ∷ d ∷ others) pair e = absurd (cc)

-- the plain words of two names are read as what they write
pub plain_pair-read : (p : SettingsValue) (pair : PairKind) (first second : List ℕ) → p.base ≤ 16
    → two_names p (link_of_pair pair) (plain_pair p pair (first ∷ link_of_pair pair ∷ second ∷ []))
    ≡ option_zip (first_in p pair first) (name_in p second)
plain_pair-read p pair first second small =
    let same : bytes_eq (link_of_pair pair) (link_of_pair pair) ≡ true = (bytes_eq-Decides (link_of_pair pair) (link_of_pair pair)).1 refl in
    let a = plain_word-read p first (first_in p pair first) small (first_in-IsReading p pair first small) in
    let b = plain_name-read p second small in
    rw (same, a, b) refl

-- the plain words of a cast are read as it, its asker as what it writes
pub plain_cast-read : (p : SettingsValue) (word to prefix from asker : List ℕ) → p.base ≤ 16
    → cast_of_words p (plain_cast p (word ∷ to ∷ prefix ∷ from ∷ asker ∷ []))
    ≡ (if bytes_eq to (codes "to") && bytes_eq from (codes "from")
    then option_map (λ parts. Cast parts.0 parts.1.0 parts.1.1)
    (option_zip (word_of_bytes word) (option_zip (prefix_of_word p prefix) (name_in p asker)))
    else None)
plain_cast-read p word to prefix from asker small = rw (plain_name-read p asker small) refl

-- the step for the salt of this number of an object
abbrev salted_step : SettingsValue → PairKind → ℕ → Option (List ℕ) → Option (List ℕ) → Option Step
salted_step p pair number object other =
    option_map (λ names. step_of_pair pair names.0 names.1)
    (option_zip (option_and_then (λ name. if_salted p (salt_of name number)) object) other)

-- what is read of the words with the ending of a salt
salted_step-read : (p : SettingsValue) (carrier : Bool) (kind : SpreadKind) (object other : List ℕ) (number : ℕ) → p.base ≤ 16
    → salt_number (35 ∷ (number + 48) ∷ []) ≡ Some number
    → step_of_words p carrier
    (plain_words p (text_of_kind (Pair (pair_of_spread kind)) ∷ with_ending object number ∷ link_of_pair (pair_of_spread kind) ∷ other ∷ []))
    ≡ salted_step p (pair_of_spread kind) number (name_in p object) (name_in p other)
salted_step-read p carrier Scatter object other number small asks =
    ap (option_map (λ names. Publish names.0 names.1))
    (plain_pair-read p paired.Publish (with_ending object number) other small
    ∙ ap (λ read. option_zip read (name_in p other)) (object_in-ending p object (35 ∷ (number + 48) ∷ []) number refl asks))
salted_step-read p carrier Gather object other number small asks =
    ap (option_map (λ names. Withdraw names.0 names.1))
    (plain_pair-read p paired.Withdraw (with_ending object number) other small
    ∙ ap (λ read. option_zip read (name_in p other)) (object_in-ending p object (35 ∷ (number + 48) ∷ []) number refl asks))
salted_step-read p carrier FindAll object other number small asks =
    ap (option_map (λ names. Find names.0 names.1))
    (plain_pair-read p paired.Find (with_ending object number) other small
    ∙ ap (λ read. option_zip read (name_in p other)) (object_in-ending p object (35 ∷ (number + 48) ∷ []) number refl asks))

-- the four steps for the salts of an object, if each is there
abbrev four_steps : SettingsValue → PairKind → Option (List ℕ) → Option (List ℕ) → Option (List Step)
four_steps p pair object other =
    cons_both (salted_step p pair 1 object other) (cons_both (salted_step p pair 2 object other)
    (cons_both (salted_step p pair 3 object other) (cons_both (salted_step p pair 4 object other) (Some []))))

-- the steps of a kind for the salts of an object, if names are as long as a digest
abbrev pub salted_steps : SettingsValue → PairKind → List ℕ → List ℕ → Option (List Step)
salted_steps p pair object other = option_map (map (λ salt. step_of_pair pair salt other)) (if_salted p (salts_of object))

four_steps-are : (p : SettingsValue) (pair : PairKind) (object other : Option (List ℕ))
    → four_steps p pair object other ≡ option_and_then (λ names. salted_steps p pair names.0 names.1) (option_zip object other)
four_steps-are p pair None other = refl
four_steps-are p pair (Some name) None =
    elim (cases_Bool (is_salted p)) [ inl salted ↦ rw salted refl | inr unsalted ↦ rw unsalted refl ]
four_steps-are p pair (Some name) (Some end) =
    elim (cases_Bool (is_salted p)) [ inl salted ↦ rw salted refl | inr unsalted ↦ rw unsalted refl ]

-- the words of a step for each salt are read as these
pub words_for_salts-read : (p : SettingsValue) (carrier : Bool) (kind : SpreadKind) (object other : List ℕ) → p.base ≤ 16
    → steps_of_words p carrier (words_for_salts kind (object ∷ link_of_pair (pair_of_spread kind) ∷ other ∷ []))
    ≡ option_and_then (λ names. salted_steps p (pair_of_spread kind) names.0 names.1) (option_zip (name_in p object) (name_in p other))
words_for_salts-read p carrier kind object other small =
    rw (
      salted_step-read p carrier kind object other 1 small refl,
      salted_step-read p carrier kind object other 2 small refl,
      salted_step-read p carrier kind object other 3 small refl,
      salted_step-read p carrier kind object other 4 small refl,
    ) (four_steps-are p (pair_of_spread kind) (name_in p object) (name_in p other))

-- what is there if names are as long as a digest
pub if_salted-back : {A : Type 0} (p : SettingsValue) (value found : A) → if_salted p value ≡ Some found → value ≡ found
if_salted-back p value found e =
    elim (cases_Bool (is_salted p)) [
      | inr other ↦ absurd (let none : None ≡ Some found = rw other at e in cc)
      | inl salted ↦ let whole : Some value ≡ Some found = rw salted at e in cc
    ]
