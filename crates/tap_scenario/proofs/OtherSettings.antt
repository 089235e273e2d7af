-- settings whose names are no digests: nothing is spelled but digit by digit
use Rattle.std.proofs.Common.{◌≡◌, ◌==◌, ◌&&◌, ◌≤◌, ◌-◌, ◌∙◌, ℕ, Bool, false, List, [], ◌∷◌, length, take, drop, bytes_eq, Option, None, Some, option_map, refl, ap, sym, inl, inr}
use Rattle.std.specs.Option.{option_and_then, option_or, option_zip}
use Rattle.std.proofs.lemmas.Bool.{cases_Bool}
use Rattle.std.proofs.lemmas.Slice.Eq.{bytes_eq-Decides}
use Rattle.std.proofs.Math.Seq.{drop-append_seam}
use Rattle.tap_name.specs.Settings.{SettingsValue}
use Rattle.tap_name.specs.Name.{name_of_word}
use Rattle.tap_name.proofs.Texts.{name_of_word-back}
use Rattle.tap_salt.specs.Salt.{if_salted, is_salted, name_of_bytes, salt_of}
use Rattle.tap_scenario.specs.declared.kind.NameKind.{NameKind}
use Rattle.tap_scenario.specs.declared.kind.NameKind.TheVariants as named
use Rattle.tap_scenario.specs.declared.kind.PairKind.{PairKind}
use Rattle.tap_scenario.specs.declared.kind.PairKind.TheVariants as paired
use Rattle.tap_scenario.specs.declared.kind.Kind.{Kind}
use Rattle.tap_scenario.specs.declared.kind.Kind.TheVariants as shape
use Rattle.tap_scenario.specs.declared.kind.SpreadKind.{SpreadKind}
use Rattle.tap_scenario.specs.declared.kind.SpreadKind.TheVariants.{Scatter, Gather, FindAll}
use Rattle.tap_scenario.specs.declared.step.Step.{Step}
use Rattle.tap_scenario.specs.declared.step.Step.TheVariants.{Publish, Withdraw, Find}
use Rattle.tap_scenario.specs.Kind.{text_of_kind, kind_of_word}
use Rattle.tap_scenario.specs.PlainWords.{plain_word, one_in, first_in, plain_one, plain_pair, plain_cast, plain_after, plain_words}
use Rattle.tap_scenario.specs.Spelling.{is_spelling, name_of_spelling, name_in, salt_number, salt_in, object_in}
use Rattle.tap_scenario.specs.SpellingLaws.{OtherNamesArePlain, OtherStepsArePlain, StepsStandForThemselves}
use Rattle.tap_scenario.specs.Spread.{text_of_spread, spread_of_word, pair_of_spread, with_ending, words_for_salts, spread_as, spread, steps_of_words}
use Rattle.tap_scenario.specs.Step.{two_names, step_of_text, step_of_words}
use Rattle.tap_scenario.specs.Value.{cons_both}
use Rattle.tap_scenario.specs.Words.{words}
use Rattle.tap_scenario.proofs.Options.{find-passes}
use Rattle.tap_scenario.proofs.Spellings.{asks-inside, ending-none}

-- names

if_salted-none : {A : Type 0} (p : SettingsValue) (value : A) → is_salted p ≡ false → if_salted p value ≡ None
if_salted-none p value other = rw other refl

name_of_spelling-none : (p : SettingsValue) (word : List ℕ) → is_salted p ≡ false → name_of_spelling p word ≡ None
name_of_spelling-none p [] other = refl
name_of_spelling-none p (mark ∷ bytes) other =
    elim (cases_Bool ((mark == 64) && is_spelling bytes)) [
      | inl both ↦ rw both (if_salted-none p (name_of_bytes bytes) other)
      | inr differs ↦ rw differs refl
    ]

option_or-nothing : {A : Type 0} (o : Option A) → option_or o None ≡ o
option_or-nothing None = refl
option_or-nothing (Some x) = refl

name_in-plain : (p : SettingsValue) (word : List ℕ) → is_salted p ≡ false → name_in p word ≡ name_of_word p word
unfolding name_in
name_in-plain p word other =
    ap (option_or (name_of_word p word)) (name_of_spelling-none p word other) ∙ option_or-nothing (name_of_word p word)

no_salt : (p : SettingsValue) (read : Option (List ℕ)) (number : ℕ) → is_salted p ≡ false
    → option_and_then (λ name. if_salted p (salt_of name number)) read ≡ None
no_salt p None number other = refl
no_salt p (Some name) number other = if_salted-none p (salt_of name number) other

salt_in-plain : (p : SettingsValue) (object : List ℕ) (number : Option ℕ) (word : List ℕ) → p.base ≤ 16 → is_salted p ≡ false
    → salt_number (drop (length word - 2) word) ≡ number → salt_in p object number word ≡ name_of_word p word
salt_in-plain p object None word small other asks = name_in-plain p word other
salt_in-plain p object (Some number) word small other asks =
    no_salt p (name_in p object) number other
    ∙ sym (ending-none p word (length word - 2) number small (asks-inside word (length word - 2) number asks) asks)

object_in-plain : (p : SettingsValue) (word : List ℕ) → p.base ≤ 16 → is_salted p ≡ false → object_in p word ≡ name_of_word p word
unfolding object_in
object_in-plain p word small other =
    salt_in-plain p (take (length word - 2) word) (salt_number (drop (length word - 2) word)) word small other refl

pub other_names_are_plain_holds : OtherNamesArePlain
other_names_are_plain_holds p word small other = (name_in-plain p word other, object_in-plain p word small other)

-- plain words

plain_word-same : (p : SettingsValue) (word : List ℕ) (read : Option (List ℕ)) → p.base ≤ 16 → read ≡ name_of_word p word
    → plain_word read word ≡ word
plain_word-same p word None small is = refl
plain_word-same p word (Some name) small is = sym (name_of_word-back p word name small (sym is)).0

one_in-plain : (p : SettingsValue) (kind : NameKind) (word : List ℕ) → p.base ≤ 16 → is_salted p ≡ false
    → one_in p kind word ≡ name_of_word p word
one_in-plain p named.Root word small other = object_in-plain p word small other
one_in-plain p named.Leave word small other = name_in-plain p word other
one_in-plain p named.Table word small other = name_in-plain p word other
one_in-plain p named.Pointers word small other = name_in-plain p word other
one_in-plain p named.Abandon word small other = name_in-plain p word other

first_in-plain : (p : SettingsValue) (pair : PairKind) (word : List ℕ) → p.base ≤ 16 → is_salted p ≡ false
    → first_in p pair word ≡ name_of_word p word
first_in-plain p paired.Join word small other = name_in-plain p word other
first_in-plain p paired.RootSet word small other = name_in-plain p word other
first_in-plain p paired.Publish word small other = object_in-plain p word small other
first_in-plain p paired.Withdraw word small other = object_in-plain p word small other
first_in-plain p paired.Find word small other = object_in-plain p word small other
first_in-plain p paired.Walk word small other = object_in-plain p word small other

plain_name-same : (p : SettingsValue) (word : List ℕ) → p.base ≤ 16 → is_salted p ≡ false → plain_word (name_in p word) word ≡ word
plain_name-same p word small other = plain_word-same p word (name_in p word) small (name_in-plain p word other)

plain_one-same : (p : SettingsValue) (kind : NameKind) (others : List (List ℕ)) → p.base ≤ 16 → is_salted p ≡ false
    → plain_one p kind others ≡ others
plain_one-same p kind [] small other = refl
plain_one-same p kind (name ∷ others) small other =
    ap (λ (word : List ℕ). word ∷ others) (plain_word-same p name (one_in p kind name) small (one_in-plain p kind name small other))

plain_pair-same : (p : SettingsValue) (pair : PairKind) (others : List (List ℕ)) → p.base ≤ 16 → is_salted p ≡ false
    → plain_pair p pair others ≡ others
plain_pair-same p pair [] small other = refl
plain_pair-same p pair (a ∷ []) small other = refl
plain_pair-same p pair (a ∷ b ∷ []) small other = refl
plain_pair-same p pair (a ∷ b ∷ c ∷ others) small other =
    ap (λ (word : List ℕ). word ∷ b ∷ plain_word (name_in p c) c ∷ others)
    (plain_word-same p a (first_in p pair a) small (first_in-plain p pair a small other))
    ∙ ap (λ (word : List ℕ). a ∷ b ∷ word ∷ others) (plain_name-same p c small other)

plain_cast-same : (p : SettingsValue) (others : List (List ℕ)) → p.base ≤ 16 → is_salted p ≡ false → plain_cast p others ≡ others
plain_cast-same p [] small other = refl
plain_cast-same p (a ∷ []) small other = refl
plain_cast-same p (a ∷ b ∷ []) small other = refl
plain_cast-same p (a ∷ b ∷ c ∷ []) small other = refl
plain_cast-same p (a ∷ b ∷ c ∷ d ∷ []) small other = refl
plain_cast-same p (a ∷ b ∷ c ∷ d ∷ e ∷ others) small other =
    ap (λ (word : List ℕ). a ∷ b ∷ c ∷ d ∷ word ∷ others) (plain_name-same p e small other)

plain_after-same : (p : SettingsValue) (kind : Option Kind) (others : List (List ℕ)) → p.base ≤ 16 → is_salted p ≡ false
    → plain_after p kind others ≡ others
plain_after-same p None others small other = refl
plain_after-same p (Some (shape.Name kind)) others small other = plain_one-same p kind others small other
plain_after-same p (Some (shape.Pair pair)) others small other = plain_pair-same p pair others small other
plain_after-same p (Some (shape.Place kind)) others small other = refl
plain_after-same p (Some shape.Settle) others small other = refl
plain_after-same p (Some shape.Garble) others small other = refl
plain_after-same p (Some shape.Cut) others small other = refl
plain_after-same p (Some shape.Tick) others small other = refl
plain_after-same p (Some shape.Cast) others small other = plain_cast-same p others small other

plain_words-same : (p : SettingsValue) (given : List (List ℕ)) → p.base ≤ 16 → is_salted p ≡ false → plain_words p given ≡ given
plain_words-same p [] small other = refl
plain_words-same p (word ∷ others) small other =
    ap (λ (more : List (List ℕ)). word ∷ more) (plain_after-same p (kind_of_word word) others small other)

-- what stands for four steps

salt-none : (p : SettingsValue) (object : List ℕ) → p.base ≤ 16 → name_of_word p (with_ending object 1) ≡ None
salt-none p object small =
    let asks : salt_number (drop (length object) (with_ending object 1)) ≡ Some 1 = ap salt_number (drop-append_seam object (35 ∷ 49 ∷ [])) in
    ending-none p (with_ending object 1) (length object) 1 small (asks-inside (with_ending object 1) (length object) 1 asks) asks

two_names-none : (p : SettingsValue) (link first : List ℕ) (others : List (List ℕ)) → name_of_word p first ≡ None
    → two_names p link (first ∷ others) ≡ None
two_names-none p link first [] none = refl
two_names-none p link first (a ∷ []) none = refl
two_names-none p link first (a ∷ b ∷ []) none =
    elim (cases_Bool (bytes_eq a link)) [
      | inl same ↦ rw same (ap (λ read. option_zip read (name_of_word p b)) none)
      | inr other ↦ rw other refl
    ]
two_names-none p link first (a ∷ b ∷ c ∷ others) none = refl

pair_step-none : (p : SettingsValue) (carrier : Bool) (kind : SpreadKind) (first : List ℕ) (others : List (List ℕ))
    → name_of_word p first ≡ None → step_of_words p carrier (text_of_kind (shape.Pair (pair_of_spread kind)) ∷ first ∷ others) ≡ None
pair_step-none p carrier Scatter first others none = ap (option_map (λ names. Publish names.0 names.1)) (two_names-none p _ first others none)
pair_step-none p carrier Gather first others none = ap (option_map (λ names. Withdraw names.0 names.1)) (two_names-none p _ first others none)
pair_step-none p carrier FindAll first others none = ap (option_map (λ names. Find names.0 names.1)) (two_names-none p _ first others none)

words_for_salts-none : (p : SettingsValue) (carrier : Bool) (kind : SpreadKind) (others : List (List ℕ)) → p.base ≤ 16
    → is_salted p ≡ false → steps_of_words p carrier (words_for_salts kind others) ≡ None
words_for_salts-none p carrier kind [] small other = refl
words_for_salts-none p carrier kind (object ∷ others) small other =
    let given = text_of_kind (shape.Pair (pair_of_spread kind)) ∷ with_ending object 1 ∷ others in
    let none : step_of_words p carrier (plain_words p given) ≡ None =
    ap (step_of_words p carrier) (plain_words-same p given small other)
    ∙ pair_step-none p carrier kind (with_ending object 1) others (salt-none p object small) in
    rw none refl

not_a_step : (p : SettingsValue) (carrier : Bool) (kind : SpreadKind) (others : List (List ℕ))
    → step_of_words p carrier (text_of_spread kind ∷ others) ≡ None
not_a_step p carrier Scatter others = refl
not_a_step p carrier Gather others = refl
not_a_step p carrier FindAll others = refl

-- steps

one_step : (read : Option Step) → cons_both read (Some []) ≡ option_map (λ (step : Step). step ∷ []) read
one_step None = refl
one_step (Some step) = refl

spread_as-plain : (p : SettingsValue) (carrier : Bool) (kind : Option SpreadKind) (word : List ℕ) (others : List (List ℕ)) → p.base ≤ 16
    → is_salted p ≡ false → spread_of_word word ≡ kind
    → steps_of_words p carrier (spread_as kind word others) ≡ option_map (λ (step : Step). step ∷ []) (step_of_words p carrier (word ∷ others))
spread_as-plain p carrier None word others small other is =
    ap (λ (given : List (List ℕ)). cons_both (step_of_words p carrier given) (Some [])) (plain_words-same p (word ∷ others) small other)
    ∙ one_step (step_of_words p carrier (word ∷ others))
spread_as-plain p carrier (Some kind) word others small other is =
    let same : word ≡ text_of_spread kind =
    (bytes_eq-Decides word (text_of_spread kind)).0
    (find-passes (λ kind. bytes_eq word (text_of_spread kind)) (Scatter ∷ Gather ∷ FindAll ∷ []) kind is) in
    let none : step_of_words p carrier (word ∷ others) ≡ None =
    ap (λ (first : List ℕ). step_of_words p carrier (first ∷ others)) same ∙ not_a_step p carrier kind others in
    words_for_salts-none p carrier kind others small other ∙ sym (ap (option_map (λ (step : Step). step ∷ [])) none)

spread-plain : (p : SettingsValue) (carrier : Bool) (given : List (List ℕ)) → p.base ≤ 16 → is_salted p ≡ false
    → steps_of_words p carrier (spread given) ≡ option_map (λ (step : Step). step ∷ []) (step_of_words p carrier given)
spread-plain p carrier [] small other = refl
spread-plain p carrier (word ∷ others) small other = spread_as-plain p carrier (spread_of_word word) word others small other refl

option_or-same : {A : Type 0} (o : Option A) → option_or o o ≡ o
option_or-same None = refl
option_or-same (Some x) = refl

pub other_steps_are_plain_holds : OtherStepsArePlain
other_steps_are_plain_holds p carrier text small other =
    let plain = option_map (λ (step : Step). step ∷ []) (step_of_text p carrier text) in
    ap (option_or plain) (spread-plain p carrier (words text) small other) ∙ option_or-same plain

pub steps_stand_for_themselves_holds : StepsStandForThemselves
steps_stand_for_themselves_holds p carrier text step is = rw is refl
