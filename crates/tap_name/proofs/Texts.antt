-- a name and its text
-- Cited above: name_of_word-back, name_of_word-text, text_of_name-All, text_of_name-all, text_of_name-length, text_of_name-more,
-- text_of_name-no_space
use Rattle.std.proofs.Common.{◌≡◌, ◌↔◌, ◌==◌, ℕ, ◌<◌, ◌≤◌, nat_lt, nat_le, arith, List, [], ◌∷◌, length, get_or, map, take, set, ◌+◌, false, All, Some, Result, Ok, Err, refl, ap, sym, ◌∙◌, inl, inr}
use Rattle.std.specs.List.{position_or_len}
use Rattle.std.specs.Result.{result_ok}
use Rattle.std.proofs.lemmas.Bool.{cases_Bool, ltb-false, leb-false, eqb-true}
use Rattle.std.proofs.lemmas.Bool.Decides.{nat_tests}
use Rattle.std.proofs.lemmas.List.Sums.{fails_before_first}
use Rattle.std.specs.Str.{IsUtf8}
use Rattle.std.proofs.lemmas.Str.{IsUtf8-from_ascii}
use Rattle.std.proofs.lemmas.Str.Ascii.{IsAscii-from_all}
use Rattle.std.proofs.lemmas.List.{length-map, get_or-map, take_all, take_more, take_more_set}
use Rattle.std.proofs.lemmas.List.Elements.{All-head, All-tail, All-map}
use Rattle.tap_name.specs.Settings.{SettingsValue}
use Rattle.tap_name.specs.Digits.{text_of_digit, digit_of_text}
use Rattle.tap_name.specs.Name.{IsName, name_of_digits, name_of_text, name_of_word, text_of_name}
use Rattle.tap_name.proofs.Read.{all_good}

-- a digit is read back from its text
pub digit_of_text-text : (digit : ℕ) → digit < 16 → digit_of_text (text_of_digit digit) ≡ digit
digit_of_text-text digit small = grind (arith, nat_tests)

-- a byte that is read as a digit is that digit's text
pub text_of_digit-digit : (byte : ℕ) → digit_of_text byte < 16 → text_of_digit (digit_of_text byte) ≡ byte
text_of_digit-digit byte small = grind (arith, nat_tests)

pub digits-text : (digits : List ℕ) → All (λ d. d < 16) digits → map digit_of_text (map text_of_digit digits) ≡ digits
digits-text [] small = refl
digits-text (digit ∷ digits) small =
    let first = digit_of_text-text digit (All-head (λ d. d < 16) digit digits small) in
    let others = digits-text digits (All-tail (λ d. d < 16) digit digits small) in cc

pub text-digits : (text : List ℕ) → All (λ d. d < 16) (map digit_of_text text) → map text_of_digit (map digit_of_text text) ≡ text
text-digits [] small = refl
text-digits (byte ∷ text) small =
    let first = text_of_digit-digit byte (All-head (λ d. d < 16) (digit_of_text byte) (map digit_of_text text) small) in
    let others = text-digits text (All-tail (λ d. d < 16) (digit_of_text byte) (map digit_of_text text) small) in cc

-- digits that were read are a name, and are what was read
pub name_of_digits-back : (p : SettingsValue) (digits name : List ℕ) → name_of_digits p digits ≡ Ok name → (digits ≡ name) × IsName p name
name_of_digits-back p digits name read =
    elim (cases_Bool (length digits == p.digits)) [
      | inr other ↦ absurd (let failed = rw other at read in cc)
      | inl len ↦
          elim (cases_Bool (nat_lt (position_or_len (λ d. nat_le p.base d) digits) (length digits))) [
            | inl bad ↦ absurd (let failed = rw (len, bad) at read in cc)
            | inr all ↦
                let far : length digits ≤ position_or_len (λ d. nat_le p.base d) digits = ltb-false _ _ all in
                let whole : Ok digits ≡ Ok name = rw (len, all) at read in
                let same : digits ≡ name = cc in (
                  same,
                  rw (← same) (record {
                    len = eqb-true _ _ len;
                    below = λ k d h. leb-false p.base (get_or digits k d)
                        (fails_before_first (λ d. nat_le p.base d) digits k d (omega arith));
                  }),
                )
          ]
    ]

-- the text of a name is read as that name
pub name_of_text-text : (p : SettingsValue) (name : List ℕ) → p.base ≤ 16 → IsName p name → name_of_text p (text_of_name name) ≡ Ok name
name_of_text-text p name small is =
    let digits = digits-text name (λ k d h. let below = is.below k d h in omega arith) in
    rw digits (all_good p name is.len (λ k h. is.below k 0 h))

-- a text that is read as a name is the text of that name
pub name_of_text-back : (p : SettingsValue) (text name : List ℕ) → p.base ≤ 16 → name_of_text p text ≡ Ok name
    → (text ≡ text_of_name name) × IsName p name
name_of_text-back p text name small read =
    let back = name_of_digits-back p (map digit_of_text text) name read in
    let below : All (λ d. d < 16) (map digit_of_text text) = rw back.0 (λ k d h. let b = back.1.below k d h in omega arith) in
    (sym (text-digits text below) ∙ ap (map text_of_digit) back.0, back.1)

-- both at once
pub name_of_text-exact : (p : SettingsValue) (text name : List ℕ) → p.base ≤ 16
    → (name_of_text p text ≡ Ok name) ↔ ((text ≡ text_of_name name) × IsName p name)
name_of_text-exact p text name small =
    (name_of_text-back p text name small, λ is. ap (name_of_text p) is.0 ∙ name_of_text-text p name small is.1)

-- digits are read as a name exactly where they are that name
pub name_of_digits-exact : (p : SettingsValue) (digits name : List ℕ)
    → (name_of_digits p digits ≡ Ok name) ↔ ((digits ≡ name) × IsName p name)
name_of_digits-exact p digits name =
    (name_of_digits-back p digits name, λ is. ap (name_of_digits p) is.0 ∙ all_good p name is.1.len (λ k h. is.1.below k 0 h))

-- the text of a name has a byte for each digit
pub text_of_name-length : (name : List ℕ) → length (text_of_name name) ≡ length name
text_of_name-length name = length-map name text_of_digit

-- what holds of the byte of each digit holds of a name's text
pub text_of_name-All : (P : ℕ → Type 0) → ((digit : ℕ) → P (text_of_digit digit)) → (name : List ℕ) → All P (text_of_name name)
text_of_name-All P each name = All-map P text_of_digit name (λ k d h. each (get_or name k d))

result_ok-back : {A E : Type 0} (r : Result A E) (x : A) → result_ok r ≡ Some x → r ≡ Ok x
result_ok-back (Ok y) x e = cc
result_ok-back (Err f) x e = absurd (cc)

-- the text of a name is a word that spells it
pub name_of_word-text : (p : SettingsValue) (name : List ℕ) → p.base ≤ 16 → IsName p name → name_of_word p (text_of_name name) ≡ Some name
name_of_word-text p name small is = ap result_ok (name_of_text-text p name small is)

-- a word that spells a name is the text of that name
pub name_of_word-back : (p : SettingsValue) (word name : List ℕ) → p.base ≤ 16 → name_of_word p word ≡ Some name
    → (word ≡ text_of_name name) × IsName p name
name_of_word-back p word name small read = name_of_text-back p word name small (result_ok-back (name_of_text p word) name read)

no_space_digit : (digit : ℕ) → (text_of_digit digit == 32) ≡ false
no_space_digit digit = grind (arith, nat_tests)

-- the text of a name has no space
pub text_of_name-no_space : (name : List ℕ) → All (λ byte. (byte == 32) ≡ false) (text_of_name name)
text_of_name-no_space name = text_of_name-All (λ byte. (byte == 32) ≡ false) no_space_digit name

-- one more digit of a name is printed
pub text_of_name-more : (name text : List ℕ) (at : ℕ) → at < length name → at < length text
    → take at text ≡ take at (text_of_name name)
    → take (at + 1) (set text at (text_of_digit (get_or name at 0))) ≡ take (at + 1) (text_of_name name)
text_of_name-more name text at more room so_far =
    let len = text_of_name-length name in
    let last = take_more (text_of_name name) at 0 (omega (arith, len)) in
    let digit = get_or-map text_of_digit name at 0 0 more in
    rw (take_more_set text at (text_of_digit (get_or name at 0)) room, last, so_far, digit) refl

ascii_digit : (digit : ℕ) → digit < 16 → text_of_digit digit < 128
ascii_digit digit small = grind (arith, nat_tests)

-- the text of a name is ASCII
pub text_of_name-IsUtf8 : (name : List ℕ) → All (λ d. d < 16) name → IsUtf8 (text_of_name name)
text_of_name-IsUtf8 name small =
    IsUtf8-from_ascii (text_of_name name)
    (IsAscii-from_all (text_of_name name)
    (All-map (λ byte. byte < 128) text_of_digit name (λ k d h. ascii_digit (get_or name k d) (small k d h))))

-- the printed digits are the text of a name once all are printed
pub text_of_name-all : (name text : List ℕ) (at : ℕ) → at ≡ length name → take at text ≡ take at (text_of_name name)
    → take (length name) text ≡ text_of_name name
text_of_name-all name text at end same =
    let long = text_of_name-length name in rw (← end) (same ∙ take_all at (text_of_name name) (omega (arith, long, end)))
