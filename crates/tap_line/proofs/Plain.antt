-- words without spaces and line feeds
use Rattle.std.proofs.Common.{◌≡◌, ◌==◌, ◌&&◌, ℕ, ◌^◌, ◌<◌, ◌≤◌, Bool, true, false, not, arith, List, [], ◌∷◌, decimal, All, refl, sym, subst, inl, inr}
use Rattle.std.specs.List.{AllByRecursion, join_with_byte, list_all, onto_first}
use Rattle.std.specs.Prelude.{IsTrue}
use Rattle.std.specs.Char.{digit_value}
use Rattle.std.specs.Str.Parse.{AllDigits}
use Rattle.std.proofs.lemmas.Bool.{cases_Bool, ne_eqb}
use Rattle.std.proofs.lemmas.Bool.Decides.{nat_tests}
use Rattle.std.proofs.lemmas.Fmt.{decimal_is_IsNumeral}
use Rattle.std.proofs.lemmas.List.Elements.{All-append, All-cons, All-head, All-nil, All-tail, All-weaker}
use Rattle.std.proofs.lemmas.List.Splits.{slice_split-cons_no, slice_split-cons_yes}
use Rattle.std.proofs.lemmas.List.Sums.{AllPass-from_list_all}
use Rattle.tap_name.specs.Digits.{text_of_digit}
use Rattle.tap_name.specs.Name.{text_of_name}
use Rattle.tap_name.specs.Word.{IsWord, is_word_byte}
use Rattle.tap_name.proofs.Texts.{text_of_name-All}
use Rattle.tap_scenario.specs.Words.{HasNoSpace, words}
use Rattle.tap_line.specs.Laws.{HasNoFeed}

-- neither a space nor a line feed
abbrev pub is_plain : ℕ → Bool
is_plain byte = not (byte == 32) && not (byte == 10)

abbrev pub IsPlain : List ℕ → Type 0
IsPlain word = All (λ byte. IsTrue (is_plain byte)) word

abbrev pub ArePlain : List (List ℕ) → Type 0
ArePlain texts = AllByRecursion IsPlain texts

-- a word that is written out
pub told_plain : (word : List ℕ) → list_all is_plain word ≡ true → IsPlain word
told_plain word is = AllPass-from_list_all is_plain word is

plain_digit : (digit : ℕ) → IsTrue (is_plain (text_of_digit digit))
plain_digit digit = grind (arith, nat_tests)

-- the text of a name
pub name_plain : (name : List ℕ) → IsPlain (text_of_name name)
name_plain name = text_of_name-All (λ byte. IsTrue (is_plain byte)) plain_digit name

pub digit_plain : (digit : ℕ) → IsPlain (text_of_digit digit ∷ [])
digit_plain digit = All-cons (λ byte. IsTrue (is_plain byte)) (text_of_digit digit) [] (plain_digit digit) (All-nil (λ byte. IsTrue (is_plain byte)))

plain_numeral : (byte : ℕ) → digit_value byte < 10 → IsTrue (is_plain byte)
plain_numeral byte below =
    let space : (byte == 32) ≡ false = ne_eqb byte 32 (λ is. let low : digit_value 32 < 10 = subst (λ b. digit_value b < 10) is below in absurd (omega arith)) in
    let feed : (byte == 10) ≡ false = ne_eqb byte 10 (λ is. let low : digit_value 10 < 10 = subst (λ b. digit_value b < 10) is below in absurd (omega arith)) in
    rw (space, feed) refl

digits_plain : (digits : List ℕ) → AllDigits 10 digits → IsPlain digits
digits_plain [] are = All-nil (λ byte. IsTrue (is_plain byte))
digits_plain (digit ∷ digits) are =
    All-cons (λ byte. IsTrue (is_plain byte)) digit digits (plain_numeral digit are.0) (digits_plain digits are.1)

-- the text of a number
pub number_plain : (n limit : ℕ) → n < limit → limit ≤ 2 ^ 64 → IsPlain (decimal n)
number_plain n limit below most = digits_plain (decimal n) (decimal_is_IsNumeral n (omega (arith, below, most))).0.1

plain_letter : (byte : ℕ) → IsTrue (is_word_byte byte) → IsTrue (is_plain byte)
plain_letter byte is = grind (arith, nat_tests)

-- the word of a cast
pub word_plain : (word : List ℕ) → IsWord word → IsPlain word
word_plain word is = All-weaker (λ byte. IsTrue (is_word_byte byte)) (λ byte. IsTrue (is_plain byte)) plain_letter word is.bytes

-- ---- what plain words haven't

no_space_byte : (byte : ℕ) → IsTrue (is_plain byte) → (byte == 32) ≡ false
no_space_byte byte is = grind (arith, nat_tests)

no_feed_byte : (byte : ℕ) → IsTrue (is_plain byte) → (byte == 10) ≡ false
no_feed_byte byte is = grind (arith, nat_tests)

plain_byte : (byte : ℕ) → (byte == 32) ≡ false → (byte == 10) ≡ false → IsTrue (is_plain byte)
plain_byte byte space feed = rw (space, feed) refl

pub plain_no_space : (word : List ℕ) → IsPlain word → HasNoSpace word
plain_no_space word is = All-weaker (λ byte. IsTrue (is_plain byte)) (λ byte. (byte == 32) ≡ false) no_space_byte word is

pub plain_no_feed : (word : List ℕ) → IsPlain word → HasNoFeed word
plain_no_feed word is = All-weaker (λ byte. IsTrue (is_plain byte)) (λ byte. (byte == 10) ≡ false) no_feed_byte word is

pub plain_no_spaces : (texts : List (List ℕ)) → ArePlain texts → AllByRecursion HasNoSpace texts
plain_no_spaces [] are = tt
plain_no_spaces (text ∷ texts) are = (plain_no_space text are.0, plain_no_spaces texts are.1)

-- plain words with a space between them have no line feed
pub joined_no_feed : (texts : List (List ℕ)) → ArePlain texts → HasNoFeed (join_with_byte 32 texts)
joined_no_feed [] are = All-nil (λ byte. (byte == 10) ≡ false)
joined_no_feed (text ∷ []) are = plain_no_feed text are.0
joined_no_feed (text ∷ next ∷ texts) are =
    All-append (λ byte. (byte == 10) ≡ false) text (32 ∷ join_with_byte 32 (next ∷ texts)) (plain_no_feed text are.0)
    (All-cons (λ byte. (byte == 10) ≡ false) 32 (join_with_byte 32 (next ∷ texts)) refl (joined_no_feed (next ∷ texts) are.1))

-- ---- the words of a text without line feeds

onto_plain : (byte : ℕ) (texts : List (List ℕ)) → IsTrue (is_plain byte) → ArePlain texts → ArePlain (onto_first byte texts)
onto_plain byte [] is are = (All-cons (λ b. IsTrue (is_plain b)) byte [] is (All-nil (λ b. IsTrue (is_plain b))), tt)
onto_plain byte (text ∷ texts) is are = (All-cons (λ b. IsTrue (is_plain b)) byte text is are.0, are.1)

-- the words of a text that has no line feed
pub words_plain : (text : List ℕ) → HasNoFeed text → ArePlain (words text)
words_plain [] none = (All-nil (λ b. IsTrue (is_plain b)), tt)
words_plain (byte ∷ text) none =
    let first = All-head (λ b. (b == 10) ≡ false) byte text none in
    let more = words_plain text (All-tail (λ b. (b == 10) ≡ false) byte text none) in
    elim (cases_Bool (byte == 32)) [
      | inl space ↦
          let split = slice_split-cons_yes (λ b. b == 32) byte text space in
          subst ArePlain (sym split) (All-nil (λ b. IsTrue (is_plain b)), more)
      | inr other ↦
          let split = slice_split-cons_no (λ b. b == 32) byte text other in
          subst ArePlain (sym split) (onto_plain byte (words text) (plain_byte byte other first) more)
    ]
