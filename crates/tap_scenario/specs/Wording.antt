-- the words that a step is written with
use Rattle.std.specs.Prelude.{◌≡◌, ℕ, List, [], ◌++◌, codes, decimal, Some}
use Rattle.tap_name.specs.Name.{text_of_name}
use Rattle.tap_name.specs.Names.{first_of}
use Rattle.tap_scenario.specs.declared.wording.StepWords.{StepWords}
use Rattle.tap_scenario.specs.declared.wording.WordsAfter.{WordsAfter}
use Rattle.tap_scenario.specs.declared.wording.WordsAfter.TheVariants.{Nothing, Word, WordAndNumber, Name, Names, Number, TwoNumbers, ThreeNumbers, Cast}
use Rattle.tap_scenario.specs.Step.{text_of_prefix}
use Rattle.tap_scenario.specs.Words.{HasNoSpace, words as words_of}

-- what stands after the first word, with a space before each word
abbrev pub text_after : WordsAfter → List ℕ
text_after Nothing = []
text_after (Word word) = codes " " ++ word.now
text_after (WordAndNumber word number) = codes " " ++ word.now ++ codes " " ++ decimal number
text_after (Name name) = codes " " ++ text_of_name name
text_after (Names first link second) = codes " " ++ text_of_name first ++ codes " " ++ link.now ++ codes " " ++ text_of_name second
text_after (Number number) = codes " " ++ decimal number
text_after (TwoNumbers first second) = codes " " ++ decimal first ++ codes " " ++ decimal second
text_after (ThreeNumbers first second third) =
    codes " " ++ decimal first ++ codes " " ++ decimal second ++ codes " " ++ decimal third
text_after (Cast word to prefix from asker) =
    codes " " ++ word ++ codes " " ++ to.now ++ codes " " ++ text_of_prefix prefix ++ codes " " ++ from.now ++ codes " "
    ++ text_of_name asker

-- the text of words
abbrev pub text_of_words : StepWords → List ℕ
text_of_words words = words.first.now ++ text_after words.after

-- the first word is the first of all words of the text, and no byte of it is a space
pub record HasFirstWord (words : StepWords) : Type 0 where
  pub first : first_of (words_of (text_of_words words)) ≡ Some words.first.now
  pub unspaced : HasNoSpace words.first.now
