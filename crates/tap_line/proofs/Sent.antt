-- the bytes of a frame that is sent are all that is left of its line
use Rattle.std.proofs.Common.{◌≡◌, ◌==◌, ℕ, ◌<◌, Bool, true, false, arith, List, [], ◌∷◌, length, Option, None, Some, option_map, if◌then◌else◌, refl, ap, sym, ◌∙◌}
use Rattle.std.specs.List.{join_with_byte}
use Rattle.std.specs.Option.{option_and_then}
use Rattle.std.proofs.lemmas.List.Splits.{join_with_byte-slice_split, length-slice_split}
use Rattle.hex.specs.Hex.{encode_lower}
use Rattle.tap_name.specs.Settings.{SettingsValue}
use Rattle.tap_scenario.specs.Step.{only}
use Rattle.tap_scenario.specs.Words.{words}
use Rattle.tap_scenario.proofs.Splits.{words-join}
use Rattle.tap_log.specs.declared.record.Record.TheVariants as item
use Rattle.tap_line.specs.declared.line.Line.{Line}
use Rattle.tap_line.specs.declared.line.Line.TheVariants as line
use Rattle.tap_line.specs.Front.{bytes_of_hex}
use Rattle.tap_line.specs.Reading.{bytes_of_sent, is_head}
use Rattle.tap_line.proofs.Hexes.{hex_back}
use Rattle.tap_line.proofs.Plain.{plain_no_space}
use Rattle.tap_line.proofs.PlainLines.{hex_plain}

-- the line of a frame with these bytes, if its head has these words
abbrev line_with : SettingsValue → ℕ → List ℕ → List ℕ → List ℕ → List ℕ → Option Line
line_with p sent kind from to bytes = if is_head p bytes kind from to then Some (line.Whole (item.Sent sent bytes)) else None

-- a text of more words than one spells no bytes
spaced_unread : (text first second : List ℕ) (others : List (List ℕ)) → words text ≡ first ∷ second ∷ others → bytes_of_hex text ≡ None
spaced_unread text first second others split = go (bytes_of_hex text) refl
  where
    go : (read : Option (List ℕ)) → bytes_of_hex text ≡ read → read ≡ None
    go None is = refl
    go (Some bytes) is =
        let back = hex_back text bytes is in
        let alone = words-join (encode_lower bytes) [] (plain_no_space (encode_lower bytes) (hex_plain bytes back.1)) tt in
        let both : first ∷ second ∷ others ≡ encode_lower bytes ∷ [] = sym split ∙ ap words back.0 ∙ alone in
        absurd (cc)

-- what is read after the bytes
abbrev rest_of : SettingsValue → ℕ → List ℕ → List ℕ → List ℕ → List ℕ × List (List ℕ) → Option Line
rest_of p sent kind from to taken = if is_head p taken.0 kind from to then only (line.Whole (item.Sent sent taken.0)) taken.1 else None

only_word : (p : SettingsValue) (sent : ℕ) (kind from to : List ℕ) (read : Option (List ℕ))
    → option_and_then (rest_of p sent kind from to) (option_map (λ (bytes : List ℕ). (bytes, [])) read)
    ≡ option_and_then (line_with p sent kind from to) read
only_word p sent kind from to None = refl
only_word p sent kind from to (Some bytes) = refl

neither : {A : Type 0} (here : Bool) → ◌≡◌ {A = Option A} (if here then None else None) None
neither true = refl
neither false = refl

more_words : (p : SettingsValue) (sent : ℕ) (kind from to second : List ℕ) (others : List (List ℕ)) (read : Option (List ℕ))
    → option_and_then (rest_of p sent kind from to) (option_map (λ (bytes : List ℕ). (bytes, second ∷ others)) read) ≡ None
more_words p sent kind from to second others None = refl
more_words p sent kind from to second others (Some bytes) = neither (is_head p bytes kind from to)

by_words : (p : SettingsValue) (sent : ℕ) (kind from to text : List ℕ) (texts : List (List ℕ)) → words text ≡ texts → 0 < length texts
    → join_with_byte 32 texts ≡ text
    → bytes_of_sent p sent kind from to texts ≡ option_and_then (line_with p sent kind from to) (bytes_of_hex text)
by_words p sent kind from to text [] split some whole = absurd (omega (arith, some))
by_words p sent kind from to text (word ∷ []) split some whole =
    only_word p sent kind from to (bytes_of_hex word) ∙ ap (λ w. option_and_then (line_with p sent kind from to) (bytes_of_hex w)) whole
by_words p sent kind from to text (first ∷ second ∷ others) split some whole =
    more_words p sent kind from to second others (bytes_of_hex first)
    ∙ sym (ap (option_and_then (line_with p sent kind from to)) (spaced_unread text first second others split))

-- it is the line of the bytes that the whole text spells
rest_read : (p : SettingsValue) (sent : ℕ) (kind from to text : List ℕ)
    → bytes_of_sent p sent kind from to (words text) ≡ option_and_then (line_with p sent kind from to) (bytes_of_hex text)
rest_read p sent kind from to text =
    by_words p sent kind from to text (words text) refl (omega (arith, length-slice_split (λ byte. byte == 32) text))
    (join_with_byte-slice_split 32 text)

pub bytes_unread : (p : SettingsValue) (sent : ℕ) (kind from to text : List ℕ) → bytes_of_hex text ≡ None
    → bytes_of_sent p sent kind from to (words text) ≡ None
bytes_unread p sent kind from to text is =
    rest_read p sent kind from to text ∙ ap (option_and_then (line_with p sent kind from to)) is

pub bytes_unfit : (p : SettingsValue) (sent : ℕ) (kind from to text bytes : List ℕ) → bytes_of_hex text ≡ Some bytes
    → is_head p bytes kind from to ≡ false → bytes_of_sent p sent kind from to (words text) ≡ None
bytes_unfit p sent kind from to text bytes is head =
    rest_read p sent kind from to text ∙ ap (option_and_then (line_with p sent kind from to)) is ∙ rw head refl

pub bytes_fit : (p : SettingsValue) (sent : ℕ) (kind from to text bytes : List ℕ) → bytes_of_hex text ≡ Some bytes
    → is_head p bytes kind from to ≡ true → bytes_of_sent p sent kind from to (words text) ≡ Some (line.Whole (item.Sent sent bytes))
bytes_fit p sent kind from to text bytes is head =
    rest_read p sent kind from to text ∙ ap (option_and_then (line_with p sent kind from to)) is ∙ rw head refl
