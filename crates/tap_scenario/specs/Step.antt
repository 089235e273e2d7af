-- steps, and how they are written
use Rattle.std.specs.Prelude.{◌≡◌, ℕ, ◌^◌, ◌<◌, ◌≤◌, nat_le, nat_lt, Bool, true, false, ◌&&◌, length, All, decimal, List, [], ◌∷◌, ◌++◌, codes, bytes_eq, Option, None, Some, option_map, option_and_then, if◌then◌else◌}
use Rattle.std.specs.Option.{option_zip}
use Rattle.std.specs.Str.Parse.{digits_value}
use Rattle.tap_name.specs.Settings.{SettingsValue}
use Rattle.tap_name.specs.Name.{IsName, name_of_word, text_of_name}
use Rattle.tap_name.specs.Word.{IsWord, is_word}
use Rattle.tap_scenario.specs.Kind.{kind_of_word, is_there, link_of_pair}
use Rattle.tap_scenario.specs.Words.{words}
use Rattle.tap_scenario.specs.declared.kind.NameKind.{NameKind}
use Rattle.tap_scenario.specs.declared.kind.NameKind.TheVariants as named
use Rattle.tap_scenario.specs.declared.kind.PairKind.{PairKind}
use Rattle.tap_scenario.specs.declared.kind.PairKind.TheVariants as paired
use Rattle.tap_scenario.specs.declared.kind.PlaceKind.{PlaceKind}
use Rattle.tap_scenario.specs.declared.kind.PlaceKind.TheVariants as placed
use Rattle.tap_scenario.specs.declared.kind.Kind.{Kind}
use Rattle.tap_scenario.specs.declared.kind.Kind.TheVariants as shape
use Rattle.tap_scenario.specs.declared.step.Step.{Step}
use Rattle.tap_scenario.specs.declared.step.Step.TheVariants.{Join, Depart, Publish, Withdraw, Find, Walk, Root, Deliver, Settle, SettleNewest, SettleMixed, Table, Pointers, Garble, Cut, Abandon, Tick, Lose, Repeat, RootSet, Cast}

-- a prefix of names of these settings
pub record IsPrefix (p : SettingsValue) (prefix : List ℕ) : Type 0 where
  pub few : length prefix ≤ p.digits
  pub below : All (λ digit. digit < p.base) prefix

-- A step of these settings, in a scenario that is carried or not: its names are names of the settings, its numbers are within
-- their limits, and its kind is there.
abbrev pub IsStep : SettingsValue → Bool → Step → Type 0
IsStep p carrier (Join name via) = IsName p name × IsName p via
IsStep p carrier (Depart name) = IsName p name
IsStep p carrier (Publish object server) = IsName p object × IsName p server
IsStep p carrier (Withdraw object server) = IsName p object × IsName p server
IsStep p carrier (Find object asker) = IsName p object × IsName p asker
IsStep p carrier (Walk object asker) = IsName p object × IsName p asker
IsStep p carrier (Root object) = IsName p object
IsStep p carrier (Deliver place) = place < 2 ^ 32
IsStep p carrier Settle = Unit {0}
IsStep p carrier SettleNewest = Unit {0}
IsStep p carrier (SettleMixed seed) = seed < 2 ^ 64
IsStep p carrier (Table name) = IsName p name
IsStep p carrier (Pointers name) = IsName p name
IsStep p carrier (Garble place at byte) = (carrier ≡ false) × (place < 2 ^ 32) × (at < 2 ^ 32) × (byte < 256)
IsStep p carrier (Cut place bytes) = (carrier ≡ false) × (place < 2 ^ 32) × (bytes < 2 ^ 32)
IsStep p carrier (Abandon name) = IsName p name
IsStep p carrier Tick = carrier ≡ true
IsStep p carrier (Lose place) = (carrier ≡ true) × (place < 2 ^ 32)
IsStep p carrier (Repeat place) = (carrier ≡ true) × (place < 2 ^ 32)
IsStep p carrier (RootSet object asker) = (p.base ≡ 16) × (p.digits ≡ 40) × IsName p object × IsName p asker
IsStep p carrier (Cast word prefix asker) = IsWord word × IsPrefix p prefix × IsName p asker

-- a prefix as it is printed: `*` is the empty one
abbrev pub text_of_prefix : List ℕ → List ℕ
text_of_prefix [] = codes "*"
text_of_prefix (digit ∷ digits) = text_of_name (digit ∷ digits)

-- the one text of a step: its words with a space between them
abbrev pub text_of_step : Step → List ℕ
text_of_step (Join name via) = codes "join " ++ text_of_name name ++ codes " via " ++ text_of_name via
text_of_step (Depart name) = codes "leave " ++ text_of_name name
text_of_step (Publish object server) = codes "publish " ++ text_of_name object ++ codes " at " ++ text_of_name server
text_of_step (Withdraw object server) = codes "withdraw " ++ text_of_name object ++ codes " at " ++ text_of_name server
text_of_step (Find object asker) = codes "find " ++ text_of_name object ++ codes " from " ++ text_of_name asker
text_of_step (Walk object asker) = codes "walk " ++ text_of_name object ++ codes " from " ++ text_of_name asker
text_of_step (Root object) = codes "root " ++ text_of_name object
text_of_step (Deliver place) = codes "deliver " ++ decimal place
text_of_step Settle = codes "settle"
text_of_step SettleNewest = codes "settle newest"
text_of_step (SettleMixed seed) = codes "settle mixed " ++ decimal seed
text_of_step (Table name) = codes "table " ++ text_of_name name
text_of_step (Pointers name) = codes "pointers " ++ text_of_name name
text_of_step (Garble place at byte) =
    codes "garble " ++ decimal place ++ codes " " ++ decimal at ++ codes " " ++ decimal byte
text_of_step (Cut place bytes) = codes "cut " ++ decimal place ++ codes " " ++ decimal bytes
text_of_step (Abandon name) = codes "abandon " ++ text_of_name name
text_of_step Tick = codes "tick"
text_of_step (Lose place) = codes "lose " ++ decimal place
text_of_step (Repeat place) = codes "repeat " ++ decimal place
text_of_step (RootSet object asker) = codes "rootset " ++ text_of_name object ++ codes " from " ++ text_of_name asker
text_of_step (Cast word prefix asker) =
    codes "cast " ++ word ++ codes " to " ++ text_of_prefix prefix ++ codes " from " ++ text_of_name asker

-- the number below this limit that a word writes, with no sign and no leading zero
abbrev pub number_below : ℕ → List ℕ → Option ℕ
number_below limit word =
    let number = digits_value 10 word in
    if bytes_eq word (decimal number) && nat_lt number limit then Some number else None

-- the word of a cast
abbrev pub word_of_bytes : List ℕ → Option (List ℕ)
word_of_bytes bytes = if is_word bytes then Some bytes else None

-- the settings of names with so many digits
abbrev pub with_digits : ℕ → SettingsValue → SettingsValue
with_digits digits p = record { base = p.base; digits = digits; width = p.width }

-- the prefix that a word spells
abbrev pub prefix_of_word : SettingsValue → List ℕ → Option (List ℕ)
prefix_of_word p word =
    if bytes_eq word (codes "*") then Some []
    else if nat_le 1 (length word) && nat_le (length word) p.digits then name_of_word (with_digits (length word) p) word
    else None

-- words that are one name
abbrev pub one_name : SettingsValue → List (List ℕ) → Option (List ℕ)
one_name p (word ∷ []) = name_of_word p word
one_name p _ = None

-- words that are two names with this word between them
abbrev pub two_names : SettingsValue → List ℕ → List (List ℕ) → Option (List ℕ × List ℕ)
two_names p link (first ∷ word ∷ second ∷ []) =
    if bytes_eq word link then option_zip (name_of_word p first) (name_of_word p second) else None
two_names p link _ = None

-- words that are one number
abbrev pub one_number : ℕ → List (List ℕ) → Option ℕ
one_number limit (word ∷ []) = number_below limit word
one_number limit _ = None

-- words that are two numbers
abbrev pub two_numbers : ℕ → ℕ → List (List ℕ) → Option (ℕ × ℕ)
two_numbers limit more (word ∷ others) = option_zip (number_below limit word) (one_number more others)
two_numbers limit more [] = None

-- this, if no word is left
abbrev pub only : {A : Type 0} → A → List (List ℕ) → Option A
only step [] = Some step
only step _ = None

-- what follows the word `settle`
abbrev pub settle_of_words : List (List ℕ) → Option Step
settle_of_words [] = Some Settle
settle_of_words (word ∷ others) =
    if bytes_eq word (codes "mixed") then option_map SettleMixed (one_number (2 ^ 64) others)
    else if bytes_eq word (codes "newest") then only SettleNewest others
    else None

-- what follows the word `garble`
abbrev pub garble_of_words : List (List ℕ) → Option Step
garble_of_words [] = None
garble_of_words (word ∷ others) =
    option_map (λ numbers. Garble numbers.0 numbers.1.0 numbers.1.1)
    (option_zip (number_below (2 ^ 32) word) (two_numbers (2 ^ 32) 256 others))

-- what follows the word `cast`
abbrev pub cast_of_words : SettingsValue → List (List ℕ) → Option Step
cast_of_words p (word ∷ to ∷ prefix ∷ from ∷ asker ∷ []) =
    if bytes_eq to (codes "to") && bytes_eq from (codes "from")
    then option_map (λ parts. Cast parts.0 parts.1.0 parts.1.1)
    (option_zip (word_of_bytes word) (option_zip (prefix_of_word p prefix) (name_of_word p asker)))
    else None
cast_of_words p _ = None

-- the step of a kind with one name
abbrev pub step_of_name : NameKind → List ℕ → Step
step_of_name named.Leave = Depart
step_of_name named.Root = Root
step_of_name named.Table = Table
step_of_name named.Pointers = Pointers
step_of_name named.Abandon = Abandon

-- the step of a kind with two names
abbrev pub step_of_pair : PairKind → List ℕ → List ℕ → Step
step_of_pair paired.Join = Join
step_of_pair paired.Publish = Publish
step_of_pair paired.Withdraw = Withdraw
step_of_pair paired.Find = Find
step_of_pair paired.Walk = Walk
step_of_pair paired.RootSet = RootSet

-- the step of a kind with one place
abbrev pub step_of_place : PlaceKind → ℕ → Step
step_of_place placed.Deliver = Deliver
step_of_place placed.Lose = Lose
step_of_place placed.Repeat = Repeat

-- the step of a kind with these words after its first one
abbrev pub step_of_kind : SettingsValue → Kind → List (List ℕ) → Option Step
step_of_kind p (shape.Name kind) others = option_map (step_of_name kind) (one_name p others)
step_of_kind p (shape.Pair kind) others = option_map (λ names. step_of_pair kind names.0 names.1) (two_names p (link_of_pair kind) others)
step_of_kind p (shape.Place kind) others = option_map (step_of_place kind) (one_number (2 ^ 32) others)
step_of_kind p shape.Settle others = settle_of_words others
step_of_kind p shape.Garble others = garble_of_words others
step_of_kind p shape.Cut others = option_map (λ numbers. Cut numbers.0 numbers.1) (two_numbers (2 ^ 32) (2 ^ 32) others)
step_of_kind p shape.Tick others = only Tick others
step_of_kind p shape.Cast others = cast_of_words p others

-- the step of these words: the first one gives its kind, which has to be there
abbrev pub step_of_words : SettingsValue → Bool → List (List ℕ) → Option Step
step_of_words p carrier [] = None
step_of_words p carrier (word ∷ others) =
    option_and_then (λ kind. if is_there p carrier kind then step_of_kind p kind others else None) (kind_of_word word)

-- the step that a text is, in a scenario that is carried or not
abbrev pub step_of_text : SettingsValue → Bool → List ℕ → Option Step
step_of_text p carrier text = step_of_words p carrier (words text)

-- the step asks for no roots
unfoldable pub asks_no_roots : Step → Bool
asks_no_roots (RootSet object asker) = false
asks_no_roots other = true
