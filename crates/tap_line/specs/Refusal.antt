-- The words of refusals, as they are read.
use Rattle.std.specs.Prelude.{ℕ, ◌^◌, List, [], ◌∷◌, codes, Option, option_map}
use Rattle.tap_name.specs.Settings.{SettingsValue}
use Rattle.tap_scenario.specs.Step.{only}
use Rattle.tap_log.specs.declared.record.Record.TheVariants.{Refused}
use Rattle.tap_log.specs.declared.record.Refusal.{Refusal}
use Rattle.tap_log.specs.declared.record.Refusal.TheVariants as refusal
use Rattle.tap_line.specs.declared.line.Line.{Line}
use Rattle.tap_line.specs.declared.line.Line.TheVariants.{Whole}
use Rattle.tap_line.specs.declared.refusals.RefusalKind.{RefusalKind}
use Rattle.tap_line.specs.declared.refusals.RefusalKind.TheVariants.{NoSuchNode, NotCore, Departing, NotAtRest, NameTaken, TooManyNodes, LastNode, AlreadyPublished, NotPublished, NoSuchFlight, NoSuchByte, Readable, NotJoining, AlreadyAbandoned, TooManyPackets, NotInPrefix}
use Rattle.tap_line.specs.Front.{◌>>=◌, chosen, name, number, one_of, told, word}

-- all refusals
abbrev pub refusal_kinds : List RefusalKind
refusal_kinds =
    NoSuchNode ∷ NotCore ∷ Departing ∷ NotAtRest ∷ NameTaken ∷ TooManyNodes ∷ LastNode ∷ AlreadyPublished ∷ NotPublished
    ∷ NoSuchFlight ∷ NoSuchByte ∷ Readable ∷ NotJoining ∷ AlreadyAbandoned ∷ TooManyPackets ∷ NotInPrefix ∷ []

-- the code of a refusal, as it is printed
abbrev pub text_of_code : RefusalKind → List ℕ
text_of_code NoSuchNode = codes "1"
text_of_code NotCore = codes "2"
text_of_code Departing = codes "3"
text_of_code NotAtRest = codes "4"
text_of_code NameTaken = codes "5"
text_of_code TooManyNodes = codes "6"
text_of_code LastNode = codes "7"
text_of_code AlreadyPublished = codes "8"
text_of_code NotPublished = codes "9"
text_of_code NoSuchFlight = codes "10"
text_of_code NoSuchByte = codes "11"
text_of_code Readable = codes "12"
text_of_code NotJoining = codes "13"
text_of_code AlreadyAbandoned = codes "14"
text_of_code TooManyPackets = codes "15"
text_of_code NotInPrefix = codes "16"

-- the refusal with a code
abbrev pub chosen_refusal : List ℕ → Option RefusalKind
chosen_refusal code = chosen text_of_code refusal_kinds code

-- the number after three words
abbrev pub counted : List ℕ → List ℕ → List ℕ → List (List ℕ) → Option ℕ
counted first second third =
    word first >>= λ _. word second >>= λ _. word third >>= λ _. number (2 ^ 32) >>= λ count. only count

-- the refusal of a step while a node departs
abbrev pub departing_of_words : SettingsValue → List (List ℕ) → Option Refusal
departing_of_words p = word (codes "departing") >>= λ _. name p >>= λ leaver. only (refusal.Departing leaver)

-- the refusal of a kind that the words are
abbrev pub refusal_of_kind : SettingsValue → RefusalKind → List (List ℕ) → Option Refusal
refusal_of_kind p NoSuchNode words = told (codes "no such node") refusal.NoSuchNode words
refusal_of_kind p NotCore words = told (codes "not core") refusal.NotCore words
refusal_of_kind p Departing words = departing_of_words p words
refusal_of_kind p NotAtRest words = option_map refusal.NotAtRest (counted (codes "not") (codes "at") (codes "rest") words)
refusal_of_kind p NameTaken words = told (codes "name taken") refusal.NameTaken words
refusal_of_kind p TooManyNodes words = told (codes "too many nodes") refusal.TooManyNodes words
refusal_of_kind p LastNode words = told (codes "last node") refusal.LastNode words
refusal_of_kind p AlreadyPublished words = told (codes "already published") refusal.AlreadyPublished words
refusal_of_kind p NotPublished words = told (codes "not published") refusal.NotPublished words
refusal_of_kind p NoSuchFlight words = option_map refusal.NoSuchFlight (counted (codes "no") (codes "such") (codes "flight") words)
refusal_of_kind p NoSuchByte words = option_map refusal.NoSuchByte (counted (codes "no") (codes "such") (codes "byte") words)
refusal_of_kind p Readable words = told (codes "readable") refusal.Readable words
refusal_of_kind p NotJoining words = told (codes "not joining") refusal.NotJoining words
refusal_of_kind p AlreadyAbandoned words = told (codes "already abandoned") refusal.AlreadyAbandoned words
refusal_of_kind p TooManyPackets words = option_map refusal.TooManyPackets (counted (codes "too") (codes "many") (codes "packets") words)
refusal_of_kind p NotInPrefix words = told (codes "not in prefix") refusal.NotInPrefix words

-- the refusal that a code and the words after it are
abbrev pub refusal_of_words : SettingsValue → List (List ℕ) → Option Refusal
refusal_of_words p = one_of text_of_code refusal_kinds >>= λ kind. refusal_of_kind p kind

-- a refused step, after the first word
abbrev pub refused_of_words : SettingsValue → List (List ℕ) → Option Line
refused_of_words p = number (2 ^ 32) >>= λ index. λ words. option_map (λ why. Whole (Refused index why)) (refusal_of_words p words)
