-- Lines in: which line a text is.
--
-- A text: `node_line_of_text`, then `verb_of_word` for its first word and `node_line_of_words` for the others.
--
-- Rule: docs/NETWORK.md, "Lines".
use Rattle.std.specs.Prelude.{◌==◌, ◌||◌, ℕ, ◌+◌, ◌^◌, ◌≤◌, nat_le, List, [], ◌∷◌, ◌++◌, length, All, codes, bytes_eq, find, Option, None, Some, option_map, option_and_then, if◌then◌else◌}
use Rattle.std.specs.Option.{option_zip}
use Rattle.std.specs.Result.{result_ok}
use Rattle.hex.specs.Hex.{decode_of}
use Rattle.tap_name.specs.Settings.{SettingsValue}
use Rattle.tap_name.specs.Name.{IsName, name_of_word}
use Rattle.tap_name.specs.Names.{has_name}
use Rattle.tap_name.specs.Distinct.{AreDistinct}
use Rattle.tap_name.specs.Word.{IsWord}
use Rattle.tap_scenario.specs.Step.{number_below, one_name, only, word_of_bytes}
use Rattle.tap_scenario.specs.Words.{words}
use Rattle.tap_host_line.specs.declared.line.Line.{Line}
use Rattle.tap_host_line.specs.declared.line.Line.TheVariants as line
use Rattle.tap_host_line.specs.declared.line.Start.{Start}
use Rattle.tap_host_line.specs.declared.line.Start.TheVariants as start
use Rattle.tap_host_line.specs.declared.verb.Verb.{Verb}
use Rattle.tap_host_line.specs.declared.verb.Verb.TheVariants.{Packet, Ack, Members, Join, Abandon, Publish, Withdraw, Find, Leave, Cast, Tick, Status}

-- ---- the first word

-- all first words of lines
abbrev pub verbs : List Verb
verbs =
    Packet ∷ Ack ∷ Members ∷ Join ∷ Abandon ∷ Publish ∷ Withdraw ∷ Find ∷ Leave ∷ Cast ∷ Tick ∷ Status ∷ []

abbrev pub text_of_verb : Verb → List ℕ
text_of_verb Packet = codes "packet"
text_of_verb Ack = codes "ack"
text_of_verb Members = codes "members"
text_of_verb Join = codes "join"
text_of_verb Abandon = codes "abandon"
text_of_verb Publish = codes "publish"
text_of_verb Withdraw = codes "withdraw"
text_of_verb Find = codes "find"
text_of_verb Leave = codes "leave"
text_of_verb Cast = codes "cast"
text_of_verb Tick = codes "tick"
text_of_verb Status = codes "status"

abbrev pub verb_of_word : List ℕ → Option Verb
verb_of_word word = find (λ verb. bytes_eq word (text_of_verb verb)) verbs

-- ---- what single words say

-- the number of a frame is at most this, which is `most_frames` of `tap_carry`
abbrev pub most_seq : ℕ
most_seq = 4000000000

-- so many members have ties at rest, which is `most_names` of `tap_safety`
abbrev pub most_line_members : ℕ
most_line_members = 256

-- a number below 2^32
abbrev pub u32_of_word : List ℕ → Option ℕ
u32_of_word word = number_below (2 ^ 32) word

-- a number that isn't 0
abbrev pub from_one : ℕ → Option ℕ
from_one number = if number == 0 then None else Some number

-- the number of a frame, from 1
abbrev pub seq_of_word : List ℕ → Option ℕ
seq_of_word word = option_and_then from_one (number_below (most_seq + 1) word)

-- how many digits are shared, at most all
abbrev pub level_of_word : SettingsValue → List ℕ → Option ℕ
level_of_word p word = number_below (p.digits + 1) word

-- bytes, two hexadecimal digits for each
abbrev pub frame_of_word : List ℕ → Option (List ℕ)
frame_of_word word = result_ok (decode_of word)

-- ---- what the words after the first one say

-- a packet: a name, a number and bytes
abbrev pub packet_line_of_words : SettingsValue → List (List ℕ) → Option Line
packet_line_of_words p (from ∷ seq ∷ frame ∷ []) =
    option_map (λ parts. line.Packet parts.0 parts.1.0 parts.1.1)
    (option_zip (name_of_word p from) (option_zip (seq_of_word seq) (frame_of_word frame)))
packet_line_of_words p _ = None

-- an acknowledgement: a name and a number
abbrev pub ack_line_of_words : SettingsValue → List (List ℕ) → Option Line
ack_line_of_words p (from ∷ seq ∷ []) =
    option_map (λ parts. line.Ack parts.0 parts.1) (option_zip (name_of_word p from) (seq_of_word seq))
ack_line_of_words p _ = None

-- members after these, which are distinct: one at least
abbrev pub members_line_of_words : SettingsValue → List (List ℕ) → List (List ℕ) → Option Line
members_line_of_words p names [] = if length names == 0 then None else Some (line.Members names)
members_line_of_words p names (word ∷ others) =
    option_and_then (λ name. if nat_le most_line_members (length names) || has_name names name then None
    else members_line_of_words p (names ++ name ∷ []) others) (name_of_word p word)

-- a lookup: its number and a name
abbrev pub find_start_of_words : SettingsValue → List (List ℕ) → Option Start
find_start_of_words p (ticket ∷ object ∷ []) =
    option_map (λ parts. start.Find parts.0 parts.1) (option_zip (u32_of_word ticket) (name_of_word p object))
find_start_of_words p _ = None

-- a cast: its number, the word, and how many digits are shared
abbrev pub cast_start_of_words : SettingsValue → List (List ℕ) → Option Start
cast_start_of_words p (number ∷ word ∷ level ∷ []) =
    option_map (λ parts. start.Cast parts.0 parts.1.1 parts.1.0)
    (option_zip (u32_of_word number) (option_zip (word_of_bytes word) (level_of_word p level)))
cast_start_of_words p _ = None

-- a start, by its verb
abbrev pub start_of_words : SettingsValue → Verb → List (List ℕ) → Option Start
start_of_words p Join others = option_map start.Join (one_name p others)
start_of_words p Abandon others = only start.Abandon others
start_of_words p Publish others = option_map start.Publish (one_name p others)
start_of_words p Withdraw others = option_map start.Withdraw (one_name p others)
start_of_words p Find others = find_start_of_words p others
start_of_words p Leave others = only start.Leave others
start_of_words p Cast others = cast_start_of_words p others
start_of_words p _ others = None

-- the line with this verb
abbrev pub node_line_of_words : SettingsValue → Verb → List (List ℕ) → Option Line
node_line_of_words p Packet others = packet_line_of_words p others
node_line_of_words p Ack others = ack_line_of_words p others
node_line_of_words p Members others = members_line_of_words p [] others
node_line_of_words p Tick others = only line.Tick others
node_line_of_words p Status others = only line.Status others
node_line_of_words p verb others = option_map line.Start (start_of_words p verb others)

-- the line of these words
abbrev pub node_line_of_all : SettingsValue → List (List ℕ) → Option Line
node_line_of_all p [] = None
node_line_of_all p (word ∷ others) = option_and_then (λ verb. node_line_of_words p verb others) (verb_of_word word)

-- the line that a text is
unfoldable pub node_line_of_text : SettingsValue → List ℕ → Option Line
node_line_of_text p text = node_line_of_all p (words text)

-- ---- what holds of a line

-- its names are names of the settings, a word is a word, and a level is within the digits
abbrev pub IsNodeStart : SettingsValue → Start → Type 0
IsNodeStart p (start.Join via) = IsName p via
IsNodeStart p start.Abandon = Unit {0}
IsNodeStart p (start.Publish object) = IsName p object
IsNodeStart p (start.Withdraw object) = IsName p object
IsNodeStart p (start.Find ticket object) = IsName p object
IsNodeStart p start.Leave = Unit {0}
IsNodeStart p (start.Cast number level word) = (level ≤ p.digits) × IsWord word

-- some members: distinct names of the settings, and not too many
pub record AreLineMembers (p : SettingsValue) (names : List (List ℕ)) : Type 0 where
  pub each : All (IsName p) names
  pub distinct : AreDistinct names
  pub few : length names ≤ most_line_members

-- numbers of frames are from 1
abbrev pub IsNodeLine : SettingsValue → Line → Type 0
IsNodeLine p (line.Members names) = AreLineMembers p names
IsNodeLine p (line.Packet from seq frame) = (IsName p from) × (1 ≤ seq)
IsNodeLine p (line.Ack from seq) = (IsName p from) × (1 ≤ seq)
IsNodeLine p (line.Start begun) = IsNodeStart p begun
IsNodeLine p line.Tick = Unit {0}
IsNodeLine p line.Status = Unit {0}

-- the frame of a packet; no other line has one
abbrev pub frame_of_line : Line → Option (List ℕ)
frame_of_line (line.Packet from seq frame) = Some frame
frame_of_line (line.Members names) = None
frame_of_line (line.Ack from seq) = None
frame_of_line (line.Start start) = None
frame_of_line line.Tick = None
frame_of_line line.Status = None
