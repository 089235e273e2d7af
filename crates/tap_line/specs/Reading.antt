-- The line that words are, kind by kind.
use Rattle.std.specs.Prelude.{◌==◌, ℕ, ◌^◌, nat_le, Bool, true, false, ◌&&◌, if◌then◌else◌, List, [], ◌∷◌, length, bytes_eq, codes, Option, None, Some, option_map, option_and_then, Result, Ok, Err}
use Rattle.tap_name.specs.Settings.{SettingsValue}
use Rattle.tap_name.specs.Name.{text_of_name}
use Rattle.tap_scenario.specs.Step.{only, step_of_words}
use Rattle.tap_scenario.specs.Words.{words}
use Rattle.tap_wire.specs.Reading.{head_of}
use Rattle.tap_wire.specs.declared.fault.HeadFault.{HeadFault}
use Rattle.tap_wire.specs.declared.frame.Head.{Head}
use Rattle.tap_log.specs.declared.record.LinkWord.{LinkWord}
use Rattle.tap_log.specs.declared.record.LinkWord.TheVariants as link
use Rattle.tap_log.specs.declared.record.NodeWord.{NodeWord}
use Rattle.tap_log.specs.declared.record.NodeWord.TheVariants as node
use Rattle.tap_log.specs.declared.record.Record.TheVariants as item
use Rattle.tap_report.specs.Frames.{word_of_kind}
use Rattle.tap_report.specs.Lookups.{node_on_path}
use Rattle.tap_report.specs.Tables.{words_of_link, words_of_node}
use Rattle.tap_line.specs.declared.frames.CastParts.{CastParts}
use Rattle.tap_line.specs.declared.kind.Kind.{Kind}
use Rattle.tap_line.specs.declared.kind.Kind.TheVariants.{Number, Name, Pair, Begin, Step, Sent, Walked, Asked, Answered, Table, Link, Pointers, Pointer, Refused, Garbled, Carrier, Packet, Ticked, RootSet, Cast, Reached, End}
use Rattle.tap_line.specs.declared.kind.NameKind.{NameKind}
use Rattle.tap_line.specs.declared.kind.NumberKind.{NumberKind}
use Rattle.tap_line.specs.declared.kind.PairKind.{PairKind}
use Rattle.tap_line.specs.declared.line.Beginning.{Beginning}
use Rattle.tap_line.specs.declared.line.Line.{Line}
use Rattle.tap_line.specs.declared.line.Line.TheVariants as line
use Rattle.tap_line.specs.declared.paths.Request.{Request}
use Rattle.tap_line.specs.declared.paths.RootSet.{RootSet as RootSetParts}
use Rattle.tap_line.specs.declared.paths.WalkEnd.{WalkEnd}
use Rattle.tap_line.specs.Fault.{garbled_of_words}
use Rattle.tap_line.specs.Front.{Front, ◌>>=◌, chosen, digit, first_as, hex, letters, name, names_before, number, one_of, told, word}
use Rattle.tap_line.specs.Kind.{line_kinds, line_of_name, line_of_number, line_of_pair, text_of_kind}
use Rattle.tap_line.specs.Refusal.{refused_of_words}

-- this is read, and no word more
abbrev pub give : {A : Type 0} → A → Front A
give value words = Some (value, words)

-- ---- lines with one or two names or numbers

-- a line with one number, after the first word
abbrev pub number_line_of_words : NumberKind → List (List ℕ) → Option Line
number_line_of_words kind = number (2 ^ 32) >>= λ n. only (line_of_number kind n)

-- a line with one name, after the first word
abbrev pub name_line_of_words : SettingsValue → NameKind → List (List ℕ) → Option Line
name_line_of_words p kind = name p >>= λ found. only (line_of_name kind found)

-- a line with an object and a node, after the first word
abbrev pub pair_line_of_words : SettingsValue → PairKind → List (List ℕ) → Option Line
pair_line_of_words p kind =
    name p >>= λ object. word (codes "at") >>= λ _. name p >>= λ holder. only (line_of_pair kind object holder)

-- a node that a cast reaches, after the first word
abbrev pub reached_of_words : SettingsValue → List (List ℕ) → Option Line
reached_of_words p = number (2 ^ 32) >>= λ cast. name p >>= λ found. only (line.Whole (item.Reached cast found))

-- ---- the beginning and the steps

-- the settings of these numbers, if they are within the limits
abbrev pub settings_of_numbers : ℕ → ℕ → ℕ → Option SettingsValue
settings_of_numbers base digits width =
    if nat_le 2 base && nat_le base 16 && nat_le 1 digits && nat_le digits 40 && nat_le 1 width && nat_le width 4
    then Some (record { base = base; digits = digits; width = width })
    else None

-- a beginning with so many frames and these settings
abbrev pub beginning : ℕ → SettingsValue → Beginning
beginning frames settings = record { settings = settings; frames = frames }

-- the first line of a beginning, after the first word
abbrev pub begin_of_words : List (List ℕ) → Option Beginning
begin_of_words =
    word (codes "base") >>= λ _. number 256 >>= λ base.
    word (codes "digits") >>= λ _. number 256 >>= λ digits.
    word (codes "width") >>= λ _. number 256 >>= λ width.
    word (codes "frames") >>= λ _. number (2 ^ 32) >>= λ frames.
    λ words. option_and_then (λ settings. only (beginning frames settings) words) (settings_of_numbers base digits width)

-- the first line of a beginning, with its first word
abbrev pub begin_of_all_words : List (List ℕ) → Option Beginning
begin_of_all_words = word (codes "begin") >>= λ _. begin_of_words

-- a step that begins
abbrev pub step_line_of_words : SettingsValue → Bool → List (List ℕ) → Option Line
step_line_of_words p carrier =
    number (2 ^ 32) >>= λ index. λ words. option_map (λ step. line.Whole (item.Step index step)) (step_of_words p carrier words)

-- ---- lookups

-- a lookup that is asked, after the first word
abbrev pub asked_of_words : SettingsValue → List (List ℕ) → Option Line
asked_of_words p =
    number (2 ^ 32) >>= λ ticket. name p >>= λ object. word (codes "from") >>= λ _. name p >>= λ asker.
    only (line.Whole (item.Asked ticket object asker))

-- a server or none
abbrev pub server_of_words : SettingsValue → List (List ℕ) → Option (Option (List ℕ))
server_of_words p [] = None
server_of_words p (first ∷ words) =
    if bytes_eq first (codes "none") then only None words
    else if bytes_eq first (codes "server") then (name p >>= λ server. only (Some server)) words
    else None

-- the answer of a lookup, after the first word
abbrev pub answered_of_words : SettingsValue → List (List ℕ) → Option Line
answered_of_words p =
    number (2 ^ 32) >>= λ ticket. λ words. option_map (λ server. line.Whole (item.Answered ticket server)) (server_of_words p words)

-- ---- walks and root sets

-- an object and the node that asks for it, up to this word
abbrev pub request : SettingsValue → List ℕ → Front Request
request p stop =
    name p >>= λ object. word (codes "from") >>= λ _. name p >>= λ asker. word stop >>= λ _.
    give (record { object = object; asker = asker })

-- the root in which a walk ends, and its hops
abbrev pub walk_end : SettingsValue → List (List ℕ) → Option WalkEnd
walk_end p = name p >>= λ root. word (codes "hops") >>= λ _. number (2 ^ 64) >>= λ hops. only (record { root = root; hops = hops })

-- whether these are the nodes of a walk from this asker that ends so
abbrev pub is_path : List (List ℕ) → List ℕ → WalkEnd → Bool
is_path [] asker end = false
is_path (first ∷ path) asker end =
    bytes_eq first asker && bytes_eq (node_on_path (first ∷ path) (length path)) end.root && (length path == end.hops)

-- the walk with these parts, if they fit
abbrev pub walk_of_parts : Request → List (List ℕ) → WalkEnd → Option Line
walk_of_parts asked path end = if is_path path asked.asker end then Some (line.Whole (item.Walked asked.object path)) else None

-- a walk, after the first word
abbrev pub walked_of_words : SettingsValue → List (List ℕ) → Option Line
walked_of_words p =
    request p (codes "path") >>= λ asked. names_before p (codes "root") >>= λ path.
    λ words. option_and_then (walk_of_parts asked path) (walk_end p words)

-- the parts of a root set, after the first word
abbrev pub root_set_of_words : SettingsValue → List (List ℕ) → Option RootSetParts
root_set_of_words p =
    request p (codes "roots") >>= λ asked.
    name p >>= λ first. name p >>= λ second. name p >>= λ third. name p >>= λ fourth.
    only (record { asked = asked; roots = first ∷ second ∷ third ∷ fourth ∷ [] })

-- the line of these parts
abbrev pub line_of_roots : RootSetParts → Line
line_of_roots set = line.Whole (item.RootsOf set.asked.object set.asked.asker set.roots)

-- a root set, after the first word
abbrev pub root_set_line_of_words : SettingsValue → List (List ℕ) → Option Line
root_set_line_of_words p words = option_map line_of_roots (root_set_of_words p words)

-- ---- tables and pointers

-- all that a node may be
abbrev pub node_words : List NodeWord
node_words = node.Joining ∷ node.Core ∷ node.Leaving ∷ []

-- what a word says of a node
abbrev pub chosen_node : List ℕ → Option NodeWord
chosen_node word = chosen words_of_node node_words word

-- all that a link may be
abbrev pub link_words : List LinkWord
link_words = link.Pin ∷ link.Settled ∷ link.Leaving ∷ []

-- what a word says of a link
abbrev pub chosen_link : List ℕ → Option LinkWord
chosen_link word = chosen words_of_link link_words word

-- the first line of a table, after the first word
abbrev pub table_of_words : SettingsValue → List (List ℕ) → Option Line
table_of_words p =
    name p >>= λ owner. one_of words_of_node node_words >>= λ status. word (codes "links") >>= λ _. number (2 ^ 64) >>= λ links.
    only (line.Table owner status links)

-- a link of a table, after the first word
abbrev pub link_of_words : SettingsValue → List (List ℕ) → Option Line
link_of_words p =
    number 256 >>= λ level. digit p >>= λ d. name p >>= λ target. one_of words_of_link link_words >>= λ kind.
    only (line.Link (record { slot = record { level = level; digit = d }; name = target; kind = kind }))

-- the first line of pointers, after the first word
abbrev pub pointers_of_words : SettingsValue → List (List ℕ) → Option Line
pointers_of_words p =
    name p >>= λ holder. word (codes "count") >>= λ _. number (2 ^ 64) >>= λ pairs. only (line.Pointers holder pairs)

-- a pointer, after the first word
abbrev pub pointer_of_words : SettingsValue → List (List ℕ) → Option Line
pointer_of_words p = name p >>= λ object. name p >>= λ server. only (line.Pointer (record { object = object; server = server }))

-- ---- frames, packets and casts

-- what a packet carries: a frame, or its acknowledgement
abbrev pub word_of_load : Bool → List ℕ
word_of_load false = codes "data"
word_of_load true = codes "ack"

-- all that a packet may carry
abbrev pub loads : List Bool
loads = false ∷ true ∷ []

-- what a word says that a packet carries
abbrev pub chosen_load : List ℕ → Option Bool
chosen_load word = chosen word_of_load loads word

-- a packet, after the first word
abbrev pub packet_of_words : List (List ℕ) → Option Line
packet_of_words =
    number (2 ^ 32) >>= λ packet. one_of word_of_load loads >>= λ ack. number (2 ^ 32) >>= λ frame.
    only (line.Whole (item.Packet packet frame ack))

-- whether a head is read, and its words are these
abbrev pub has_head : Result Head HeadFault → List ℕ → List ℕ → List ℕ → Bool
has_head (Ok head) kind from to =
    bytes_eq kind (word_of_kind head.kind) && bytes_eq from (text_of_name head.from) && bytes_eq to (text_of_name head.to)
has_head (Err fault) kind from to = false

-- whether the head of these bytes is read, and its words are these
abbrev pub is_head : SettingsValue → List ℕ → List ℕ → List ℕ → List ℕ → Bool
is_head p bytes kind from to = has_head (head_of p bytes) kind from to

-- the last word of a frame that is sent: its bytes, whose head has these words
abbrev pub bytes_of_sent : SettingsValue → ℕ → List ℕ → List ℕ → List ℕ → List (List ℕ) → Option Line
bytes_of_sent p sent kind from to =
    hex >>= λ bytes. λ words. if is_head p bytes kind from to then only (line.Whole (item.Sent sent bytes)) words else None

-- a frame that is sent, after the first word
abbrev pub sent_of_words : SettingsValue → List (List ℕ) → Option Line
sent_of_words p =
    number (2 ^ 32) >>= λ sent. first_as Some >>= λ kind. first_as Some >>= λ from. first_as Some >>= λ to. bytes_of_sent p sent kind from to

-- the parts of a cast, after the first word
abbrev pub cast_of_words : SettingsValue → List (List ℕ) → Option CastParts
cast_of_words p =
    number (2 ^ 32) >>= λ cast. letters >>= λ spread. word (codes "level") >>= λ _. number 256 >>= λ level.
    word (codes "from") >>= λ _. name p >>= λ from.
    only (record { cast = cast; word = spread; level = level; name = from })

-- the line of these parts
abbrev pub line_of_cast : CastParts → Line
line_of_cast parts = line.Whole (item.CastFrom parts.cast parts.word parts.level parts.name)

-- a cast that begins, after the first word
abbrev pub cast_line_of_words : SettingsValue → List (List ℕ) → Option Line
cast_line_of_words p words = option_map line_of_cast (cast_of_words p words)

-- ---- all lines

-- the line of a kind that wants no memory, after the first word; no other kind has one
abbrev pub plain_line_of_kind : SettingsValue → Bool → Kind → List (List ℕ) → Option Line
plain_line_of_kind p carrier (Number kind) words = number_line_of_words kind words
plain_line_of_kind p carrier (Name kind) words = name_line_of_words p kind words
plain_line_of_kind p carrier (Pair kind) words = pair_line_of_words p kind words
plain_line_of_kind p carrier Begin words = option_map line.Begin (begin_of_words words)
plain_line_of_kind p carrier Step words = step_line_of_words p carrier words
plain_line_of_kind p carrier Sent words = None
plain_line_of_kind p carrier Walked words = None
plain_line_of_kind p carrier Asked words = asked_of_words p words
plain_line_of_kind p carrier Answered words = answered_of_words p words
plain_line_of_kind p carrier Table words = table_of_words p words
plain_line_of_kind p carrier Link words = link_of_words p words
plain_line_of_kind p carrier Pointers words = pointers_of_words p words
plain_line_of_kind p carrier Pointer words = pointer_of_words p words
plain_line_of_kind p carrier Refused words = refused_of_words p words
plain_line_of_kind p carrier Garbled words = garbled_of_words words
plain_line_of_kind p carrier Carrier words = only (line.Whole item.Carrier) words
plain_line_of_kind p carrier Packet words = packet_of_words words
plain_line_of_kind p carrier Ticked words = only (line.Whole item.Ticked) words
plain_line_of_kind p carrier RootSet words = None
plain_line_of_kind p carrier Cast words = None
plain_line_of_kind p carrier Reached words = reached_of_words p words
plain_line_of_kind p carrier End words = told (codes "no memory") line.End words

-- the line of a kind, after the first word
abbrev pub line_of_kind : SettingsValue → Bool → Kind → List (List ℕ) → Option Line
line_of_kind p carrier Sent words = sent_of_words p words
line_of_kind p carrier Walked words = walked_of_words p words
line_of_kind p carrier RootSet words = root_set_line_of_words p words
line_of_kind p carrier Cast words = cast_line_of_words p words
line_of_kind p carrier kind words = plain_line_of_kind p carrier kind words

-- the line that words are: the first one gives its kind
abbrev pub line_of_words : SettingsValue → Bool → List (List ℕ) → Option Line
line_of_words p carrier = one_of text_of_kind line_kinds >>= λ kind. line_of_kind p carrier kind

-- ---- texts

-- the line that a text is, of a run with these settings that is carried or not
abbrev pub line_of_text : SettingsValue → Bool → List ℕ → Option Line
line_of_text p carrier text = line_of_words p carrier (words text)

-- the first line of a beginning that a text is, before any settings are known
abbrev pub begin_of_text : List ℕ → Option Beginning
begin_of_text text = begin_of_all_words (words text)
