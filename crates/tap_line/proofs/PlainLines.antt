-- the words of a line are plain, and a line has no line feed
use Rattle.std.proofs.Common.{◌≡◌, ℕ, zero, suc, ◌-◌, ◌/◌, ◌%◌, ◌^◌, ◌<◌, Bool, true, false, arith, List, [], ◌∷◌, length, slice_index, decimal, codes, Option, None, Some, Result, Ok, Err, refl, sym, subst}
use Rattle.std.specs.List.{list_all}
use Rattle.std.specs.Prelude.{IsTrue, slice_index_or}
use Rattle.std.proofs.lemmas.Bool.{and_parts}
use Rattle.std.proofs.lemmas.List.Elements.{All-cons, All-head, All-nil, All-tail}
use Rattle.hex.specs.Hex.{encode_lower, encode_with, lower_digits}
use Rattle.tap_name.specs.Digits.{text_of_digit}
use Rattle.tap_name.specs.Settings.{SettingsValue}
use Rattle.tap_name.specs.Name.{text_of_name}
use Rattle.tap_wire.specs.Reading.{head_of}
use Rattle.tap_wire.specs.declared.fault.HeadFault.{HeadFault}
use Rattle.tap_wire.specs.declared.frame.Head.{Head}
use Rattle.tap_log.specs.declared.record.LinkWord.{LinkWord}
use Rattle.tap_log.specs.declared.record.LinkWord.TheVariants as link
use Rattle.tap_log.specs.declared.record.NodeWord.{NodeWord}
use Rattle.tap_log.specs.declared.record.NodeWord.TheVariants as node
use Rattle.tap_log.specs.declared.record.Record.{Record}
use Rattle.tap_log.specs.declared.record.Record.TheVariants as item
use Rattle.tap_log.specs.declared.record.Refusal.{Refusal}
use Rattle.tap_log.specs.declared.record.Refusal.TheVariants as refusal
use Rattle.tap_report.specs.Frames.{word_of_kind, words_of_kinds, words_of_fault}
use Rattle.tap_report.specs.Lookups.{node_on_path}
use Rattle.tap_report.specs.Refusal.{code_of_refusal, words_of_refusal}
use Rattle.tap_report.specs.Tables.{words_of_link, words_of_node}
use Rattle.tap_report.proofs.TextLemmas.{lower_digit}
use Rattle.tap_scenario.specs.Step.{text_of_step}
use Rattle.tap_line.specs.declared.line.Line.{Line}
use Rattle.tap_line.specs.declared.line.Line.TheVariants.{Whole, Begin, Member, Table, Link, Pointers, Pointer, End}
use Rattle.tap_line.specs.Laws.{HasNoFeed}
use Rattle.tap_line.specs.Line.{AreBytes, IsLine, IsWhole, text_of_line}
use Rattle.tap_line.specs.Reading.{word_of_load}
use Rattle.tap_line.proofs.Feeds.{fault_no_feed, refusal_no_feed, step_no_feed, told_no_feed}
use Rattle.tap_line.proofs.Joins.{line_join}
use Rattle.tap_line.proofs.Plain.{ArePlain, IsPlain, digit_plain, is_plain, joined_no_feed, name_plain, number_plain, told_plain, word_plain, words_plain}
use Rattle.tap_line.proofs.Spelling.{words_of_head, words_of_line, words_of_names, words_of_record, words_of_server}

-- ---- single words

no_word_plain : IsPlain []
no_word_plain = All-nil (λ byte. IsTrue (is_plain byte))

-- each of these is plain
all_plain : (texts : List (List ℕ)) → list_all (λ text. list_all is_plain text) texts ≡ true → (n : ℕ) → IsPlain (slice_index_or texts n [])
all_plain [] is n = no_word_plain
all_plain (text ∷ texts) is zero = told_plain text (and_parts (list_all is_plain text) (list_all (λ t. list_all is_plain t) texts) is).0
all_plain (text ∷ texts) is (suc n) = all_plain texts (and_parts (list_all is_plain text) (list_all (λ t. list_all is_plain t) texts) is).1 n

kind_plain : (code : ℕ) → IsPlain (word_of_kind code)
kind_plain code = all_plain words_of_kinds refl code

node_plain : (status : NodeWord) → IsPlain (words_of_node status)
node_plain node.Joining = told_plain (codes "joining") refl
node_plain node.Core = told_plain (codes "core") refl
node_plain node.Leaving = told_plain (codes "leaving") refl

link_plain : (kind : LinkWord) → IsPlain (words_of_link kind)
link_plain link.Pin = told_plain (codes "pin") refl
link_plain link.Settled = told_plain (codes "settled") refl
link_plain link.Leaving = told_plain (codes "leaving") refl

load_plain : (ack : Bool) → IsPlain (word_of_load ack)
load_plain true = told_plain (codes "ack") refl
load_plain false = told_plain (codes "data") refl

code_plain : (why : Refusal) → IsPlain (decimal (code_of_refusal why))
code_plain refusal.NoSuchNode = number_plain 1 256 (omega arith) (omega arith)
code_plain refusal.NotCore = number_plain 2 256 (omega arith) (omega arith)
code_plain (refusal.Departing leaver) = number_plain 3 256 (omega arith) (omega arith)
code_plain (refusal.NotAtRest count) = number_plain 4 256 (omega arith) (omega arith)
code_plain refusal.NameTaken = number_plain 5 256 (omega arith) (omega arith)
code_plain refusal.TooManyNodes = number_plain 6 256 (omega arith) (omega arith)
code_plain refusal.LastNode = number_plain 7 256 (omega arith) (omega arith)
code_plain refusal.AlreadyPublished = number_plain 8 256 (omega arith) (omega arith)
code_plain refusal.NotPublished = number_plain 9 256 (omega arith) (omega arith)
code_plain (refusal.NoSuchFlight count) = number_plain 10 256 (omega arith) (omega arith)
code_plain (refusal.NoSuchByte count) = number_plain 11 256 (omega arith) (omega arith)
code_plain refusal.Readable = number_plain 12 256 (omega arith) (omega arith)
code_plain refusal.NotJoining = number_plain 13 256 (omega arith) (omega arith)
code_plain refusal.AlreadyAbandoned = number_plain 14 256 (omega arith) (omega arith)
code_plain (refusal.TooManyPackets count) = number_plain 15 256 (omega arith) (omega arith)
code_plain refusal.NotInPrefix = number_plain 16 256 (omega arith) (omega arith)

hex_digit : (digit : ℕ) → digit < 16 → IsTrue (is_plain (slice_index lower_digits digit))
hex_digit digit small =
    subst (λ byte. IsTrue (is_plain byte)) (lower_digit digit small) (All-head (λ byte. IsTrue (is_plain byte)) (text_of_digit digit) [] (digit_plain digit))

pub hex_plain : (bytes : List ℕ) → AreBytes bytes → IsPlain (encode_lower bytes)
unfolding encode_with
hex_plain [] are = no_word_plain
hex_plain (byte ∷ bytes) are =
    let small : byte < 256 = All-head (λ b. b < 256) byte bytes are in
    let more = hex_plain bytes (All-tail (λ b. b < 256) byte bytes are) in
    All-cons (λ b. IsTrue (is_plain b)) (slice_index lower_digits (byte / 16)) (slice_index lower_digits (byte % 16) ∷ encode_lower bytes)
    (hex_digit (byte / 16) (omega arith))
    (All-cons (λ b. IsTrue (is_plain b)) (slice_index lower_digits (byte % 16)) (encode_lower bytes) (hex_digit (byte % 16) (omega arith)) more)

-- ---- words of parts

server_plain : (server : Option (List ℕ)) → ArePlain (words_of_server server)
server_plain None = (told_plain (codes "none") refl, tt)
server_plain (Some server) = (told_plain (codes "server") refl, (name_plain server, tt))

head_plain : (read : Result Head HeadFault) (bytes : List ℕ) → AreBytes bytes → ArePlain (words_of_head read bytes)
head_plain (Ok head) bytes are =
    (kind_plain head.kind, (name_plain head.from, (name_plain head.to, (hex_plain bytes are, tt))))
head_plain (Err fault) bytes are = (no_word_plain, (hex_plain bytes are, tt))

names_plain : (names others : List (List ℕ)) → ArePlain others → ArePlain (words_of_names names others)
names_plain [] others are = are
names_plain (name ∷ names) others are = (name_plain name, names_plain names others are)

-- ---- words of lines

small : (n : ℕ) → n < 2 ^ 32 → IsPlain (decimal n)
small n is = number_plain n (2 ^ 32) is (omega arith)

-- a word and a number
numbered : (word : List ℕ) (n : ℕ) → list_all is_plain word ≡ true → n < 2 ^ 32 → ArePlain (word ∷ decimal n ∷ [])
numbered word n passes is = (told_plain word passes, (small n is, tt))

-- a word and a name
named : (word name : List ℕ) → list_all is_plain word ≡ true → ArePlain (word ∷ text_of_name name ∷ [])
named word name passes = (told_plain word passes, (name_plain name, tt))

-- two names after words
paired : (word name link other : List ℕ) → list_all is_plain word ≡ true → list_all is_plain link ≡ true
    → ArePlain (word ∷ text_of_name name ∷ link ∷ text_of_name other ∷ [])
paired word name link other passes also = (told_plain word passes, (name_plain name, (told_plain link also, (name_plain other, tt))))

walked_plain : (object asker last : List ℕ) (path : List (List ℕ)) (hops : ℕ) → IsPlain (decimal hops)
    → ArePlain (codes "walked" ∷ text_of_name object ∷ codes "from" ∷ text_of_name asker ∷ codes "path"
    ∷ words_of_names path (codes "root" ∷ text_of_name last ∷ codes "hops" ∷ decimal hops ∷ []))
walked_plain object asker last path hops is = (
  told_plain (codes "walked") refl,
  (
    name_plain object,
    (
      told_plain (codes "from") refl,
      (
        name_plain asker,
        (
          told_plain (codes "path") refl,
          names_plain path (codes "root" ∷ text_of_name last ∷ codes "hops" ∷ decimal hops ∷ [])
              (told_plain (codes "root") refl, (name_plain last, (told_plain (codes "hops") refl, (is, tt)))),
        ),
      ),
    ),
  ),
)

record_plain : (p : SettingsValue) (carrier : Bool) (entry : Record) → IsWhole p carrier entry → ArePlain (words_of_record p entry)
record_plain p carrier (item.Begin begun frames members) is = absurd is
record_plain p carrier (item.Step index step) is =
    (told_plain (codes "step") refl, (small index is.0, words_plain (text_of_step step) (step_no_feed p carrier step is.1)))
record_plain p carrier (item.Sent number bytes) is =
    (told_plain (codes "sent") refl, (small number is.0, head_plain (head_of p bytes) bytes is.1.each))
record_plain p carrier (item.Taken number) is = numbered (codes "taken") number refl is
record_plain p carrier (item.Core name) is = named (codes "core") name refl
record_plain p carrier (item.Gone name) is = named (codes "gone") name refl
record_plain p carrier (item.Walked object path) is =
    walked_plain object (node_on_path path 0) (node_on_path path (length path - 1)) path (length path - 1)
    (number_plain (length path - 1) (2 ^ 64) is.1.few (omega arith))
record_plain p carrier (item.RootOf object root) is = paired (codes "rooted") object (codes "at") root refl refl
record_plain p carrier (item.Asked ticket object asker) is =
    (told_plain (codes "asked") refl, (small ticket is.0, (name_plain object, (told_plain (codes "from") refl, (name_plain asker, tt)))))
record_plain p carrier (item.Answered ticket server) is = (told_plain (codes "answered") refl, (small ticket is.0, server_plain server))
record_plain p carrier (item.Published object server) is = paired (codes "published") object (codes "at") server refl refl
record_plain p carrier (item.Withdrawn object server) is = paired (codes "withdrawn") object (codes "at") server refl refl
record_plain p carrier (item.TableOf name status links) is = absurd is
record_plain p carrier (item.PointersOf name pairs) is = absurd is
record_plain p carrier (item.Refused index why) is =
    (told_plain (codes "refused") refl, (small index is.0, (code_plain why, words_plain (words_of_refusal why) (refusal_no_feed p why is.1))))
record_plain p carrier (item.Spent limit) is = numbered (codes "spent") limit refl is
record_plain p carrier (item.Finished steps) is = numbered (codes "done") steps refl is
record_plain p carrier (item.Garbled number why) is =
    (told_plain (codes "garbled") refl, (small number is.0, words_plain (words_of_fault why) (fault_no_feed why is.1)))
record_plain p carrier (item.Abandoned name) is = named (codes "abandoned") name refl
record_plain p carrier item.Carrier is = (told_plain (codes "carrier") refl, tt)
record_plain p carrier (item.Packet number frame ack) is =
    (told_plain (codes "packet") refl, (small number is.0, (load_plain ack, (small frame is.1, tt))))
record_plain p carrier (item.Arrived packet) is = numbered (codes "arrived") packet refl is
record_plain p carrier item.Ticked is = (told_plain (codes "ticked") refl, tt)
record_plain p carrier (item.Lost packet) is = numbered (codes "lost") packet refl is
record_plain p carrier (item.RootsOf object asker roots) is = (
  told_plain (codes "rootset") refl,
  (
    name_plain object,
    (
      told_plain (codes "from") refl,
      (
        name_plain asker,
        (
          told_plain (codes "roots") refl,
          names_plain roots [] tt,
        ),
      ),
    ),
  ),
)
record_plain p carrier (item.CastFrom cast word level name) is = (
  told_plain (codes "cast") refl,
  (
    small cast is.0,
    (
      word_plain word is.1,
      (
        told_plain (codes "level") refl,
        (number_plain level 256 is.2 (omega arith), (told_plain (codes "from") refl, (name_plain name, tt))),
      ),
    ),
  ),
)
record_plain p carrier (item.Reached cast name) is = (told_plain (codes "reached") refl, (small cast is.0, (name_plain name, tt)))
record_plain p carrier (item.Closed cast) is = numbered (codes "closed") cast refl is

pub line_plain : (p : SettingsValue) (carrier : Bool) (line : Line) → IsLine p carrier line → ArePlain (words_of_line p line)
line_plain p carrier (Whole entry) is = record_plain p carrier entry is
line_plain p carrier (Begin begun) is = (
  told_plain (codes "begin") refl,
  (
    told_plain (codes "base") refl,
    (
      number_plain begun.settings.base 256 (omega (arith, is.limits.base_to)) (omega arith),
      (
        told_plain (codes "digits") refl,
        (
          number_plain begun.settings.digits 256 (omega (arith, is.limits.digits_to)) (omega arith),
          (
            told_plain (codes "width") refl,
            (
              number_plain begun.settings.width 256 (omega (arith, is.limits.width_to)) (omega arith),
              (
                told_plain (codes "frames") refl,
                (small begun.frames is.frames, tt),
              ),
            ),
          ),
        ),
      ),
    ),
  ),
)
line_plain p carrier (Member name) is = named (codes "member") name refl
line_plain p carrier (Table name status links) is = (
  told_plain (codes "table") refl,
  (
    name_plain name,
    (
      node_plain status,
      (
        told_plain (codes "links") refl,
        (number_plain links (2 ^ 64) is.1 (omega arith), tt),
      ),
    ),
  ),
)
line_plain p carrier (Link l) is = (
  told_plain (codes "link") refl,
  (
    number_plain l.slot.level 256 is.level (omega arith),
    (
      digit_plain l.slot.digit,
      (name_plain l.name, (link_plain l.kind, tt)),
    ),
  ),
)
line_plain p carrier (Pointers name pairs) is =
    (told_plain (codes "pointers") refl, (name_plain name, (told_plain (codes "count") refl, (number_plain pairs (2 ^ 64) is.1 (omega arith), tt))))
line_plain p carrier (Pointer pair) is = (told_plain (codes "pointer") refl, (name_plain pair.object, (name_plain pair.server, tt)))
line_plain p carrier End is = (told_plain (codes "tapestry:") refl, words_plain (codes "no memory") (told_no_feed (codes "no memory") refl))

-- a line has no line feed
pub line_no_feed : (p : SettingsValue) (carrier : Bool) (line : Line) → IsLine p carrier line → HasNoFeed (text_of_line p line)
line_no_feed p carrier line is =
    subst HasNoFeed (sym (line_join p carrier line is)) (joined_no_feed (words_of_line p line) (line_plain p carrier line is))
