-- the words of a line
use Rattle.std.proofs.Common.{◌≡◌, ◌==◌, ℕ, ◌-◌, List, [], ◌∷◌, ◌++◌, append-nil, append_assoc, length, decimal, codes, Option, None, Some, Result, Ok, Err, arith, refl, ap, sym, ◌∙◌}
use Rattle.std.specs.List.{join_with_byte}
use Rattle.std.proofs.lemmas.List.Splits.{join_with_byte-slice_split, length-slice_split}
use Rattle.hex.specs.Hex.{encode_lower}
use Rattle.tap_name.specs.Digits.{text_of_digit}
use Rattle.tap_name.specs.Settings.{SettingsValue}
use Rattle.tap_name.specs.Name.{text_of_name}
use Rattle.tap_scenario.specs.Step.{text_of_step}
use Rattle.tap_scenario.specs.Words.{words}
use Rattle.tap_wire.specs.Reading.{head_of}
use Rattle.tap_wire.specs.declared.fault.HeadFault.{HeadFault}
use Rattle.tap_wire.specs.declared.frame.Head.{Head}
use Rattle.tap_log.specs.declared.record.Record.{Record}
use Rattle.tap_log.specs.declared.record.Record.TheVariants as item
use Rattle.tap_report.specs.Frames.{word_of_kind, words_of_fault}
use Rattle.tap_report.specs.Lookups.{node_on_path}
use Rattle.tap_report.specs.Refusal.{code_of_refusal, words_of_refusal}
use Rattle.tap_report.specs.Shapes.{spaced_names}
use Rattle.tap_report.specs.Tables.{words_of_link, words_of_node}
use Rattle.tap_line.specs.declared.line.Line.{Line}
use Rattle.tap_line.specs.declared.line.Line.TheVariants.{Whole, Begin, Member, Table, Link, Pointers, Pointer, End}
use Rattle.tap_line.specs.Reading.{word_of_load}

-- the words of a server
abbrev pub words_of_server : Option (List ℕ) → List (List ℕ)
words_of_server None = codes "none" ∷ []
words_of_server (Some server) = codes "server" ∷ text_of_name server ∷ []

-- the words of a head
abbrev pub words_of_head : Result Head HeadFault → List ℕ → List (List ℕ)
words_of_head (Ok head) bytes = word_of_kind head.kind ∷ text_of_name head.from ∷ text_of_name head.to ∷ encode_lower bytes ∷ []
words_of_head (Err fault) bytes = [] ∷ encode_lower bytes ∷ []

-- the words of names, and then others
abbrev pub words_of_names : List (List ℕ) → List (List ℕ) → List (List ℕ)
words_of_names [] others = others
words_of_names (name ∷ names) others = text_of_name name ∷ words_of_names names others

-- the words of the line of a record
abbrev pub words_of_record : SettingsValue → Record → List (List ℕ)
words_of_record p (item.Begin begun frames members) = []
words_of_record p (item.Step index step) = codes "step" ∷ decimal index ∷ words (text_of_step step)
words_of_record p (item.Sent number bytes) = codes "sent" ∷ decimal number ∷ words_of_head (head_of p bytes) bytes
words_of_record p (item.Taken number) = codes "taken" ∷ decimal number ∷ []
words_of_record p (item.Core name) = codes "core" ∷ text_of_name name ∷ []
words_of_record p (item.Gone name) = codes "gone" ∷ text_of_name name ∷ []
words_of_record p (item.Walked object path) =
    codes "walked" ∷ text_of_name object ∷ codes "from" ∷ text_of_name (node_on_path path 0) ∷ codes "path"
    ∷ words_of_names path (codes "root" ∷ text_of_name (node_on_path path (length path - 1)) ∷ codes "hops" ∷ decimal (length path - 1) ∷ [])
words_of_record p (item.RootOf object root) = codes "rooted" ∷ text_of_name object ∷ codes "at" ∷ text_of_name root ∷ []
words_of_record p (item.Asked ticket object asker) =
    codes "asked" ∷ decimal ticket ∷ text_of_name object ∷ codes "from" ∷ text_of_name asker ∷ []
words_of_record p (item.Answered ticket server) = codes "answered" ∷ decimal ticket ∷ words_of_server server
words_of_record p (item.Published object server) = codes "published" ∷ text_of_name object ∷ codes "at" ∷ text_of_name server ∷ []
words_of_record p (item.Withdrawn object server) = codes "withdrawn" ∷ text_of_name object ∷ codes "at" ∷ text_of_name server ∷ []
words_of_record p (item.TableOf name status links) = []
words_of_record p (item.PointersOf name pairs) = []
words_of_record p (item.Refused index refusal) =
    codes "refused" ∷ decimal index ∷ decimal (code_of_refusal refusal) ∷ words (words_of_refusal refusal)
words_of_record p (item.Spent limit) = codes "spent" ∷ decimal limit ∷ []
words_of_record p (item.Finished steps) = codes "done" ∷ decimal steps ∷ []
words_of_record p (item.Garbled number fault) = codes "garbled" ∷ decimal number ∷ words (words_of_fault fault)
words_of_record p (item.Abandoned name) = codes "abandoned" ∷ text_of_name name ∷ []
words_of_record p item.Carrier = codes "carrier" ∷ []
words_of_record p (item.Packet number frame ack) = codes "packet" ∷ decimal number ∷ word_of_load ack ∷ decimal frame ∷ []
words_of_record p (item.Arrived packet) = codes "arrived" ∷ decimal packet ∷ []
words_of_record p item.Ticked = codes "ticked" ∷ []
words_of_record p (item.Lost packet) = codes "lost" ∷ decimal packet ∷ []
words_of_record p (item.RootsOf object asker roots) =
    codes "rootset" ∷ text_of_name object ∷ codes "from" ∷ text_of_name asker ∷ codes "roots" ∷ words_of_names roots []
words_of_record p (item.CastFrom cast word level name) =
    codes "cast" ∷ decimal cast ∷ word ∷ codes "level" ∷ decimal level ∷ codes "from" ∷ text_of_name name ∷ []
words_of_record p (item.Reached cast name) = codes "reached" ∷ decimal cast ∷ text_of_name name ∷ []
words_of_record p (item.Closed cast) = codes "closed" ∷ decimal cast ∷ []

-- the words of a line
abbrev pub words_of_line : SettingsValue → Line → List (List ℕ)
words_of_line p (Whole entry) = words_of_record p entry
words_of_line p (Begin begun) =
    codes "begin" ∷ codes "base" ∷ decimal begun.settings.base ∷ codes "digits" ∷ decimal begun.settings.digits ∷ codes "width"
    ∷ decimal begun.settings.width ∷ codes "frames" ∷ decimal begun.frames ∷ []
words_of_line p (Member name) = codes "member" ∷ text_of_name name ∷ []
words_of_line p (Table name status links) =
    codes "table" ∷ text_of_name name ∷ words_of_node status ∷ codes "links" ∷ decimal links ∷ []
words_of_line p (Link l) =
    codes "link" ∷ decimal l.slot.level ∷ (text_of_digit l.slot.digit ∷ []) ∷ text_of_name l.name ∷ words_of_link l.kind ∷ []
words_of_line p (Pointers name pairs) = codes "pointers" ∷ text_of_name name ∷ codes "count" ∷ decimal pairs ∷ []
words_of_line p (Pointer pair) = codes "pointer" ∷ text_of_name pair.object ∷ text_of_name pair.server ∷ []
words_of_line p End = codes "tapestry:" ∷ words (codes "no memory")

-- ---- with a space between them, they are its text

join_cons : (word : List ℕ) (texts : List (List ℕ)) → (texts ≡ [] → ⊥) → join_with_byte 32 (word ∷ texts) ≡ word ++ 32 ∷ join_with_byte 32 texts
join_cons word [] some = absurd (some refl)
join_cons word (text ∷ texts) some = refl

words_some : (text : List ℕ) → words text ≡ [] → ⊥
words_some text is =
    let some = length-slice_split (λ byte. byte == 32) text in
    let none : length (words text) ≡ 0 = ap length is in
    absurd (omega (arith, some, none))

-- a word before the words of a text
pub join_words : (word text : List ℕ) → join_with_byte 32 (word ∷ words text) ≡ word ++ 32 ∷ text
join_words word text =
    join_cons word (words text) (words_some text) ∙ ap (λ t. word ++ 32 ∷ t) (join_with_byte-slice_split 32 text)

-- a word before names
pub join_names : (word : List ℕ) (names : List (List ℕ)) → join_with_byte 32 (word ∷ words_of_names names []) ≡ word ++ spaced_names names
join_names word [] = sym (append-nil word)
join_names word (name ∷ names) = ap (λ t. word ++ 32 ∷ t) (join_names (text_of_name name) names)

-- a word before names and others
pub join_names_and : (word : List ℕ) (names : List (List ℕ)) (text : List ℕ) (texts : List (List ℕ))
    → join_with_byte 32 (word ∷ words_of_names names (text ∷ texts)) ≡ word ++ (spaced_names names ++ (32 ∷ join_with_byte 32 (text ∷ texts)))
join_names_and word [] text texts = refl
join_names_and word (name ∷ names) text texts =
    ap (λ t. word ++ 32 ∷ t) (join_names_and (text_of_name name) names text texts) ∙ simp append_assoc
