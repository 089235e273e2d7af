-- the text of a line is its words with a space between them
use Rattle.std.proofs.Common.{◌≡◌, ℕ, ◌-◌, Bool, true, false, List, [], ◌∷◌, ◌++◌, append_assoc, length, decimal, codes, Option, None, Some, Result, Ok, Err, refl, ap, sym, ◌∙◌}
use Rattle.std.specs.List.{join_with_byte}
use Rattle.hex.specs.Hex.{encode_lower}
use Rattle.tap_name.specs.Digits.{text_of_digit}
use Rattle.tap_name.specs.Settings.{SettingsValue}
use Rattle.tap_name.specs.Name.{text_of_name}
use Rattle.tap_scenario.specs.Step.{text_of_step}
use Rattle.tap_scenario.specs.Words.{words}
use Rattle.tap_wire.specs.Reading.{head_of}
use Rattle.tap_wire.specs.declared.fault.HeadFault.{HeadFault}
use Rattle.tap_wire.specs.declared.frame.Head.{Head}
use Rattle.tap_log.specs.declared.record.Record.{Record}
use Rattle.tap_log.specs.declared.record.Record.TheVariants as item
use Rattle.tap_report.specs.Frames.{packet_line, text_of_head, word_of_kind, words_of_fault}
use Rattle.tap_report.specs.Lookups.{answered_line, node_on_path}
use Rattle.tap_report.specs.Refusal.{code_of_refusal, words_of_refusal}
use Rattle.tap_report.specs.Shapes.{name_after, number_after, object_from, spaced_names}
use Rattle.tap_report.specs.Tables.{words_of_link, words_of_node}
use Rattle.tap_report.specs.Text.{line_of}
use Rattle.tap_line.specs.declared.line.Line.{Line}
use Rattle.tap_line.specs.declared.line.Line.TheVariants.{Whole, Begin, Member, Table, Link, Pointers, Pointer, End}
use Rattle.tap_line.specs.Line.{IsLine, IsWhole, text_of_line}
use Rattle.tap_line.specs.Reading.{word_of_load}
use Rattle.tap_line.proofs.Spelling.{join_names, join_names_and, join_words, words_of_head, words_of_line, words_of_names, words_of_record, words_of_server}

step_join : (index : ℕ) (text : List ℕ)
    → number_after (codes "step ") index ++ codes " " ++ text ≡ join_with_byte 32 (codes "step" ∷ decimal index ∷ words text)
step_join index text =
    let told : join_with_byte 32 (codes "step" ∷ decimal index ∷ words text) ≡ codes "step" ++ (32 ∷ (decimal index ++ (32 ∷ text))) =
    ap (λ t. codes "step" ++ (32 ∷ t)) (join_words (decimal index) text) in
    let printed : number_after (codes "step ") index ++ codes " " ++ text ≡ codes "step" ++ (32 ∷ (decimal index ++ (32 ∷ text))) = simp append_assoc in
    printed ∙ sym told

garbled_join : (number : ℕ) (text : List ℕ)
    → number_after (codes "garbled ") number ++ codes " " ++ text ≡ join_with_byte 32 (codes "garbled" ∷ decimal number ∷ words text)
garbled_join number text =
    let told : join_with_byte 32 (codes "garbled" ∷ decimal number ∷ words text) ≡ codes "garbled" ++ (32 ∷ (decimal number ++ (32 ∷ text))) =
    ap (λ t. codes "garbled" ++ (32 ∷ t)) (join_words (decimal number) text) in
    let printed : number_after (codes "garbled ") number ++ codes " " ++ text ≡ codes "garbled" ++ (32 ∷ (decimal number ++ (32 ∷ text))) =
    simp append_assoc in
    printed ∙ sym told

refused_join : (index code : ℕ) (text : List ℕ)
    → number_after (codes "refused ") index ++ number_after (codes " ") code ++ codes " " ++ text
    ≡ join_with_byte 32 (codes "refused" ∷ decimal index ∷ decimal code ∷ words text)
refused_join index code text =
    let told : join_with_byte 32 (codes "refused" ∷ decimal index ∷ decimal code ∷ words text)
    ≡ codes "refused" ++ (32 ∷ (decimal index ++ (32 ∷ (decimal code ++ (32 ∷ text))))) =
    ap (λ t. codes "refused" ++ (32 ∷ (decimal index ++ (32 ∷ t)))) (join_words (decimal code) text) in
    let printed : number_after (codes "refused ") index ++ number_after (codes " ") code ++ codes " " ++ text
    ≡ codes "refused" ++ (32 ∷ (decimal index ++ (32 ∷ (decimal code ++ (32 ∷ text))))) =
    simp append_assoc in
    printed ∙ sym told

regroup_head : (a b c d e f g : List ℕ) → a ++ b ++ (c ++ d ++ e) ++ f ++ g ≡ a ++ (b ++ (c ++ (d ++ (e ++ (f ++ g)))))
regroup_head a b c d e f g = simp append_assoc

head_join : (number : ℕ) (kind from to digits : List ℕ)
    → number_after (codes "sent ") number ++ codes " " ++ (kind ++ name_after (codes " ") from ++ name_after (codes " ") to) ++ codes " " ++ digits
    ≡ join_with_byte 32 (codes "sent" ∷ decimal number ∷ kind ∷ text_of_name from ∷ text_of_name to ∷ digits ∷ [])
head_join number kind from to digits =
    regroup_head (number_after (codes "sent ") number) (codes " ") kind (name_after (codes " ") from) (name_after (codes " ") to) (codes " ") digits

no_head_join : (number : ℕ) (digits : List ℕ)
    → number_after (codes "sent ") number ++ codes " " ++ [] ++ codes " " ++ digits
    ≡ join_with_byte 32 (codes "sent" ∷ decimal number ∷ [] ∷ digits ∷ [])
no_head_join number digits = simp append_assoc

sent_join : (number : ℕ) (bytes : List ℕ) (read : Result Head HeadFault)
    → number_after (codes "sent ") number ++ codes " " ++ text_of_head read ++ codes " " ++ encode_lower bytes
    ≡ join_with_byte 32 (codes "sent" ∷ decimal number ∷ words_of_head read bytes)
sent_join number bytes (Ok head) = head_join number (word_of_kind head.kind) head.from head.to (encode_lower bytes)
sent_join number bytes (Err fault) = no_head_join number (encode_lower bytes)

regroup_walk : (a b c d e f g h : List ℕ) → a ++ b ++ c ++ d ++ e ++ f ++ g ++ h ≡ a ++ (b ++ (c ++ (d ++ (e ++ (f ++ (g ++ h))))))
regroup_walk a b c d e f g h = simp append_assoc

walked_join : (object asker last : List ℕ) (path : List (List ℕ)) (hops : ℕ)
    → object_from (codes "walked ") object asker ++ codes " path" ++ spaced_names path ++ name_after (codes " root ") last
    ++ number_after (codes " hops ") hops
    ≡ join_with_byte 32 (codes "walked" ∷ text_of_name object ∷ codes "from" ∷ text_of_name asker ∷ codes "path"
    ∷ words_of_names path (codes "root" ∷ text_of_name last ∷ codes "hops" ∷ decimal hops ∷ []))
walked_join object asker last path hops =
    let front : List ℕ → List ℕ = λ t. codes "walked" ++ (32 ∷ (text_of_name object ++ (32 ∷ (codes "from" ++ (32 ∷ (text_of_name asker ++ (32 ∷ t))))))) in
    let rest : List (List ℕ) = text_of_name last ∷ codes "hops" ∷ decimal hops ∷ [] in
    let told : join_with_byte 32 (codes "walked" ∷ text_of_name object ∷ codes "from" ∷ text_of_name asker ∷ codes "path"
    ∷ words_of_names path (codes "root" ∷ rest))
    ≡ front (codes "path" ++ (spaced_names path ++ (32 ∷ join_with_byte 32 (codes "root" ∷ rest)))) =
    ap front (join_names_and (codes "path") path (codes "root") rest) in
    let printed : object_from (codes "walked ") object asker ++ codes " path" ++ spaced_names path ++ name_after (codes " root ") last
    ++ number_after (codes " hops ") hops
    ≡ front (codes "path" ++ (spaced_names path ++ (32 ∷ join_with_byte 32 (codes "root" ∷ rest)))) =
    regroup_walk (codes "walked ") (text_of_name object) (codes " from ") (text_of_name asker) (codes " path") (spaced_names path)
    (name_after (codes " root ") last) (number_after (codes " hops ") hops) in
    printed ∙ sym told

roots_join : (object asker : List ℕ) (roots : List (List ℕ))
    → object_from (codes "rootset ") object asker ++ codes " roots" ++ spaced_names roots
    ≡ join_with_byte 32 (codes "rootset" ∷ text_of_name object ∷ codes "from" ∷ text_of_name asker ∷ codes "roots" ∷ words_of_names roots [])
roots_join object asker roots =
    let front : List ℕ → List ℕ = λ t. codes "rootset" ++ (32 ∷ (text_of_name object ++ (32 ∷ (codes "from" ++ (32 ∷ (text_of_name asker ++ (32 ∷ t))))))) in
    let told : join_with_byte 32 (codes "rootset" ∷ text_of_name object ∷ codes "from" ∷ text_of_name asker ∷ codes "roots"
    ∷ words_of_names roots []) ≡ front (codes "roots" ++ spaced_names roots) =
    ap front (join_names (codes "roots") roots) in
    let printed : object_from (codes "rootset ") object asker ++ codes " roots" ++ spaced_names roots
    ≡ front (codes "roots" ++ spaced_names roots) =
    simp append_assoc in
    printed ∙ sym told

answered_join : (ticket : ℕ) (server : Option (List ℕ))
    → answered_line ticket server ≡ join_with_byte 32 (codes "answered" ∷ decimal ticket ∷ words_of_server server)
answered_join ticket None = refl
answered_join ticket (Some server) = simp append_assoc

packet_join : (packet frame : ℕ) (ack : Bool)
    → packet_line packet frame ack ≡ join_with_byte 32 (codes "packet" ∷ decimal packet ∷ word_of_load ack ∷ decimal frame ∷ [])
packet_join packet frame true = simp append_assoc
packet_join packet frame false = simp append_assoc

regroup_four : (a b c d : List ℕ) → a ++ b ++ c ++ d ≡ a ++ (b ++ (c ++ d))
regroup_four a b c d = simp append_assoc

regroup_five : (a b c d e : List ℕ) → a ++ b ++ c ++ d ++ e ≡ a ++ (b ++ (c ++ (d ++ e)))
regroup_five a b c d e = simp append_assoc

regroup_six : (a b c d e f : List ℕ) → a ++ b ++ c ++ d ++ e ++ f ≡ a ++ (b ++ (c ++ (d ++ (e ++ f))))
regroup_six a b c d e f = simp append_assoc

record_join : (p : SettingsValue) (carrier : Bool) (entry : Record) → IsWhole p carrier entry
    → line_of (Some p) entry ≡ join_with_byte 32 (words_of_record p entry)
record_join p carrier (item.Begin begun frames members) is = absurd is
record_join p carrier (item.Step index step) is = step_join index (text_of_step step)
record_join p carrier (item.Sent number bytes) is = sent_join number bytes (head_of p bytes)
record_join p carrier (item.Taken number) is = refl
record_join p carrier (item.Core name) is = refl
record_join p carrier (item.Gone name) is = refl
record_join p carrier (item.Walked object path) is =
    walked_join object (node_on_path path 0) (node_on_path path (length path - 1)) path (length path - 1)
record_join p carrier (item.RootOf object root) is = simp append_assoc
record_join p carrier (item.Asked ticket object asker) is = simp append_assoc
record_join p carrier (item.Answered ticket server) is = answered_join ticket server
record_join p carrier (item.Published object server) is = simp append_assoc
record_join p carrier (item.Withdrawn object server) is = simp append_assoc
record_join p carrier (item.TableOf name status links) is = absurd is
record_join p carrier (item.PointersOf name pairs) is = absurd is
record_join p carrier (item.Refused index refusal) is = refused_join index (code_of_refusal refusal) (words_of_refusal refusal)
record_join p carrier (item.Spent limit) is = refl
record_join p carrier (item.Finished steps) is = refl
record_join p carrier (item.Garbled number fault) is = garbled_join number (words_of_fault fault)
record_join p carrier (item.Abandoned name) is = refl
record_join p carrier item.Carrier is = refl
record_join p carrier (item.Packet number frame ack) is = packet_join number frame ack
record_join p carrier (item.Arrived packet) is = refl
record_join p carrier item.Ticked is = refl
record_join p carrier (item.Lost packet) is = refl
record_join p carrier (item.RootsOf object asker roots) is = roots_join object asker roots
record_join p carrier (item.CastFrom cast word level name) is =
    regroup_five (number_after (codes "cast ") cast) (codes " ") word (number_after (codes " level ") level) (name_after (codes " from ") name)
record_join p carrier (item.Reached cast name) is = refl
record_join p carrier (item.Closed cast) is = refl

-- the text of a line is its words with a space between them
pub line_join : (p : SettingsValue) (carrier : Bool) (line : Line) → IsLine p carrier line
    → text_of_line p line ≡ join_with_byte 32 (words_of_line p line)
line_join p carrier (Whole entry) is = record_join p carrier entry is
line_join p carrier (Begin begun) is =
    regroup_four (number_after (codes "begin base ") begun.settings.base) (number_after (codes " digits ") begun.settings.digits)
    (number_after (codes " width ") begun.settings.width) (number_after (codes " frames ") begun.frames)
line_join p carrier (Member name) is = refl
line_join p carrier (Table name status links) is =
    regroup_four (name_after (codes "table ") name) (codes " ") (words_of_node status) (number_after (codes " links ") links)
line_join p carrier (Link l) is =
    regroup_six (number_after (codes "link ") l.slot.level) (codes " ") (text_of_digit l.slot.digit ∷ []) (name_after (codes " ") l.name) (codes " ")
    (words_of_link l.kind)
line_join p carrier (Pointers name pairs) is = refl
line_join p carrier (Pointer pair) is =
    regroup_four (codes "pointer ") (text_of_name pair.object) (codes " ") (text_of_name pair.server)
line_join p carrier End is = sym (join_words (codes "tapestry:") (codes "no memory"))
