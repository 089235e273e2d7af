-- a line is read exactly from its one text
-- Cited above: lines_are_read_back, lines_are_told
use Rattle.std.proofs.Common.{◌≡◌, ◌↔◌, ℕ, ◌≤◌, Bool, false, List, [], ◌∷◌, codes, Some, option_map, refl, ap, sym, subst, ◌∙◌}
use Rattle.std.specs.List.{AllByRecursion, join_with_byte}
use Rattle.std.proofs.lemmas.List.Splits.{join_with_byte-slice_split}
use Rattle.tap_name.specs.Settings.{SettingsValue}
use Rattle.tap_scenario.specs.Words.{HasNoSpace, words}
use Rattle.tap_scenario.proofs.Options.{and_then-back, option_map-back}
use Rattle.tap_log.specs.declared.record.Record.{Record}
use Rattle.tap_log.specs.declared.record.Record.TheVariants as item
use Rattle.tap_report.specs.Starts.{begin_line}
use Rattle.tap_line.specs.declared.kind.Kind.{Kind}
use Rattle.tap_line.specs.declared.kind.Kind.TheVariants.{Number, Name, Pair, Begin, Step, Sent, Walked, Asked, Answered, Table, Link, Pointers, Pointer, Refused, Garbled, Carrier, Packet, Ticked, RootSet, Cast, Reached, End}
use Rattle.tap_line.specs.declared.kind.NameKind.TheVariants as named
use Rattle.tap_line.specs.declared.kind.NumberKind.TheVariants as numbered
use Rattle.tap_line.specs.declared.kind.PairKind.TheVariants as paired
use Rattle.tap_line.specs.declared.line.Beginning.{Beginning}
use Rattle.tap_line.specs.declared.line.Line.{Line}
use Rattle.tap_line.specs.declared.line.Line.TheVariants as line
use Rattle.tap_line.specs.Kind.{line_kinds, text_of_kind}
use Rattle.tap_line.specs.Laws.{LinesAreReadBack, LinesAreTold}
use Rattle.tap_line.specs.Line.{IsBeginning, IsLine, IsWhole, text_of_line}
use Rattle.tap_line.specs.Reading.{begin_of_all_words, begin_of_words, line_of_kind, line_of_words}
use Rattle.tap_line.proofs.Back.{Spelled, answered_back, asked_back, name_back, number_back, pair_back, reached_back, spelled}
use Rattle.tap_line.proofs.BackParts.{garbled_back, refused_back}
use Rattle.tap_line.proofs.BackRest.{cast_back, roots_back, sent_back, step_back, walked_back}
use Rattle.tap_line.proofs.BackTables.{begin_back, link_back, packet_back, pointer_back, pointers_back, table_back}
use Rattle.tap_line.proofs.Joins.{line_join}
use Rattle.tap_line.proofs.Plain.{plain_no_spaces}
use Rattle.tap_line.proofs.PlainLines.{line_no_feed, line_plain}
use Rattle.tap_line.proofs.Rests.{told_taken, words_unspaced}
use Rattle.tap_line.proofs.Spelling.{words_of_line, words_of_record}
use Rattle.tap_scenario.proofs.Splits.{words-join}
use Rattle.tap_line.proofs.Taken.{one_taken, only_taken, word_taken}
use Rattle.tap_line.proofs.Told.{answered_told, asked_told, begin_told, cast_told, link_line_told, name_line_told, number_line_told, packet_told, pair_line_told, pointer_told, pointers_told, reached_told, roots_told, step_told, table_told, walked_told}
use Rattle.tap_line.proofs.ToldParts.{garbled_told, refused_told, sent_told}

-- ---- a line's words are read as the line

record_read : (p : SettingsValue) (carrier : Bool) (entry : Record) → p.base ≤ 16 → IsWhole p carrier entry
    → line_of_words p carrier (words_of_record p entry) ≡ Some (line.Whole entry)
record_read p carrier (item.Begin begun frames members) small is = absurd is
record_read p carrier (item.Step index step) small is = step_told p small carrier index step is.0 is.1
record_read p carrier (item.Sent number bytes) small is = sent_told p number bytes small is.0 is.1
record_read p carrier (item.Taken number) small is = number_line_told numbered.Taken number is
record_read p carrier (item.Core name) small is = name_line_told p small named.Core name is
record_read p carrier (item.Gone name) small is = name_line_told p small named.Gone name is
record_read p carrier (item.Walked object path) small is = walked_told p small object path is.0 is.1
record_read p carrier (item.RootOf object root) small is = pair_line_told p small paired.Rooted object root is.0 is.1
record_read p carrier (item.Asked ticket object asker) small is = asked_told p small ticket object asker is.0 is.1 is.2
record_read p carrier (item.Answered ticket server) small is = answered_told p small ticket server is.0 is.1
record_read p carrier (item.Published object server) small is = pair_line_told p small paired.Published object server is.0 is.1
record_read p carrier (item.Withdrawn object server) small is = pair_line_told p small paired.Withdrawn object server is.0 is.1
record_read p carrier (item.TableOf name status links) small is = absurd is
record_read p carrier (item.PointersOf name pairs) small is = absurd is
record_read p carrier (item.Refused index why) small is = refused_told p index why small is.0 is.1
record_read p carrier (item.Spent limit) small is = number_line_told numbered.Spent limit is
record_read p carrier (item.Finished steps) small is = number_line_told numbered.Done steps is
record_read p carrier (item.Garbled number why) small is = garbled_told number why is.0 is.1
record_read p carrier (item.Abandoned name) small is = name_line_told p small named.Abandoned name is
record_read p carrier item.Carrier small is = refl
record_read p carrier (item.Packet number frame ack) small is = packet_told number frame ack is.0 is.1
record_read p carrier (item.Arrived packet) small is = number_line_told numbered.Arrived packet is
record_read p carrier item.Ticked small is = refl
record_read p carrier (item.Lost packet) small is = number_line_told numbered.Lost packet is
record_read p carrier (item.RootsOf object asker roots) small is = roots_told p small object asker roots is.0 is.1 is.2
record_read p carrier (item.CastFrom cast word level name) small is = cast_told p small cast word level name is.0 is.1 is.2 is.3
record_read p carrier (item.Reached cast name) small is = reached_told p small cast name is.0 is.1
record_read p carrier (item.Closed cast) small is = number_line_told numbered.Closed cast is

words_read : (p : SettingsValue) (carrier : Bool) (it : Line) → p.base ≤ 16 → IsLine p carrier it
    → line_of_words p carrier (words_of_line p it) ≡ Some it
words_read p carrier (line.Whole entry) small is = record_read p carrier entry small is
words_read p carrier (line.Begin begun) small is = ap (option_map line.Begin) (begin_told begun is)
words_read p carrier (line.Member name) small is = name_line_told p small named.Member name is
words_read p carrier (line.Table name status links) small is = table_told p small name status links is.0 is.1
words_read p carrier (line.Link link) small is = link_line_told p small link is
words_read p carrier (line.Pointers name pairs) small is = pointers_told p small name pairs is.0 is.1
words_read p carrier (line.Pointer pair) small is = pointer_told p small pair is.0 is.1
words_read p carrier line.End small is = refl

-- words without spaces, with a space between them, are split again
split : (p : SettingsValue) (carrier : Bool) (it : Line) (texts : List (List ℕ)) → line_of_words p carrier texts ≡ Some it
    → AllByRecursion HasNoSpace texts → words (join_with_byte 32 texts) ≡ texts
split p carrier it [] read unspaced = absurd (cc)
split p carrier it (text ∷ texts) read unspaced = words-join text texts unspaced.0 unspaced.1

-- the words of a line's text are its words
split_line : (p : SettingsValue) (carrier : Bool) (it : Line) → p.base ≤ 16 → IsLine p carrier it → words (text_of_line p it) ≡ words_of_line p it
split_line p carrier it small is =
    ap words (line_join p carrier it is)
    ∙ split p carrier it (words_of_line p it) (words_read p carrier it small is) (plain_no_spaces (words_of_line p it) (line_plain p carrier it is))

-- the text of a line is read as the line
line_read : (p : SettingsValue) (carrier : Bool) (it : Line) → p.base ≤ 16 → IsLine p carrier it
    → line_of_words p carrier (words (text_of_line p it)) ≡ Some it
line_read p carrier it small is = ap (line_of_words p carrier) (split_line p carrier it small is) ∙ words_read p carrier it small is

-- ---- and only its text is

begin_line_back : (p : SettingsValue) (carrier : Bool) (texts : List (List ℕ)) (found : Line)
    → option_map line.Begin (begin_of_words texts) ≡ Some found → Spelled p carrier (codes "begin" ∷ texts) found
begin_line_back p carrier texts found read =
    let a = option_map-back line.Begin (begin_of_words texts) found read in
    let back = begin_back texts a.0 a.1 in
    spelled p carrier (codes "begin" ∷ texts) (line.Begin a.0) found a.2 (ap (λ l. codes "begin" ∷ l) back.0, back.1)

of_kind_back : (p : SettingsValue) (carrier : Bool) (kind : Kind) (texts : List (List ℕ)) (found : Line) → p.base ≤ 16
    → AllByRecursion HasNoSpace texts → line_of_kind p carrier kind texts ≡ Some found → Spelled p carrier (text_of_kind kind ∷ texts) found
of_kind_back p carrier (Number kind) texts found small unspaced read = number_back p carrier kind texts found read
of_kind_back p carrier (Name kind) texts found small unspaced read = name_back p carrier small kind texts found read
of_kind_back p carrier (Pair kind) texts found small unspaced read = pair_back p carrier small kind texts found read
of_kind_back p carrier Begin texts found small unspaced read = begin_line_back p carrier texts found read
of_kind_back p carrier Step texts found small unspaced read = step_back p carrier small texts found unspaced read
of_kind_back p carrier Sent texts found small unspaced read = sent_back p carrier texts found small read
of_kind_back p carrier Walked texts found small unspaced read = walked_back p carrier texts found small read
of_kind_back p carrier Asked texts found small unspaced read = asked_back p carrier small texts found read
of_kind_back p carrier Answered texts found small unspaced read = answered_back p carrier small texts found read
of_kind_back p carrier Table texts found small unspaced read = table_back p carrier small texts found read
of_kind_back p carrier Link texts found small unspaced read = link_back p carrier small texts found read
of_kind_back p carrier Pointers texts found small unspaced read = pointers_back p carrier small texts found read
of_kind_back p carrier Pointer texts found small unspaced read = pointer_back p carrier small texts found read
of_kind_back p carrier Refused texts found small unspaced read = refused_back p carrier texts found small unspaced read
of_kind_back p carrier Garbled texts found small unspaced read = garbled_back p carrier texts found read
of_kind_back p carrier Carrier texts found small unspaced read =
    let last = only_taken (line.Whole item.Carrier) found texts read in
    spelled p carrier (codes "carrier" ∷ texts) (line.Whole item.Carrier) found last.1 (ap (λ l. codes "carrier" ∷ l) last.0, tt)
of_kind_back p carrier Packet texts found small unspaced read = packet_back p carrier texts found read
of_kind_back p carrier Ticked texts found small unspaced read =
    let last = only_taken (line.Whole item.Ticked) found texts read in
    spelled p carrier (codes "ticked" ∷ texts) (line.Whole item.Ticked) found last.1 (ap (λ l. codes "ticked" ∷ l) last.0, tt)
of_kind_back p carrier RootSet texts found small unspaced read = roots_back p carrier small texts found read
of_kind_back p carrier Cast texts found small unspaced read = cast_back p carrier small texts found read
of_kind_back p carrier Reached texts found small unspaced read = reached_back p carrier small texts found read
of_kind_back p carrier End texts found small unspaced read =
    let last = told_taken (codes "no memory") line.End found texts unspaced read in
    spelled p carrier (codes "tapestry:" ∷ texts) line.End found last.1 (ap (λ l. codes "tapestry:" ∷ l) last.0, tt)

words_back : (p : SettingsValue) (carrier : Bool) (texts : List (List ℕ)) (found : Line) → p.base ≤ 16
    → AllByRecursion HasNoSpace texts → line_of_words p carrier texts ≡ Some found → Spelled p carrier texts found
words_back p carrier texts found small unspaced read =
    let a = and_then-back _ _ found read in
    let first = one_taken text_of_kind line_kinds texts a.0 a.1 in
    subst (λ l. Spelled p carrier l found) (sym first)
    (of_kind_back p carrier a.0.0 a.0.1 found small (subst (AllByRecursion HasNoSpace) first unspaced).1 a.2)

line_back : (p : SettingsValue) (carrier : Bool) (text : List ℕ) (found : Line) → p.base ≤ 16
    → line_of_words p carrier (words text) ≡ Some found → (text ≡ text_of_line p found) × IsLine p carrier found
line_back p carrier text found small read =
    let back = words_back p carrier (words text) found small (words_unspaced text) read in
    (sym (join_with_byte-slice_split 32 text) ∙ ap (join_with_byte 32) back.0 ∙ sym (line_join p carrier found back.1), back.1)

-- both at once
line_exact : (p : SettingsValue) (carrier : Bool) (text : List ℕ) (found : Line) → p.base ≤ 16
    → (line_of_words p carrier (words text) ≡ Some found) ↔ ((text ≡ text_of_line p found) × IsLine p carrier found)
line_exact p carrier text found small =
    (line_back p carrier text found small, λ is. ap (λ t. line_of_words p carrier (words t)) is.0 ∙ line_read p carrier found small is.1)

-- a beginning before any settings
begin_exact : (text : List ℕ) (begun : Beginning)
    → (begin_of_all_words (words text) ≡ Some begun) ↔ ((text ≡ begin_line begun.settings begun.frames) × IsBeginning begun)
begin_exact text begun = (back, told)
  where
    back : begin_of_all_words (words text) ≡ Some begun → (text ≡ begin_line begun.settings begun.frames) × IsBeginning begun
    back read =
        let a = and_then-back _ _ begun read in
        let first = word_taken (codes "begin") (words text) a.0 a.1 in
        let is = begin_back a.0.1 begun a.2 in (
          sym (join_with_byte-slice_split 32 text) ∙ ap (join_with_byte 32) (first ∙ ap (λ l. codes "begin" ∷ l) is.0)
              ∙ sym (line_join begun.settings false (line.Begin begun) is.1),
          is.1,
        )

    told : (text ≡ begin_line begun.settings begun.frames) × IsBeginning begun → begin_of_all_words (words text) ≡ Some begun
    told is =
        ap begin_of_all_words (ap words is.0 ∙ split_line begun.settings false (line.Begin begun) is.1.limits.base_to is.1) ∙ begin_told begun is.1

-- no line has a line feed, and no two lines have one text
pub lines_are_told : LinesAreTold
lines_are_told = record {
  no_feed = λ p carrier it limits is. line_no_feed p carrier it is;
  one_line = λ p carrier it other limits is also same.
      let first = line_read p carrier it limits.base_to is in
      let second = line_read p carrier other limits.base_to also in
      let both : Some it ≡ Some other = sym first ∙ ap (λ t. line_of_words p carrier (words t)) same ∙ second in
      cc;
}

-- a text is read exactly as the line whose text it is
pub lines_are_read_back : LinesAreReadBack
lines_are_read_back = record {
  any_line = λ p carrier text it limits. line_exact p carrier text it limits.base_to;
  beginning = begin_exact;
}
