-- the words of refusals, faults and frames are read as the line
use Rattle.std.proofs.Common.{◌≡◌, ◌==◌, ℕ, ◌^◌, ◌<◌, ◌≤◌, true, not, bytes_eq, arith, List, [], ◌∷◌, decimal, codes, IsOk, Some, option_map, Result, Ok, Err, refl, ap, sym, ◌∙◌}
use Rattle.std.specs.List.{join_with_byte, list_all}
use Rattle.std.proofs.lemmas.Slice.Eq.{bytes_eq-Decides}
use Rattle.tap_name.specs.Settings.{SettingsValue}
use Rattle.tap_name.specs.Name.{text_of_name}
use Rattle.tap_name.proofs.Texts.{name_of_word-text}
use Rattle.tap_scenario.specs.Step.{number_below}
use Rattle.tap_scenario.specs.Words.{words}
use Rattle.tap_wire.specs.Reading.{head_of}
use Rattle.tap_wire.specs.declared.fault.HeadFault.{HeadFault}
use Rattle.tap_wire.specs.declared.fault.WireFault.{WireFault}
use Rattle.tap_wire.specs.declared.fault.WireFault.TheVariants as fault
use Rattle.tap_wire.specs.declared.frame.Head.{Head}
use Rattle.tap_log.specs.declared.record.Record.TheVariants as item
use Rattle.tap_log.specs.declared.record.Refusal.{Refusal}
use Rattle.tap_log.specs.declared.record.Refusal.TheVariants as refusal
use Rattle.tap_report.specs.Frames.{word_of_kind, words_of_fault}
use Rattle.tap_report.specs.Refusal.{code_of_refusal, words_of_refusal}
use Rattle.tap_line.specs.declared.line.Line.TheVariants as line
use Rattle.tap_line.specs.Fault.{fault_of_words, garbled_of_words}
use Rattle.tap_line.specs.Line.{IsFault, IsRefusal, IsSent}
use Rattle.tap_line.specs.Reading.{is_head, sent_of_words}
use Rattle.tap_line.specs.declared.refusals.RefusalKind.{RefusalKind}
use Rattle.tap_line.specs.declared.refusals.RefusalKind.TheVariants.{NoSuchNode, NotCore, Departing, NotAtRest, NameTaken, TooManyNodes, LastNode, AlreadyPublished, NotPublished, NoSuchFlight, NoSuchByte, Readable, NotJoining, AlreadyAbandoned, TooManyPackets, NotInPrefix}
use Rattle.tap_line.specs.Refusal.{counted, departing_of_words, refusal_of_kind, refusal_of_words, refused_of_words}
use Rattle.tap_line.proofs.BackParts.{bad_words, counted_words, departing_words, one_words}
use Rattle.tap_line.proofs.Codes.{code_chosen, code_text, number_of}
use Rattle.tap_line.proofs.Hexes.{hex_told}
use Rattle.tap_line.proofs.Spelling.{words_of_head}
use Rattle.tap_line.proofs.Taken.{number_told}

-- ---- refusals

small_told : (n : ℕ) → n < 2 ^ 32 → number_below (2 ^ 32) (decimal n) ≡ Some n
small_told n is = number_told (2 ^ 32) n is (omega arith)

same_bytes : (word : List ℕ) → bytes_eq word word ≡ true
same_bytes word = (bytes_eq-Decides word word).1 refl

counted_told : (a b c : List ℕ) (n : ℕ) → list_all (λ byte. not (byte == 32)) a ≡ true → list_all (λ byte. not (byte == 32)) b ≡ true
    → list_all (λ byte. not (byte == 32)) c ≡ true → n < 2 ^ 32 → counted a b c (words (join_with_byte 32 (a ∷ b ∷ c ∷ decimal n ∷ []))) ≡ Some n
counted_told a b c n one two three is =
    let first = same_bytes a in
    let second = same_bytes b in
    let third = same_bytes c in
    let number = small_told n is in
    ap (counted a b c) (counted_words a b c n one two three is) ∙ rw (first, second, third, number) refl

-- after its code, the words of a refusal are read as it
after_code : (p : SettingsValue) (kind : RefusalKind) (texts : List (List ℕ)) (why : Refusal) → refusal_of_kind p kind texts ≡ Some why
    → refusal_of_words p (decimal (number_of kind) ∷ texts) ≡ Some why
after_code p kind texts why is =
    let chosen = code_chosen kind in
    ap (λ code. refusal_of_words p (code ∷ texts)) (sym (code_text kind)) ∙ rw chosen is

refusal_told : (p : SettingsValue) (why : Refusal) → p.base ≤ 16 → IsRefusal p why
    → refusal_of_words p (decimal (code_of_refusal why) ∷ words (words_of_refusal why)) ≡ Some why
refusal_told p refusal.NoSuchNode small is = after_code p NoSuchNode (words (words_of_refusal refusal.NoSuchNode)) refusal.NoSuchNode refl
refusal_told p refusal.NotCore small is = after_code p NotCore (words (words_of_refusal refusal.NotCore)) refusal.NotCore refl
refusal_told p (refusal.Departing leaver) small is =
    let name = name_of_word-text p leaver small is in
    let told : departing_of_words p (codes "departing" ∷ text_of_name leaver ∷ []) ≡ Some (refusal.Departing leaver) = rw name refl in
    after_code p Departing (words (words_of_refusal (refusal.Departing leaver))) (refusal.Departing leaver)
    (ap (departing_of_words p) (departing_words leaver) ∙ told)
refusal_told p (refusal.NotAtRest count) small is =
    after_code p NotAtRest (words (words_of_refusal (refusal.NotAtRest count))) (refusal.NotAtRest count)
    (ap (option_map refusal.NotAtRest) (counted_told (codes "not") (codes "at") (codes "rest") count refl refl refl is))
refusal_told p refusal.NameTaken small is = after_code p NameTaken (words (words_of_refusal refusal.NameTaken)) refusal.NameTaken refl
refusal_told p refusal.TooManyNodes small is = after_code p TooManyNodes (words (words_of_refusal refusal.TooManyNodes)) refusal.TooManyNodes refl
refusal_told p refusal.LastNode small is = after_code p LastNode (words (words_of_refusal refusal.LastNode)) refusal.LastNode refl
refusal_told p refusal.AlreadyPublished small is = after_code p AlreadyPublished (words (words_of_refusal refusal.AlreadyPublished)) refusal.AlreadyPublished refl
refusal_told p refusal.NotPublished small is = after_code p NotPublished (words (words_of_refusal refusal.NotPublished)) refusal.NotPublished refl
refusal_told p (refusal.NoSuchFlight count) small is =
    after_code p NoSuchFlight (words (words_of_refusal (refusal.NoSuchFlight count))) (refusal.NoSuchFlight count)
    (ap (option_map refusal.NoSuchFlight) (counted_told (codes "no") (codes "such") (codes "flight") count refl refl refl is))
refusal_told p (refusal.NoSuchByte count) small is =
    after_code p NoSuchByte (words (words_of_refusal (refusal.NoSuchByte count))) (refusal.NoSuchByte count)
    (ap (option_map refusal.NoSuchByte) (counted_told (codes "no") (codes "such") (codes "byte") count refl refl refl is))
refusal_told p refusal.Readable small is = after_code p Readable (words (words_of_refusal refusal.Readable)) refusal.Readable refl
refusal_told p refusal.NotJoining small is = after_code p NotJoining (words (words_of_refusal refusal.NotJoining)) refusal.NotJoining refl
refusal_told p refusal.AlreadyAbandoned small is = after_code p AlreadyAbandoned (words (words_of_refusal refusal.AlreadyAbandoned)) refusal.AlreadyAbandoned refl
refusal_told p (refusal.TooManyPackets count) small is =
    after_code p TooManyPackets (words (words_of_refusal (refusal.TooManyPackets count))) (refusal.TooManyPackets count)
    (ap (option_map refusal.TooManyPackets) (counted_told (codes "too") (codes "many") (codes "packets") count refl refl refl is))
refusal_told p refusal.NotInPrefix small is = after_code p NotInPrefix (words (words_of_refusal refusal.NotInPrefix)) refusal.NotInPrefix refl

pub refused_told : (p : SettingsValue) (index : ℕ) (why : Refusal) → p.base ≤ 16 → index < 2 ^ 32 → IsRefusal p why
    → refused_of_words p (decimal index ∷ decimal (code_of_refusal why) ∷ words (words_of_refusal why)) ≡ Some (line.Whole (item.Refused index why))
refused_told p index why small is also =
    let first = small_told index is in
    rw first (ap (option_map (λ it. line.Whole (item.Refused index it))) (refusal_told p why small also))

-- ---- faults

fault_told : (why : WireFault) → IsFault why → fault_of_words (words (words_of_fault why)) ≡ Some why
fault_told (fault.Short n) is =
    let number = number_told (2 ^ 64) n is (omega arith) in ap fault_of_words (one_words (codes "short") n refl is) ∙ rw number refl
fault_told (fault.BadVersion n) is =
    let number = number_told 256 n is (omega arith) in
    ap fault_of_words (bad_words (codes "version") n refl (omega (arith, is))) ∙ rw number refl
fault_told (fault.BadKind n) is =
    let number = number_told 256 n is (omega arith) in
    ap fault_of_words (bad_words (codes "kind") n refl (omega (arith, is))) ∙ rw number refl
fault_told (fault.BadLength n) is =
    let number = number_told (2 ^ 16) n is (omega arith) in
    ap fault_of_words (bad_words (codes "length") n refl (omega (arith, is))) ∙ rw number refl
fault_told (fault.BadCount n) is =
    let number = number_told 256 n is (omega arith) in
    ap fault_of_words (bad_words (codes "count") n refl (omega (arith, is))) ∙ rw number refl
fault_told (fault.Trailing n) is =
    let number = number_told (2 ^ 64) n is (omega arith) in ap fault_of_words (one_words (codes "trailing") n refl is) ∙ rw number refl
fault_told (fault.BadDigit n) is =
    let number = number_told (2 ^ 64) n is (omega arith) in ap fault_of_words (bad_words (codes "digit") n refl is) ∙ rw number refl
fault_told (fault.BadBody n) is =
    let number = number_told (2 ^ 64) n is (omega arith) in ap fault_of_words (bad_words (codes "body") n refl is) ∙ rw number refl
fault_told fault.NoMemory is = absurd is

pub garbled_told : (number : ℕ) (why : WireFault) → number < 2 ^ 32 → IsFault why
    → garbled_of_words (decimal number ∷ words (words_of_fault why)) ≡ Some (line.Whole (item.Garbled number why))
garbled_told number why is also =
    let first = small_told number is in
    rw first (ap (option_map (λ it. line.Whole (item.Garbled number it))) (fault_told why also))

-- ---- frames

sent_by : (p : SettingsValue) (number : ℕ) (bytes : List ℕ) (read : Result Head HeadFault) → p.base ≤ 16 → number < 2 ^ 32 → IsSent p bytes
    → head_of p bytes ≡ read → IsOk read
    → sent_of_words p (decimal number ∷ words_of_head read bytes) ≡ Some (line.Whole (item.Sent number bytes))
sent_by p number bytes (Err fault) small is sent head ok = absurd (cc)
sent_by p number bytes (Ok head) small is sent said ok =
    let first = small_told number is in
    let fourth = hex_told bytes sent.each in
    let kind = same_bytes (word_of_kind head.kind) in
    let from = same_bytes (text_of_name head.from) in
    let to = same_bytes (text_of_name head.to) in
    let holds : is_head p bytes (word_of_kind head.kind) (text_of_name head.from) (text_of_name head.to) ≡ true = rw (said, kind, from, to) refl in
    rw (first, fourth, holds) refl

pub sent_told : (p : SettingsValue) (number : ℕ) (bytes : List ℕ) → p.base ≤ 16 → number < 2 ^ 32 → IsSent p bytes
    → sent_of_words p (decimal number ∷ words_of_head (head_of p bytes) bytes) ≡ Some (line.Whole (item.Sent number bytes))
sent_told p number bytes small is sent = sent_by p number bytes (head_of p bytes) small is sent refl sent.head
