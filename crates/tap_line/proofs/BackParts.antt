-- what is read as a refusal or a fault has its words
use Rattle.std.proofs.Common.{◌≡◌, ◌==◌, ℕ, ◌^◌, ◌<◌, ◌≤◌, Bool, true, not, arith, List, [], ◌∷◌, decimal, codes, Some, option_map, refl, ap, sym, subst, ◌∙◌}
use Rattle.std.specs.List.{AllByRecursion, join_with_byte, list_all}
use Rattle.tap_name.specs.Settings.{SettingsValue}
use Rattle.tap_name.specs.Name.{text_of_name}
use Rattle.tap_name.proofs.Texts.{text_of_name-no_space}
use Rattle.tap_scenario.specs.Step.{one_number}
use Rattle.tap_scenario.specs.Words.{HasNoSpace, words}
use Rattle.tap_scenario.proofs.Options.{and_then-back, option_map-back}
use Rattle.tap_scenario.proofs.StepTexts.{no_space}
use Rattle.tap_wire.specs.declared.fault.WireFault.{WireFault}
use Rattle.tap_wire.specs.declared.fault.WireFault.TheVariants as fault
use Rattle.tap_log.specs.declared.record.Record.TheVariants as item
use Rattle.tap_log.specs.declared.record.Refusal.{Refusal}
use Rattle.tap_log.specs.declared.record.Refusal.TheVariants as refusal
use Rattle.tap_report.specs.Frames.{words_of_fault}
use Rattle.tap_report.specs.Refusal.{code_of_refusal, words_of_refusal}
use Rattle.tap_line.specs.declared.line.Line.{Line}
use Rattle.tap_line.specs.declared.line.Line.TheVariants as line
use Rattle.tap_line.specs.declared.refusals.RefusalKind.{RefusalKind}
use Rattle.tap_line.specs.declared.refusals.RefusalKind.TheVariants.{NoSuchNode, NotCore, Departing, NotAtRest, NameTaken, TooManyNodes, LastNode, AlreadyPublished, NotPublished, NoSuchFlight, NoSuchByte, Readable, NotJoining, AlreadyAbandoned, TooManyPackets, NotInPrefix}
use Rattle.tap_line.specs.declared.refusals.FaultKind.{FaultKind}
use Rattle.tap_line.specs.declared.refusals.FaultKind.TheVariants.{Short, Trailing, Bad}
use Rattle.tap_line.specs.declared.refusals.BadKind.{BadKind}
use Rattle.tap_line.specs.declared.refusals.BadKind.TheVariants.{Version, Kind, Length, Count, Digit, Body}
use Rattle.tap_line.specs.Fault.{bad_kinds, bad_of_kind, fault_kinds, fault_of_kind, fault_of_words, garbled_of_words, text_of_bad, text_of_fault}
use Rattle.tap_line.specs.Front.{told}
use Rattle.tap_line.specs.Line.{IsFault, IsRefusal}
use Rattle.tap_line.specs.Refusal.{counted, departing_of_words, refusal_kinds, refusal_of_kind, refusal_of_words, refused_of_words, text_of_code}
use Rattle.tap_line.proofs.Back.{Spelled, spelled}
use Rattle.tap_line.proofs.Codes.{code_text}
use Rattle.tap_scenario.proofs.Numbers.{no_space_decimal}
use Rattle.tap_line.proofs.Rests.{told_taken}
use Rattle.tap_scenario.proofs.Splits.{words-join}
use Rattle.tap_line.proofs.Taken.{name_taken, number_taken, one_number_taken, one_taken, only_taken, word_taken}

-- ---- the words of a phrase with a number or a name

pub counted_words : (a b c : List ℕ) (n : ℕ) → list_all (λ byte. not (byte == 32)) a ≡ true → list_all (λ byte. not (byte == 32)) b ≡ true
    → list_all (λ byte. not (byte == 32)) c ≡ true → n < 2 ^ 32
    → words (join_with_byte 32 (a ∷ b ∷ c ∷ decimal n ∷ [])) ≡ a ∷ b ∷ c ∷ decimal n ∷ []
counted_words a b c n one two three is =
    words-join a (b ∷ c ∷ decimal n ∷ []) (no_space a one) (no_space b two, (no_space c three, (no_space_decimal n (omega (arith, is)), tt)))

pub departing_words : (name : List ℕ) → words (words_of_refusal (refusal.Departing name)) ≡ codes "departing" ∷ text_of_name name ∷ []
departing_words name =
    words-join (codes "departing") (text_of_name name ∷ []) (no_space (codes "departing") refl) (text_of_name-no_space name, tt)

pub one_words : (a : List ℕ) (n : ℕ) → list_all (λ byte. not (byte == 32)) a ≡ true → n < 2 ^ 64
    → words (join_with_byte 32 (a ∷ decimal n ∷ [])) ≡ a ∷ decimal n ∷ []
one_words a n one is = words-join a (decimal n ∷ []) (no_space a one) (no_space_decimal n is, tt)

pub bad_words : (a : List ℕ) (n : ℕ) → list_all (λ byte. not (byte == 32)) a ≡ true → n < 2 ^ 64
    → words (join_with_byte 32 (codes "bad" ∷ a ∷ decimal n ∷ [])) ≡ codes "bad" ∷ a ∷ decimal n ∷ []
bad_words a n one is =
    words-join (codes "bad") (a ∷ decimal n ∷ []) (no_space (codes "bad") refl) (no_space a one, (no_space_decimal n is, tt))

-- ---- refusals

-- after a code these are the words of a refusal
abbrev pub SpelledRefusal : SettingsValue → List ℕ → List (List ℕ) → Refusal → Type 0
SpelledRefusal p code texts why = (code ≡ decimal (code_of_refusal why)) × (texts ≡ words (words_of_refusal why)) × IsRefusal p why

counted_back : (a b c : List ℕ) (texts : List (List ℕ)) (n : ℕ) → counted a b c texts ≡ Some n
    → (texts ≡ a ∷ b ∷ c ∷ decimal n ∷ []) × (n < 2 ^ 32)
counted_back a b c texts n read =
    let one = and_then-back _ _ n read in
    let two = and_then-back _ _ n one.2 in
    let three = and_then-back _ _ n two.2 in
    let four = and_then-back _ _ n three.2 in
    let first = word_taken a texts one.0 one.1 in
    let second = word_taken b one.0.1 two.0 two.1 in
    let third = word_taken c two.0.1 three.0 three.1 in
    let fourth = number_taken (2 ^ 32) three.0.1 four.0 four.1 in
    let last = only_taken four.0.0 n four.0.1 four.2 in
    let is = last.1 in
    let whole : texts ≡ a ∷ b ∷ c ∷ decimal four.0.0 ∷ [] = cc (first, second, third, fourth.0, last.0) in
    (whole ∙ ap (λ m. a ∷ b ∷ c ∷ decimal m ∷ []) is, subst (λ m. m < 2 ^ 32) is fourth.1)

module _ (p : SettingsValue) (small : p.base ≤ 16) (texts : List (List ℕ)) (why : Refusal) where
  -- one that is told by its words alone
  plain_back : (code phrase : List ℕ) (made : Refusal) → code ≡ decimal (code_of_refusal made) → phrase ≡ words_of_refusal made → IsRefusal p made
      → AllByRecursion HasNoSpace texts → told phrase made texts ≡ Some why → SpelledRefusal p code texts why
  plain_back code phrase made code_is phrase_is is unspaced read =
      let back = told_taken phrase made why texts unspaced read in
      subst (SpelledRefusal p code texts) back.1 (code_is, back.0 ∙ ap words phrase_is, is)

  -- one with a number
  number_back : (code a b c : List ℕ) (make : ℕ → Refusal) → ((n : ℕ) → code ≡ decimal (code_of_refusal (make n)))
      → ((n : ℕ) → join_with_byte 32 (a ∷ b ∷ c ∷ decimal n ∷ []) ≡ words_of_refusal (make n)) → ((n : ℕ) → n < 2 ^ 32 → IsRefusal p (make n))
      → list_all (λ byte. not (byte == 32)) a ≡ true → list_all (λ byte. not (byte == 32)) b ≡ true
      → list_all (λ byte. not (byte == 32)) c ≡ true → option_map make (counted a b c texts) ≡ Some why → SpelledRefusal p code texts why
  number_back code a b c make code_is phrase_is is one two three read =
      let made = option_map-back make (counted a b c texts) why read in
      let back = counted_back a b c texts made.0 made.1 in
      let whole : texts ≡ words (words_of_refusal (make made.0)) =
      back.0 ∙ sym (counted_words a b c made.0 one two three back.1) ∙ ap words (phrase_is made.0) in
      subst (SpelledRefusal p code texts) made.2 (code_is made.0, whole, is made.0 back.1)

  departing_back : departing_of_words p texts ≡ Some why → SpelledRefusal p (codes "3") texts why
  departing_back read =
      let one = and_then-back _ _ why read in
      let two = and_then-back _ _ why one.2 in
      let first = word_taken (codes "departing") texts one.0 one.1 in
      let second = name_taken p one.0.1 two.0 small two.1 in
      let last = only_taken (refusal.Departing two.0.0) why two.0.1 two.2 in
      let whole : texts ≡ codes "departing" ∷ text_of_name two.0.0 ∷ [] = cc (first, second.0, last.0) in
      subst (SpelledRefusal p (codes "3") texts) last.1 (code_text Departing, whole ∙ sym (departing_words two.0.0), second.1)

  of_kind_back : (kind : RefusalKind) → AllByRecursion HasNoSpace texts → refusal_of_kind p kind texts ≡ Some why
      → SpelledRefusal p (text_of_code kind) texts why
  of_kind_back NoSuchNode unspaced read = plain_back (codes "1") (codes "no such node") refusal.NoSuchNode (code_text NoSuchNode) refl tt unspaced read
  of_kind_back NotCore unspaced read = plain_back (codes "2") (codes "not core") refusal.NotCore (code_text NotCore) refl tt unspaced read
  of_kind_back Departing unspaced read = departing_back read
  of_kind_back NotAtRest unspaced read =
      number_back (codes "4") (codes "not") (codes "at") (codes "rest") refusal.NotAtRest (λ n. code_text NotAtRest) (λ n. refl) (λ n is. is) refl refl refl read
  of_kind_back NameTaken unspaced read = plain_back (codes "5") (codes "name taken") refusal.NameTaken (code_text NameTaken) refl tt unspaced read
  of_kind_back TooManyNodes unspaced read = plain_back (codes "6") (codes "too many nodes") refusal.TooManyNodes (code_text TooManyNodes) refl tt unspaced read
  of_kind_back LastNode unspaced read = plain_back (codes "7") (codes "last node") refusal.LastNode (code_text LastNode) refl tt unspaced read
  of_kind_back AlreadyPublished unspaced read =
      plain_back (codes "8") (codes "already published") refusal.AlreadyPublished (code_text AlreadyPublished) refl tt unspaced read
  of_kind_back NotPublished unspaced read = plain_back (codes "9") (codes "not published") refusal.NotPublished (code_text NotPublished) refl tt unspaced read
  of_kind_back NoSuchFlight unspaced read =
      number_back (codes "10") (codes "no") (codes "such") (codes "flight") refusal.NoSuchFlight (λ n. code_text NoSuchFlight) (λ n. refl) (λ n is. is) refl refl refl read
  of_kind_back NoSuchByte unspaced read =
      number_back (codes "11") (codes "no") (codes "such") (codes "byte") refusal.NoSuchByte (λ n. code_text NoSuchByte) (λ n. refl) (λ n is. is) refl refl refl read
  of_kind_back Readable unspaced read = plain_back (codes "12") (codes "readable") refusal.Readable (code_text Readable) refl tt unspaced read
  of_kind_back NotJoining unspaced read = plain_back (codes "13") (codes "not joining") refusal.NotJoining (code_text NotJoining) refl tt unspaced read
  of_kind_back AlreadyAbandoned unspaced read =
      plain_back (codes "14") (codes "already abandoned") refusal.AlreadyAbandoned (code_text AlreadyAbandoned) refl tt unspaced read
  of_kind_back TooManyPackets unspaced read =
      number_back (codes "15") (codes "too") (codes "many") (codes "packets") refusal.TooManyPackets (λ n. code_text TooManyPackets) (λ n. refl) (λ n is. is) refl refl refl read
  of_kind_back NotInPrefix unspaced read = plain_back (codes "16") (codes "not in prefix") refusal.NotInPrefix (code_text NotInPrefix) refl tt unspaced read

pub refused_back : (p : SettingsValue) (carrier : Bool) (texts : List (List ℕ)) (found : Line) → p.base ≤ 16 → AllByRecursion HasNoSpace texts
    → refused_of_words p texts ≡ Some found → Spelled p carrier (codes "refused" ∷ texts) found
refused_back p carrier texts found small unspaced read =
    let a = and_then-back _ _ found read in
    let b = option_map-back (λ why. line.Whole (item.Refused a.0.0 why)) (refusal_of_words p a.0.1) found a.2 in
    let c = and_then-back _ _ b.0 b.1 in
    let first = number_taken (2 ^ 32) texts a.0 a.1 in
    let second = one_taken text_of_code refusal_kinds a.0.1 c.0 c.1 in
    let split : texts ≡ decimal a.0.0 ∷ text_of_code c.0.0 ∷ c.0.1 = cc (first.0, second) in
    let third = of_kind_back p small c.0.1 b.0 c.0.0 (subst (AllByRecursion HasNoSpace) split unspaced).1.1 c.2 in
    let code = third.0 in
    let rest = third.1 in
    let whole : codes "refused" ∷ texts ≡ codes "refused" ∷ decimal a.0.0 ∷ decimal (code_of_refusal b.0) ∷ words (words_of_refusal b.0) =
    ap (λ l. codes "refused" ∷ l) (split ∙ ap (λ l. decimal a.0.0 ∷ text_of_code c.0.0 ∷ l) rest
    ∙ ap (λ w. decimal a.0.0 ∷ w ∷ words (words_of_refusal b.0)) code) in
    spelled p carrier (codes "refused" ∷ texts) (line.Whole (item.Refused a.0.0 b.0)) found b.2 (whole, (first.1, third.2))

-- ---- faults

abbrev pub SpelledFault : List (List ℕ) → WireFault → Type 0
SpelledFault texts why = (texts ≡ words (words_of_fault why)) × IsFault why

module _ (texts : List (List ℕ)) (why : WireFault) where
  -- one that begins with this word
  one_back : (a : List ℕ) (limit : ℕ) (make : ℕ → WireFault) → ((n : ℕ) → join_with_byte 32 (a ∷ decimal n ∷ []) ≡ words_of_fault (make n))
      → ((n : ℕ) → n < limit → IsFault (make n)) → list_all (λ byte. not (byte == 32)) a ≡ true → limit ≤ 2 ^ 64
      → option_map make (one_number limit texts) ≡ Some why → SpelledFault (a ∷ texts) why
  one_back a limit make phrase_is is one most read =
      let made = option_map-back make (one_number limit texts) why read in
      let back = one_number_taken limit texts made.0 made.1 in
      let below = back.1 in
      let whole : a ∷ texts ≡ words (words_of_fault (make made.0)) =
      ap (λ l. a ∷ l) back.0 ∙ sym (one_words a made.0 one (omega (arith, below, most))) ∙ ap words (phrase_is made.0) in
      subst (SpelledFault (a ∷ texts)) made.2 (whole, is made.0 below)

  -- one that begins with `bad` and this word
  part_back : (a : List ℕ) (limit : ℕ) (make : ℕ → WireFault)
      → ((n : ℕ) → join_with_byte 32 (codes "bad" ∷ a ∷ decimal n ∷ []) ≡ words_of_fault (make n))
      → ((n : ℕ) → n < limit → IsFault (make n)) → list_all (λ byte. not (byte == 32)) a ≡ true → limit ≤ 2 ^ 64
      → option_map make (one_number limit texts) ≡ Some why → SpelledFault (codes "bad" ∷ a ∷ texts) why
  part_back a limit make phrase_is is one most read =
      let made = option_map-back make (one_number limit texts) why read in
      let back = one_number_taken limit texts made.0 made.1 in
      let below = back.1 in
      let whole : codes "bad" ∷ a ∷ texts ≡ words (words_of_fault (make made.0)) =
      ap (λ l. codes "bad" ∷ a ∷ l) back.0 ∙ sym (bad_words a made.0 one (omega (arith, below, most))) ∙ ap words (phrase_is made.0) in
      subst (SpelledFault (codes "bad" ∷ a ∷ texts)) made.2 (whole, is made.0 below)

  bad_back : (kind : BadKind) → bad_of_kind kind texts ≡ Some why → SpelledFault (codes "bad" ∷ text_of_bad kind ∷ texts) why
  bad_back Version read = part_back (codes "version") 256 fault.BadVersion (λ n. refl) (λ n is. is) refl (omega arith) read
  bad_back Kind read = part_back (codes "kind") 256 fault.BadKind (λ n. refl) (λ n is. is) refl (omega arith) read
  bad_back Length read = part_back (codes "length") (2 ^ 16) fault.BadLength (λ n. refl) (λ n is. is) refl (omega arith) read
  bad_back Count read = part_back (codes "count") 256 fault.BadCount (λ n. refl) (λ n is. is) refl (omega arith) read
  bad_back Digit read = part_back (codes "digit") (2 ^ 64) fault.BadDigit (λ n. refl) (λ n is. is) refl (omega arith) read
  bad_back Body read = part_back (codes "body") (2 ^ 64) fault.BadBody (λ n. refl) (λ n is. is) refl (omega arith) read

fault_back : (texts : List (List ℕ)) (why : WireFault) (kind : FaultKind) → fault_of_kind kind texts ≡ Some why
    → SpelledFault (text_of_fault kind ∷ texts) why
fault_back texts why Short read = one_back texts why (codes "short") (2 ^ 64) fault.Short (λ n. refl) (λ n is. is) refl (omega arith) read
fault_back texts why Trailing read =
    one_back texts why (codes "trailing") (2 ^ 64) fault.Trailing (λ n. refl) (λ n is. is) refl (omega arith) read
fault_back texts why Bad read =
    let a = and_then-back _ _ why read in
    let first = one_taken text_of_bad bad_kinds texts a.0 a.1 in
    subst (λ l. SpelledFault (codes "bad" ∷ l) why) (sym first) (bad_back a.0.1 why a.0.0 a.2)

pub garbled_back : (p : SettingsValue) (carrier : Bool) (texts : List (List ℕ)) (found : Line) → garbled_of_words texts ≡ Some found
    → Spelled p carrier (codes "garbled" ∷ texts) found
garbled_back p carrier texts found read =
    let a = and_then-back _ _ found read in
    let b = option_map-back (λ why. line.Whole (item.Garbled a.0.0 why)) (fault_of_words a.0.1) found a.2 in
    let c = and_then-back _ _ b.0 b.1 in
    let first = number_taken (2 ^ 32) texts a.0 a.1 in
    let second = one_taken text_of_fault fault_kinds a.0.1 c.0 c.1 in
    let third = fault_back c.0.1 b.0 c.0.0 c.2 in
    let whole : codes "garbled" ∷ texts ≡ codes "garbled" ∷ decimal a.0.0 ∷ words (words_of_fault b.0) =
    ap (λ l. codes "garbled" ∷ l) (first.0 ∙ ap (λ l. decimal a.0.0 ∷ l) (second ∙ third.0)) in
    spelled p carrier (codes "garbled" ∷ texts) (line.Whole (item.Garbled a.0.0 b.0)) found b.2 (whole, (first.1, third.1))
