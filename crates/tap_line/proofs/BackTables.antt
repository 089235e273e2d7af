-- what is read as a line of a table, of pointers, of a packet or of a beginning has the line's words
use Rattle.std.proofs.Common.{◌≡◌, ◌&&◌, ℕ, ◌^◌, ◌<◌, ◌≤◌, nat_le, Bool, arith, List, [], ◌∷◌, length, slice_index, decimal, codes, All, Some, refl, ap, subst, ◌∙◌, inl, inr}
use Rattle.std.proofs.lemmas.Bool.{and_parts, cases_Bool, leb-true}
use Rattle.std.proofs.lemmas.List.Elements.{All-head}
use Rattle.tap_name.specs.Digits.{text_of_digit}
use Rattle.tap_name.specs.Settings.{AreWithinLimits, SettingsValue}
use Rattle.tap_name.specs.Name.{name_of_word, text_of_name}
use Rattle.tap_name.proofs.Texts.{name_of_word-back}
use Rattle.tap_scenario.specs.Step.{with_digits}
use Rattle.tap_scenario.proofs.Options.{and_then-back, option_map-back}
use Rattle.tap_log.specs.declared.record.LinkLine.{LinkLine}
use Rattle.tap_log.specs.declared.record.Pair.{Pair}
use Rattle.tap_log.specs.declared.record.Record.TheVariants as item
use Rattle.tap_report.specs.Tables.{words_of_link, words_of_node}
use Rattle.tap_line.specs.declared.line.Beginning.{Beginning}
use Rattle.tap_line.specs.declared.line.Line.{Line}
use Rattle.tap_line.specs.declared.line.Line.TheVariants as line
use Rattle.tap_line.specs.Front.{digit, digit_of_word}
use Rattle.tap_line.specs.Line.{IsBeginning, IsLink}
use Rattle.tap_line.specs.Reading.{begin_of_words, beginning, link_of_words, link_words, loads, node_words, packet_of_words, pointer_of_words, pointers_of_words, settings_of_numbers, table_of_words, word_of_load}
use Rattle.tap_line.proofs.Back.{Spelled, spelled}
use Rattle.tap_line.proofs.Taken.{first_taken, name_taken, number_taken, one_taken, only_taken, word_taken}

-- the one digit of a name of one
one_digit : (digits : List ℕ) (base : ℕ) → length digits ≡ 1 → All (λ d. d < base) digits
    → (text_of_name digits ≡ text_of_digit (slice_index digits 0) ∷ []) × (slice_index digits 0 < base)
one_digit [] base one are = absurd (omega arith)
one_digit (digit ∷ []) base one are = (refl, All-head (λ d. d < base) digit [] are)
one_digit (digit ∷ other ∷ digits) base one are = absurd (omega arith)

digit_back : (p : SettingsValue) (word : List ℕ) (found : ℕ) → p.base ≤ 16 → digit_of_word p word ≡ Some found
    → (word ≡ text_of_digit found ∷ []) × (found < p.base)
digit_back p word found small read =
    let back = option_map-back (λ digits. slice_index digits 0) (name_of_word (with_digits 1 p) word) found read in
    let name = name_of_word-back (with_digits 1 p) word back.0 small back.1 in
    let one = one_digit back.0 p.base name.1.len name.1.below in
    (name.0 ∙ one.0 ∙ ap (λ d. text_of_digit d ∷ []) back.2, subst (λ d. d < p.base) back.2 one.1)

digit_taken : (p : SettingsValue) (words : List (List ℕ)) (taken : ℕ × List (List ℕ)) → p.base ≤ 16 → digit p words ≡ Some taken
    → (words ≡ (text_of_digit taken.0 ∷ []) ∷ taken.1) × (taken.0 < p.base)
digit_taken p words taken small is =
    let first = first_taken (digit_of_word p) words taken is in
    let back = digit_back p first.0 taken.0 small first.2 in
    (first.1 ∙ ap (λ w. w ∷ taken.1) back.0, back.1)

module _ (p : SettingsValue) (carrier : Bool) where
  pub packet_back : (words : List (List ℕ)) (found : Line) → packet_of_words words ≡ Some found
      → Spelled p carrier (codes "packet" ∷ words) found
  packet_back words found read =
      let a = and_then-back _ _ found read in
      let b = and_then-back _ _ found a.2 in
      let c = and_then-back _ _ found b.2 in
      let first = number_taken (2 ^ 32) words a.0 a.1 in
      let second = one_taken word_of_load loads a.0.1 b.0 b.1 in
      let third = number_taken (2 ^ 32) b.0.1 c.0 c.1 in
      let last = only_taken (line.Whole (item.Packet a.0.0 c.0.0 b.0.0)) found c.0.1 c.2 in
      let whole : codes "packet" ∷ words ≡ codes "packet" ∷ decimal a.0.0 ∷ word_of_load b.0.0 ∷ decimal c.0.0 ∷ [] =
      cc (first.0, second, third.0, last.0) in
      spelled p carrier (codes "packet" ∷ words) (line.Whole (item.Packet a.0.0 c.0.0 b.0.0)) found last.1 (whole, (first.1, third.1))

  module _ (small : p.base ≤ 16) where
    pub table_back : (words : List (List ℕ)) (found : Line) → table_of_words p words ≡ Some found
        → Spelled p carrier (codes "table" ∷ words) found
    table_back words found read =
        let a = and_then-back _ _ found read in
        let b = and_then-back _ _ found a.2 in
        let c = and_then-back _ _ found b.2 in
        let d = and_then-back _ _ found c.2 in
        let first = name_taken p words a.0 small a.1 in
        let second = one_taken words_of_node node_words a.0.1 b.0 b.1 in
        let third = word_taken (codes "links") b.0.1 c.0 c.1 in
        let fourth = number_taken (2 ^ 64) c.0.1 d.0 d.1 in
        let last = only_taken (line.Table a.0.0 b.0.0 d.0.0) found d.0.1 d.2 in
        let whole : codes "table" ∷ words ≡ codes "table" ∷ text_of_name a.0.0 ∷ words_of_node b.0.0 ∷ codes "links" ∷ decimal d.0.0 ∷ [] =
        cc (first.0, second, third, fourth.0, last.0) in
        spelled p carrier (codes "table" ∷ words) (line.Table a.0.0 b.0.0 d.0.0) found last.1 (whole, (first.1, fourth.1))

    pub link_back : (words : List (List ℕ)) (found : Line) → link_of_words p words ≡ Some found
        → Spelled p carrier (codes "link" ∷ words) found
    link_back words found read =
        let a = and_then-back _ _ found read in
        let b = and_then-back _ _ found a.2 in
        let c = and_then-back _ _ found b.2 in
        let d = and_then-back _ _ found c.2 in
        let first = number_taken 256 words a.0 a.1 in
        let second = digit_taken p a.0.1 b.0 small b.1 in
        let third = name_taken p b.0.1 c.0 small c.1 in
        let fourth = one_taken words_of_link link_words c.0.1 d.0 d.1 in
        let made : LinkLine = record { slot = record { level = a.0.0; digit = b.0.0 }; name = c.0.0; kind = d.0.0 } in
        let last = only_taken (line.Link made) found d.0.1 d.2 in
        let whole : codes "link" ∷ words
        ≡ codes "link" ∷ decimal a.0.0 ∷ (text_of_digit b.0.0 ∷ []) ∷ text_of_name c.0.0 ∷ words_of_link d.0.0 ∷ [] =
        cc (first.0, second.0, third.0, fourth, last.0) in
        let is : IsLink p made = record { level = first.1; digit = second.1; name = third.1 } in
        spelled p carrier (codes "link" ∷ words) (line.Link made) found last.1 (whole, is)

    pub pointers_back : (words : List (List ℕ)) (found : Line) → pointers_of_words p words ≡ Some found
        → Spelled p carrier (codes "pointers" ∷ words) found
    pointers_back words found read =
        let a = and_then-back _ _ found read in
        let b = and_then-back _ _ found a.2 in
        let c = and_then-back _ _ found b.2 in
        let first = name_taken p words a.0 small a.1 in
        let second = word_taken (codes "count") a.0.1 b.0 b.1 in
        let third = number_taken (2 ^ 64) b.0.1 c.0 c.1 in
        let last = only_taken (line.Pointers a.0.0 c.0.0) found c.0.1 c.2 in
        let whole : codes "pointers" ∷ words ≡ codes "pointers" ∷ text_of_name a.0.0 ∷ codes "count" ∷ decimal c.0.0 ∷ [] =
        cc (first.0, second, third.0, last.0) in
        spelled p carrier (codes "pointers" ∷ words) (line.Pointers a.0.0 c.0.0) found last.1 (whole, (first.1, third.1))

    pub pointer_back : (words : List (List ℕ)) (found : Line) → pointer_of_words p words ≡ Some found
        → Spelled p carrier (codes "pointer" ∷ words) found
    pointer_back words found read =
        let a = and_then-back _ _ found read in
        let b = and_then-back _ _ found a.2 in
        let first = name_taken p words a.0 small a.1 in
        let second = name_taken p a.0.1 b.0 small b.1 in
        let made : Pair = record { object = a.0.0; server = b.0.0 } in
        let last = only_taken (line.Pointer made) found b.0.1 b.2 in
        let whole : codes "pointer" ∷ words ≡ codes "pointer" ∷ text_of_name a.0.0 ∷ text_of_name b.0.0 ∷ [] = cc (first.0, second.0, last.0) in
        spelled p carrier (codes "pointer" ∷ words) (line.Pointer made) found last.1 (whole, (first.1, second.1))

-- ---- the beginning

settings_back : (base digits width : ℕ) (p : SettingsValue) → settings_of_numbers base digits width ≡ Some p
    → ((base ≡ p.base) × (digits ≡ p.digits) × (width ≡ p.width)) × AreWithinLimits p
settings_back base digits width p is =
    elim (cases_Bool (nat_le 2 base && nat_le base 16 && nat_le 1 digits && nat_le digits 40 && nat_le 1 width && nat_le width 4)) [
      | inr other ↦ absurd (let failed = rw other at is in cc)
      | inl all ↦
          let made : SettingsValue = record { base = base; digits = digits; width = width } in
          let whole : Some made ≡ Some p = rw all at is in
          let same : made ≡ p = cc in
          let five = and_parts (nat_le 2 base && nat_le base 16 && nat_le 1 digits && nat_le digits 40 && nat_le 1 width) (nat_le width 4) all in
          let four = and_parts (nat_le 2 base && nat_le base 16 && nat_le 1 digits && nat_le digits 40) (nat_le 1 width) five.0 in
          let three = and_parts (nat_le 2 base && nat_le base 16 && nat_le 1 digits) (nat_le digits 40) four.0 in
          let two = and_parts (nat_le 2 base && nat_le base 16) (nat_le 1 digits) three.0 in
          let one = and_parts (nat_le 2 base) (nat_le base 16) two.0 in
          let limits : AreWithinLimits made = record {
            base_from = leb-true 2 base one.0;
            base_to = leb-true base 16 one.1;
            digits_from = leb-true 1 digits two.1;
            digits_to = leb-true digits 40 three.1;
            width_from = leb-true 1 width four.1;
            width_to = leb-true width 4 five.1;
          } in
          ((ap (λ s. s.base) same, ap (λ s. s.digits) same, ap (λ s. s.width) same), subst AreWithinLimits same limits)
    ]

-- the words after the first one
abbrev begin_words : ℕ → ℕ → ℕ → ℕ → List (List ℕ)
begin_words base digits width frames =
    codes "base" ∷ decimal base ∷ codes "digits" ∷ decimal digits ∷ codes "width" ∷ decimal width ∷ codes "frames" ∷ decimal frames ∷ []

pub begin_back : (words : List (List ℕ)) (begun : Beginning) → begin_of_words words ≡ Some begun
    → (words ≡ codes "base" ∷ decimal begun.settings.base ∷ codes "digits" ∷ decimal begun.settings.digits ∷ codes "width"
    ∷ decimal begun.settings.width ∷ codes "frames" ∷ decimal begun.frames ∷ []) × IsBeginning begun
begin_back words begun read =
    let a = and_then-back _ _ begun read in
    let b = and_then-back _ _ begun a.2 in
    let c = and_then-back _ _ begun b.2 in
    let d = and_then-back _ _ begun c.2 in
    let e = and_then-back _ _ begun d.2 in
    let f = and_then-back _ _ begun e.2 in
    let g = and_then-back _ _ begun f.2 in
    let h = and_then-back _ _ begun g.2 in
    let i = and_then-back _ _ begun h.2 in
    let one = word_taken (codes "base") words a.0 a.1 in
    let base = number_taken 256 a.0.1 b.0 b.1 in
    let two = word_taken (codes "digits") b.0.1 c.0 c.1 in
    let digits = number_taken 256 c.0.1 d.0 d.1 in
    let three = word_taken (codes "width") d.0.1 e.0 e.1 in
    let width = number_taken 256 e.0.1 f.0 f.1 in
    let four = word_taken (codes "frames") f.0.1 g.0 g.1 in
    let frames = number_taken (2 ^ 32) g.0.1 h.0 h.1 in
    let settings = settings_back b.0.0 d.0.0 f.0.0 i.0 i.1 in
    let last = only_taken (beginning h.0.0 i.0) begun h.0.1 i.2 in
    let numbers : words ≡ begin_words b.0.0 d.0.0 f.0.0 h.0.0 =
    one ∙ ap (λ l. codes "base" ∷ l) (base.0 ∙ ap (λ l. decimal b.0.0 ∷ l) (two ∙ ap (λ l. codes "digits" ∷ l)
    (digits.0 ∙ ap (λ l. decimal d.0.0 ∷ l) (three ∙ ap (λ l. codes "width" ∷ l) (width.0 ∙ ap (λ l. decimal f.0.0 ∷ l)
    (four ∙ ap (λ l. codes "frames" ∷ l) (frames.0 ∙ ap (λ l. decimal h.0.0 ∷ l) last.0))))))) in
    let whole : words ≡ begin_words i.0.base i.0.digits i.0.width h.0.0 =
    numbers ∙ ap (λ n. begin_words n d.0.0 f.0.0 h.0.0) settings.0.0 ∙ ap (λ n. begin_words i.0.base n f.0.0 h.0.0) settings.0.1
    ∙ ap (λ n. begin_words i.0.base i.0.digits n h.0.0) settings.0.2 in
    let is : IsBeginning (beginning h.0.0 i.0) = record { limits = settings.1; frames = frames.1 } in
    subst (λ s. (words ≡ codes "base" ∷ decimal s.settings.base ∷ codes "digits" ∷ decimal s.settings.digits ∷ codes "width"
    ∷ decimal s.settings.width ∷ codes "frames" ∷ decimal s.frames ∷ []) × IsBeginning s) last.1 (whole, is)
