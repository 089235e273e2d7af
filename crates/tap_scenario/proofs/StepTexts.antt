-- a step and its text
-- Cited above: no_space, step_of_text-back, step_of_text-text
use Rattle.std.proofs.Common.{◌≡◌, ◌==◌, ◌&&◌, ◌↔◌, ℕ, ◌^◌, ◌<◌, ◌≤◌, Bool, true, false, not, bytes_eq, arith, List, [], ◌∷◌, append_assoc, codes, decimal, None, Some, option_map, if◌then◌else◌, refl, ap, sym, subst, ◌∙◌, inl, inr}
use Rattle.std.specs.List.{join_with_byte, list_all}
use Rattle.std.specs.Option.{option_zip}
use Rattle.std.proofs.lemmas.Bool.{cases_Bool, and_parts, eqb-true, eq-eqb, not-true}
use Rattle.std.proofs.lemmas.List.Sums.{AllPass-from_list_all}
use Rattle.std.proofs.lemmas.List.Splits.{join_with_byte-slice_split}
use Rattle.std.proofs.lemmas.Slice.Eq.{bytes_eq-Decides}
use Rattle.tap_name.specs.Settings.{SettingsValue}
use Rattle.tap_name.specs.Name.{IsName, name_of_word, text_of_name}
use Rattle.tap_scenario.specs.declared.kind.NameKind.{NameKind}
use Rattle.tap_scenario.specs.declared.kind.NameKind.TheVariants as named
use Rattle.tap_scenario.specs.declared.kind.PairKind.{PairKind}
use Rattle.tap_scenario.specs.declared.kind.PairKind.TheVariants as paired
use Rattle.tap_scenario.specs.declared.kind.PlaceKind.{PlaceKind}
use Rattle.tap_scenario.specs.declared.kind.PlaceKind.TheVariants as placed
use Rattle.tap_scenario.specs.declared.kind.Kind.{Kind}
use Rattle.tap_scenario.specs.declared.kind.Kind.TheVariants as shape
use Rattle.tap_scenario.specs.declared.step.Step.{Step}
use Rattle.tap_scenario.specs.declared.step.Step.TheVariants.{Join, Depart, Publish, Withdraw, Find, Walk, Root, Deliver, Settle, SettleNewest, SettleMixed, Table, Pointers, Garble, Cut, Abandon, Tick, Lose, Repeat, RootSet, Cast}
use Rattle.tap_scenario.specs.Kind.{step_kinds, text_of_kind, link_of_pair, kind_of_word, is_there}
use Rattle.tap_scenario.specs.Step.{IsStep, text_of_prefix, text_of_step, number_below, word_of_bytes, prefix_of_word, one_name, two_names, one_number, two_numbers, only, settle_of_words, garble_of_words, cast_of_words, step_of_name, step_of_pair, step_of_place, step_of_kind, step_of_words, step_of_text}
use Rattle.tap_scenario.specs.Words.{HasNoSpace, words}
use Rattle.tap_name.proofs.Texts.{name_of_word-back, name_of_word-text, text_of_name-no_space}
use Rattle.tap_name.proofs.Words.{word-no_space}
use Rattle.tap_scenario.proofs.Numbers.{number_below-decimal, number_below-back, no_space_decimal}
use Rattle.tap_scenario.proofs.Casts.{word_of_bytes-word, word_of_bytes-back, no_space_prefix, prefix_of_word-text, prefix_of_word-back}
use Rattle.tap_scenario.proofs.Options.{and_then-back, find-passes, option_map-back, option_zip-back}
use Rattle.tap_scenario.proofs.Shapes.{only-back, one_name-back, two_names-text, two_names-back, one_number-back, two_numbers-text, two_numbers-back}
use Rattle.tap_scenario.proofs.Splits.{words-join}

-- the words of a step
abbrev words_of_step : Step → List (List ℕ)
words_of_step (Join name via) = codes "join" ∷ text_of_name name ∷ codes "via" ∷ text_of_name via ∷ []
words_of_step (Depart name) = codes "leave" ∷ text_of_name name ∷ []
words_of_step (Publish object server) = codes "publish" ∷ text_of_name object ∷ codes "at" ∷ text_of_name server ∷ []
words_of_step (Withdraw object server) = codes "withdraw" ∷ text_of_name object ∷ codes "at" ∷ text_of_name server ∷ []
words_of_step (Find object asker) = codes "find" ∷ text_of_name object ∷ codes "from" ∷ text_of_name asker ∷ []
words_of_step (Walk object asker) = codes "walk" ∷ text_of_name object ∷ codes "from" ∷ text_of_name asker ∷ []
words_of_step (Root object) = codes "root" ∷ text_of_name object ∷ []
words_of_step (Deliver place) = codes "deliver" ∷ decimal place ∷ []
words_of_step Settle = codes "settle" ∷ []
words_of_step SettleNewest = codes "settle" ∷ codes "newest" ∷ []
words_of_step (SettleMixed seed) = codes "settle" ∷ codes "mixed" ∷ decimal seed ∷ []
words_of_step (Table name) = codes "table" ∷ text_of_name name ∷ []
words_of_step (Pointers name) = codes "pointers" ∷ text_of_name name ∷ []
words_of_step (Garble place at byte) = codes "garble" ∷ decimal place ∷ decimal at ∷ decimal byte ∷ []
words_of_step (Cut place bytes) = codes "cut" ∷ decimal place ∷ decimal bytes ∷ []
words_of_step (Abandon name) = codes "abandon" ∷ text_of_name name ∷ []
words_of_step Tick = codes "tick" ∷ []
words_of_step (Lose place) = codes "lose" ∷ decimal place ∷ []
words_of_step (Repeat place) = codes "repeat" ∷ decimal place ∷ []
words_of_step (RootSet object asker) = codes "rootset" ∷ text_of_name object ∷ codes "from" ∷ text_of_name asker ∷ []
words_of_step (Cast word prefix asker) = codes "cast" ∷ word ∷ codes "to" ∷ text_of_prefix prefix ∷ codes "from" ∷ text_of_name asker ∷ []

-- a step's text is its words with a space between them
text_of_step-join : (step : Step) → text_of_step step ≡ join_with_byte 32 (words_of_step step)
text_of_step-join (Join name via) = simp append_assoc
text_of_step-join (Depart name) = refl
text_of_step-join (Publish object server) = simp append_assoc
text_of_step-join (Withdraw object server) = simp append_assoc
text_of_step-join (Find object asker) = simp append_assoc
text_of_step-join (Walk object asker) = simp append_assoc
text_of_step-join (Root object) = refl
text_of_step-join (Deliver place) = refl
text_of_step-join Settle = refl
text_of_step-join SettleNewest = refl
text_of_step-join (SettleMixed seed) = refl
text_of_step-join (Table name) = refl
text_of_step-join (Pointers name) = refl
text_of_step-join (Garble place at byte) = simp append_assoc
text_of_step-join (Cut place bytes) = simp append_assoc
text_of_step-join (Abandon name) = refl
text_of_step-join Tick = refl
text_of_step-join (Lose place) = refl
text_of_step-join (Repeat place) = refl
text_of_step-join (RootSet object asker) = simp append_assoc
text_of_step-join (Cast word prefix asker) = simp append_assoc

-- there is no space in this, by a test
pub no_space : (word : List ℕ) → list_all (λ byte. not (byte == 32)) word ≡ true → HasNoSpace word
no_space word passes = λ k d h. not-true _ (AllPass-from_list_all (λ byte. not (byte == 32)) word passes k d h)

words-name : (first name : List ℕ) → list_all (λ byte. not (byte == 32)) first ≡ true
    → words (join_with_byte 32 (first ∷ text_of_name name ∷ [])) ≡ first ∷ text_of_name name ∷ []
words-name first name passes = words-join _ _ (no_space first passes) (text_of_name-no_space name, tt)

words-names : (first name link other : List ℕ) → list_all (λ byte. not (byte == 32)) first ≡ true
    → list_all (λ byte. not (byte == 32)) link ≡ true
    → words (join_with_byte 32 (first ∷ text_of_name name ∷ link ∷ text_of_name other ∷ [])) ≡ first ∷ text_of_name name ∷ link
    ∷ text_of_name other ∷ []
words-names first name link other passes unspaced =
    words-join _ _ (no_space first passes) (text_of_name-no_space name, (no_space link unspaced, (text_of_name-no_space other, tt)))

words-number : (first : List ℕ) (n : ℕ) → list_all (λ byte. not (byte == 32)) first ≡ true → n < 2 ^ 64
    → words (join_with_byte 32 (first ∷ decimal n ∷ [])) ≡ first ∷ decimal n ∷ []
words-number first n passes small = words-join _ _ (no_space first passes) (no_space_decimal n small, tt)

words-join_step : (p : SettingsValue) (carrier : Bool) (step : Step) → IsStep p carrier step
    → words (join_with_byte 32 (words_of_step step)) ≡ words_of_step step
words-join_step p carrier (Join name via) is = words-names (codes "join") name (codes "via") via refl refl
words-join_step p carrier (Depart name) is = words-name (codes "leave") name refl
words-join_step p carrier (Publish object server) is = words-names (codes "publish") object (codes "at") server refl refl
words-join_step p carrier (Withdraw object server) is = words-names (codes "withdraw") object (codes "at") server refl refl
words-join_step p carrier (Find object asker) is = words-names (codes "find") object (codes "from") asker refl refl
words-join_step p carrier (Walk object asker) is = words-names (codes "walk") object (codes "from") asker refl refl
words-join_step p carrier (Root object) is = words-name (codes "root") object refl
words-join_step p carrier (Deliver place) is = words-number (codes "deliver") place refl (omega arith)
words-join_step p carrier Settle is = words-join _ _ (no_space (codes "settle") refl) tt
words-join_step p carrier SettleNewest is = words-join _ _ (no_space (codes "settle") refl) (no_space (codes "newest") refl, tt)
words-join_step p carrier (SettleMixed seed) is =
    words-join _ _ (no_space (codes "settle") refl) (no_space (codes "mixed") refl, (no_space_decimal seed is, tt))
words-join_step p carrier (Table name) is = words-name (codes "table") name refl
words-join_step p carrier (Pointers name) is = words-name (codes "pointers") name refl
words-join_step p carrier (Garble place at byte) is =
    words-join _ _ (no_space (codes "garble") refl) (
      no_space_decimal place (omega arith),
      (no_space_decimal at (omega arith), (no_space_decimal byte (omega arith), tt)),
    )
words-join_step p carrier (Cut place bytes) is =
    words-join _ _ (no_space (codes "cut") refl) (no_space_decimal place (omega arith), (no_space_decimal bytes (omega arith), tt))
words-join_step p carrier (Abandon name) is = words-name (codes "abandon") name refl
words-join_step p carrier Tick is = words-join _ _ (no_space (codes "tick") refl) tt
words-join_step p carrier (Lose place) is = words-number (codes "lose") place refl (omega arith)
words-join_step p carrier (Repeat place) is = words-number (codes "repeat") place refl (omega arith)
words-join_step p carrier (RootSet object asker) is = words-names (codes "rootset") object (codes "from") asker refl refl
words-join_step p carrier (Cast word prefix asker) is =
    words-join _ _ (no_space (codes "cast") refl) (
      word-no_space word is.0,
      (no_space (codes "to") refl, (no_space_prefix prefix, (no_space (codes "from") refl, (text_of_name-no_space asker, tt)))),
    )

-- the words of a step's text
words-text_of_step : (p : SettingsValue) (carrier : Bool) (step : Step) → IsStep p carrier step
    → words (text_of_step step) ≡ words_of_step step
words-text_of_step p carrier step is = ap words (text_of_step-join step) ∙ words-join_step p carrier step is

-- the words of a step are read as that step
step_of_words-words : (p : SettingsValue) (carrier : Bool) (step : Step) → p.base ≤ 16 → IsStep p carrier step
    → step_of_words p carrier (words_of_step step) ≡ Some step
step_of_words-words p carrier (Join name via) small is =
    ap (option_map (λ names. Join names.0 names.1)) (two_names-text p (codes "via") name via small is)
step_of_words-words p carrier (Depart name) small is = ap (option_map Depart) (name_of_word-text p name small is)
step_of_words-words p carrier (Publish object server) small is =
    ap (option_map (λ names. Publish names.0 names.1)) (two_names-text p (codes "at") object server small is)
step_of_words-words p carrier (Withdraw object server) small is =
    ap (option_map (λ names. Withdraw names.0 names.1)) (two_names-text p (codes "at") object server small is)
step_of_words-words p carrier (Find object asker) small is =
    ap (option_map (λ names. Find names.0 names.1)) (two_names-text p (codes "from") object asker small is)
step_of_words-words p carrier (Walk object asker) small is =
    ap (option_map (λ names. Walk names.0 names.1)) (two_names-text p (codes "from") object asker small is)
step_of_words-words p carrier (Root object) small is = ap (option_map Root) (name_of_word-text p object small is)
step_of_words-words p carrier (Deliver place) small is =
    ap (option_map Deliver) (number_below-decimal (2 ^ 32) place (decimal place) is (omega arith) refl)
step_of_words-words p carrier Settle small is = refl
step_of_words-words p carrier SettleNewest small is = refl
step_of_words-words p carrier (SettleMixed seed) small is =
    ap (option_map SettleMixed) (number_below-decimal (2 ^ 64) seed (decimal seed) is is refl)
step_of_words-words p carrier (Table name) small is = ap (option_map Table) (name_of_word-text p name small is)
step_of_words-words p carrier (Pointers name) small is = ap (option_map Pointers) (name_of_word-text p name small is)
step_of_words-words p true (Garble place at byte) small is = absurd (let other : true ≡ false = is.0 in cc)
step_of_words-words p false (Garble place at byte) small is =
    let first = number_below-decimal (2 ^ 32) place (decimal place) (omega arith) (omega arith) refl in
    let others = two_numbers-text (2 ^ 32) 256 at byte (omega arith) (omega arith) (omega arith) (omega arith) in
    ap (λ numbers. option_map (λ n. Garble n.0 n.1.0 n.1.1)
    (option_zip numbers (two_numbers (2 ^ 32) 256 (decimal at ∷ decimal byte ∷ [])))) first
    ∙ ap (λ numbers. option_map (λ n. Garble n.0 n.1.0 n.1.1) (option_zip (Some place) numbers)) others
step_of_words-words p true (Cut place bytes) small is = absurd (let other : true ≡ false = is.0 in cc)
step_of_words-words p false (Cut place bytes) small is =
    ap (option_map (λ numbers. Cut numbers.0 numbers.1))
    (two_numbers-text (2 ^ 32) (2 ^ 32) place bytes (omega arith) (omega arith) (omega arith) (omega arith))
step_of_words-words p carrier (Abandon name) small is = ap (option_map Abandon) (name_of_word-text p name small is)
step_of_words-words p true Tick small is = refl
step_of_words-words p false Tick small is = absurd (let other : false ≡ true = is in cc)
step_of_words-words p true (Lose place) small is =
    ap (option_map Lose) (number_below-decimal (2 ^ 32) place (decimal place) is.1 (omega arith) refl)
step_of_words-words p false (Lose place) small is = absurd (let other : false ≡ true = is.0 in cc)
step_of_words-words p true (Repeat place) small is =
    ap (option_map Repeat) (number_below-decimal (2 ^ 32) place (decimal place) is.1 (omega arith) refl)
step_of_words-words p false (Repeat place) small is = absurd (let other : false ≡ true = is.0 in cc)
step_of_words-words p carrier (RootSet object asker) small is =
    let base = eq-eqb p.base 16 is.0 in
    let digits = eq-eqb p.digits 40 is.1 in
    rw (base, digits) (ap (option_map (λ names. RootSet names.0 names.1)) (two_names-text p (codes "from") object asker small (is.2, is.3)))
step_of_words-words p carrier (Cast word prefix asker) small is =
    let first = word_of_bytes-word word is.0 in
    let second = prefix_of_word-text p prefix small is.1 in
    let third = name_of_word-text p asker small is.2 in
    simp (first, second, third)

-- a step's text is read as that step
pub step_of_text-text : (p : SettingsValue) (carrier : Bool) (step : Step) → p.base ≤ 16 → IsStep p carrier step
    → step_of_text p carrier (text_of_step step) ≡ Some step
step_of_text-text p carrier step small is =
    ap (step_of_words p carrier) (words-text_of_step p carrier step is) ∙ step_of_words-words p carrier step small is

abbrev IsWordsOfStep : SettingsValue → Bool → List (List ℕ) → Step → Type 0
IsWordsOfStep p carrier read step = (read ≡ words_of_step step) × IsStep p carrier step

-- what is read of other words for the same, and as another step that is the same
same_words : (p : SettingsValue) (carrier : Bool) (first : List ℕ) (others more : List (List ℕ)) (made step : Step) → others ≡ more
    → made ≡ step → IsWordsOfStep p carrier (first ∷ more) made → IsWordsOfStep p carrier (first ∷ others) step
same_words p carrier first others more made step words same is =
    subst (IsWordsOfStep p carrier (first ∷ others)) same (ap (λ w. first ∷ w) words ∙ is.0, is.1)

same_first : (word is : List ℕ) (others more : List (List ℕ)) → word ≡ is → others ≡ more → word ∷ others ≡ is ∷ more
same_first word is others more first rest = cc

name_step : (p : SettingsValue) (carrier : Bool) (kind : NameKind) (name : List ℕ) → IsName p name
    → IsWordsOfStep p carrier (text_of_kind (shape.Name kind) ∷ text_of_name name ∷ []) (step_of_name kind name)
name_step p carrier named.Leave name is = (refl, is)
name_step p carrier named.Root name is = (refl, is)
name_step p carrier named.Table name is = (refl, is)
name_step p carrier named.Pointers name is = (refl, is)
name_step p carrier named.Abandon name is = (refl, is)

pair_step : (p : SettingsValue) (carrier : Bool) (kind : PairKind) (first second : List ℕ) → is_there p carrier (shape.Pair kind) ≡ true
    → IsName p first × IsName p second
    → IsWordsOfStep p carrier (text_of_kind (shape.Pair kind) ∷ text_of_name first ∷ link_of_pair kind ∷ text_of_name second ∷ [])
    (step_of_pair kind first second)
pair_step p carrier paired.Join first second there are = (refl, are)
pair_step p carrier paired.Publish first second there are = (refl, are)
pair_step p carrier paired.Withdraw first second there are = (refl, are)
pair_step p carrier paired.Find first second there are = (refl, are)
pair_step p carrier paired.Walk first second there are = (refl, are)
pair_step p carrier paired.RootSet first second there are =
    let parts = and_parts (p.base == 16) (p.digits == 40) there in
    (refl, (eqb-true p.base 16 parts.0, eqb-true p.digits 40 parts.1, are.0, are.1))

place_step : (p : SettingsValue) (carrier : Bool) (kind : PlaceKind) (place : ℕ) → is_there p carrier (shape.Place kind) ≡ true
    → place < 2 ^ 32 → IsWordsOfStep p carrier (text_of_kind (shape.Place kind) ∷ decimal place ∷ []) (step_of_place kind place)
place_step p carrier placed.Deliver place there below = (refl, below)
place_step p carrier placed.Lose place there below = (refl, (there, below))
place_step p carrier placed.Repeat place there below = (refl, (there, below))

settle_step : (p : SettingsValue) (carrier : Bool) (others : List (List ℕ)) (step : Step) → settle_of_words others ≡ Some step
    → IsWordsOfStep p carrier (codes "settle" ∷ others) step
settle_step p carrier [] step read = let same : Settle ≡ step = cc in subst (IsWordsOfStep p carrier (codes "settle" ∷ [])) same (refl, tt)
settle_step p carrier (word ∷ others) step read =
    elim (cases_Bool (bytes_eq word (codes "mixed"))) [
      | inl mixed ↦
          let made = option_map-back SettleMixed (one_number (2 ^ 64) others) step (rw mixed at read) in
          let back = one_number-back (2 ^ 64) others made.0 made.1 in
          let is : word ≡ codes "mixed" = (bytes_eq-Decides word (codes "mixed")).0 mixed in
          same_words p carrier (codes "settle") (word ∷ others) (codes "mixed" ∷ decimal made.0 ∷ []) (SettleMixed made.0) step
          (same_first word (codes "mixed") others (decimal made.0 ∷ []) is back.0) made.2 (refl, back.1)
      | inr other ↦
          elim (cases_Bool (bytes_eq word (codes "newest"))) [
            | inr neither ↦ absurd (let failed = rw (other, neither) at read in cc)
            | inl newest ↦
                let back = only-back SettleNewest step others (rw (other, newest) at read) in
                let is : word ≡ codes "newest" = (bytes_eq-Decides word (codes "newest")).0 newest in
                same_words p carrier (codes "settle") (word ∷ others) (codes "newest" ∷ []) SettleNewest step
                (same_first word (codes "newest") others [] is back.0) back.1 (refl, tt)
          ]
    ]

garble_step : (p : SettingsValue) (others : List (List ℕ)) (step : Step) → garble_of_words others ≡ Some step
    → IsWordsOfStep p false (codes "garble" ∷ others) step
garble_step p [] step read = absurd (cc)
garble_step p (word ∷ others) step read =
    let made =
    option_map-back (λ n. Garble n.0 n.1.0 n.1.1) (option_zip (number_below (2 ^ 32) word) (two_numbers (2 ^ 32) 256 others)) step read in
    let zipped = option_zip-back (number_below (2 ^ 32) word) (two_numbers (2 ^ 32) 256 others) made.0 made.1 in
    let first = number_below-back (2 ^ 32) made.0.0 word zipped.0 in
    let more = two_numbers-back (2 ^ 32) 256 others made.0.1 zipped.1 in
    same_words p false (codes "garble") (word ∷ others) (decimal made.0.0 ∷ decimal made.0.1.0 ∷ decimal made.0.1.1 ∷ [])
    (Garble made.0.0 made.0.1.0 made.0.1.1) step
    (same_first word (decimal made.0.0) others (decimal made.0.1.0 ∷ decimal made.0.1.1 ∷ []) first.0 more.0) made.2
    (refl, (refl, first.1, more.1, more.2))

cut_step : (p : SettingsValue) (others : List (List ℕ)) (step : Step)
    → option_map (λ numbers. Cut numbers.0 numbers.1) (two_numbers (2 ^ 32) (2 ^ 32) others) ≡ Some step
    → IsWordsOfStep p false (codes "cut" ∷ others) step
cut_step p others step read =
    let made = option_map-back (λ numbers. Cut numbers.0 numbers.1) (two_numbers (2 ^ 32) (2 ^ 32) others) step read in
    let back = two_numbers-back (2 ^ 32) (2 ^ 32) others made.0 made.1 in
    same_words p false (codes "cut") others (decimal made.0.0 ∷ decimal made.0.1 ∷ []) (Cut made.0.0 made.0.1) step back.0 made.2
    (refl, (refl, back.1, back.2))

tick_step : (p : SettingsValue) (others : List (List ℕ)) (step : Step) → only Tick others ≡ Some step
    → IsWordsOfStep p true (codes "tick" ∷ others) step
tick_step p others step read =
    let back = only-back Tick step others read in same_words p true (codes "tick") others [] Tick step back.0 back.1 (refl, refl)

cast_step : (p : SettingsValue) (carrier : Bool) (others : List (List ℕ)) (step : Step) → p.base ≤ 16 → cast_of_words p others ≡ Some step
    → IsWordsOfStep p carrier (codes "cast" ∷ others) step
cast_step p carrier [] step small read = absurd (cc)
cast_step p carrier (a ∷ []) step small read = absurd (cc)
cast_step p carrier (a ∷ b ∷ []) step small read = absurd (cc)
cast_step p carrier (a ∷ b ∷ c ∷ []) step small read = absurd (cc)
cast_step p carrier (a ∷ b ∷ c ∷ d ∷ []) step small read = absurd (cc)
cast_step p carrier (a ∷ b ∷ c ∷ d ∷ e ∷ []) step small read =
    elim (cases_Bool (bytes_eq b (codes "to") && bytes_eq d (codes "from"))) [
      | inr other ↦ absurd (let failed = rw other at read in cc)
      | inl both ↦
          let tests = and_parts (bytes_eq b (codes "to")) (bytes_eq d (codes "from")) both in
          let to : b ≡ codes "to" = (bytes_eq-Decides b (codes "to")).0 tests.0 in
          let from : d ≡ codes "from" = (bytes_eq-Decides d (codes "from")).0 tests.1 in
          let made =
          option_map-back (λ parts. Cast parts.0 parts.1.0 parts.1.1)
          (option_zip (word_of_bytes a) (option_zip (prefix_of_word p c) (name_of_word p e))) step (rw both at read) in
          let zipped = option_zip-back (word_of_bytes a) (option_zip (prefix_of_word p c) (name_of_word p e)) made.0 made.1 in
          let more = option_zip-back (prefix_of_word p c) (name_of_word p e) made.0.1 zipped.1 in
          let word = word_of_bytes-back a made.0.0 zipped.0 in
          let prefix = prefix_of_word-back p c made.0.1.0 small more.0 in
          let asker = name_of_word-back p e made.0.1.1 small more.1 in
          same_words p carrier (codes "cast") (a ∷ b ∷ c ∷ d ∷ e ∷ [])
          (made.0.0 ∷ codes "to" ∷ text_of_prefix made.0.1.0 ∷ codes "from" ∷ text_of_name made.0.1.1 ∷ [])
          (Cast made.0.0 made.0.1.0 made.0.1.1) step
          (cc (word.0, to, prefix.0, from, asker.0)) made.2 (refl, (word.1, prefix.1, asker.1))
    ]
cast_step p carrier (a ∷ b ∷ c ∷ d ∷ e ∷ f ∷ others) step small read = absurd (cc)

step_of_kind-back : (p : SettingsValue) (carrier : Bool) (kind : Kind) (others : List (List ℕ)) (step : Step) → p.base ≤ 16
    → is_there p carrier kind ≡ true → step_of_kind p kind others ≡ Some step
    → IsWordsOfStep p carrier (text_of_kind kind ∷ others) step
step_of_kind-back p carrier (shape.Name kind) others step small there read =
    let made = option_map-back (step_of_name kind) (one_name p others) step read in
    let back = one_name-back p others made.0 small made.1 in
    same_words p carrier (text_of_kind (shape.Name kind)) others (text_of_name made.0 ∷ []) (step_of_name kind made.0) step back.0 made.2
    (name_step p carrier kind made.0 back.1)
step_of_kind-back p carrier (shape.Pair kind) others step small there read =
    let made = option_map-back (λ names. step_of_pair kind names.0 names.1) (two_names p (link_of_pair kind) others) step read in
    let back = two_names-back p (link_of_pair kind) others made.0 small made.1 in
    same_words p carrier (text_of_kind (shape.Pair kind)) others (text_of_name made.0.0 ∷ link_of_pair kind ∷ text_of_name made.0.1 ∷ [])
    (step_of_pair kind made.0.0 made.0.1) step back.0 made.2
    (pair_step p carrier kind made.0.0 made.0.1 there back.1)
step_of_kind-back p carrier (shape.Place kind) others step small there read =
    let made = option_map-back (step_of_place kind) (one_number (2 ^ 32) others) step read in
    let back = one_number-back (2 ^ 32) others made.0 made.1 in
    same_words p carrier (text_of_kind (shape.Place kind)) others (decimal made.0 ∷ []) (step_of_place kind made.0) step back.0 made.2
    (place_step p carrier kind made.0 there back.1)
step_of_kind-back p carrier shape.Settle others step small there read = settle_step p carrier others step read
step_of_kind-back p true shape.Garble others step small there read = absurd (let other : false ≡ true = there in cc)
step_of_kind-back p false shape.Garble others step small there read = garble_step p others step read
step_of_kind-back p true shape.Cut others step small there read = absurd (let other : false ≡ true = there in cc)
step_of_kind-back p false shape.Cut others step small there read = cut_step p others step read
step_of_kind-back p true shape.Tick others step small there read = tick_step p others step read
step_of_kind-back p false shape.Tick others step small there read = absurd (let other : false ≡ true = there in cc)
step_of_kind-back p carrier shape.Cast others step small there read = cast_step p carrier others step small read

pub step_of_words-back : (p : SettingsValue) (carrier : Bool) (read : List (List ℕ)) (step : Step) → p.base ≤ 16
    → step_of_words p carrier read ≡ Some step → IsWordsOfStep p carrier read step
step_of_words-back p carrier [] step small told = absurd (cc)
step_of_words-back p carrier (word ∷ others) step small read =
    let told = and_then-back (λ kind. if is_there p carrier kind then step_of_kind p kind others else None) (kind_of_word word) step read in
    let same : word ≡ text_of_kind told.0 =
    (bytes_eq-Decides word (text_of_kind told.0)).0 (find-passes (λ kind. bytes_eq word (text_of_kind kind)) step_kinds told.0 told.1) in
    elim (cases_Bool (is_there p carrier told.0)) [
      | inr absent ↦ absurd (let failed = rw absent at told.2 in cc)
      | inl there ↦
          let is = step_of_kind-back p carrier told.0 others step small there (rw there at told.2) in
          (same_first word (text_of_kind told.0) others others same refl ∙ is.0, is.1)
    ]

-- a text is read as a step only if it is that step's text, and the step is one of these settings
pub step_of_text-back : (p : SettingsValue) (carrier : Bool) (text : List ℕ) (step : Step) → p.base ≤ 16
    → step_of_text p carrier text ≡ Some step → (text ≡ text_of_step step) × IsStep p carrier step
step_of_text-back p carrier text step small read =
    let back = step_of_words-back p carrier (words text) step small read in
    (sym (join_with_byte-slice_split 32 text) ∙ ap (join_with_byte 32) back.0 ∙ sym (text_of_step-join step), back.1)

-- both at once
pub step_of_text-exact : (p : SettingsValue) (carrier : Bool) (text : List ℕ) (step : Step) → p.base ≤ 16
    → (step_of_text p carrier text ≡ Some step) ↔ ((text ≡ text_of_step step) × IsStep p carrier step)
step_of_text-exact p carrier text step small =
    (step_of_text-back p carrier text step small, λ is. ap (step_of_text p carrier) is.0 ∙ step_of_text-text p carrier step small is.1)
