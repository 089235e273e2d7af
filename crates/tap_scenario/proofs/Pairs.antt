-- two names with a word between them, found at their places in a text
use Rattle.std.proofs.Common.{◌≡◌, ◌&&◌, ℕ, ◌<◌, ◌≤◌, Bool, true, false, nat_le, arith, List, [], ◌∷◌, ◌++◌, append_assoc, length, take, drop, bytes_eq, codes, Option, None, Some, if◌then◌else◌, refl, ap, sym, subst, ◌∙◌, inl, inr}
use Rattle.std.specs.List.{join_with_byte}
use Rattle.std.specs.Option.{option_zip}
use Rattle.std.proofs.Math.Seq.{take-append_seam, drop-append_seam}
use Rattle.std.proofs.lemmas.Bool.{cases_Bool, and_parts, le-leb, lt-leb}
use Rattle.std.proofs.lemmas.List.{take-append-drop, length-append}
use Rattle.std.proofs.lemmas.List.Splits.{join_with_byte-slice_split}
use Rattle.std.proofs.lemmas.Slice.Eq.{bytes_eq-Decides}
use Rattle.tap_name.specs.Settings.{SettingsValue}
use Rattle.tap_name.specs.Name.{IsName, name_of_word, text_of_name}
use Rattle.tap_name.proofs.Texts.{name_of_word-back, name_of_word-text, text_of_name-length, text_of_name-no_space}
use Rattle.tap_scenario.specs.declared.kind.PairKind.{PairKind}
use Rattle.tap_scenario.specs.declared.kind.PairKind.TheVariants.{Join, Publish, Withdraw, Find, Walk, RootSet}
use Rattle.tap_scenario.specs.Kind.{link_of_pair}
use Rattle.tap_scenario.specs.Step.{two_names}
use Rattle.tap_scenario.specs.Words.{HasNoSpace, words}
use Rattle.tap_scenario.proofs.Options.{option_zip-back}
use Rattle.tap_scenario.proofs.Shapes.{two_names-text, two_names-back}
use Rattle.tap_scenario.proofs.Splits.{words-join}
use Rattle.tap_scenario.proofs.StepTexts.{no_space}

-- a word with a space on either side
abbrev pub between_spaces : List ℕ → List ℕ
between_spaces link = 32 ∷ link ++ 32 ∷ []

-- the names before and after this, if the first one has as many bytes as a name
abbrev pub names_around : SettingsValue → List ℕ → List ℕ → Option (List ℕ × List ℕ)
names_around p between text =
    if nat_le p.digits (length text) && bytes_eq (take (length between) (drop p.digits text)) between
    then option_zip (name_of_word p (take p.digits text)) (name_of_word p (drop (length between) (drop p.digits text)))
    else None

-- options that say the same are one
same_option : {A : Type 0} (a b : Option A) → ((x : A) → a ≡ Some x → b ≡ Some x) → ((x : A) → b ≡ Some x → a ≡ Some x) → a ≡ b
same_option None None there back = refl
same_option None (Some y) there back = back y refl
same_option (Some x) b there back = sym (there x refl)

both_if : {A B : Type 0} (here : Bool) (a : Option A) (b : Option B) (x : A) (y : B) → here ≡ true → a ≡ Some x → b ≡ Some y
    → (if here then option_zip a b else None) ≡ Some (x, y)
both_if here a b x y is first second = rw (is, first, second) refl

-- two names with this between them are read from their places
names_around-text : (p : SettingsValue) (between first second : List ℕ) → p.base ≤ 16 → IsName p first → IsName p second
    → names_around p between (text_of_name first ++ (between ++ text_of_name second)) ≡ Some (first, second)
names_around-text p between first second small is are =
    let text : List ℕ = text_of_name first ++ (between ++ text_of_name second) in
    let len : length (text_of_name first) ≡ p.digits = text_of_name-length first ∙ is.len in
    let before : take p.digits text ≡ text_of_name first = rw (← len) (take-append_seam (text_of_name first) (between ++ text_of_name second)) in
    let after : drop p.digits text ≡ between ++ text_of_name second =
    rw (← len) (drop-append_seam (text_of_name first) (between ++ text_of_name second)) in
    let whole = length-append (text_of_name first) (between ++ text_of_name second) in
    let room : nat_le p.digits (length text) ≡ true = le-leb p.digits (length text) (omega (arith, whole, len)) in
    let middle : take (length between) (drop p.digits text) ≡ between = ap (take (length between)) after ∙ take-append_seam between (text_of_name second) in
    let here : bytes_eq (take (length between) (drop p.digits text)) between ≡ true = (bytes_eq-Decides (take (length between) (drop p.digits text)) between).1 middle in
    let last : drop (length between) (drop p.digits text) ≡ text_of_name second =
    ap (drop (length between)) after ∙ drop-append_seam between (text_of_name second) in
    both_if (nat_le p.digits (length text) && bytes_eq (take (length between) (drop p.digits text)) between)
    (name_of_word p (take p.digits text)) (name_of_word p (drop (length between) (drop p.digits text))) first second (rw (room, here) refl)
    (ap (name_of_word p) before ∙ name_of_word-text p first small is) (ap (name_of_word p) last ∙ name_of_word-text p second small are)

-- what is read from its places is two names with this between them
names_around-back : (p : SettingsValue) (between text : List ℕ) (names : List ℕ × List ℕ) → p.base ≤ 16
    → names_around p between text ≡ Some names
    → (text ≡ text_of_name names.0 ++ (between ++ text_of_name names.1)) × IsName p names.0 × IsName p names.1
names_around-back p between text names small read =
    elim (cases_Bool (nat_le p.digits (length text) && bytes_eq (take (length between) (drop p.digits text)) between)) [
      | inr other ↦ absurd (let failed = rw other at read in cc)
      | inl both ↦
          let tests = and_parts (nat_le p.digits (length text)) (bytes_eq (take (length between) (drop p.digits text)) between) both in
          let middle = (bytes_eq-Decides (take (length between) (drop p.digits text)) between).0 tests.1 in
          let zipped = option_zip-back (name_of_word p (take p.digits text)) (name_of_word p (drop (length between) (drop p.digits text))) names (rw both at read) in
          let first = name_of_word-back p (take p.digits text) names.0 small zipped.0 in
          let second = name_of_word-back p (drop (length between) (drop p.digits text)) names.1 small zipped.1 in
          let halves = sym (take-append-drop p.digits text) in
          let others = sym (take-append-drop (length between) (drop p.digits text)) in
          (halves ∙ cc (first.0, second.0, middle, others), first.1, second.1)
    ]

-- the words of two names with a word between them
words-around : (link first second : List ℕ) → HasNoSpace link
    → words (text_of_name first ++ (between_spaces link ++ text_of_name second)) ≡ text_of_name first ∷ link ∷ text_of_name second ∷ []
words-around link first second unspaced =
    let join : text_of_name first ++ (between_spaces link ++ text_of_name second) ≡ join_with_byte 32 (text_of_name first ∷ link ∷ text_of_name second ∷ []) =
    simp append_assoc in
    ap words join ∙ words-join (text_of_name first) (link ∷ text_of_name second ∷ []) (text_of_name-no_space first) (unspaced, (text_of_name-no_space second, tt))

-- the words of a text are two names with a word between them exactly if the names stand at their places
pub two_names-around : (p : SettingsValue) (link text : List ℕ) → p.base ≤ 16 → HasNoSpace link
    → two_names p link (words text) ≡ names_around p (between_spaces link) text
two_names-around p link text small unspaced = same_option _ _
    (λ names read.
    let back = two_names-back p link (words text) names small read in
    let whole : text ≡ text_of_name names.0 ++ (between_spaces link ++ text_of_name names.1) =
    sym (join_with_byte-slice_split 32 text) ∙ ap (join_with_byte 32) back.0 ∙ simp append_assoc in
    subst (λ t. names_around p (between_spaces link) t ≡ Some names) (sym whole) (names_around-text p (between_spaces link) names.0 names.1 small back.1.0 back.1.1))
    (λ names read.
    let back = names_around-back p (between_spaces link) text names small read in
    let split = words-around link names.0 names.1 unspaced in
    rw (back.0, split) (two_names-text p link names.0 names.1 small (back.1, back.2)))

-- the word between the names of a step has no space
pub no_space_link : (kind : PairKind) → HasNoSpace (link_of_pair kind)
no_space_link Join = no_space (codes "via") refl
no_space_link Publish = no_space (codes "at") refl
no_space_link Withdraw = no_space (codes "at") refl
no_space_link Find = no_space (codes "from") refl
no_space_link Walk = no_space (codes "from") refl
no_space_link RootSet = no_space (codes "from") refl

-- what is found at their places is what the words are, if these are the words
around-words : (p : SettingsValue) (kind : PairKind) (text : List ℕ) (read : List (List ℕ)) → p.base ≤ 16 → words text ≡ read
    → two_names p (link_of_pair kind) read ≡ names_around p (between_spaces (link_of_pair kind)) text
around-words p kind text read small same = rw (← same) (two_names-around p (link_of_pair kind) text small (no_space_link kind))

unless_both : {A : Type 0} (long here : Bool) (found : Option A) → here ≡ false → (if long && here then found else None) ≡ None
unless_both true here found other = rw other refl
unless_both false here found other = refl

-- a text with fewer bytes than a name isn't two names
pub none_if_short : (p : SettingsValue) (kind : PairKind) (text : List ℕ) (read : List (List ℕ)) → p.base ≤ 16 → words text ≡ read
    → length text < p.digits → two_names p (link_of_pair kind) read ≡ None
none_if_short p kind text read small same short =
    let test : nat_le p.digits (length text) ≡ false = lt-leb p.digits (length text) short in
    around-words p kind text read small same ∙ rw test refl

-- and one isn't in which something else stands after the first name
pub none_if_apart : (p : SettingsValue) (kind : PairKind) (text others between : List ℕ) (read : List (List ℕ)) → p.base ≤ 16
    → words text ≡ read → others ≡ drop p.digits text → between ≡ between_spaces (link_of_pair kind)
    → bytes_eq (take (length between) others) between ≡ false → two_names p (link_of_pair kind) read ≡ None
none_if_apart p kind text others between read small same rest is apart =
    let whole : two_names p (link_of_pair kind) read ≡ names_around p between text = rw is (around-words p kind text read small same) in
    whole ∙ unless_both (nat_le p.digits (length text)) _ _ (rw (← rest) apart)

-- else it is what the two names are read as
pub names_if_around : (p : SettingsValue) (kind : PairKind) (text first others between second : List ℕ) (read : List (List ℕ)) → p.base ≤ 16
    → words text ≡ read → p.digits ≤ length text → first ≡ take p.digits text → others ≡ drop p.digits text
    → between ≡ between_spaces (link_of_pair kind) → bytes_eq (take (length between) others) between ≡ true
    → second ≡ drop (length between) others
    → two_names p (link_of_pair kind) read ≡ option_zip (name_of_word p first) (name_of_word p second)
names_if_around p kind text first others between second read small same long begin rest is here end =
    let whole : two_names p (link_of_pair kind) read ≡ names_around p between text = rw is (around-words p kind text read small same) in
    let room : nat_le p.digits (length text) ≡ true = le-leb p.digits (length text) long in
    let found : bytes_eq (take (length between) (drop p.digits text)) between ≡ true = rw (← rest) here in
    whole ∙ rw (room, found, begin, end, rest) refl
