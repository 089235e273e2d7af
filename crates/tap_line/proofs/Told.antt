-- the words of each kind of line are read as the line
use Rattle.std.proofs.Common.{◌≡◌, ◌==◌, ℕ, zero, suc, ◌-◌, ◌^◌, ◌<◌, ◌≤◌, Bool, true, false, bytes_eq, arith, List, [], ◌∷◌, length, slice_index, decimal, codes, All, Option, None, Some, option_map, refl, ap, subst, inl, inr}
use Rattle.std.proofs.lemmas.Bool.{cases_Bool, eq-eqb, le-leb}
use Rattle.std.proofs.lemmas.Bool.Decides.{nat_tests}
use Rattle.std.proofs.lemmas.List.Elements.{All-cons, All-head, All-nil, All-tail}
use Rattle.std.proofs.lemmas.Slice.Eq.{bytes_eq-Decides}
use Rattle.tap_name.specs.Digits.{text_of_digit}
use Rattle.tap_name.specs.Settings.{AreWithinLimits, SettingsValue}
use Rattle.tap_name.specs.Name.{IsName, name_of_word, text_of_name}
use Rattle.tap_name.specs.Word.{IsWord}
use Rattle.tap_name.proofs.Texts.{name_of_word-text}
use Rattle.tap_name.proofs.Words.{is_word-Decides}
use Rattle.tap_scenario.specs.Step.{IsStep, number_below, step_of_text, text_of_step, with_digits}
use Rattle.tap_scenario.specs.Words.{words}
use Rattle.tap_scenario.specs.declared.step.Step.{Step}
use Rattle.tap_scenario.proofs.StepTexts.{step_of_text-text}
use Rattle.tap_log.specs.declared.record.LinkLine.{LinkLine}
use Rattle.tap_log.specs.declared.record.LinkWord.{LinkWord}
use Rattle.tap_log.specs.declared.record.LinkWord.TheVariants as link
use Rattle.tap_log.specs.declared.record.NodeWord.{NodeWord}
use Rattle.tap_log.specs.declared.record.NodeWord.TheVariants as node
use Rattle.tap_log.specs.declared.record.Pair.{Pair}
use Rattle.tap_log.specs.declared.record.Record.TheVariants as item
use Rattle.tap_report.specs.Lookups.{node_on_path}
use Rattle.tap_report.specs.Tables.{words_of_link, words_of_node}
use Rattle.tap_line.specs.declared.kind.NameKind.{NameKind}
use Rattle.tap_line.specs.declared.kind.NumberKind.{NumberKind}
use Rattle.tap_line.specs.declared.kind.PairKind.{PairKind}
use Rattle.tap_line.specs.declared.line.Beginning.{Beginning}
use Rattle.tap_line.specs.declared.line.Line.TheVariants as line
use Rattle.tap_line.specs.Front.{digit_of_word, names_before}
use Rattle.tap_line.specs.Kind.{line_of_name, line_of_number, line_of_pair}
use Rattle.tap_line.specs.Line.{AreRoots, IsBeginning, IsLink, IsPath, IsServer}
use Rattle.tap_line.specs.Reading.{answered_of_words, asked_of_words, begin_of_words, cast_line_of_words, chosen_link, chosen_load, chosen_node, is_path, link_of_words, name_line_of_words, number_line_of_words, packet_of_words, pair_line_of_words, pointer_of_words, pointers_of_words, reached_of_words, root_set_line_of_words, settings_of_numbers, step_line_of_words, table_of_words, walked_of_words, word_of_load}
use Rattle.tap_line.proofs.Spelling.{words_of_names, words_of_server}
use Rattle.tap_line.proofs.Taken.{number_told}

small_told : (n : ℕ) → n < 2 ^ 32 → number_below (2 ^ 32) (decimal n) ≡ Some n
small_told n is = number_told (2 ^ 32) n is (omega arith)

byte_told : (n : ℕ) → n < 256 → number_below 256 (decimal n) ≡ Some n
byte_told n is = number_told 256 n is (omega arith)

great_told : (n : ℕ) → n < 2 ^ 64 → number_below (2 ^ 64) (decimal n) ≡ Some n
great_told n is = number_told (2 ^ 64) n is (omega arith)

same_bytes : (word : List ℕ) → bytes_eq word word ≡ true
same_bytes word = (bytes_eq-Decides word word).1 refl

-- ---- one or two names or numbers

pub number_line_told : (kind : NumberKind) (n : ℕ) → n < 2 ^ 32 → number_line_of_words kind (decimal n ∷ []) ≡ Some (line_of_number kind n)
number_line_told kind n is = let first = small_told n is in rw first refl

module _ (p : SettingsValue) (small : p.base ≤ 16) where
  told : (name : List ℕ) → IsName p name → name_of_word p (text_of_name name) ≡ Some name
  told name is = name_of_word-text p name small is

  pub name_line_told : (kind : NameKind) (name : List ℕ) → IsName p name
      → name_line_of_words p kind (text_of_name name ∷ []) ≡ Some (line_of_name kind name)
  name_line_told kind name is = let first = told name is in rw first refl

  pub pair_line_told : (kind : PairKind) (object holder : List ℕ) → IsName p object → IsName p holder
      → pair_line_of_words p kind (text_of_name object ∷ codes "at" ∷ text_of_name holder ∷ []) ≡ Some (line_of_pair kind object holder)
  pair_line_told kind object holder is also =
      let first = told object is in let second = told holder also in rw (first, second) refl

  pub reached_told : (cast : ℕ) (name : List ℕ) → cast < 2 ^ 32 → IsName p name
      → reached_of_words p (decimal cast ∷ text_of_name name ∷ []) ≡ Some (line.Whole (item.Reached cast name))
  reached_told cast name is also =
      let first = small_told cast is in let second = told name also in rw (first, second) refl

  -- ---- steps and lookups

  pub step_told : (carrier : Bool) (index : ℕ) (step : Step) → index < 2 ^ 32 → IsStep p carrier step
      → step_line_of_words p carrier (decimal index ∷ words (text_of_step step)) ≡ Some (line.Whole (item.Step index step))
  step_told carrier index step is also =
      let first = small_told index is in
      let second : step_of_text p carrier (text_of_step step) ≡ Some step = step_of_text-text p carrier step small also in
      rw (first, second) refl

  pub asked_told : (ticket : ℕ) (object asker : List ℕ) → ticket < 2 ^ 32 → IsName p object → IsName p asker
      → asked_of_words p (decimal ticket ∷ text_of_name object ∷ codes "from" ∷ text_of_name asker ∷ [])
      ≡ Some (line.Whole (item.Asked ticket object asker))
  asked_told ticket object asker is one two =
      let first = small_told ticket is in let second = told object one in let third = told asker two in rw (first, second, third) refl

  pub answered_told : (ticket : ℕ) (server : Option (List ℕ)) → ticket < 2 ^ 32 → IsServer p server
      → answered_of_words p (decimal ticket ∷ words_of_server server) ≡ Some (line.Whole (item.Answered ticket server))
  answered_told ticket None is also = let first = small_told ticket is in rw first refl
  answered_told ticket (Some server) is also =
      let first = small_told ticket is in let second = told server also in rw (first, second) refl

  -- ---- walks and root sets

  no_digit : (digit : ℕ) → digit < 16 → text_of_digit digit ≡ 114 → ⊥
  no_digit digit below is = grind (arith, nat_tests)

  -- no name is printed as `root`
  not_root : (name : List ℕ) → IsName p name → bytes_eq (text_of_name name) (codes "root") ≡ false
  not_root [] is = refl
  not_root (digit ∷ digits) is =
      elim (cases_Bool (bytes_eq (text_of_name (digit ∷ digits)) (codes "root"))) [
        | inr other ↦ other
        | inl same ↦
            let whole : text_of_name (digit ∷ digits) ≡ codes "root" = (bytes_eq-Decides (text_of_name (digit ∷ digits)) (codes "root")).0 same in
            let first : text_of_digit digit ≡ 114 = cc in
            let below : digit < p.base = All-head (λ d. d < p.base) digit digits is.below in
            absurd (no_digit digit (omega (arith, below, small)) first)
      ]

  pub names_told : (names words : List (List ℕ)) → All (IsName p) names
      → names_before p (codes "root") (words_of_names names (codes "root" ∷ words)) ≡ Some (names, words)
  names_told [] words are = refl
  names_told (name ∷ names) words are =
      let is = All-head (IsName p) name names are in
      let other = not_root name is in
      let first = told name is in
      let more = names_told names words (All-tail (IsName p) name names are) in
      rw (other, first, more) refl

  end_holds : (first : List ℕ) (path : List (List ℕ)) (hops : ℕ) → length path ≡ hops
      → is_path (first ∷ path) first (record { root = node_on_path (first ∷ path) hops; hops = hops }) ≡ true
  end_holds first path hops is =
      subst (λ h. is_path (first ∷ path) first (record { root = node_on_path (first ∷ path) h; hops = h }) ≡ true) is
      (let one = same_bytes first in
      let two = same_bytes (node_on_path (first ∷ path) (length path)) in
      let three : (length path == length path) ≡ true = eq-eqb (length path) (length path) refl in
      rw (one, two, three) refl)

  path_holds : (path : List (List ℕ)) → IsPath p path
      → is_path path (node_on_path path 0) (record { root = node_on_path path (length path - 1); hops = length path - 1 }) ≡ true
  path_holds [] is = absurd (let some = is.some in omega arith)
  path_holds (first ∷ path) is = end_holds first path (length (first ∷ path) - 1) (omega arith)

  nodes_named : (path : List (List ℕ)) → All (IsName p) path → (place : ℕ) → place < length path → IsName p (node_on_path path place)
  nodes_named [] are place within = absurd (omega arith)
  nodes_named (first ∷ path) are zero within = All-head (IsName p) first path are
  nodes_named (first ∷ path) are (suc place) within = nodes_named path (All-tail (IsName p) first path are) place (omega arith)

  pub walked_told : (object : List ℕ) (path : List (List ℕ)) → IsName p object → IsPath p path
      → walked_of_words p (text_of_name object ∷ codes "from" ∷ text_of_name (node_on_path path 0) ∷ codes "path"
      ∷ words_of_names path (codes "root" ∷ text_of_name (node_on_path path (length path - 1)) ∷ codes "hops" ∷ decimal (length path - 1) ∷ []))
      ≡ Some (line.Whole (item.Walked object path))
  walked_told object path is are =
      let some = are.some in
      let first = told object is in
      let second = told (node_on_path path 0) (nodes_named path are.names 0 some) in
      let third = names_told path (text_of_name (node_on_path path (length path - 1)) ∷ codes "hops" ∷ decimal (length path - 1) ∷ []) are.names in
      let fourth = told (node_on_path path (length path - 1)) (nodes_named path are.names (length path - 1) (omega (arith, some))) in
      let fifth = great_told (length path - 1) are.few in
      let last = path_holds path are in
      rw (first, second, third, fourth, fifth, last) refl

  pub roots_told : (object asker : List ℕ) (roots : List (List ℕ)) → IsName p object → IsName p asker → AreRoots p roots
      → root_set_line_of_words p (text_of_name object ∷ codes "from" ∷ text_of_name asker ∷ codes "roots" ∷ words_of_names roots [])
      ≡ Some (line.Whole (item.RootsOf object asker roots))
  roots_told object asker [] is also are = absurd (let four = are.four in omega arith)
  roots_told object asker (a ∷ []) is also are = absurd (let four = are.four in omega arith)
  roots_told object asker (a ∷ b ∷ []) is also are = absurd (let four = are.four in omega arith)
  roots_told object asker (a ∷ b ∷ c ∷ []) is also are = absurd (let four = are.four in omega arith)
  roots_told object asker (a ∷ b ∷ c ∷ d ∷ []) is also are =
      let after = All-tail (IsName p) a (b ∷ c ∷ d ∷ []) are.names in
      let later = All-tail (IsName p) b (c ∷ d ∷ []) after in
      let last = All-tail (IsName p) c (d ∷ []) later in
      let one = told object is in
      let two = told asker also in
      let three = told a (All-head (IsName p) a (b ∷ c ∷ d ∷ []) are.names) in
      let four = told b (All-head (IsName p) b (c ∷ d ∷ []) after) in
      let five = told c (All-head (IsName p) c (d ∷ []) later) in
      let six = told d (All-head (IsName p) d [] last) in
      rw (one, two, three, four, five, six) refl
  roots_told object asker (a ∷ b ∷ c ∷ d ∷ e ∷ roots) is also are = absurd (let four = are.four in omega arith)

  -- ---- tables and pointers

  node_told : (status : NodeWord) → chosen_node (words_of_node status) ≡ Some status
  node_told node.Joining = refl
  node_told node.Core = refl
  node_told node.Leaving = refl

  link_told : (kind : LinkWord) → chosen_link (words_of_link kind) ≡ Some kind
  link_told link.Pin = refl
  link_told link.Settled = refl
  link_told link.Leaving = refl

  pub table_told : (name : List ℕ) (status : NodeWord) (links : ℕ) → IsName p name → links < 2 ^ 64
      → table_of_words p (text_of_name name ∷ words_of_node status ∷ codes "links" ∷ decimal links ∷ []) ≡ Some (line.Table name status links)
  table_told name status links is few =
      let first = told name is in let second = node_told status in let third = great_told links few in rw (first, second, third) refl

  digit_told : (digit : ℕ) → digit < p.base → digit_of_word p (text_of_digit digit ∷ []) ≡ Some digit
  digit_told digit below =
      let one : IsName (with_digits 1 p) (digit ∷ []) =
      record { len = refl; below = All-cons (λ d. d < p.base) digit [] below (All-nil (λ d. d < p.base)) } in
      ap (option_map (λ digits. slice_index digits 0)) (name_of_word-text (with_digits 1 p) (digit ∷ []) small one)

  pub link_line_told : (l : LinkLine) → IsLink p l
      → link_of_words p (decimal l.slot.level ∷ (text_of_digit l.slot.digit ∷ []) ∷ text_of_name l.name ∷ words_of_link l.kind ∷ [])
      ≡ Some (line.Link l)
  link_line_told l is =
      let first = byte_told l.slot.level is.level in
      let second = digit_told l.slot.digit is.digit in
      let third = told l.name is.name in
      let fourth = link_told l.kind in
      rw (first, second, third, fourth) refl

  pub pointers_told : (name : List ℕ) (pairs : ℕ) → IsName p name → pairs < 2 ^ 64
      → pointers_of_words p (text_of_name name ∷ codes "count" ∷ decimal pairs ∷ []) ≡ Some (line.Pointers name pairs)
  pointers_told name pairs is few = let first = told name is in let second = great_told pairs few in rw (first, second) refl

  pub pointer_told : (pair : Pair) → IsName p pair.object → IsName p pair.server
      → pointer_of_words p (text_of_name pair.object ∷ text_of_name pair.server ∷ []) ≡ Some (line.Pointer pair)
  pointer_told pair is also = let first = told pair.object is in let second = told pair.server also in rw (first, second) refl

  -- ---- casts

  pub cast_told : (cast : ℕ) (word : List ℕ) (level : ℕ) (name : List ℕ) → cast < 2 ^ 32 → IsWord word → level < 256 → IsName p name
      → cast_line_of_words p (decimal cast ∷ word ∷ codes "level" ∷ decimal level ∷ codes "from" ∷ text_of_name name ∷ [])
      ≡ Some (line.Whole (item.CastFrom cast word level name))
  cast_told cast word level name is letters low also =
      let first = small_told cast is in
      let second = (is_word-Decides word).1 letters in
      let third = byte_told level low in
      let fourth = told name also in
      rw (first, second, third, fourth) refl

load_told : (ack : Bool) → chosen_load (word_of_load ack) ≡ Some ack
load_told true = refl
load_told false = refl

pub packet_told : (packet frame : ℕ) (ack : Bool) → packet < 2 ^ 32 → frame < 2 ^ 32
    → packet_of_words (decimal packet ∷ word_of_load ack ∷ decimal frame ∷ []) ≡ Some (line.Whole (item.Packet packet frame ack))
packet_told packet frame ack is also =
    let first = small_told packet is in let second = load_told ack in let third = small_told frame also in rw (first, second, third) refl

-- ---- the beginning

within : (p : SettingsValue) → AreWithinLimits p → settings_of_numbers p.base p.digits p.width ≡ Some p
within p is =
    let a = le-leb 2 p.base is.base_from in
    let b = le-leb p.base 16 is.base_to in
    let c = le-leb 1 p.digits is.digits_from in
    let d = le-leb p.digits 40 is.digits_to in
    let e = le-leb 1 p.width is.width_from in
    let f = le-leb p.width 4 is.width_to in
    rw (a, b, c, d, e, f) refl

pub begin_told : (begun : Beginning) → IsBeginning begun
    → begin_of_words (codes "base" ∷ decimal begun.settings.base ∷ codes "digits" ∷ decimal begun.settings.digits ∷ codes "width"
    ∷ decimal begun.settings.width ∷ codes "frames" ∷ decimal begun.frames ∷ []) ≡ Some begun
begin_told begun is =
    let base = byte_told begun.settings.base (omega (arith, is.limits.base_to)) in
    let digits = byte_told begun.settings.digits (omega (arith, is.limits.digits_to)) in
    let width = byte_told begun.settings.width (omega (arith, is.limits.width_to)) in
    let frames = small_told begun.frames is.frames in
    let settings = within begun.settings is.limits in
    rw (base, digits, width, frames, settings) refl
