-- what is read as a step, a cast, a root set, a walk or a frame has the line's words
use Rattle.std.proofs.Common.{◌≡◌, ◌==◌, ◌&&◌, ℕ, ◌-◌, ◌^◌, ◌<◌, ◌≤◌, Bool, true, false, if◌then◌else◌, bytes_eq, arith, List, [], ◌∷◌, length, decimal, codes, All, IsOk, None, Some, option_map, option_and_then, Result, Ok, Err, refl, ap, sym, subst, ◌∙◌, inl, inr}
use Rattle.std.specs.List.{AllByRecursion}
use Rattle.std.proofs.lemmas.Bool.{and_parts, cases_Bool, eqb-true}
use Rattle.std.proofs.lemmas.List.Elements.{All-cons, All-nil}
use Rattle.std.proofs.lemmas.Slice.Eq.{bytes_eq-Decides}
use Rattle.hex.specs.Hex.{encode_lower}
use Rattle.tap_name.specs.Settings.{SettingsValue}
use Rattle.tap_name.specs.Name.{IsName, name_of_word, text_of_name}
use Rattle.tap_name.specs.Word.{IsWord, is_word}
use Rattle.tap_name.proofs.Texts.{name_of_word-back}
use Rattle.tap_name.proofs.Words.{is_word-Decides}
use Rattle.tap_scenario.specs.Step.{only, step_of_words, text_of_step, word_of_bytes}
use Rattle.tap_scenario.specs.Words.{HasNoSpace, words}
use Rattle.tap_scenario.proofs.Options.{and_then-back, option_map-back}
use Rattle.tap_wire.specs.Reading.{head_of}
use Rattle.tap_wire.specs.declared.fault.HeadFault.{HeadFault}
use Rattle.tap_wire.specs.declared.frame.Head.{Head}
use Rattle.tap_log.specs.declared.record.Record.TheVariants as item
use Rattle.tap_report.specs.Frames.{word_of_kind}
use Rattle.tap_report.specs.Lookups.{node_on_path}
use Rattle.tap_line.specs.declared.frames.CastParts.{CastParts}
use Rattle.tap_line.specs.declared.line.Line.{Line}
use Rattle.tap_line.specs.declared.line.Line.TheVariants as line
use Rattle.tap_line.specs.declared.paths.Request.{Request}
use Rattle.tap_line.specs.declared.paths.RootSet.{RootSet}
use Rattle.tap_line.specs.declared.paths.WalkEnd.{WalkEnd}
use Rattle.tap_line.specs.Front.{bytes_of_hex, first_as, hex, letters, names_before}
use Rattle.tap_line.specs.Line.{AreBytes, AreRoots, IsPath, IsSent}
use Rattle.tap_line.specs.Reading.{cast_line_of_words, cast_of_words, has_head, is_head, is_path, line_of_cast, line_of_roots, request, root_set_line_of_words, root_set_of_words, sent_of_words, step_line_of_words, walk_end, walk_of_parts, walked_of_words}
use Rattle.tap_line.proofs.Back.{Spelled, spelled}
use Rattle.tap_line.proofs.Hexes.{hex_back}
use Rattle.tap_line.proofs.Rests.{step_taken}
use Rattle.tap_line.proofs.Spelling.{words_of_head, words_of_names}
use Rattle.tap_line.proofs.Taken.{first_taken, name_taken, number_taken, only_taken, word_taken}

-- ---- atoms

word_of_bytes-back : (bytes word : List ℕ) → word_of_bytes bytes ≡ Some word → (bytes ≡ word) × IsWord word
word_of_bytes-back bytes word read =
    elim (cases_Bool (is_word bytes)) [
      | inr other ↦ absurd (let failed = rw other at read in cc)
      | inl all ↦
          let whole : Some bytes ≡ Some word = rw all at read in
          let same : bytes ≡ word = cc in
          (same, subst IsWord same ((is_word-Decides bytes).0 all))
    ]

letters_taken : (texts : List (List ℕ)) (taken : List ℕ × List (List ℕ)) → letters texts ≡ Some taken
    → (texts ≡ taken.0 ∷ taken.1) × IsWord taken.0
letters_taken texts taken is =
    let first = first_taken word_of_bytes texts taken is in
    let back = word_of_bytes-back first.0 taken.0 first.2 in
    (first.1 ∙ ap (λ w. w ∷ taken.1) back.0, back.1)

hex_taken : (texts : List (List ℕ)) (taken : List ℕ × List (List ℕ)) → hex texts ≡ Some taken
    → (texts ≡ encode_lower taken.0 ∷ taken.1) × AreBytes taken.0
hex_taken texts taken is =
    let first = first_taken bytes_of_hex texts taken is in
    let back = hex_back first.0 taken.0 first.2 in
    (first.1 ∙ ap (λ w. w ∷ taken.1) back.0, back.1)

-- an object and an asker were taken
record Requested (p : SettingsValue) (stop : List ℕ) (texts : List (List ℕ)) (taken : Request × List (List ℕ)) : Type 0 where
  is : texts ≡ text_of_name taken.0.object ∷ codes "from" ∷ text_of_name taken.0.asker ∷ stop ∷ taken.1
  object : IsName p taken.0.object
  asker : IsName p taken.0.asker

request_taken : (p : SettingsValue) (stop : List ℕ) (texts : List (List ℕ)) (taken : Request × List (List ℕ)) → p.base ≤ 16
    → request p stop texts ≡ Some taken → Requested p stop texts taken
request_taken p stop texts taken small read =
    let a = and_then-back _ _ taken read in
    let b = and_then-back _ _ taken a.2 in
    let c = and_then-back _ _ taken b.2 in
    let d = and_then-back _ _ taken c.2 in
    let first = name_taken p texts a.0 small a.1 in
    let second = word_taken (codes "from") a.0.1 b.0 b.1 in
    let third = name_taken p b.0.1 c.0 small c.1 in
    let fourth = word_taken stop c.0.1 d.0 d.1 in
    let made : Request = record { object = a.0.0; asker = c.0.0 } in
    let whole : Some (made, d.0.1) ≡ Some taken = d.2 in
    let same : (made, d.0.1) ≡ taken = cc in
    let is : texts ≡ text_of_name a.0.0 ∷ codes "from" ∷ text_of_name c.0.0 ∷ stop ∷ d.0.1 = cc (first.0, second, third.0, fourth) in
    subst (Requested p stop texts) same (record { is = is; object = first.1; asker = third.1 })

-- names were taken, up to the word `stop`
record NamesTaken (p : SettingsValue) (stop : List ℕ) (texts : List (List ℕ)) (taken : List (List ℕ) × List (List ℕ)) : Type 0 where
  is : texts ≡ words_of_names taken.0 (stop ∷ taken.1)
  names : All (IsName p) taken.0

-- one name more before others
one_more_taken : (p : SettingsValue) (stop name first : List ℕ) (texts : List (List ℕ)) (more taken : List (List ℕ) × List (List ℕ))
    → (first ≡ text_of_name name) × IsName p name → NamesTaken p stop texts more → (name ∷ more.0, more.1) ≡ taken
    → NamesTaken p stop (first ∷ texts) taken
one_more_taken p stop name first texts more taken is rest same =
    let whole : first ∷ texts ≡ words_of_names (name ∷ more.0) (stop ∷ more.1) =
    ap (λ w. w ∷ texts) is.0 ∙ ap (λ l. text_of_name name ∷ l) rest.is in
    subst (NamesTaken p stop (first ∷ texts)) same (record { is = whole; names = All-cons (IsName p) name more.0 is.1 rest.names })

names_taken : (p : SettingsValue) (stop : List ℕ) (texts : List (List ℕ)) (taken : List (List ℕ) × List (List ℕ)) → p.base ≤ 16
    → names_before p stop texts ≡ Some taken → NamesTaken p stop texts taken
names_taken p stop [] taken small read = absurd (cc)
names_taken p stop (first ∷ texts) taken small read =
    elim (cases_Bool (bytes_eq first stop)) [
      | inl end ↦
          let whole : Some ([], texts) ≡ Some taken = rw end at read in
          let same : ([], texts) ≡ taken = cc in
          let is : first ≡ stop = (bytes_eq-Decides first stop).0 end in
          subst (NamesTaken p stop (first ∷ texts)) same (record { is = ap (λ w. w ∷ texts) is; names = All-nil (IsName p) })
      | inr other ↦
          let rest : option_and_then (λ found. option_map (λ more. (found ∷ more.0, more.1)) (names_before p stop texts)) (name_of_word p first)
          ≡ Some taken = rw other at read in
          let a = and_then-back _ (name_of_word p first) taken rest in
          let b = option_map-back (λ more. (a.0 ∷ more.0, more.1)) (names_before p stop texts) taken a.2 in
          let is = name_of_word-back p first a.0 small a.1 in
          one_more_taken p stop a.0 first texts b.0 taken is (names_taken p stop texts b.0 small b.1) b.2
    ]

-- ---- lines

module _ (p : SettingsValue) (carrier : Bool) (small : p.base ≤ 16) (texts : List (List ℕ)) (found : Line) where
  pub step_back : AllByRecursion HasNoSpace texts → step_line_of_words p carrier texts ≡ Some found
      → Spelled p carrier (codes "step" ∷ texts) found
  step_back unspaced read =
      let a = and_then-back _ _ found read in
      let b = option_map-back (λ step. line.Whole (item.Step a.0.0 step)) (step_of_words p carrier a.0.1) found a.2 in
      let first = number_taken (2 ^ 32) texts a.0 a.1 in
      let second = step_taken p carrier b.0 a.0.1 small (subst (AllByRecursion HasNoSpace) first.0 unspaced).1 b.1 in
      let whole : codes "step" ∷ texts ≡ codes "step" ∷ decimal a.0.0 ∷ words (text_of_step b.0) =
      ap (λ l. codes "step" ∷ l) (first.0 ∙ ap (λ l. decimal a.0.0 ∷ l) second.0) in
      spelled p carrier (codes "step" ∷ texts) (line.Whole (item.Step a.0.0 b.0)) found b.2 (whole, (first.1, second.1))

  cast_parts : (parts : CastParts) → cast_of_words p texts ≡ Some parts → Spelled p carrier (codes "cast" ∷ texts) (line_of_cast parts)
  cast_parts parts read =
      let a = and_then-back _ _ parts read in
      let b = and_then-back _ _ parts a.2 in
      let c = and_then-back _ _ parts b.2 in
      let d = and_then-back _ _ parts c.2 in
      let e = and_then-back _ _ parts d.2 in
      let f = and_then-back _ _ parts e.2 in
      let first = number_taken (2 ^ 32) texts a.0 a.1 in
      let second = letters_taken a.0.1 b.0 b.1 in
      let third = word_taken (codes "level") b.0.1 c.0 c.1 in
      let fourth = number_taken 256 c.0.1 d.0 d.1 in
      let fifth = word_taken (codes "from") d.0.1 e.0 e.1 in
      let sixth = name_taken p e.0.1 f.0 small f.1 in
      let made : CastParts = record { cast = a.0.0; word = b.0.0; level = d.0.0; name = f.0.0 } in
      let last = only_taken made parts f.0.1 f.2 in
      let whole : codes "cast" ∷ texts
      ≡ codes "cast" ∷ decimal a.0.0 ∷ b.0.0 ∷ codes "level" ∷ decimal d.0.0 ∷ codes "from" ∷ text_of_name f.0.0 ∷ [] =
      cc (first.0, second.0, third, fourth.0, fifth, sixth.0, last.0) in
      subst (λ s. Spelled p carrier (codes "cast" ∷ texts) (line_of_cast s)) last.1 (whole, (first.1, second.1, fourth.1, sixth.1))

  pub cast_back : cast_line_of_words p texts ≡ Some found → Spelled p carrier (codes "cast" ∷ texts) found
  cast_back read =
      let a = option_map-back line_of_cast (cast_of_words p texts) found read in
      spelled p carrier (codes "cast" ∷ texts) (line_of_cast a.0) found a.2 (cast_parts a.0 a.1)

  roots_parts : (set : RootSet) → root_set_of_words p texts ≡ Some set → Spelled p carrier (codes "rootset" ∷ texts) (line_of_roots set)
  roots_parts set read =
      let a = and_then-back _ _ set read in
      let b = and_then-back _ _ set a.2 in
      let c = and_then-back _ _ set b.2 in
      let d = and_then-back _ _ set c.2 in
      let e = and_then-back _ _ set d.2 in
      let first = request_taken p (codes "roots") texts a.0 small a.1 in
      let second = name_taken p a.0.1 b.0 small b.1 in
      let third = name_taken p b.0.1 c.0 small c.1 in
      let fourth = name_taken p c.0.1 d.0 small d.1 in
      let fifth = name_taken p d.0.1 e.0 small e.1 in
      let made : RootSet = record { asked = a.0.0; roots = b.0.0 ∷ c.0.0 ∷ d.0.0 ∷ e.0.0 ∷ [] } in
      let last = only_taken made set e.0.1 e.2 in
      let asked = first.is in
      let whole : codes "rootset" ∷ texts
      ≡ codes "rootset" ∷ text_of_name a.0.0.object ∷ codes "from" ∷ text_of_name a.0.0.asker ∷ codes "roots" ∷ text_of_name b.0.0
      ∷ text_of_name c.0.0 ∷ text_of_name d.0.0 ∷ text_of_name e.0.0 ∷ [] =
      cc (asked, second.0, third.0, fourth.0, fifth.0, last.0) in
      let names : All (IsName p) (b.0.0 ∷ c.0.0 ∷ d.0.0 ∷ e.0.0 ∷ []) =
      All-cons (IsName p) b.0.0 (c.0.0 ∷ d.0.0 ∷ e.0.0 ∷ []) second.1
      (All-cons (IsName p) c.0.0 (d.0.0 ∷ e.0.0 ∷ []) third.1
      (All-cons (IsName p) d.0.0 (e.0.0 ∷ []) fourth.1 (All-cons (IsName p) e.0.0 [] fifth.1 (All-nil (IsName p))))) in
      let are : AreRoots p (b.0.0 ∷ c.0.0 ∷ d.0.0 ∷ e.0.0 ∷ []) = record { four = refl; names = names } in
      subst (λ s. Spelled p carrier (codes "rootset" ∷ texts) (line_of_roots s)) last.1 (whole, (first.object, first.asker, are))

  pub roots_back : root_set_line_of_words p texts ≡ Some found → Spelled p carrier (codes "rootset" ∷ texts) found
  roots_back read =
      let a = option_map-back line_of_roots (root_set_of_words p texts) found read in
      spelled p carrier (codes "rootset" ∷ texts) (line_of_roots a.0) found a.2 (roots_parts a.0 a.1)

-- ---- walks

-- the end of a walk was read
record EndRead (p : SettingsValue) (texts : List (List ℕ)) (end : WalkEnd) : Type 0 where
  is : texts ≡ text_of_name end.root ∷ codes "hops" ∷ decimal end.hops ∷ []
  root : IsName p end.root
  hops : end.hops < 2 ^ 64

end_read : (p : SettingsValue) (texts : List (List ℕ)) (end : WalkEnd) → p.base ≤ 16 → walk_end p texts ≡ Some end → EndRead p texts end
end_read p texts end small read =
    let a = and_then-back _ _ end read in
    let b = and_then-back _ _ end a.2 in
    let c = and_then-back _ _ end b.2 in
    let first = name_taken p texts a.0 small a.1 in
    let second = word_taken (codes "hops") a.0.1 b.0 b.1 in
    let third = number_taken (2 ^ 64) b.0.1 c.0 c.1 in
    let made : WalkEnd = record { root = a.0.0; hops = c.0.0 } in
    let last = only_taken made end c.0.1 c.2 in
    let whole : texts ≡ text_of_name a.0.0 ∷ codes "hops" ∷ decimal c.0.0 ∷ [] = cc (first.0, second, third.0, last.0) in
    subst (EndRead p texts) last.1 (record { is = whole; root = first.1; hops = third.1 })

-- a path from this asker that ends so
record PathIs (path : List (List ℕ)) (asker : List ℕ) (end : WalkEnd) : Type 0 where
  some : 0 < length path
  first : asker ≡ node_on_path path 0
  last : end.root ≡ node_on_path path (length path - 1)
  hops : end.hops ≡ length path - 1

path_is : (path : List (List ℕ)) (asker : List ℕ) (end : WalkEnd) → is_path path asker end ≡ true → PathIs path asker end
path_is [] asker end is = absurd (cc)
path_is (first ∷ path) asker end is =
    let both = and_parts (bytes_eq first asker && bytes_eq (node_on_path (first ∷ path) (length path)) end.root) (length path == end.hops) is in
    let names = and_parts (bytes_eq first asker) (bytes_eq (node_on_path (first ∷ path) (length path)) end.root) both.0 in
    let less : length path ≡ length (first ∷ path) - 1 = omega arith in
    record {
      some = omega arith;
      first = sym ((bytes_eq-Decides first asker).0 names.0);
      last = sym ((bytes_eq-Decides (node_on_path (first ∷ path) (length path)) end.root).0 names.1) ∙ ap (node_on_path (first ∷ path)) less;
      hops = sym (eqb-true (length path) end.hops both.1) ∙ less;
    }

parts_back : (asked : Request) (path : List (List ℕ)) (end : WalkEnd) (found : Line) → walk_of_parts asked path end ≡ Some found
    → (is_path path asked.asker end ≡ true) × (line.Whole (item.Walked asked.object path) ≡ found)
parts_back asked path end found read =
    elim (cases_Bool (is_path path asked.asker end)) [
      | inr other ↦ absurd (let failed = rw other at read in cc)
      | inl is ↦
          let whole : Some (line.Whole (item.Walked asked.object path)) ≡ Some found = rw is at read in
          (is, cc)
    ]

pub walked_back : (p : SettingsValue) (carrier : Bool) (texts : List (List ℕ)) (found : Line) → p.base ≤ 16
    → walked_of_words p texts ≡ Some found → Spelled p carrier (codes "walked" ∷ texts) found
walked_back p carrier texts found small read =
    let a = and_then-back _ _ found read in
    let b = and_then-back _ _ found a.2 in
    let c = and_then-back _ _ found b.2 in
    let asked = request_taken p (codes "path") texts a.0 small a.1 in
    let names = names_taken p (codes "root") a.0.1 b.0 small b.1 in
    let end = end_read p b.0.1 c.0 small c.1 in
    let parts = parts_back a.0.0 b.0.0 c.0 found c.2 in
    let path = path_is b.0.0 a.0.0.asker c.0 parts.0 in
    let hops = path.hops in
    let rest : b.0.1 ≡ text_of_name (node_on_path b.0.0 (length b.0.0 - 1)) ∷ codes "hops" ∷ decimal (length b.0.0 - 1) ∷ [] =
    end.is ∙ ap (λ n. text_of_name n ∷ codes "hops" ∷ decimal c.0.hops ∷ []) path.last
    ∙ ap (λ h. text_of_name (node_on_path b.0.0 (length b.0.0 - 1)) ∷ codes "hops" ∷ decimal h ∷ []) hops in
    let middle : a.0.1 ≡ words_of_names b.0.0
    (codes "root" ∷ text_of_name (node_on_path b.0.0 (length b.0.0 - 1)) ∷ codes "hops" ∷ decimal (length b.0.0 - 1) ∷ []) =
    names.is ∙ ap (λ l. words_of_names b.0.0 (codes "root" ∷ l)) rest in
    let whole : codes "walked" ∷ texts
    ≡ codes "walked" ∷ text_of_name a.0.0.object ∷ codes "from" ∷ text_of_name (node_on_path b.0.0 0) ∷ codes "path"
    ∷ words_of_names b.0.0 (codes "root" ∷ text_of_name (node_on_path b.0.0 (length b.0.0 - 1)) ∷ codes "hops" ∷ decimal (length b.0.0 - 1) ∷ []) =
    ap (λ l. codes "walked" ∷ l) (asked.is
    ∙ ap (λ n. text_of_name a.0.0.object ∷ codes "from" ∷ text_of_name n ∷ codes "path" ∷ a.0.1) path.first
    ∙ ap (λ l. text_of_name a.0.0.object ∷ codes "from" ∷ text_of_name (node_on_path b.0.0 0) ∷ codes "path" ∷ l) middle) in
    let few = end.hops in
    let is : IsPath p b.0.0 = record { some = path.some; few = subst (λ h. h < 2 ^ 64) hops few; names = names.names } in
    spelled p carrier (codes "walked" ∷ texts) (line.Whole (item.Walked a.0.0.object b.0.0)) found parts.1 (whole, (asked.object, is))

-- ---- frames

-- a head that has these words
head_back : (read : Result Head HeadFault) (kind from to bytes : List ℕ) → has_head read kind from to ≡ true
    → IsOk read × (kind ∷ from ∷ to ∷ encode_lower bytes ∷ [] ≡ words_of_head read bytes)
head_back (Err fault) kind from to bytes is = absurd (cc)
head_back (Ok head) kind from to bytes is =
    let both = and_parts (bytes_eq kind (word_of_kind head.kind) && bytes_eq from (text_of_name head.from)) (bytes_eq to (text_of_name head.to)) is in
    let two = and_parts (bytes_eq kind (word_of_kind head.kind)) (bytes_eq from (text_of_name head.from)) both.0 in
    let one : kind ≡ word_of_kind head.kind = (bytes_eq-Decides kind (word_of_kind head.kind)).0 two.0 in
    let sender : from ≡ text_of_name head.from = (bytes_eq-Decides from (text_of_name head.from)).0 two.1 in
    let receiver : to ≡ text_of_name head.to = (bytes_eq-Decides to (text_of_name head.to)).0 both.1 in
    (refl, rw (one, sender, receiver) refl)

-- a word that is taken as it is
any_taken : (texts : List (List ℕ)) (taken : List ℕ × List (List ℕ)) → first_as Some texts ≡ Some taken → texts ≡ taken.0 ∷ taken.1
any_taken texts taken is =
    let first = first_taken Some texts taken is in
    let word : first.0 ≡ taken.0 = some_same first.0 taken.0 first.2 in
    first.1 ∙ ap (λ w. w ∷ taken.1) word
  where
    some_same : (x y : List ℕ) → Some x ≡ Some y → x ≡ y
    some_same x y is = cc

checked_back : (here : Bool) (made found : Line) (texts : List (List ℕ)) → (if here then only made texts else None) ≡ Some found
    → (here ≡ true) × (texts ≡ []) × (made ≡ found)
checked_back true made found texts read = let last = only_taken made found texts read in (refl, last.0, last.1)
checked_back false made found texts read = absurd (cc)

pub sent_back : (p : SettingsValue) (carrier : Bool) (texts : List (List ℕ)) (found : Line) → p.base ≤ 16
    → sent_of_words p texts ≡ Some found → Spelled p carrier (codes "sent" ∷ texts) found
sent_back p carrier texts found small read =
    let a = and_then-back _ _ found read in
    let b = and_then-back _ _ found a.2 in
    let c = and_then-back _ _ found b.2 in
    let d = and_then-back _ _ found c.2 in
    let e = and_then-back _ _ found d.2 in
    let first = number_taken (2 ^ 32) texts a.0 a.1 in
    let second = any_taken a.0.1 b.0 b.1 in
    let third = any_taken b.0.1 c.0 c.1 in
    let fourth = any_taken c.0.1 d.0 d.1 in
    let fifth = hex_taken d.0.1 e.0 e.1 in
    let made = line.Whole (item.Sent a.0.0 e.0.0) in
    let last = checked_back (is_head p e.0.0 b.0.0 c.0.0 d.0.0) made found e.0.1 e.2 in
    let head = head_back (head_of p e.0.0) b.0.0 c.0.0 d.0.0 e.0.0 last.0 in
    let told = head.1 in
    let none = last.1 in
    let rest : a.0.1 ≡ b.0.0 ∷ c.0.0 ∷ d.0.0 ∷ encode_lower e.0.0 ∷ [] =
    cc (second, third, fourth, fifth.0, none) in
    let whole : codes "sent" ∷ texts ≡ codes "sent" ∷ decimal a.0.0 ∷ words_of_head (head_of p e.0.0) e.0.0 =
    ap (λ l. codes "sent" ∷ l) (first.0 ∙ ap (λ l. decimal a.0.0 ∷ l) (rest ∙ told)) in
    let is : IsSent p e.0.0 = record { each = fifth.1; head = head.0 } in
    spelled p carrier (codes "sent" ∷ texts) made found last.2 (whole, (first.1, is))
