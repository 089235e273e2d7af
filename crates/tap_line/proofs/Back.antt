-- what is read as a line has the line's words
use Rattle.std.proofs.Common.{◌≡◌, ℕ, ◌^◌, ◌<◌, ◌≤◌, Bool, bytes_eq, List, [], ◌∷◌, decimal, codes, Option, None, Some, refl, sym, subst, inl, inr}
use Rattle.std.proofs.lemmas.Bool.{cases_Bool}
use Rattle.std.proofs.lemmas.Slice.Eq.{bytes_eq-Decides}
use Rattle.tap_name.specs.Settings.{SettingsValue}
use Rattle.tap_name.specs.Name.{IsName, text_of_name}
use Rattle.tap_scenario.specs.Step.{only}
use Rattle.tap_scenario.proofs.Options.{and_then-back, option_map-back}
use Rattle.tap_log.specs.declared.record.Record.TheVariants as item
use Rattle.tap_line.specs.declared.kind.NameKind.{NameKind}
use Rattle.tap_line.specs.declared.kind.NameKind.TheVariants.{Core, Gone, Abandoned, Member}
use Rattle.tap_line.specs.declared.kind.NumberKind.{NumberKind}
use Rattle.tap_line.specs.declared.kind.NumberKind.TheVariants.{Taken, Spent, Done, Arrived, Lost, Closed}
use Rattle.tap_line.specs.declared.kind.PairKind.{PairKind}
use Rattle.tap_line.specs.declared.kind.PairKind.TheVariants.{Rooted, Published, Withdrawn}
use Rattle.tap_line.specs.declared.kind.Kind.TheVariants as kinds
use Rattle.tap_line.specs.declared.line.Line.{Line}
use Rattle.tap_line.specs.declared.line.Line.TheVariants as line
use Rattle.tap_line.specs.Front.{◌>>=◌, name}
use Rattle.tap_line.specs.Kind.{line_of_name, line_of_number, line_of_pair, text_of_kind}
use Rattle.tap_line.specs.Line.{IsLine, IsServer}
use Rattle.tap_line.specs.Reading.{answered_of_words, asked_of_words, name_line_of_words, number_line_of_words, pair_line_of_words, reached_of_words, server_of_words}
use Rattle.tap_line.proofs.Spelling.{words_of_line, words_of_server}
use Rattle.tap_line.proofs.Taken.{name_taken, number_taken, only_taken, word_taken}

-- these are the words of a line of such a log
abbrev pub Spelled : SettingsValue → Bool → List (List ℕ) → Line → Type 0
Spelled p carrier words line = (words ≡ words_of_line p line) × IsLine p carrier line

-- the same line
pub spelled : (p : SettingsValue) (carrier : Bool) (words : List (List ℕ)) (made found : Line) → made ≡ found
    → Spelled p carrier words made → Spelled p carrier words found
spelled p carrier words made found same is = subst (Spelled p carrier words) same is

module _ (p : SettingsValue) (carrier : Bool) where
  number_spelled : (kind : NumberKind) (n : ℕ) → n < 2 ^ 32
      → Spelled p carrier (text_of_kind (kinds.Number kind) ∷ decimal n ∷ []) (line_of_number kind n)
  number_spelled Taken n is = (refl, is)
  number_spelled Spent n is = (refl, is)
  number_spelled Done n is = (refl, is)
  number_spelled Arrived n is = (refl, is)
  number_spelled Lost n is = (refl, is)
  number_spelled Closed n is = (refl, is)

  name_spelled : (kind : NameKind) (name : List ℕ) → IsName p name
      → Spelled p carrier (text_of_kind (kinds.Name kind) ∷ text_of_name name ∷ []) (line_of_name kind name)
  name_spelled Core name is = (refl, is)
  name_spelled Gone name is = (refl, is)
  name_spelled Abandoned name is = (refl, is)
  name_spelled Member name is = (refl, is)

  pair_spelled : (kind : PairKind) (object holder : List ℕ) → IsName p object × IsName p holder
      → Spelled p carrier (text_of_kind (kinds.Pair kind) ∷ text_of_name object ∷ codes "at" ∷ text_of_name holder ∷ [])
      (line_of_pair kind object holder)
  pair_spelled Rooted object holder is = (refl, is)
  pair_spelled Published object holder is = (refl, is)
  pair_spelled Withdrawn object holder is = (refl, is)

  pub number_back : (kind : NumberKind) (words : List (List ℕ)) (found : Line) → number_line_of_words kind words ≡ Some found
      → Spelled p carrier (text_of_kind (kinds.Number kind) ∷ words) found
  number_back kind words found read =
      let a = and_then-back _ _ found read in
      let first = number_taken (2 ^ 32) words a.0 a.1 in
      let last = only_taken (line_of_number kind a.0.0) found a.0.1 a.2 in
      let whole : words ≡ decimal a.0.0 ∷ [] = cc (first.0, last.0) in
      spelled p carrier (text_of_kind (kinds.Number kind) ∷ words) (line_of_number kind a.0.0) found last.1
      (subst (λ w. Spelled p carrier (text_of_kind (kinds.Number kind) ∷ w) (line_of_number kind a.0.0)) (sym whole) (number_spelled kind a.0.0 first.1))

  module _ (small : p.base ≤ 16) where
    pub name_back : (kind : NameKind) (words : List (List ℕ)) (found : Line) → name_line_of_words p kind words ≡ Some found
        → Spelled p carrier (text_of_kind (kinds.Name kind) ∷ words) found
    name_back kind words found read =
        let a = and_then-back _ _ found read in
        let first = name_taken p words a.0 small a.1 in
        let last = only_taken (line_of_name kind a.0.0) found a.0.1 a.2 in
        let whole : words ≡ text_of_name a.0.0 ∷ [] = cc (first.0, last.0) in
        spelled p carrier (text_of_kind (kinds.Name kind) ∷ words) (line_of_name kind a.0.0) found last.1
        (subst (λ w. Spelled p carrier (text_of_kind (kinds.Name kind) ∷ w) (line_of_name kind a.0.0)) (sym whole) (name_spelled kind a.0.0 first.1))

    pub pair_back : (kind : PairKind) (words : List (List ℕ)) (found : Line) → pair_line_of_words p kind words ≡ Some found
        → Spelled p carrier (text_of_kind (kinds.Pair kind) ∷ words) found
    pair_back kind words found read =
        let a = and_then-back _ _ found read in
        let b = and_then-back _ _ found a.2 in
        let c = and_then-back _ _ found b.2 in
        let first = name_taken p words a.0 small a.1 in
        let second = word_taken (codes "at") a.0.1 b.0 b.1 in
        let third = name_taken p b.0.1 c.0 small c.1 in
        let last = only_taken (line_of_pair kind a.0.0 c.0.0) found c.0.1 c.2 in
        let whole : words ≡ text_of_name a.0.0 ∷ codes "at" ∷ text_of_name c.0.0 ∷ [] = cc (first.0, second, third.0, last.0) in
        spelled p carrier (text_of_kind (kinds.Pair kind) ∷ words) (line_of_pair kind a.0.0 c.0.0) found last.1
        (subst (λ w. Spelled p carrier (text_of_kind (kinds.Pair kind) ∷ w) (line_of_pair kind a.0.0 c.0.0)) (sym whole)
        (pair_spelled kind a.0.0 c.0.0 (first.1, third.1)))

    pub reached_back : (words : List (List ℕ)) (found : Line) → reached_of_words p words ≡ Some found
        → Spelled p carrier (codes "reached" ∷ words) found
    reached_back words found read =
        let a = and_then-back _ _ found read in
        let b = and_then-back _ _ found a.2 in
        let first = number_taken (2 ^ 32) words a.0 a.1 in
        let second = name_taken p a.0.1 b.0 small b.1 in
        let last = only_taken (line.Whole (item.Reached a.0.0 b.0.0)) found b.0.1 b.2 in
        let whole : codes "reached" ∷ words ≡ codes "reached" ∷ decimal a.0.0 ∷ text_of_name b.0.0 ∷ [] = cc (first.0, second.0, last.0) in
        spelled p carrier (codes "reached" ∷ words) (line.Whole (item.Reached a.0.0 b.0.0)) found last.1 (whole, (first.1, second.1))

    pub asked_back : (words : List (List ℕ)) (found : Line) → asked_of_words p words ≡ Some found
        → Spelled p carrier (codes "asked" ∷ words) found
    asked_back words found read =
        let a = and_then-back _ _ found read in
        let b = and_then-back _ _ found a.2 in
        let c = and_then-back _ _ found b.2 in
        let d = and_then-back _ _ found c.2 in
        let first = number_taken (2 ^ 32) words a.0 a.1 in
        let second = name_taken p a.0.1 b.0 small b.1 in
        let third = word_taken (codes "from") b.0.1 c.0 c.1 in
        let fourth = name_taken p c.0.1 d.0 small d.1 in
        let last = only_taken (line.Whole (item.Asked a.0.0 b.0.0 d.0.0)) found d.0.1 d.2 in
        let whole : codes "asked" ∷ words ≡ codes "asked" ∷ decimal a.0.0 ∷ text_of_name b.0.0 ∷ codes "from" ∷ text_of_name d.0.0 ∷ [] =
        cc (first.0, second.0, third, fourth.0, last.0) in
        spelled p carrier (codes "asked" ∷ words) (line.Whole (item.Asked a.0.0 b.0.0 d.0.0)) found last.1
        (whole, (first.1, second.1, fourth.1))

    server_back : (words : List (List ℕ)) (server : Option (List ℕ)) → server_of_words p words ≡ Some server
        → (words ≡ words_of_server server) × IsServer p server
    server_back [] server read = absurd (cc)
    server_back (first ∷ words) server read =
        elim (cases_Bool (bytes_eq first (codes "none"))) [
          | inl none ↦
              let last = only_taken None server words (rw none at read) in
              let is : first ≡ codes "none" = (bytes_eq-Decides first (codes "none")).0 none in
              let whole : first ∷ words ≡ codes "none" ∷ [] = cc (is, last.0) in
              subst (λ s. (first ∷ words ≡ words_of_server s) × IsServer p s) last.1 (whole, tt)
          | inr other ↦
              elim (cases_Bool (bytes_eq first (codes "server"))) [
                | inr neither ↦ absurd (let failed = rw (other, neither) at read in cc)
                | inl some ↦
                    let rest : (name p >>= λ asked. only (Some asked)) words ≡ Some server = rw (other, some) at read in
                    let a = and_then-back _ _ server rest in
                    let second = name_taken p words a.0 small a.1 in
                    let last = only_taken (Some a.0.0) server a.0.1 a.2 in
                    let is : first ≡ codes "server" = (bytes_eq-Decides first (codes "server")).0 some in
                    let whole : first ∷ words ≡ codes "server" ∷ text_of_name a.0.0 ∷ [] = cc (is, second.0, last.0) in
                    subst (λ s. (first ∷ words ≡ words_of_server s) × IsServer p s) last.1 (whole, second.1)
              ]
        ]

    pub answered_back : (words : List (List ℕ)) (found : Line) → answered_of_words p words ≡ Some found
        → Spelled p carrier (codes "answered" ∷ words) found
    answered_back words found read =
        let a = and_then-back _ _ found read in
        let b = option_map-back (λ server. line.Whole (item.Answered a.0.0 server)) (server_of_words p a.0.1) found a.2 in
        let first = number_taken (2 ^ 32) words a.0 a.1 in
        let second = server_back a.0.1 b.0 b.1 in
        let whole : codes "answered" ∷ words ≡ codes "answered" ∷ decimal a.0.0 ∷ words_of_server b.0 = cc (first.0, second.0) in
        spelled p carrier (codes "answered" ∷ words) (line.Whole (item.Answered a.0.0 b.0)) found b.2 (whole, (first.1, second.1))
