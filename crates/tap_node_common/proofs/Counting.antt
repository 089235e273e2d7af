-- How many links a node could have with further names.
use Rattle.std.proofs.Common.{suc, All, ◌≡◌, ℕ, ◌+◌, ◌≤◌, not, ◌||◌, Bool, if◌then◌else◌, List, [], ◌∷◌, length, map, Option, None, Some, true, false, arith, refl, sym, ap, subst, ◌∙◌, inl, inr}
use Rattle.std.specs.Prelude.{is_some, nat_eq, nat_lt}
use Rattle.std.specs.List.{AllPairs}
use Rattle.std.specs.declared.cmp.Ordering.TheVariants.{Less}
use Rattle.std.specs.Cmp.Lexicographic.{pointwise}
use Rattle.std.proofs.lemmas.Bool.{cases_Bool, le-ltb, true≢false}
use Rattle.std.proofs.lemmas.List.Sums.{count_by-le-length, sum_by-cons}
use Rattle.std.proofs.lemmas.List.Elements.{All-head, All-tail}
use Rattle.std.proofs.lemmas.Slice.Eq.{bytes_eq-Decides}
use Rattle.tap_name.specs.declared.slot.Offered.{Offered}
use Rattle.tap_name.specs.Names.{Among, has_name}
use Rattle.tap_name.specs.Order.{name_cmp}
use Rattle.tap_name.specs.Settings.{SettingsValue}
use Rattle.tap_name.proofs.Membership.{has_name-Decides}
use Rattle.tap_depart.specs.Leaving.{names_but}
use Rattle.tap_table.specs.ByName.{targets_by_name}
use Rattle.tap_table.specs.Table.{IsTable, TableValue, empty_table, kind_in, rows}
use Rattle.tap_table.proofs.Found.{linked_is_other}
use Rattle.tap_table.proofs.Near.{tied_itself}
use Rattle.tap_table.proofs.Targets.{linked_is_target, target_is_linked}
use Rattle.tap_link.specs.declared.kind.Kind.{Kind}
use Rattle.tap_multicast.specs.Covers.{CoversValue}
use Rattle.tap_rule.specs.Strange.{is_too_many, with_names}
use Rattle.tap_rule.proofs.EndSteps.{unlinked}
use Rattle.tap_node_common.specs.declared.known.Known.{Known}
use Rattle.tap_node_common.specs.declared.known.Known.TheVariants.{Kept, Nothing}
use Rattle.tap_node_common.specs.Strangers.{IsFor, IsForNode, IsValid, covers_known, is_known_to, new_among, new_beside, table_known}
use Rattle.tap_node_common.proofs.Rows.{length-empty_rows, rows_by_name, targets_by_name-empty}

-- names of which none is this one stay
none_left_out : (names : List (List ℕ)) (own : List ℕ) → (Among own names → ⊥) → names_but names own ≡ names
none_left_out [] own apart = refl
none_left_out (name ∷ names) own apart =
    elim (cases_Bool (pointwise nat_eq name own)) [
      | inl same ↦ absurd (apart (inl (sym ((bytes_eq-Decides name own).0 same))))
      | inr other ↦ rw other (ap (λ l. name ∷ l) (none_left_out names own (λ later. apart (inr later))))
    ]

-- a name isn't among those after it, all apart
abbrev pub AreApart : List Offered → Type 0
AreApart [] = Unit {0}
AreApart (link ∷ links) = (Among link.name (map (λ l. l.name) links) → ⊥) × AreApart links

-- links that ascend are apart
above_apart : (name : List ℕ) (links : List Offered) → All (λ other. name_cmp name other.name ≡ Less) links
    → Among name (map (λ l. l.name) links) → ⊥
above_apart name [] above among = among
above_apart name (link ∷ links) above (inl same) =
    let less : name_cmp name link.name ≡ Less = All-head (λ (other : Offered). name_cmp name other.name ≡ Less) link links above in
    let itself : name_cmp name name ≡ Less = ap (name_cmp name) same ∙ less in
    let tied = tied_itself name in
    let wrong : false ≡ true = rw itself at tied in
    cc
above_apart name (link ∷ links) above (inr later) =
    above_apart name links (All-tail (λ (other : Offered). name_cmp name other.name ≡ Less) link links above) later

pub apart_links : (links : List Offered) → AllPairs (λ a b. name_cmp a.name b.name ≡ Less) links → AreApart links
apart_links [] ascending = tt
apart_links (link ∷ links) ascending = (
  above_apart link.name links (λ k d within. ascending 0 (suc k) d (omega arith) (omega arith)),
  apart_links links (λ i j d before within. ascending (suc i) (suc j) d (omega arith) (omega arith)),
)

-- of further names, which are apart, those count that are neither among the first ones nor this one
module _ (own : List ℕ) where
  counted_one : (known : List (List ℕ)) (name : List ℕ) (there : Bool) → has_name known name ≡ there
      → length (names_but (if has_name known name then known else name ∷ known) own)
      ≡ (if pointwise nat_eq name own || there then 0 else 1) + length (names_but known own)
  counted_one known name true is =
      elim (cases_Bool (pointwise nat_eq name own)) [
        | inl same ↦ rw (is, same) (omega arith)
        | inr other ↦ rw (is, other) (omega arith)
      ]
  counted_one known name false is =
      elim (cases_Bool (pointwise nat_eq name own)) [
        | inl same ↦ rw (is, same) (omega arith)
        | inr other ↦ rw (is, other) (omega arith)
      ]

-- a name that isn't the owner's, nor among the sender's and the links, is one that isn't the sender's and isn't known
same_count : (from linked owned : Bool)
    → ◌≡◌ {A = ℕ} (if owned || (from || linked) then 0 else 1) (if not (from || (owned || linked)) then 1 else 0)
same_count true linked true = refl
same_count true linked false = refl
same_count false true true = refl
same_count false true false = refl
same_count false false true = refl
same_count false false false = refl

-- the targets by name of a table are its links, each once, and none of them is the owner
record IsCounted (t : TableValue) : Type 0 where
  pub linked : (x : List ℕ) → has_name (targets_by_name t) x ≡ is_some (kind_in t x)
  pub other : Among t.owner (targets_by_name t) → ⊥
  pub rows : length (rows t) ≡ length (targets_by_name t)

-- of a valid table, and of one without links
counted_valid : (t : TableValue) → IsTable t → IsCounted t
counted_valid t valid = record {
  linked = λ x. by_kind x (kind_in t x) refl;
  other = λ among. let found = target_is_linked t valid t.owner among in linked_is_other t valid t.owner found.0 found.1 refl;
  rows = rows_by_name t valid;
}
  where
    by_kind : (x : List ℕ) (found : Option Kind) → kind_in t x ≡ found → has_name (targets_by_name t) x ≡ is_some found
    by_kind x (Some kind) is = (has_name-Decides (targets_by_name t) x).1 (linked_is_target t valid x kind is)
    by_kind x None is = elim (cases_Bool (has_name (targets_by_name t) x)) [
      | inl there ↦
          let found = target_is_linked t valid x ((has_name-Decides (targets_by_name t) x).0 there) in
          let wrong : None ≡ Some found.0 = sym is ∙ found.1 in cc
      | inr absent ↦ absent
    ]

counted_empty : (p : SettingsValue) (name : List ℕ) → IsCounted (empty_table p name)
counted_empty p name =
    let none = targets_by_name-empty p name in
    record {
      linked = λ x. rw (none, unlinked p name x) refl;
      other = λ among. subst (Among name) none among;
      rows = length-empty_rows p name ∙ sym (ap length none);
    }

module _ (t : TableValue) (counted : IsCounted t) (from : List ℕ) where
  -- a name is the sender's or linked
  abbrev is_there : List ℕ → Bool
  is_there x = pointwise nat_eq x from || is_some (kind_in t x)

  -- the names of a Hello, with these known ones
  counted_on : (links : List Offered) (known : List (List ℕ)) → AreApart links
      → ((x : List ℕ) → Among x (map (λ l. l.name) links) → has_name known x ≡ is_there x)
      → length (names_but (with_names known (map (λ l. l.name) links)) t.owner)
      ≡ length (names_but known t.owner) + new_among t from links
  counted_on [] known apart same = omega arith
  counted_on (link ∷ links) known apart same =
      let name = link.name in
      let now : List (List ℕ) = if has_name known name then known else name ∷ known in
      let first = counted_one t.owner known name (is_there name) (same name (inl refl)) in
      let one = same_count (pointwise nat_eq name from) (is_some (kind_in t name)) (pointwise nat_eq name t.owner) in
      let later : (x : List ℕ) → Among x (map (λ l. l.name) links) → has_name now x ≡ is_there x =
      λ x among. elim (cases_Bool (has_name known name)) [
        | inl there ↦ rw there (same x (inr among))
        | inr absent ↦ rw absent (elim (cases_Bool (pointwise nat_eq name x)) [
          | inl is ↦ absurd (apart.0 (subst (λ z. Among z (map (λ l. l.name) links)) (sym ((bytes_eq-Decides name x).0 is)) among))
          | inr other ↦ rw other (same x (inr among))
        ])
      ] in
      let rest = counted_on links now apart.1 later in
      let more = sum_by-cons (λ (l : Offered). if not (pointwise nat_eq l.name from || is_known_to t l.name) then 1 else 0) link links in
      omega (arith, first, one, rest, more)

  -- without the owner, which isn't among them, the targets are as many as the links
  without_owner : length (names_but (targets_by_name t) t.owner) ≡ length (rows t)
  without_owner = ap length (none_left_out (targets_by_name t) t.owner counted.other) ∙ sym counted.rows

  -- the links with one name, and with the names of a Hello
  counted_with : (name : List ℕ)
      → length (names_but (if has_name (targets_by_name t) name then targets_by_name t else name ∷ targets_by_name t) t.owner)
      ≡ length (rows t) + new_beside t name
  counted_with name =
      let one = counted_one t.owner (targets_by_name t) name (is_some (kind_in t name)) (counted.linked name) in
      let start = without_owner in
      omega (arith, one, start)

  counted_hello : (links : List Offered) → AreApart links
      → length (names_but (with_names (targets_by_name t) (from ∷ map (λ l. l.name) links)) t.owner)
      ≡ length (rows t) + new_beside t from + new_among t from links
  counted_hello links apart =
      let now : List (List ℕ) = if has_name (targets_by_name t) from then targets_by_name t else from ∷ targets_by_name t in
      let there : (x : List ℕ) → Among x (map (λ l. l.name) links) → has_name now x ≡ is_there x = λ x among.
      elim (cases_Bool (has_name (targets_by_name t) from)) [
        | inl has ↦ rw has (elim (cases_Bool (pointwise nat_eq x from)) [
          | inl same ↦
              let is : x ≡ from = (bytes_eq-Decides x from).0 same in
              rw same (ap (has_name (targets_by_name t)) is ∙ has)
          | inr other ↦ rw other (counted.linked x)
        ])
        | inr absent ↦ rw absent (elim (cases_Bool (pointwise nat_eq x from)) [
          | inl same ↦ rw (same, (bytes_eq-Decides from x).1 (sym ((bytes_eq-Decides x from).0 same))) refl
          | inr other ↦ elim (cases_Bool (pointwise nat_eq from x)) [
            | inl wrong ↦ absurd (true≢false (sym ((bytes_eq-Decides x from).1 (sym ((bytes_eq-Decides from x).0 wrong))) ∙ other))
            | inr differs ↦ rw (other, differs) (counted.linked x)
          ]
        ])
      ] in
      let first = counted_with from in
      let rest = counted_on links now apart there in
      omega (arith, first, rest)

-- the names of a frame are too many for each node with the table
module _ (t : TableValue) (covers : CoversValue) (counted : IsCounted t) where
  for_nodes : (names : List (List ℕ)) (count : ℕ)
      → length (names_but (with_names (targets_by_name t) names) t.owner) ≡ count
      → IsForNode t covers (λ node. is_too_many node names) (nat_lt 255 count)
  for_nodes names count is node same _ =
      subst (λ u. nat_lt 255 count ≡ nat_lt 255 (length (names_but (with_names (targets_by_name u) names) u.owner))) (sym same)
      (ap (nat_lt 255) (sym is))

  one_too_many : (name : List ℕ) → IsForNode t covers (λ node. is_too_many node (name ∷ []))
      (nat_lt 255 (length (rows t) + new_beside t name))
  one_too_many name = for_nodes (name ∷ []) (length (rows t) + new_beside t name) (counted_with t counted name name)

  none_too_many : length (rows t) ≤ 255 → IsForNode t covers (λ node. is_too_many node []) false
  none_too_many few node same covered =
      sym (le-ltb 255 (length (rows t)) few) ∙ for_nodes [] (length (rows t)) (without_owner t counted t.owner) node same covered

  module _ (from : List ℕ) (links : List Offered) (apart : AreApart links) where
    hello_too_many : IsForNode t covers (λ node. is_too_many node (from ∷ map (λ l. l.name) links))
        (nat_lt 255 (length (rows t) + new_beside t from + new_among t from links))
    hello_too_many =
        for_nodes (from ∷ map (λ l. l.name) links) (length (rows t) + new_beside t from + new_among t from links)
        (counted_hello t counted from links apart)

    hello_not_too_many : length (rows t) + new_beside t from + length links ≤ 255
        → IsForNode t covers (λ node. is_too_many node (from ∷ map (λ l. l.name) links)) false
    hello_not_too_many few node same covered =
        let most = count_by-le-length (λ (l : Offered). not (pointwise nat_eq l.name from || is_known_to t l.name)) links in
        let count = length (rows t) + new_beside t from + new_among t from links in
        sym (le-ltb 255 count (omega (arith, few, most))) ∙ hello_too_many node same covered

-- and for a node by what it knows
module _ (known : Known) (valid : IsValid known) where
  abbrev t : TableValue
  t = table_known known

  counted_known : IsCounted t
  counted_known = by_known known valid
    where
      by_known : (k : Known) → IsValid k → IsCounted (table_known k)
      by_known (Kept table covers) is = counted_valid table.now is
      by_known (Nothing settings name) is = counted_empty settings.now name.now

  pub known_one : (name : List ℕ)
      → IsFor known (λ node. is_too_many node (name ∷ [])) (nat_lt 255 (length (rows t) + new_beside t name))
  known_one = one_too_many t (covers_known known) counted_known

  pub known_none : length (rows t) ≤ 255 → IsFor known (λ node. is_too_many node []) false
  known_none = none_too_many t (covers_known known) counted_known

  module _ (from : List ℕ) (links : List Offered) (apart : AreApart links) where
    pub known_hello : IsFor known (λ node. is_too_many node (from ∷ map (λ l. l.name) links))
        (nat_lt 255 (length (rows t) + new_beside t from + new_among t from links))
    known_hello = hello_too_many t (covers_known known) counted_known from links apart

    pub known_few : length (rows t) + new_beside t from + length links ≤ 255
        → IsFor known (λ node. is_too_many node (from ∷ map (λ l. l.name) links)) false
    known_few = hello_not_too_many t (covers_known known) counted_known from links apart
