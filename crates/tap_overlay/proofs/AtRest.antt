-- Members at rest under their names, as a loop makes them.
use Rattle.std.proofs.Common.{◌≡◌, inl, inr, ℕ, ◌+◌, ◌<◌, Bool, cond, true, false, List, [], ◌∷◌, ◌++◌, length, take, get_or, Option, None, Some, refl, ap, sym, subst, ◌∙◌}
use Rattle.std.specs.Prelude.{if◌then◌else◌, ◌||◌, bytes_eq}
use Rattle.std.proofs.lemmas.Bool.{cases_Bool}
use Rattle.std.proofs.lemmas.List.{take_more}
use Rattle.std.proofs.lemmas.Slice.Eq.{bytes_eq-Decides}
use Rattle.tap_name.specs.Names.{has_name}
use Rattle.tap_name.specs.Order.{sorted}
use Rattle.tap_name.proofs.Names.{same_tests}
use Rattle.tap_name.proofs.Membership.{has_name-Decides}
use Rattle.tap_name.proofs.Sorted.{among-sorted, sorted-permutation, sorted-same}
use Rattle.tap_table.specs.Members.{holders_at_rest, table_at_rest}
use Rattle.tap_name.specs.Settings.{SettingsValue}
use Rattle.tap_rule.specs.Node.{joiner, member_at_rest, name_of, settings_of}
use Rattle.tap_rule.specs.Node.Status.{Core}
use Rattle.tap_node.specs.Node.{NodeValue, running}
use Rattle.indexmap.specs.IndexMap.{IndexMap, Updates}
use Rattle.tap_overlay.specs.Overlay.{HasNameAndSettings, HaveOwnNames, member_at, node_among}
use Rattle.tap_overlay.proofs.Found.{found_same}

-- the member of a name as it is at rest, if it is one of those made so far
abbrev pub made_at : SettingsValue → List (List ℕ) → List (List ℕ) → List ℕ → Option NodeValue
made_at p members made name = if has_name made name then Some (running (member_at_rest p members name)) else None

-- the members made so far are there at rest, and nobody else
abbrev pub AreMade : SettingsValue → List (List ℕ) → List (List ℕ) → List (List ℕ × NodeValue) → Type 0
AreMade p members made nodes = (name : List ℕ) → node_among nodes name ≡ made_at p members made name

-- a name among these and one more: that one, or one of these
has_last : (names : List (List ℕ)) (last name : List ℕ) → bytes_eq last name ≡ true → has_name (names ++ last ∷ []) name ≡ true
has_last [] last name e = rw e refl
has_last (x ∷ xs) last name e =
    elim (cases_Bool (bytes_eq x name)) [ inl is ↦ rw is refl | inr not ↦ rw not (has_last xs last name e) ]

has_other : (names : List (List ℕ)) (last name : List ℕ) → bytes_eq last name ≡ false
    → has_name (names ++ last ∷ []) name ≡ has_name names name
has_other [] last name e = rw e refl
has_other (x ∷ xs) last name e = ap (λ (b : Bool). bytes_eq x name || b) (has_other xs last name e)

-- one more member
one_more : {S : Type 0} (p : SettingsValue) (members made : List (List ℕ)) (member : List ℕ)
    (before after : IndexMap (List ℕ) NodeValue S)
    → Updates bytes_eq before after member (Some (running (member_at_rest p members member)))
    → AreMade p members made before.entries → AreMade p members (made ++ member ∷ []) after.entries
one_more p members made member before after updates so_far name =
    let node_is : List ℕ → NodeValue = λ n. running (member_at_rest p members n) in
    let chosen : Bool → Option NodeValue = λ b. cond b (Some (node_is member)) (node_among before.entries name) in
    let found : node_among after.entries name ≡ chosen (bytes_eq member name) =
    sym (found_same after.entries name) ∙ updates.0 name
    ∙ ap (λ (o : Option NodeValue). cond (bytes_eq member name) (Some (node_is member)) o) (found_same before.entries name) in
    let there : Bool → Option NodeValue = λ b. if b then Some (node_is name) else None in
    elim (cases_Bool (bytes_eq member name)) [
      | inl e ↦
          let same : member ≡ name = (bytes_eq-Decides member name).0 e in
          found ∙ ap chosen e ∙ ap (λ (n : List ℕ). Some (node_is n)) same ∙ sym (ap there (has_last made member name e))
      | inr e ↦ found ∙ ap chosen e ∙ so_far name ∙ sym (ap there (has_other made member name e))
    ]

-- the same by the member's place
pub made_more : {S : Type 0} (p : SettingsValue) (members : List (List ℕ)) (i : ℕ) (member : List ℕ) (node : NodeValue)
    (before after : IndexMap (List ℕ) NodeValue S) → i < length members → member ≡ get_or members i member
    → node ≡ running (member_at_rest p members member)
    → Updates bytes_eq before after member (Some node)
    → AreMade p members (take i members) before.entries → AreMade p members (take (i + 1) members) after.entries
made_more p members i member node before after within is rest updates so_far =
    let more : take (i + 1) members ≡ take i members ++ member ∷ [] =
    take_more members i member within ∙ ap (λ (x : List ℕ). take i members ++ x ∷ []) (sym is) in
    let Made : List (List ℕ) → Type 0 = λ names. AreMade p members names after.entries in
    let Updated : NodeValue → Type 0 = λ n. Updates bytes_eq before after member (Some n) in
    subst Made (sym more) (one_more p members (take i members) member before after (subst Updated rest updates) so_far)

-- a member is at rest as it is among the members in their order
pub sorted_member : (p : SettingsValue) (members : List (List ℕ)) (name : List ℕ)
    → member_at p (sorted members) name ≡ member_at p members name
sorted_member p members name =
    let there : has_name (sorted members) name ≡ has_name members name = same_tests (has_name (sorted members) name) (has_name members name)
    (λ h. (has_name-Decides members name).1 ((among-sorted members name).1 ((has_name-Decides (sorted members) name).0 h)))
    (λ h. (has_name-Decides (sorted members) name).1 ((among-sorted members name).0 ((has_name-Decides members name).0 h))) in
    let node : List (List ℕ) → NodeValue = λ names. running (record (joiner p name) {
      status = Core;
      ties = record { table = table_at_rest p name names; holders = holders_at_rest p name names names };
    }) in
    ap (λ (b : Bool). if b then Some (node (sorted (sorted members))) else None) there
    ∙ ap (λ (names : List (List ℕ)). if has_name members name then Some (node names) else None)
    (sym (sorted-same members (sorted members) (sorted-permutation members)))

-- each member has its own name
pub rest_named : (p : SettingsValue) (members : List (List ℕ)) (nodes : List (List ℕ × NodeValue))
    → ((name : List ℕ) → node_among nodes name ≡ member_at p members name) → HaveOwnNames p nodes
rest_named p members nodes rest name node there = by_member (has_name members name) refl
  where
    member : NodeValue
    member = running (member_at_rest p members name)

    found : (is : Bool) → has_name members name ≡ is → (if is then Some member else None) ≡ Some node
    found is e = sym (rest name ∙ ap (λ (b : Bool). if b then Some member else None) e) ∙ there

    by_member : (is : Bool) → has_name members name ≡ is → HasNameAndSettings p name node
    by_member false e = let wrong : None ≡ Some node = found false e in absurd (cc)
    by_member true e =
        let both : Some member ≡ Some node = found true e in
        let same : member ≡ node = cc in
        record {
          name_is = sym (ap (λ (n : NodeValue). name_of n.state) same);
          settings_are = sym (ap (λ (n : NodeValue). settings_of n.state) same);
        }
