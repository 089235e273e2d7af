-- A slot without room has as many settled links as the width, and what a joining node takes leaves what it has.
use Rattle.std.proofs.Common.{◌≡◌, ℕ, suc, ◌≤◌, Bool, true, false, List, [], ◌∷◌, length, map, filter, Some, slice_get, get_or, arith, ap, refl, sym, subst, ◌∙◌, inl, inr}
use Rattle.std.proofs.lemmas.Bool.{cases_Bool, ltb-false}
use Rattle.std.proofs.lemmas.List.{length-map}
use Rattle.std.proofs.lemmas.List.Sums.{length-filter}
use Rattle.std.proofs.lemmas.Option.{get_or_from_slice_get, slice_get_within}
use Rattle.tap_name.specs.Settings.{SettingsValue}
use Rattle.tap_name.specs.Order.{AreAscending, name_cmp}
use Rattle.tap_link.specs.Entry.{LinkEntry}
use Rattle.tap_link.specs.LinkSet.{is_settled, kind_of, settled_count}
use Rattle.tap_link.specs.declared.kind.Kind.{Kind}
use Rattle.tap_link.specs.declared.kind.Kind.TheVariants.{Pin, Settled, Leaving as LeavingKind}
use Rattle.tap_table.specs.Table.{IsTable, StandsIn, TableValue, has_room_near, kind_in, links_near, place_of, slot_number}
use Rattle.tap_table.proofs.Found.{link_gives}
use Rattle.tap_multicast.proofs.Linked.{picked-ascend}
use Rattle.tap_rule.specs.Node.{NodeState, link_to, name_of, settings_of}
use Rattle.tap_rule.specs.Sent.{IsAmong}
use Rattle.tap_rule.proofs.Among.{among-map_from}
use Rattle.tap_cast_runs.specs.Had.{HasFullSlot, InOneSlot}

among_filter : {A : Type 0} (test : A → Bool) (x : A) (xs : List A) → IsAmong x (filter test xs) → IsAmong x xs × (test x ≡ true)
among_filter test x [] among = absurd among
among_filter test x (y ∷ ys) among =
    elim (cases_Bool (test y)) [
      | inl passes ↦
          let there : IsAmong x (y ∷ filter test ys) = rw passes at among in
          elim there [
            | inl is ↦ (inl is, ap test is ∙ passes)
            | inr later ↦ let rest = among_filter test x ys later in (inr rest.0, rest.1)
          ]
      | inr fails ↦
          let there : IsAmong x (filter test ys) = rw fails at among in
          let rest = among_filter test x ys there in (inr rest.0, rest.1)
    ]

among_place : {A : Type 0} (x : A) (xs : List A) → IsAmong x xs → (k : ℕ) × (slice_get xs k ≡ Some x)
among_place x [] among = absurd among
among_place x (y ∷ ys) (inl is) = (0, ap Some (sym is))
among_place x (y ∷ ys) (inr later) = let rest = among_place x ys later in (suc rest.0, rest.1)

settled_kind : (kind : Kind) → is_settled (Some kind) ≡ true → kind ≡ Settled
settled_kind Pin is = cc
settled_kind Settled is = refl
settled_kind LeavingKind is = cc

-- a settled link in the slot of a number stands there, and is found
module _ (t : TableValue) (valid : IsTable t) (number : ℕ) (e : LinkEntry (List ℕ)) (among : IsAmong e (get_or t.slots number [])) where
  stands : slot_number t.settings.base (place_of t.owner e.target) ≡ number
  stands =
      let links = get_or t.slots number [] in
      let place = among_place e links among in
      let within = slice_get_within links place.0 e place.1 in
      let at : StandsIn t.settings t.owner number (get_or links place.0 e).target = valid.standing number place.0 e within in
      let P : LinkEntry (List ℕ) → Type 0 = λ f. StandsIn t.settings t.owner number f.target in
      (subst P (get_or_from_slice_get links place.0 e e place.1) at).place

  pub found : kind_in t e.target ≡ Some e.kind
  found =
      let links = get_or t.slots number [] in
      let place = among_place e links among in
      ap (λ (n : ℕ). kind_of name_cmp (get_or t.slots n []) e.target) stands
      ∙ link_gives links place.0 e (valid.sets number).ascending place.1

module _ (t : TableValue) (name : List ℕ) (valid : IsTable t) where
  abbrev is_settled_link : LinkEntry (List ℕ) → Bool
  is_settled_link e = is_settled (Some e.kind)

  abbrev settled_links : List (LinkEntry (List ℕ))
  settled_links = map (λ e. e) (filter is_settled_link (links_near t name))

  abbrev settled_names : List (List ℕ)
  settled_names = map (λ (e : LinkEntry (List ℕ)). e.target) settled_links

  ascend : AreAscending settled_names
  ascend =
      picked-ascend (λ e. e) (λ (e : LinkEntry (List ℕ)). e.target) (λ e. refl) is_settled_link (links_near t name)
      (valid.sets (slot_number t.settings.base (place_of t.owner name))).ascending

  counted : length settled_names ≡ settled_count (links_near t name)
  counted =
      length-map settled_links (λ (e : LinkEntry (List ℕ)). e.target)
      ∙ length-map (filter is_settled_link (links_near t name)) (λ e. e) ∙ length-filter is_settled_link (links_near t name)

  many : has_room_near t name ≡ false → t.settings.width ≤ length settled_names
  many full =
      let most = ltb-false (settled_count (links_near t name)) t.settings.width full in
      omega (arith, most, counted)

  each : (x : List ℕ) → IsAmong x settled_names → (kind_in t x ≡ Some Settled) × InOneSlot t.settings t.owner x name
  each x among =
      let link = among-map_from (λ (e : LinkEntry (List ℕ)). e.target) x settled_links among in
      let same = among-map_from (λ (e : LinkEntry (List ℕ)). e) link.0 (filter is_settled_link (links_near t name)) link.1 in
      let there = among_filter is_settled_link same.0 (links_near t name) same.1 in
      let is : x ≡ same.0.target = link.2 ∙ ap (λ (e : LinkEntry (List ℕ)). e.target) same.2 in
      let number = slot_number t.settings.base (place_of t.owner name) in
      let kind : kind_in t same.0.target ≡ Some Settled = found t valid number same.0 there.0 ∙ ap Some (settled_kind same.0.kind there.1) in
      subst (λ y. (kind_in t y ≡ Some Settled) × InOneSlot t.settings t.owner y name) (sym is) (kind, stands t valid number same.0 there.0)

-- what is settled stays
abbrev pub SettledStay : NodeState → NodeState → Type 0
SettledStay before after = (t : List ℕ) → link_to before t ≡ Some Settled → link_to after t ≡ Some Settled

pub full_slot_of : (t : TableValue) (after : NodeState) (name : List ℕ) → IsTable t
    → ((x : List ℕ) → kind_in t x ≡ Some Settled → link_to after x ≡ Some Settled) → has_room_near t name ≡ false
    → HasFullSlot t.settings t.owner after name
full_slot_of t after name valid stay full = record {
  names = settled_names t name valid;
  ascending = ascend t name valid;
  many = many t name valid full;
  each = λ x among. let is = each t name valid x among in (stay x is.0, is.1);
}

pub full_slot : (node after : NodeState) (name : List ℕ) → IsTable node.ties.table → SettledStay node after
    → has_room_near node.ties.table name ≡ false → HasFullSlot (settings_of node) (name_of node) after name
full_slot node after name valid stay full = full_slot_of node.ties.table after name valid stay full

pub full_stays : (p : SettingsValue) (owner : List ℕ) (before after : NodeState) (name : List ℕ) → SettledStay before after
    → HasFullSlot p owner before name → HasFullSlot p owner after name
full_stays p owner before after name stay full = record {
  names = full.names;
  ascending = full.ascending;
  many = full.many;
  each = λ t among. let is = full.each t among in (stay t is.0, is.1);
}
