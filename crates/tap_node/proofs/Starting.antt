-- A node that starts to join is sound, and so is each of the members with which an overlay begins.
use Rattle.std.proofs.Common.{◌≡◌, ◌≢◌, ℕ, ◌+◌, ◌*◌, ◌≤◌, List, [], ◌∷◌, length, get_or, Some, All, true, false, arith, refl, sym, ap, subst, inl, inr}
use Rattle.std.specs.Prelude.{Contains, nat_eq}
use Rattle.std.specs.Cmp.Lexicographic.{pointwise}
use Rattle.std.proofs.lemmas.Bool.{cases_Bool, cases_lt, true≢false}
use Rattle.std.proofs.lemmas.List.{get_or_past}
use Rattle.std.proofs.lemmas.List.Elements.{All-head, All-map, All-nil, All-tail, All-take}
use Rattle.std.proofs.lemmas.List.Sorted.{length_permutation}
use Rattle.std.proofs.lemmas.List.FromFn.{length-map-range_with_len}
use Rattle.std.proofs.lemmas.Option.{get_or_from_slice_get, slice_get_within}
use Rattle.std.proofs.lemmas.Slice.Eq.{bytes_eq-Decides}
use Rattle.tap_name.specs.Name.{IsName}
use Rattle.tap_name.specs.Names.{Among, AreDistinct, AreNames}
use Rattle.tap_name.specs.Order.{sorted}
use Rattle.tap_name.specs.Settings.{AreWithinLimits, SettingsValue}
use Rattle.tap_name.specs.Slot.{slot_at}
use Rattle.tap_name.proofs.Membership.{among-from_Contains, among_at, few_among}
use Rattle.tap_name.proofs.Sorted.{among-sorted, distinct-from_ascending, sorted-permutation}
use Rattle.tap_link.specs.declared.kind.Kind.{Kind}
use Rattle.tap_link.specs.declared.kind.Kind.TheVariants.{Settled}
use Rattle.tap_link.specs.Entry.{LinkEntry}
use Rattle.tap_table.specs.ByName.{targets_by_name}
use Rattle.tap_table.specs.Members.{first_fitting, fitting, is_slot, settled_links, table_at_rest}
use Rattle.tap_table.specs.Table.{IsTable, TableValue, kind_in, links_near, slot_numbered}
use Rattle.tap_table.proofs.AtRest.{All-filtered, links_at_rest}
use Rattle.tap_table.proofs.Found.{link_found, link_to, linked_is_other}
use Rattle.tap_table.proofs.Near.{number_near}
use Rattle.tap_table.proofs.Targets.{target_is_linked, targets-ascending}
use Rattle.tap_depart.specs.Leaving.{names_but}
use Rattle.tap_pointer.specs.Reconcile.{wanted_hop}
use Rattle.tap_rule.specs.Node.{NodeState, joiner, member_at_rest}
use Rattle.tap_rule.proofs.KeptNode.{joiner_law, member_law}
use Rattle.tap_node_common.specs.SoundNode.{IsParent, IsSoundNode}
use Rattle.tap_node.specs.Node.{running}
use Rattle.tap_node.specs.SeenNode.{IsKeptFor}
use Rattle.tap_node.proofs.Few.{among_but}
use Rattle.tap_node.proofs.KeptSound.{no_rows}
use Rattle.tap_node_common.proofs.Rows.{rows_by_name}

pub joiner_sound : (p : SettingsValue) (name : List ℕ) → AreWithinLimits p → IsName p name → IsSoundNode (joiner p name)
joiner_sound p name limits is_name = record {
  valid = joiner_law p name limits is_name;
  laid = All-nil (λ e. e.1.laid ≡ wanted_hop (joiner p name).ties.table e);
  pairs = All-nil (λ e. IsName p e.0.object × IsName p e.0.server);
  alone = λ none. refl;
  few = let none = ap length (no_rows p.base 0 (p.base * p.digits)) in omega (arith, none);
  parents = All-nil (λ s. IsParent p s.parent);
  cast_parents = All-nil (λ s. IsParent p s.parent);
}

-- the links of a member are to members
module _ (p : SettingsValue) (owner : List ℕ) (names : List (List ℕ)) where
  abbrev rest : TableValue
  rest = table_at_rest p owner names

  links_among : (number : ℕ) → All (λ e. Among e.target names) (get_or rest.slots number [])
  links_among number =
      elim (cases_lt number (p.base * p.digits)) [
        | inl inside ↦
            let slot = slot_numbered p.base number in
            let fits = All-filtered (λ name. is_slot slot (slot_at owner name)) (λ x. Among x names) (λ x. Among x names) names
            (among_at names) (λ x among passes. among) in
            rw (links_at_rest p owner names number inside)
            (All-map (λ e. Among e.target names) (λ target. record { target = target; kind = Settled })
            (first_fitting p owner slot names) (All-take (λ x. Among x names) p.width (fitting owner slot names) fits))
        | inr past ↦
            let len = length-map-range_with_len (λ n. settled_links (first_fitting p owner (slot_numbered p.base n) names)) 0
            (p.base * p.digits) in
            let none : get_or rest.slots number [] ≡ [] = get_or_past rest.slots number [] (omega (arith, len)) in
            rw none (All-nil (λ e. Among e.target names))
      ]

  linked_among : (x : List ℕ) (kind : Kind) → kind_in rest x ≡ Some kind → Among x names
  linked_among x kind found =
      let links = links_near rest x in
      let link = link_found links x kind found in
      let is : get_or links link.0 (link_to x kind) ≡ link_to x kind =
      get_or_from_slice_get links link.0 (link_to x kind) (link_to x kind) link.1 in
      let among = links_among (number_near rest x) link.0 (link_to x kind) (slice_get_within links link.0 (link_to x kind) link.1) in
      subst (λ (e : LinkEntry (List ℕ)). Among e.target names) is among

-- a name that is among others leaves fewer when it is left out
left_out : (names : List (List ℕ)) (own : List ℕ) → length (names_but names own) ≤ length names
left_out [] own = omega arith
left_out (name ∷ names) own =
    let more = left_out names own in
    elim (cases_Bool (pointwise nat_eq name own)) [ inl same ↦ rw same (omega (arith, more)) | inr other ↦ rw other (omega (arith, more)) ]

fewer : (names : List (List ℕ)) (own : List ℕ) → Among own names → length (names_but names own) + 1 ≤ length names
fewer [] own among = absurd among
fewer (name ∷ names) own (inl is) =
    let more = left_out names own in
    let same : pointwise nat_eq name own ≡ true = (bytes_eq-Decides name own).1 (sym is) in
    rw same (omega (arith, more))
fewer (name ∷ names) own (inr later) =
    let more = fewer names own later in
    elim (cases_Bool (pointwise nat_eq name own)) [ inl same ↦ rw same (omega (arith, more)) | inr other ↦ rw other (omega (arith, more)) ]

pub member_sound : (p : SettingsValue) (members : List (List ℕ)) (name : List ℕ) → AreWithinLimits p → IsName p name
    → AreNames p members → AreDistinct members → Contains members name → length (sorted members) ≤ 256
    → IsSoundNode (member_at_rest p members name)
member_sound p members name limits is_name are_names distinct member few =
    let node = member_law p members name limits is_name are_names distinct in
    let t : TableValue = table_at_rest p name (sorted members) in
    let valid : IsTable t = node.ties.table in
    let own : Among name (sorted members) = (among-sorted members name).0 (among-from_Contains members name member) in
    let all : (x : List ℕ) → Among x (targets_by_name t) → Among x (names_but (sorted members) name) = λ x among.
    let found = target_is_linked t valid x among in
    among_but (sorted members) name x (linked_among p name (sorted members) x found.0 found.1)
    (linked_is_other t valid x found.0 found.1) in
    let less = few_among (targets_by_name t) (names_but (sorted members) name)
    (distinct-from_ascending (targets_by_name t) (targets-ascending t valid)) all in
    let others = fewer (sorted members) name own in
    record {
      valid = node;
      laid = All-nil (λ e. e.1.laid ≡ wanted_hop t e);
      pairs = All-nil (λ e. IsName p e.0.object × IsName p e.0.server);
      alone = λ none. absurd (true≢false none);
      few = omega (arith, less, others, few, rows_by_name t valid);
      parents = All-nil (λ s. IsParent p s.parent);
      cast_parents = All-nil (λ s. IsParent p s.parent);
    }

-- each of these names is one
named_among : (p : SettingsValue) (names : List (List ℕ)) → All (IsName p) names → AreNames p names
named_among p [] all x among = absurd among
named_among p (name ∷ names) all x (inl is) = subst (IsName p) (sym is) (All-head (IsName p) name names all)
named_among p (name ∷ names) all x (inr later) = named_among p names (All-tail (IsName p) name names all) x later

-- a member of an overlay that begins keeps its name, and is sound
pub member_kept : (p : SettingsValue) (members : List (List ℕ)) (name : List ℕ) (state : NodeState) → AreWithinLimits p
    → All (IsName p) members → AreDistinct members → Contains members name → length members ≤ 256
    → state ≡ member_at_rest p members name → IsKeptFor p name (running state)
member_kept p members name state limits names distinct member few is =
    let are = named_among p members names in
    let is_name : IsName p name = are name (among-from_Contains members name member) in
    let same = length_permutation members (sorted members) (sorted-permutation members) in
    let fewest : length (sorted members) ≤ 256 = omega (arith, same, few) in
    rw is (record {
      is_name = is_name;
      name = refl;
      settings = refl;
      sound = λ _. member_sound p members name limits is_name are distinct member fewest;
    })

pub joiner_kept : (p : SettingsValue) (name : List ℕ) (state : NodeState) → AreWithinLimits p → IsName p name → state ≡ joiner p name
    → IsKeptFor p name (running state)
joiner_kept p name state limits is_name is =
    rw is (record { is_name = is_name; name = refl; settings = refl; sound = λ _. joiner_sound p name limits is_name })
