-- Tables have no hole, as a walk reads them; so each walk leads to the root.
-- Cited above: core_listed, core_read, read_core, tables_hole_free, walks_lead
use Rattle.std.proofs.Common.{◌≡◌, ◌≢◌, ◌⊎◌, ℕ, zero, suc, ◌<◌, nat_lt, nat_eq, Bool, true, false, List, [], ◌∷◌, filter, get_or, map, slice_get, Option, None, Some, arith, ap, refl, sym, subst, ◌∙◌, inl, inr}
use Rattle.std.specs.List.{common_prefix_len}
use Rattle.std.proofs.lemmas.Bool.{cases_Bool, lt-ltb}
use Rattle.std.proofs.lemmas.Bool.Decides.{nat_tests}
use Rattle.tap_name.specs.Name.{IsName}
use Rattle.tap_name.specs.Names.{Among}
use Rattle.tap_name.specs.Prefix.{lcp}
use Rattle.tap_name.specs.Settings.{SettingsValue}
use Rattle.tap_name.specs.Slot.{Fits, slot_at}
use Rattle.tap_name.specs.declared.slot.Slot.{Slot}
use Rattle.tap_name.proofs.Names.{among-filter, among-filter_from}
use Rattle.tap_name.proofs.Prefixes.{lcp-digits, lcp-is, lcp-triangle}
use Rattle.tap_name.proofs.Slots.{same_slot}
use Rattle.tap_link.specs.Entry.{LinkEntry}
use Rattle.tap_link.specs.declared.kind.Kind.{Kind}
use Rattle.tap_table.specs.Table.{IsTable, SlotLinks, TableValue, kind_in, links_at, links_near, place_of, slot_number}
use Rattle.tap_table.proofs.Fitting.{no_slot_of_itself, slot_of_other}
use Rattle.tap_table.proofs.Found.{link_found, slot_is_own, target_is_name, target_is_other}
use Rattle.tap_table.proofs.Slots.{number_back, place_inside}
use Rattle.tap_rule.specs.Node.{NodeState, Status, link_to}
use Rattle.tap_rule.specs.Node.Status.{Ceased, Core, Gone, Joining, Leaving}
use Rattle.tap_surrogate.specs.Nodes.{core_links, links_in}
use Rattle.tap_surrogate.proofs.HoleFreePaths.{walk_law_holds}
use Rattle.tap_runs.specs.Observed.{counts_as_core, is_core_node, nodes_of}
use Rattle.tap_safety.specs.System.{System, IsCoreNode}
use Rattle.tap_moves.proofs.InvariantMoves.{core_name}
use Rattle.tap_safety_moves.specs.Sound.{Sound}
use Rattle.tap_safety_moves.specs.Walks.{AreCoreNames, CoreIsListed, TablesAreHoleFree, WalksLeadToRoots}

-- ---- slots

-- whoever shares more with a name than another does stands in the same slot of that one
same_place : (a b to : List ℕ) → lcp a b < lcp b to → place_of a to ≡ place_of a b
same_place a b to near =
    let shared : lcp a to ≡ lcp a b = (lcp-triangle a b to).below near in
    let level : common_prefix_len nat_eq a to ≡ common_prefix_len nat_eq a b = sym (lcp-is a to) ∙ shared ∙ lcp-is a b in
    let digit : get_or to (common_prefix_len nat_eq a to) 0 ≡ get_or b (common_prefix_len nat_eq a b) 0 =
    ap (λ l. get_or to l 0) (level ∙ sym (lcp-is a b)) ∙ sym (lcp-digits b to (lcp a b) near) ∙ ap (λ l. get_or b l 0) (lcp-is a b) in
    same_slot (place_of a to) (place_of a b) level digit

-- a name fits the slot in which it stands, and no other
fits_place : (p : SettingsValue) (a b : List ℕ) (slot : Slot) → IsName p a → IsName p b → Fits a b slot → (b ≢ a) × (slot ≡ place_of a b)
fits_place p a b slot one two fits =
    let apart : b ≢ a = λ same.
    let own : slot_at a a ≡ Some slot = subst (λ x. slot_at a x ≡ Some slot) same fits in
    let wrong : None ≡ Some slot = sym (no_slot_of_itself a) ∙ own in
    absurd (cc) in
    let here : Some slot ≡ Some (place_of a b) = sym fits ∙ slot_of_other p a b one two apart in
    (apart, cc)

-- ---- the targets of links

-- the target of a link is among the targets
among_targets : (links : SlotLinks) (i : ℕ) (e : LinkEntry (List ℕ)) → slice_get links i ≡ Some e → Among e.target (map (λ f. f.target) links)
among_targets [] i e got = cc
among_targets (f ∷ links) zero e got = let same : f ≡ e = cc in inl (ap (λ (g : LinkEntry (List ℕ)). g.target) (sym same))
among_targets (f ∷ links) (suc i) e got = inr (among_targets links i e got)

-- whatever is among them is the target of a link
of_target : (links : SlotLinks) (name : List ℕ) → Among name (map (λ f. f.target) links)
    → (i : ℕ) × (e : LinkEntry (List ℕ)) × (slice_get links i ≡ Some e) × (name ≡ e.target)
of_target [] name among = absurd among
of_target (f ∷ links) name (inl same) = (zero, f, refl, same)
of_target (f ∷ links) name (inr among) = let rest = of_target links name among in (suc rest.0, rest.1, rest.2, rest.3)

module _ (t : TableValue) (valid : IsTable t) where
  -- whoever has a link is among the targets of its slot
  linked_among : (name : List ℕ) (kind : Kind) → kind_in t name ≡ Some kind
      → Among name (map (λ e. e.target) (links_at t (place_of t.owner name)))
  linked_among name kind is =
      let found = link_found (links_near t name) name kind is in
      among_targets (links_near t name) found.0 (record { target = name; kind = kind }) found.1

  -- and whoever is among them fits the slot
  target_fits : (slot : Slot) (name : List ℕ) → slot.digit < t.settings.base → Among name (map (λ e. e.target) (links_at t slot))
      → Fits t.owner name slot
  target_fits slot name below among =
      let found = of_target (links_at t slot) name among in
      let number = slot_number t.settings.base slot in
      let own = slot_is_own t valid number found.1 found.0 found.2 in
      let place : place_of t.owner found.1.target ≡ slot = sym own ∙ number_back t.settings.base slot below in
      let fits = slot_of_other t.settings t.owner found.1.target valid.owner (target_is_name t valid number found.1 found.0 found.2)
      (target_is_other t valid number found.1 found.0 found.2) in
      subst (λ x. slot_at t.owner x ≡ Some slot) (sym found.3) (fits ∙ ap Some place)

  -- the links in a slot as a walk reads them
  in_slot : (slot : Slot) (name : List ℕ) → Among name (map (λ e. e.target) (links_in (Some t) slot))
      → (slot.digit < t.settings.base) × Among name (map (λ e. e.target) (links_at t slot))
  in_slot slot name among =
      elim (cases_Bool (nat_lt slot.digit t.settings.base)) [
        | inl below ↦ (grind (arith, nat_tests), rw below at among)
        | inr past ↦ let never : Among name [] = rw past at among in absurd never
      ]

-- ---- the nodes of a system

-- a node of this status counts as core
counts_core : (status : Status) → counts_as_core status ≡ true → (status ≡ Core) ⊎ (status ≡ Leaving)
counts_core Joining is = absurd (cc)
counts_core Core is = inl refl
counts_core Leaving is = inr refl
counts_core Gone is = absurd (cc)
counts_core Ceased is = absurd (cc)

core_counts : (status : Status) → (status ≡ Core) ⊎ (status ≡ Leaving) → counts_as_core status ≡ true
core_counts status (inl core) = rw core refl
core_counts status (inr leaving) = rw leaving refl

module _ (s : System) where
  pub core_read : (x : List ℕ) → (nodes_of s).core x ≡ true → IsCoreNode s x
  core_read x is = by_node (s.node x) refl
    where
      by_node : (node : Option NodeState) → s.node x ≡ node → IsCoreNode s x
      by_node None there = let wrong : false ≡ true = sym (ap is_core_node there) ∙ is in absurd (cc)
      by_node (Some node) there =
          record { state = node; is = there; core = counts_core node.status (sym (ap is_core_node there) ∙ is) }

  pub read_core : (x : List ℕ) → IsCoreNode s x → (nodes_of s).core x ≡ true
  read_core x core = ap is_core_node core.is ∙ core_counts core.state.status core.core

  -- a core node's table is read
  table_read : (x : List ℕ) (node : NodeState) → s.node x ≡ Some node → (node.status ≡ Core) ⊎ (node.status ≡ Leaving)
      → (nodes_of s).table_of x ≡ Some node.ties.table
  table_read x node is (inl core) = rw (is, core) refl
  table_read x node is (inr leaving) = rw (is, leaving) refl

-- the core nodes are among all nodes, of which there is a list
pub core_listed : CoreIsListed
core_listed p s sound =
    let few = sound.invariant.basis.few in
    let test = (nodes_of s).core in (
      filter test few.names,
      λ x. (
        λ among. core_read s x (among-filter test few.names x among).1,
        λ core.
            among-filter_from test few.names x (few.all x (record { state = core.state; is = core.is })) (read_core s x core),
      ),
    )

-- ---- tables without holes

module _ (p : SettingsValue) (s : System) (core : List (List ℕ)) (sound : Sound p s) (are : AreCoreNames s core) where
  abbrev test : List ℕ → Bool
  test = (nodes_of s).core

  -- of the core nodes to which it has links in its slot
  linked_read : (a to : List ℕ) (slot : Slot) (kind : Kind) (node : NodeState) → s.node a ≡ Some node
      → (node.status ≡ Core) ⊎ (node.status ≡ Leaving) → link_to node to ≡ Some kind → IsCoreNode s to → slot ≡ place_of a to
      → slot.digit < p.base → Among to (core_links (nodes_of s) a slot)
  linked_read a to slot kind node at counts link core_to place below =
      let of = sound.nodes.nodes a node at in
      let t = node.ties.table in
      let among = linked_among t of.is_node.ties.table to kind link in
      let here : place_of t.owner to ≡ slot = ap (λ x. place_of x to) of.name ∙ sym place in
      let in_it : Among to (map (λ e. e.target) (links_at t slot)) =
      subst (λ q. Among to (map (λ e. e.target) (links_at t q))) here among in
      let less : nat_lt slot.digit t.settings.base ≡ true =
      lt-ltb slot.digit t.settings.base (subst (λ q. slot.digit < q.base) (sym of.settings) below) in
      let there : Among to (map (λ e. e.target) (links_in (Some t) slot)) = rw less in_it in
      let read : Among to (map (λ e. e.target) (links_in ((nodes_of s).table_of a) slot)) = rw (table_read s a node at counts) there in
      among-filter_from test (map (λ e. e.target) (links_in ((nodes_of s).table_of a) slot)) to read (read_core s to core_to)

  filled : (a b : List ℕ) (slot : Slot) → Among a core → Among b core → Fits a b slot → core_links (nodes_of s) a slot ≢ []
  filled a b slot first second fits none =
      let one = (are a).0 first in
      let two = (are b).0 second in
      let name_one = core_name p s sound.nodes a one in
      let name_two = core_name p s sound.nodes b two in
      let place = fits_place p a b slot name_one name_two fits in
      let inside = place_inside p a b name_one name_two place.0 in
      let near = sound.invariant.filled.hole_free.filled a b one two (omega (arith, lcp-is a b, inside.0)) in
      let found = near.link.is in
      let here = one.is in
      let same : near.link.state ≡ one.state = cc in
      let link = ap (λ n. link_to n near.to) (sym same) ∙ near.link.link in
      let slot_is : slot ≡ place_of a near.to = place.1 ∙ sym (same_place a b near.to near.near) in
      let below : slot.digit < p.base = subst (λ q. q.digit < p.base) (sym place.1) inside.1 in
      let among = linked_read a near.to slot near.kind one.state one.is one.core link near.core slot_is below in
      let never : Among near.to [] = rw none at among in
      never

  sound_links : (a b : List ℕ) (slot : Slot) → Among a core → Among b (core_links (nodes_of s) a slot) → Fits a b slot × Among b core
  sound_links a b slot first among =
      let one = (are a).0 first in
      let of = sound.nodes.nodes a one.state one.is in
      let t = one.state.ties.table in
      let passed = among-filter test (map (λ e. e.target) (links_in ((nodes_of s).table_of a) slot)) b among in
      let read : Among b (map (λ e. e.target) (links_in (Some t) slot)) = rw (table_read s a one.state one.is one.core) at passed.0 in
      let found = in_slot t of.is_node.ties.table slot b read in
      let fits = target_fits t of.is_node.ties.table slot b found.0 found.1 in
      (subst (λ x. Fits x b slot) of.name fits, (are b).1 (core_read s b passed.1))

pub tables_hole_free : TablesAreHoleFree
tables_hole_free p s core sound are = record {
  names = λ x among. core_name p s sound.nodes x ((are x).0 among);
  filled = filled p s core sound are;
  sound = sound_links p s core sound are;
}

pub walks_lead : WalksLeadToRoots
walks_lead p s core node object sound are among name =
    walk_law_holds p core (core_links (nodes_of s)) (tables_hole_free p s core sound are) node object among name
