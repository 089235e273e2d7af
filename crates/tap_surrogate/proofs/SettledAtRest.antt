-- tables at rest have settled links to core nodes alone, so walks over them are chains of next hops
use Rattle.std.proofs.Common.{◌≡◌, ℕ, ◌*◌, Option, Some, IsSomeAnd, None, List, [], map, filter, All, arith, sym, refl, ap, subst, ◌∙◌, inl, inr}
use Rattle.std.specs.List.{range_with_len}
use Rattle.std.proofs.lemmas.Bool.{cases_lt}
use Rattle.std.proofs.lemmas.List.{get_or_past}
use Rattle.std.proofs.lemmas.List.Elements.{All-map, All-nil}
use Rattle.std.proofs.lemmas.List.FromFn.{get_or-map-range_with_len, length-map-range_with_len}
use Rattle.std.specs.List.{slice_index_or}
use Rattle.tap_name.specs.Name.{IsName}
use Rattle.tap_name.specs.Settings.{SettingsValue}
use Rattle.tap_name.specs.Slot.{slot_at}
use Rattle.tap_name.specs.Root.{Among}
use Rattle.tap_name.proofs.Names.{All-among, among-filter, among-take}
use Rattle.tap_link.specs.Entry.{LinkEntry}
use Rattle.tap_link.specs.declared.kind.Kind.TheVariants.{Settled}
use Rattle.tap_table.specs.Members.{IsTableAtRest, first_fitting, is_slot, settled_links, table_at_rest}
use Rattle.tap_table.specs.Table.{IsTable, SlotLinks, TableValue, slot_numbered}
use Rattle.tap_surrogate.specs.Entered.{IsChain, next_of, walk_entered}
use Rattle.tap_surrogate.specs.Members.{AreMembersAtRest}
use Rattle.tap_surrogate.specs.Nodes.{HasSettledCoreLinks, IsCore, IsSettledTable, Nodes, core_links}
use Rattle.tap_surrogate.proofs.Chains.{chain_law_holds}
use Rattle.tap_surrogate.proofs.RestTables.{moved, some_table}

-- what holds of the settled links to the first names that fit a slot holds of each slot of a table at rest
each_slot : (P : LinkEntry (List ℕ) → Type 0) (p : SettingsValue) (owner : List ℕ) (names : List (List ℕ))
    → ((number : ℕ) → All P (settled_links (first_fitting p owner (slot_numbered p.base number) names)))
    → (number : ℕ) → All P (slice_index_or (table_at_rest p owner names).slots number [])
each_slot P p owner names all number =
    let of : ℕ → SlotLinks = λ n. settled_links (first_fitting p owner (slot_numbered p.base n) names) in
    let count = p.base * p.digits in
    elim (cases_lt number count) [
      | inl inside ↦ subst (All P) (sym (get_or-map-range_with_len of 0 count number number [] inside (omega arith))) (all number)
      | inr past ↦
          let len = length-map-range_with_len of 0 count in
          subst (All P) (sym (get_or_past (map of (range_with_len 0 count)) number [] (omega (arith, len, past)))) (All-nil P)
    ]

module _ (p : SettingsValue) (members : List (List ℕ)) (nodes : Nodes) (rest : AreMembersAtRest p members nodes) where
  -- the table of a member is one at rest
  is_at_rest : (member : List ℕ) (table : TableValue) → Among member members → nodes.table_of member ≡ Some table
      → IsTableAtRest p member members table
  is_at_rest member table among has =
      let w = some_table (nodes.table_of member) (IsTableAtRest p member members) (rest.tables member among) in
      let same : Some w.0 ≡ Some table = sym w.1 ∙ has in
      let is : w.0 ≡ table = cc in
      subst (IsTableAtRest p member members) is w.2

  pub settled_at_rest : (member : List ℕ) (table : TableValue) → Among member members → nodes.table_of member ≡ Some table
      → HasSettledCoreLinks nodes table
  settled_at_rest member table among has =
      let at_rest = is_at_rest member table among has in
      let names = at_rest.names in
      let link = λ (target : List ℕ). let e : LinkEntry (List ℕ) = record { target = target; kind = Settled } in e in
      let IsSettled : LinkEntry (List ℕ) → Type 0 = λ e. e.kind ≡ Settled in
      let ToCore : LinkEntry (List ℕ) → Type 0 = λ e. IsCore nodes e.target in
      let first = λ (number : ℕ). first_fitting p member (slot_numbered p.base number) names in
      let core : (number : ℕ) (x : List ℕ) → Among x (first number) → IsCore nodes x = λ number x h.
      let fits = λ (name : List ℕ). is_slot (slot_numbered p.base number) (slot_at member name) in
      let named = among-filter fits names x (among-take p.width (filter fits names) x h) in
      (rest.core x).1 (moved members names at_rest.same x named.0) in
      subst (HasSettledCoreLinks nodes) (sym at_rest.is) (record {
        settled = each_slot IsSettled p member names (λ number. All-map IsSettled link (first number) (λ k d h. refl));
        core = each_slot ToCore p member names
            (λ number. All-map ToCore link (first number) (All-among (IsCore nodes) (first number) (core number)));
      })

  -- so a message goes the way of the walk
  pub chain_at_rest : ((node : List ℕ) (table : TableValue) → nodes.table_of node ≡ Some table → IsTable table)
      → (from object : List ℕ) → Among from members → IsName p object
      → IsChain (next_of nodes object) (walk_entered p.base (core_links nodes) from object)
  chain_at_rest valid from object among name =
      chain_law_holds p nodes
      (λ node core.
      let member = (rest.core node).0 core in
      some_settled node member (nodes.table_of node) refl (rest.tables node member))
      from object ((rest.core from).1 among) name
    where
      some_settled : (node : List ℕ) → Among node members → (found : Option TableValue) → nodes.table_of node ≡ found
          → IsSomeAnd found (IsTableAtRest p node members) → IsSomeAnd found (IsSettledTable p nodes node)
      some_settled node member (Some table) has at_rest =
          record {
            of_owner = record {
              owner_is = ap (λ (t : TableValue). t.owner) at_rest.is;
              settings_are = ap (λ (t : TableValue). t.settings) at_rest.is;
            };
            valid = valid node table has;
            links = settled_at_rest node table member has;
          }
      some_settled node member None has at_rest = absurd at_rest
