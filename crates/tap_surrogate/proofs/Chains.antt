-- where all links of core nodes are settled and to core nodes, a walk is a chain of next hops
-- Cited above: chain_law_holds
use Rattle.std.proofs.Common.{◌≡◌, ◌⊎◌, inl, inr, ℕ, ◌+◌, ◌<◌, true, false, List, [], ◌∷◌, length, drop, map, get_or, Option, None, Some, All, IsSomeAnd, arith, ap, sym, subst, refl, ◌∙◌, eqb}
use Rattle.std.specs.Option.{is_some}
use Rattle.std.proofs.lemmas.Bool.{cases_Bool, true≢false}
use Rattle.std.proofs.lemmas.List.{drop_more}
use Rattle.std.proofs.lemmas.List.Elements.{All-head, All-tail}
use Rattle.tap_name.specs.declared.slot.Slot.{Slot}
use Rattle.tap_name.specs.Name.{IsName}
use Rattle.tap_name.specs.Settings.{SettingsValue}
use Rattle.tap_name.proofs.Names.{among-filter}
use Rattle.tap_table.specs.declared.next.Next.{Next}
use Rattle.tap_table.specs.declared.next.Next.TheVariants.{Hop}
use Rattle.tap_table.specs.Next.{next_from, primary_at, taken_digit}
use Rattle.tap_table.specs.Table.{TableValue}
use Rattle.tap_surrogate.specs.Nodes.{IsCore, IsSettledTable, Nodes, core_links, links_in}
use Rattle.tap_surrogate.specs.Tables.{least_link}
use Rattle.tap_surrogate.specs.Walk.{hop, walked_digit}
use Rattle.tap_surrogate.specs.Entered.{Entered, IsChain, entered_on, next_of}
use Rattle.tap_surrogate.specs.WalkLaws.{ChainLaw}
use Rattle.tap_surrogate.proofs.Entering.{entered_begins, entered_on-hops, entered_on-stays}
use Rattle.tap_surrogate.proofs.Least.{first_among}
use Rattle.tap_surrogate.proofs.NextHops.{HasSettledTable, hops, leads_on, stays}
use Rattle.tap_surrogate.proofs.RestTables.{some_table}

-- at a level both stay
record BothStay (nodes : Nodes) (table : TableValue) (base level wanted : ℕ) (more : List ℕ) : Type 0 where
  walk : hop base (core_links nodes) table.owner level wanted ≡ None
  next : next_from table level (wanted ∷ more) ≡ next_from table (level + 1) more

-- or both hop to the same core node
record BothHop (nodes : Nodes) (table : TableValue) (base level wanted : ℕ) (more to : List ℕ) : Type 0 where
  walk : hop base (core_links nodes) table.owner level wanted ≡ Some to
  next : next_from table level (wanted ∷ more) ≡ Hop to (level + 1)
  core : IsCore nodes to

hop_core : (nodes : Nodes) (node : List ℕ) (base level wanted : ℕ) (to : List ℕ) → hop base (core_links nodes) node level wanted ≡ Some to
    → IsCore nodes to
hop_core nodes node base level wanted to is =
    let digit = walked_digit base (core_links nodes) node level wanted in
    let slot : Slot = record { level = level; digit = digit } in
    elim (cases_Bool (eqb (get_or node level 0) digit)) [
      | inl own ↦ let wrong : None ≡ Some to = rw own at is in cc
      | inr other ↦
          let link : least_link (core_links nodes) node level digit ≡ Some to = rw other at is in
          (among-filter nodes.core (map (λ e. e.target) (links_in (nodes.table_of node) slot)) to
          (first_among (core_links nodes node slot) to link)).1
    ]

both_by : (nodes : Nodes) (table : TableValue) → HasSettledTable nodes table → (level wanted : ℕ) (more : List ℕ)
    → wanted < table.settings.base → eqb (get_or table.owner level 0) (taken_digit table level wanted) ≡ false
    → (found : Option (List ℕ)) → primary_at table level (taken_digit table level wanted) ≡ found → is_some found ≡ true
    → (to : List ℕ) × BothHop nodes table table.settings.base level wanted more to
both_by nodes table is level wanted more below other None primary some = absurd (true≢false (sym some))
both_by nodes table is level wanted more below other (Some to) primary some =
    let walk = hops nodes table is level wanted to below other primary in (
      to,
      record {
        walk = walk;
        next = rw (other, primary) refl;
        core = hop_core nodes table.owner table.settings.base level wanted to walk;
      },
    )

both : (nodes : Nodes) (table : TableValue) → HasSettledTable nodes table → (level wanted : ℕ) (more : List ℕ)
    → level < table.settings.digits → wanted < table.settings.base
    → BothStay nodes table table.settings.base level wanted more
    ⊎ ((to : List ℕ) × BothHop nodes table table.settings.base level wanted more to)
both nodes table is level wanted more inside below =
    elim (cases_Bool (eqb (get_or table.owner level 0) (taken_digit table level wanted))) [
      | inl own ↦ inl (record { walk = stays nodes table is level wanted below own; next = rw own refl })
      | inr other ↦
          inr (both_by nodes table is level wanted more below other (primary_at table level (taken_digit table level wanted)) refl
          (leads_on nodes table is level wanted inside below other))
    ]

chain-cons : (next : Entered → Next) (at after : Entered) (rest entered : List Entered) → entered ≡ after ∷ rest
    → next at ≡ Hop after.node after.level → IsChain next entered → IsChain next (at ∷ entered)
chain-cons next at after rest entered begins leads chain = rw begins (leads, rw begins at chain)

module _ (p : SettingsValue) (nodes : Nodes)
    (tables : (node : List ℕ) → IsCore nodes node → IsSomeAnd (nodes.table_of node) (IsSettledTable p nodes node))
    (object : List ℕ) (name : IsName p object) where
  abbrev ChainOf : List Entered → Type 0
  ChainOf entered = IsChain (next_of nodes object) entered

  -- from where a walk stands, with these digits left
  abbrev chain_left : List ℕ → Type 0
  chain_left more =
      (level from : ℕ) (table : TableValue) → HasSettledTable nodes table → table.settings ≡ p → more ≡ drop level object
      → level + length more ≡ p.digits → All (λ d. d < p.base) more
      → next_from table from (drop from object) ≡ next_from table level more
      → ChainOf (entered_on p.base (core_links nodes) (record { node = table.owner; level = from }) level more)

  -- the chain of a core node that is entered anew
  enter : (more : List ℕ) → chain_left more → (level : ℕ) (node : List ℕ) → IsCore nodes node → more ≡ drop level object
      → level + length more ≡ p.digits → All (λ d. d < p.base) more
      → ChainOf (entered_on p.base (core_links nodes) (record { node = node; level = level }) level more)
  enter more later level node core left len below =
      let w = some_table (nodes.table_of node) (IsSettledTable p nodes node) (tables node core) in
      let table = w.0 in
      let owner = w.2.of_owner.owner_is in
      let is : HasSettledTable nodes table =
      record { valid = w.2.valid; has = ap nodes.table_of owner ∙ w.1; links = w.2.links } in
      let P : List ℕ → Type 0 = λ n.
      ChainOf (entered_on p.base (core_links nodes) (record { node = n; level = level }) level more) in
      subst P owner (later level level table is w.2.of_owner.settings_are left len below (ap (next_from table level) (sym left)))

  next_is : (table : TableValue) (from : ℕ) → nodes.table_of table.owner ≡ Some table
      → next_of nodes object (record { node = table.owner; level = from }) ≡ next_from table from (drop from object)
  next_is table from has = rw has refl

  chain_on : (more : List ℕ) → chain_left more
  chain_on [] level from table is same left len below so_far = next_is table from is.has ∙ so_far
  chain_on (wanted ∷ more) level from table is same left len below so_far =
      let at : Entered = record { node = table.owner; level = from } in
      let inside : level < table.settings.digits = omega (arith, ap (λ (s : SettingsValue). s.digits) same) in
      let here = All-head (λ d. d < p.base) wanted more below in
      let here' : wanted < table.settings.base = omega (arith, here, ap (λ (s : SettingsValue). s.base) same) in
      let split = left ∙ drop_more object level 0 (omega (arith, name.len)) in
      let tail : more ≡ drop (level + 1) object = cc in
      let below' = All-tail (λ d. d < p.base) wanted more below in
      let base = ap (λ (s : SettingsValue). s.base) same in
      elim (both nodes table is level wanted more inside here') [
        | inl stay ↦
            let walk : hop p.base (core_links nodes) table.owner level wanted ≡ None = rw base at stay.walk in
            rw (entered_on-stays p.base (core_links nodes) at level wanted more walk)
            (chain_on more (level + 1) from table is same tail (omega arith) below' (so_far ∙ stay.next))
        | inr hop_to_other ↦
            let to = hop_to_other.0 in
            let both_hop = hop_to_other.1 in
            let after : Entered = record { node = to; level = level + 1 } in
            let walk : hop p.base (core_links nodes) table.owner level wanted ≡ Some to = rw base at both_hop.walk in
            let begins = entered_begins p.base (core_links nodes) after (level + 1) more in
            rw (entered_on-hops p.base (core_links nodes) at level wanted more to walk)
            (chain-cons (next_of nodes object) at after begins.0 _ begins.1
            (next_is table from is.has ∙ so_far ∙ both_hop.next)
            (enter more (chain_on more) (level + 1) to both_hop.core tail (omega arith) below'))
      ]

pub chain_law_holds : ChainLaw
chain_law_holds p nodes tables from object core name =
    enter p nodes tables object name object (chain_on p nodes tables object name object) 0 from core refl
    (omega (arith, name.len)) name.below
