-- where all links are settled and to core nodes, a next hop is the walk's
use Rattle.std.proofs.Common.{◌≡◌, ◌==◌, ◌||◌, inl, inr, ℕ, ◌+◌, ◌<◌, true, false, List, [], ◌∷◌, length, drop, map, filter, get_or, Option, None, Some, All, arith, ap, sym, refl, ◌∙◌, eqb}
use Rattle.std.specs.Option.{is_some}
use Rattle.std.proofs.lemmas.Bool.{cases_Bool, eq-eqb, true≢false}
use Rattle.std.proofs.lemmas.List.{drop_more, length-drop}
use Rattle.std.proofs.lemmas.List.Elements.{All-drop, All-head, All-tail}
use Rattle.tap_name.specs.declared.slot.Slot.{Slot}
use Rattle.tap_name.proofs.Cyclic.{first_cyclic-below, first_cyclic-passes}
use Rattle.tap_name.specs.Name.{IsName}
use Rattle.tap_name.specs.Root.{first_of}
use Rattle.tap_link.specs.declared.kind.Kind.TheVariants.{Settled}
use Rattle.tap_link.specs.LinkSet.{least_settled}
use Rattle.tap_table.specs.declared.next.Next.{Next}
use Rattle.tap_table.specs.declared.next.Next.TheVariants.{Root, Hop}
use Rattle.tap_table.specs.Next.{can_take, hop_to, next_from, primary_at, taken_digit}
use Rattle.tap_table.specs.Table.{IsTable, SlotLinks, TableValue, links_at, slot_number}
use Rattle.tap_surrogate.specs.Tables.{least_link}
use Rattle.tap_surrogate.specs.Nodes.{HasSettledCoreLinks, IsCore, Nodes, core_links}
use Rattle.tap_surrogate.specs.Walk.{hop, walked_digit}
use Rattle.tap_surrogate.specs.Entered.{Entered, WalkFollows, entered_from, entered_on}
use Rattle.tap_surrogate.specs.WalkLaws.{NextHopLaw}
use Rattle.tap_surrogate.proofs.Cyclic.{first_from_agree}
use Rattle.tap_surrogate.proofs.CoreLinks.{least_link_of}
use Rattle.tap_surrogate.proofs.Entering.{entered_on-hops, entered_on-stays}
use Rattle.tap_surrogate.proofs.HoleFreePaths.{hop_other}
use Rattle.tap_surrogate.proofs.Paths.{leads}

-- of links that are all settled and to core nodes, the first core target is the primary
first_settled : (nodes : Nodes) (links : SlotLinks) → All (λ e. e.kind ≡ Settled) links → All (λ e. IsCore nodes e.target) links
    → first_of (filter nodes.core (map (λ e. e.target) links)) ≡ least_settled links
first_settled nodes [] settled core = refl
first_settled nodes (e ∷ es) settled core =
    let kind : e.kind ≡ Settled = All-head (λ e. e.kind ≡ Settled) e es settled in
    let here : nodes.core e.target ≡ true = All-head (λ e. IsCore nodes e.target) e es core in
    rw (here, kind) refl

-- The table of a node with such links, as the nodes have it.
pub record HasSettledTable (nodes : Nodes) (table : TableValue) : Type 0 where
  pub valid : IsTable table
  pub has : nodes.table_of table.owner ≡ Some table
  pub links : HasSettledCoreLinks nodes table

module _ (nodes : Nodes) (table : TableValue) (is : HasSettledTable nodes table) where
  abbrev base : ℕ
  base = table.settings.base

  abbrev own : ℕ → ℕ
  own level = get_or table.owner level 0

  -- the least core node of a slot is its primary
  pub least_is_primary : (level digit : ℕ) → digit < base
      → least_link (core_links nodes) table.owner level digit ≡ primary_at table level digit
  least_is_primary level digit below =
      let slot : Slot = record { level = level; digit = digit } in
      let number = slot_number base slot in
      least_link_of nodes table level digit (links_at table slot) is.has below refl
      ∙ first_settled nodes (links_at table slot) (is.links.settled number) (is.links.core number)

  -- so a walk and a message take the same digit
  pub same_digit : (level wanted : ℕ) → wanted < base
      → walked_digit base (core_links nodes) table.owner level wanted ≡ taken_digit table level wanted
  same_digit level wanted below =
      first_from_agree base (leads (core_links nodes) table.owner level) (can_take table level)
      (λ digit inside. ap (λ (to : Option (List ℕ)). get_or table.owner level 0 == digit || is_some to)
      (least_is_primary level digit inside))
      base wanted below

  -- at the owner's own digit the walk stays
  pub stays : (level wanted : ℕ) → wanted < base → eqb (own level) (taken_digit table level wanted) ≡ true
      → hop base (core_links nodes) table.owner level wanted ≡ None
  stays level wanted below same = rw (same_digit level wanted below, same) refl

  -- at another one there is a primary
  pub leads_on : (level wanted : ℕ) → level < table.settings.digits → wanted < base
      → eqb (own level) (taken_digit table level wanted) ≡ false
      → is_some (primary_at table level (taken_digit table level wanted)) ≡ true
  leads_on level wanted inside below other =
      let own_below = is.valid.owner.below level 0 (omega (arith, inside, is.valid.owner.len)) in
      let own_passes : can_take table level (own level) ≡ true = rw (eq-eqb (own level) (own level) refl) refl in
      let passes = first_cyclic-passes base (can_take table level) (own level) wanted own_below own_passes below in
      rw other at passes

  -- to which the walk hops
  pub hops : (level wanted : ℕ) (to : List ℕ) → wanted < base → eqb (own level) (taken_digit table level wanted) ≡ false
      → primary_at table level (taken_digit table level wanted) ≡ Some to
      → hop base (core_links nodes) table.owner level wanted ≡ Some to
  hops level wanted to below other primary =
      let digit_below = first_cyclic-below base (can_take table level) wanted below in
      let walked = same_digit level wanted below in
      let other' : eqb (own level) (walked_digit base (core_links nodes) table.owner level wanted) ≡ false = rw walked other in
      hop_other base (core_links nodes) table.owner level wanted other'
      ∙ ap (least_link (core_links nodes) table.owner level) walked
      ∙ least_is_primary level (taken_digit table level wanted) digit_below ∙ primary

  -- what a path from a node is, where a message goes on so
  abbrev FollowsBy : Entered → List ℕ → List Entered → Next → Type 0
  FollowsBy at object path Root = path ≡ at ∷ []
  FollowsBy at object path (Hop to level) =
      path ≡ at ∷ entered_from base (core_links nodes) (record { node = to; level = level }) object

  abbrev entry : ℕ → Entered
  entry level = record { node = table.owner; level = level }

  follows_hop : (at : ℕ) (object : List ℕ) (path : List Entered) (level : ℕ) (found : Option (List ℕ)) → is_some found ≡ true
      → ((to : List ℕ) → found ≡ Some to
      → path ≡ entry at ∷ entered_from base (core_links nodes) (record { node = to; level = level }) object)
      → FollowsBy (entry at) object path (hop_to found level)
  follows_hop at object path level None some leads = absurd (true≢false (sym some))
  follows_hop at object path level (Some to) some leads = leads to refl

  follows_on : (at : ℕ) (object more : List ℕ) (level : ℕ) → IsName table.settings object → more ≡ drop level object
      → level + length more ≡ table.settings.digits → All (λ d. d < base) more
      → FollowsBy (entry at) object (entered_on base (core_links nodes) (entry at) level more) (next_from table level more)
  follows_on at object [] level name left len below = refl
  follows_on at object (wanted ∷ more) level name left len below =
      let inside : level < table.settings.digits = omega arith in
      let here = All-head (λ d. d < base) wanted more below in
      let split = left ∙ drop_more object level 0 (omega (arith, name.len)) in
      let tail : more ≡ drop (level + 1) object = cc in
      elim (cases_Bool (eqb (own level) (taken_digit table level wanted))) [
        | inl same ↦
            rw (same, entered_on-stays base (core_links nodes) (entry at) level wanted more (stays level wanted here same))
            (follows_on at object more (level + 1) name tail (omega arith) (All-tail (λ d. d < base) wanted more below))
        | inr other ↦
            rw other (follows_hop at object (entered_on base (core_links nodes) (entry at) level (wanted ∷ more)) (level + 1)
            (primary_at table level (taken_digit table level wanted)) (leads_on level wanted inside here other)
            (λ to primary.
            let next : Entered = record { node = to; level = level + 1 } in
            entered_on-hops base (core_links nodes) (entry at) level wanted more to (hops level wanted to here other primary)
            ∙ ap (λ digits. entry at ∷ entered_on base (core_links nodes) next (level + 1) digits) tail))
      ]

  follows_by : (level : ℕ) (object : List ℕ) (next : Next)
      → FollowsBy (entry level) object (entered_from base (core_links nodes) (entry level) object) next
      → WalkFollows base (core_links nodes) (entry level) object next
  follows_by level object Root follows = follows
  follows_by level object (Hop to at) follows = follows

pub next_hop_law_holds : NextHopLaw
next_hop_law_holds nodes table valid has links level object within name =
    let is : HasSettledTable nodes table = record { valid = valid; has = has; links = links } in
    follows_by nodes table is level object (next_from table level (drop level object))
    (follows_on nodes table is level object (drop level object) level name refl
    (omega (arith, within, name.len, length-drop level object))
    (All-drop (λ d. d < table.settings.base) level object name.below))
