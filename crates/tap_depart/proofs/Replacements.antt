-- The replacement for a holder: what it is, and when there is one.
-- Cited above: least_above_is, none_given, replacement_fits
use Rattle.std.proofs.Common.{◌≡◌, ◌≢◌, ◌↔◌, ℕ, ◌<◌, ◌≤◌, nat_lt, zero, suc, true, None, Some, List, [], ◌∷◌, All, slice_get, arith, ap, sym, refl, subst, ◌∙◌, inl, inr}
use Rattle.std.proofs.lemmas.Bool.{and_parts, cases_Bool, cases_lt, lt-ltb, ltb-true}
use Rattle.std.proofs.lemmas.List.Elements.{All-head, All-tail}
use Rattle.std.proofs.lemmas.Option.{get_or_from_slice_get, slice_get_within}
use Rattle.tap_name.specs.Name.{IsName}
use Rattle.tap_name.specs.Order.{IsBelow}
use Rattle.tap_name.specs.Prefix.{lcp}
use Rattle.tap_name.specs.Slot.{slot_at}
use Rattle.tap_name.proofs.Near.{near_where_same_slot, same_slot_where_near}
use Rattle.tap_name.proofs.Orders.{below-cases, below-itself, below-one_way}
use Rattle.tap_name.proofs.Prefixes.{lcp-sym}
use Rattle.tap_link.specs.declared.kind.Kind.{Kind}
use Rattle.tap_link.specs.declared.kind.Kind.TheVariants.{Leaving, Pin, Settled}
use Rattle.tap_link.specs.Entry.{LinkEntry}
use Rattle.tap_link.specs.LinkSet.{LinksAscend, is_settled}
use Rattle.tap_link.proofs.Least.{ascending_tail}
use Rattle.tap_table.specs.ByName.{by_name}
use Rattle.tap_table.specs.Table.{IsTable, SlotLinks, TableValue, kind_in, name_cmp}
use Rattle.tap_table.proofs.ByName.{by_name-ascending, by_name_is_found, found_by_name}
use Rattle.tap_table.proofs.Found.{link_to, linked_is_name, linked_is_other}
use Rattle.tap_depart.specs.Replacement.{first_above, is_settled_above, least_above, replacement_for}

settled_kind : (kind : Kind) → is_settled (Some kind) ≡ true → kind ≡ Settled
settled_kind Pin is = cc
settled_kind Settled is = refl
settled_kind Leaving is = cc

-- the first name is below a later one
later_above : (e : LinkEntry (List ℕ)) (links : SlotLinks) (i : ℕ) (f : LinkEntry (List ℕ)) → LinksAscend name_cmp (e ∷ links)
    → slice_get links i ≡ Some f → IsBelow e.target f.target
later_above e links i f ascending got =
    let read = get_or_from_slice_get links i f f got in
    let within = slice_get_within links i f got in
    ap (λ (x : LinkEntry (List ℕ)). name_cmp e.target x.target) (sym read) ∙ ascending 0 (suc i) f (omega arith) (omega arith)

module _ (owner : List ℕ) (level : ℕ) where
  abbrev passes : LinkEntry (List ℕ) → Type 0
  passes e = is_settled_above owner level e ≡ true

  -- what is found is the target of a link that is settled above the level
  found_link : (P : LinkEntry (List ℕ) → Type 0) (links : SlotLinks) (name : List ℕ) → All P links
      → first_above owner level links ≡ Some name → (e : LinkEntry (List ℕ)) × P e × (e.target ≡ name) × passes e
  found_link P [] name all is = cc
  found_link P (e ∷ links) name all is =
      elim (cases_Bool (is_settled_above owner level e)) [
        | inl held ↦
            let here : Some e.target ≡ Some name = rw held at is in
            let same : e.target ≡ name = cc in
            (e, All-head P e links all, same, held)
        | inr fails ↦ found_link P links name (All-tail P e links all) (rw fails at is)
      ]

  -- if there is such a link, one is found
  given_where : (links : SlotLinks) (i : ℕ) (e : LinkEntry (List ℕ)) → slice_get links i ≡ Some e → passes e
      → (name : List ℕ) × (first_above owner level links ≡ Some name)
  given_where [] i e got held = cc
  given_where (f ∷ links) zero e got held =
      let same : f ≡ e = cc in
      let here : is_settled_above owner level f ≡ true = ap (is_settled_above owner level) same ∙ held in
      (f.target, rw here refl)
  given_where (f ∷ links) (suc i) e got held =
      elim (cases_Bool (is_settled_above owner level f)) [
        | inl here ↦ (f.target, rw here refl)
        | inr fails ↦ let rest = given_where links i e got held in (rest.0, rw fails rest.1)
      ]

  -- and no other is below it
  least_where : (links : SlotLinks) (name : List ℕ) (i : ℕ) (e : LinkEntry (List ℕ)) → LinksAscend name_cmp links
      → first_above owner level links ≡ Some name → slice_get links i ≡ Some e → passes e → IsBelow e.target name → ⊥
  least_where [] name i e ascending is got held lower = cc
  least_where (f ∷ links) name zero e ascending is got held lower =
      let same : f ≡ e = cc in
      let here : is_settled_above owner level f ≡ true = ap (is_settled_above owner level) same ∙ held in
      let found : Some f.target ≡ Some name = rw here at is in
      let named : f.target ≡ name = cc in
      below-itself name (subst (λ n. IsBelow n name) (sym (ap (λ (x : LinkEntry (List ℕ)). x.target) same) ∙ named) lower)
  least_where (f ∷ links) name (suc i) e ascending is got held lower =
      elim (cases_Bool (is_settled_above owner level f)) [
        | inl here ↦
            let found : Some f.target ≡ Some name = rw here at is in
            let named : f.target ≡ name = cc in
            let above = subst (λ n. IsBelow n e.target) named (later_above f links i e ascending got) in
            below-one_way name e.target above lower
        | inr fails ↦ least_where links name i e (ascending_tail name_cmp f links ascending) (rw fails at is) got held lower
      ]

-- a settled link of a table at a level above one, below which no other is
pub record IsLeastAbove (t : TableValue) (level : ℕ) (name : List ℕ) : Type 0 where
  pub settled : kind_in t name ≡ Some Settled
  pub higher : level < lcp t.owner name
  pub least : (other : List ℕ) → kind_in t other ≡ Some Settled → level < lcp t.owner other → IsBelow other name → ⊥

module _ (t : TableValue) (valid : IsTable t) (level : ℕ) where
  settled_passes : (name : List ℕ) → level < lcp t.owner name → is_settled_above t.owner level (link_to name Settled) ≡ true
  settled_passes name higher = lt-ltb level (lcp t.owner name) higher

  -- what is given is the least settled link of the levels above
  pub least_above_is : (name : List ℕ) → least_above t level ≡ Some name → IsLeastAbove t level name
  least_above_is name is =
      let (e, kind, named, held) =
      found_link t.owner level (λ e. kind_in t e.target ≡ Some e.kind) (by_name t) name (by_name_is_found t valid) is in
      let parts = and_parts (is_settled (Some e.kind)) (nat_lt level (lcp t.owner e.target)) held in
      let Higher : List ℕ → Type 0 = λ n. level < lcp t.owner n in
      record {
        settled = ap (kind_in t) (sym named) ∙ kind ∙ ap Some (settled_kind e.kind parts.0);
        higher = subst Higher named (ltb-true level (lcp t.owner e.target) parts.1);
        least = λ other settled higher.
            let link = found_by_name t valid other Settled settled in
            least_where t.owner level (by_name t) name link.0 (link_to other Settled) (by_name-ascending t valid) is link.1
            (settled_passes other higher);
      }

  -- if there is a settled link at the levels above, one is given
  pub given_above : (name : List ℕ) → kind_in t name ≡ Some Settled → level < lcp t.owner name
      → (least : List ℕ) × (least_above t level ≡ Some least)
  given_above name settled higher =
      let link = found_by_name t valid name Settled settled in
      given_where t.owner level (by_name t) link.0 (link_to name Settled) link.1 (settled_passes name higher)

  -- and what is such a link is given: there is but one
  pub given_exactly : (name : List ℕ) → (least_above t level ≡ Some name) ↔ IsLeastAbove t level name
  given_exactly name = (
    least_above_is name,
    λ least. let found = given_above name least.settled least.higher in
        let given = least_above_is found.0 found.1 in
        let same : found.0 ≡ name = elim (below-cases found.0 name) [
          | inl is ↦ is
          | inr apart ↦ elim apart [
            | inl lower ↦ absurd (least.least found.0 given.settled given.higher lower)
            | inr higher ↦ absurd (given.least name least.settled least.higher higher)
          ]
        ] in
        found.1 ∙ ap Some same,
  )

  -- if nothing is given, no settled link is at the levels above
  pub none_given : least_above t level ≡ None → (name : List ℕ) → kind_in t name ≡ Some Settled → lcp t.owner name ≤ level
  none_given none name settled =
      elim (cases_lt level (lcp t.owner name)) [
        | inl higher ↦
            let found = given_above name settled higher in let wrong : None ≡ Some found.0 = sym none ∙ found.1 in cc
        | inr low ↦ low
      ]

-- A replacement: a settled link of the leaving node, that stands in the leaving node's slot at the holder.
pub record IsReplacement (t : TableValue) (holder name : List ℕ) : Type 0 where
  pub settled : kind_in t name ≡ Some Settled
  pub is_name : IsName t.settings name
  pub other : name ≢ t.owner
  pub not_holder : name ≢ holder
  pub nearer : lcp holder t.owner < lcp t.owner name
  pub slot : slot_at holder name ≡ slot_at holder t.owner

module _ (t : TableValue) (valid : IsTable t) (holder : List ℕ) (is_holder : IsName t.settings holder) where
  -- what is given fits the leaving node's slot at the holder, and is neither of the two
  pub replacement_fits : (name : List ℕ) → replacement_for t holder ≡ Some name → IsReplacement t holder name
  replacement_fits name is =
      let least = least_above_is t valid (lcp holder t.owner) name is in
      let near = least.higher in
      record {
        settled = least.settled;
        is_name = linked_is_name t valid name Settled least.settled;
        other = linked_is_other t valid name Settled least.settled;
        not_holder = λ same.
            let level = ap (lcp t.owner) same in
            let swap = lcp-sym t.owner holder in
            omega (arith, level, swap, near);
        nearer = near;
        slot = (same_slot_where_near holder t.owner name (is_holder.len ∙ sym valid.owner.len) near).1;
      }

  -- it is the least settled link from one level above on, exactly
  pub replacement_exactly : (name : List ℕ) → (replacement_for t holder ≡ Some name) ↔ IsLeastAbove t (lcp holder t.owner) name
  replacement_exactly = given_exactly t valid (lcp holder t.owner)

  -- where another node fits the leaving node's slot at the holder, and the leaving node has a settled link at the level of
  -- that node, a replacement is given
  pub replacement_given : (other link : List ℕ) → IsName t.settings other → other ≢ t.owner
      → slot_at holder other ≡ slot_at holder t.owner → kind_in t link ≡ Some Settled → lcp t.owner link ≡ lcp t.owner other
      → (name : List ℕ) × (replacement_for t holder ≡ Some name)
  replacement_given other link is_name apart same settled level =
      let near = near_where_same_slot holder t.owner other (is_holder.len ∙ sym valid.owner.len)
      (valid.owner.len ∙ sym is_name.len) apart same in
      let swap = lcp-sym other t.owner in
      given_above t valid (lcp holder t.owner) link settled (omega (arith, near, swap, level))
