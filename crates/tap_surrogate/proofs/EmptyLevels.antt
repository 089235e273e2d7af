-- The levels of a table from which on no slot has a link: a walk stays there.
use Rattle.std.proofs.Common.{◌≡◌, inl, inr, ℕ, ◌+◌, ◌<◌, ◌≤◌, None, Some, List, [], ◌∷◌, length, get_or, All, arith, ap, sym, refl, ◌∙◌, eqb}
use Rattle.std.proofs.lemmas.Bool.{cases_Bool, cases_lt, eqb-true, true≢false}
use Rattle.std.proofs.lemmas.List.{get_or_past}
use Rattle.std.proofs.lemmas.List.Elements.{All-head, All-tail}
use Rattle.tap_table.specs.Table.{HasNoLinksFrom, IsTable, TableValue}
use Rattle.tap_surrogate.specs.Distance.{cyclic_distance}
use Rattle.tap_surrogate.specs.Nodes.{Nodes, core_links}
use Rattle.tap_surrogate.specs.Tables.{least_link}
use Rattle.tap_surrogate.specs.Walk.{hop, walk_on}
use Rattle.tap_surrogate.proofs.CoreLinks.{least_link_of}
use Rattle.tap_surrogate.proofs.Paths.{does_not_lead, own_is_taken, walk_on-stays}

module _ (nodes : Nodes) (table : TableValue) (is : nodes.table_of table.owner ≡ Some table) (valid : IsTable table) (level : ℕ)
    (none : HasNoLinksFrom table level) where
  no_least_link : (at digit : ℕ) → level ≤ at → digit < table.settings.base
      → least_link (core_links nodes) table.owner at digit ≡ None
  no_least_link at digit deep below =
      least_link_of nodes table at digit [] is below (sym (none (record { level = at; digit = digit }) deep))

  own_below : (at : ℕ) → get_or table.owner at 0 < table.settings.base
  own_below at =
      elim (cases_lt at (length table.owner)) [
        | inl within ↦ valid.owner.below at 0 within
        | inr past ↦ omega (arith, get_or_past table.owner at 0 past, valid.limits.base_from)
      ]

  stays : (at wanted : ℕ) → level ≤ at → wanted < table.settings.base
      → hop table.settings.base (core_links nodes) table.owner at wanted ≡ None
  stays at wanted deep wanted_below =
      let links = core_links nodes in
      let own = get_or table.owner at 0 in
      sym (own_is_taken table.settings.base links table.owner at wanted own wanted_below (own_below at) refl
      (λ other other_below leads_on. elim (cases_Bool (eqb own other)) [
        | inl same ↦
            let far = ap (cyclic_distance table.settings.base wanted) (eqb-true own other same) in omega (arith, far)
        | inr apart ↦
            let fails = does_not_lead links table.owner at other apart (no_least_link at other deep other_below) in
            absurd (true≢false (sym leads_on ∙ fails))
      ]))

  pub ends_where_empty : (object : List ℕ) (at : ℕ) → level ≤ at → All (λ d. d < table.settings.base) object
      → walk_on table.settings.base (core_links nodes) table.owner at object ≡ table.owner ∷ []
  ends_where_empty [] at deep below = refl
  ends_where_empty (wanted ∷ more) at deep below =
      let here = stays at wanted deep (All-head (λ d. d < table.settings.base) wanted more below) in
      walk_on-stays table.settings.base (core_links nodes) table.owner at wanted more here
      ∙ ends_where_empty more (at + 1) (omega (arith, deep)) (All-tail (λ d. d < table.settings.base) wanted more below)
