-- The levels of a table from which on no slot has a link: a message stays there.
use Rattle.std.proofs.Common.{◌≡◌, inl, inr, ℕ, ◌*◌, ◌≤◌, List, [], length, drop, get_or, map, arith, ap, sym, ◌∙◌, eqb, is_some}
use Rattle.std.proofs.Math.Nat.{mul-le-mul_left}
use Rattle.std.proofs.lemmas.Bool.{cases_Bool, cases_lt, eqb-true, true≢false}
use Rattle.std.proofs.lemmas.List.{get_or_past, length-map}
use Rattle.tap_name.specs.declared.slot.Slot.{Slot}
use Rattle.tap_name.specs.Name.{IsName}
use Rattle.tap_name.specs.Settings.{SettingsValue}
use Rattle.tap_link.specs.LinkSet.{LinkSetValue, least_settled}
use Rattle.tap_table.specs.declared.next.Next.TheVariants.{Root}
use Rattle.tap_table.specs.Next.{TakesOwnFrom, next_from, taken_digit}
use Rattle.tap_table.specs.Sets.{AreEmptyFrom}
use Rattle.tap_table.specs.Table.{HasNoLinksFrom, IsTable, SlotLinks, TableValue, slot_number, table_of}
use Rattle.tap_table.proofs.Slots.{links_of_set}
use Rattle.tap_table.proofs.DigitTaken.{other_leads_on, root_exactly}

-- no slot of a level has a link where no set has one from the level's first number on
pub no_links_from : (owner : List ℕ) (p : SettingsValue) (sets : List (LinkSetValue (List ℕ))) (from level : ℕ)
    → AreEmptyFrom sets from → from ≤ level * p.base → HasNoLinksFrom (table_of owner p sets) level
no_links_from owner p sets from level empty past slot deep =
    let number = slot_number p.base slot in
    let out : LinkSetValue (List ℕ) = record { width = 0; links = [] } in
    let wide = mul-le-mul_left p.base deep in
    elim (cases_lt number (length sets)) [
      | inl within ↦ links_of_set sets number out within ∙ empty number (omega (arith, past, wide))
      | inr outside ↦
          let len = length-map sets (λ (s : LinkSetValue (List ℕ)). s.links) in
          get_or_past (map (λ (s : LinkSetValue (List ℕ)). s.links) sets) number [] (omega (arith, outside, len))
    ]

module _ (t : TableValue) (valid : IsTable t) (level : ℕ) (none : HasNoLinksFrom t level) (object : List ℕ)
    (is_name : IsName t.settings object) where
  -- then the owner's own digit is taken at each level from there on
  takes_own : TakesOwnFrom t level object
  takes_own at deep within =
      let own = get_or t.owner at 0 in
      let wanted = get_or object at 0 in
      let digit = taken_digit t at wanted in
      let slot : Slot = record { level = at; digit = digit } in
      let empty = ap (λ (links : SlotLinks). is_some (least_settled links)) (none slot deep) in
      elim (cases_Bool (eqb own digit)) [
        | inl same ↦ sym (eqb-true own digit same)
        | inr other ↦
            let some = other_leads_on t at wanted valid (omega (arith, within, is_name.len)) (is_name.below at 0 within) other in
            absurd (true≢false (sym some ∙ empty))
      ]

  -- and a message stays
  pub stays_where_empty : level ≤ t.settings.digits → next_from t level (drop level object) ≡ Root
  stays_where_empty inside = (root_exactly t level object valid is_name inside).1 takes_own
