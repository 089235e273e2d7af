-- To whom a seeker goes on, and when a core node is its surrogate.
-- Cited above: forward_is, surrogate_is
use Rattle.std.proofs.Common.{◌≡◌, ◌≢◌, ℕ, ◌+◌, ◌≤◌, Option, None, Some, List, arith, ap, sym, refl, ◌∙◌}
use Rattle.std.proofs.lemmas.Cmp.{nat_list_cmp_total}
use Rattle.tap_name.specs.Name.{IsName}
use Rattle.tap_name.specs.Prefix.{lcp}
use Rattle.tap_name.proofs.Near.{near_in_slot}
use Rattle.tap_name.proofs.Prefixes.{lcp-sym}
use Rattle.tap_link.specs.declared.kind.Kind.TheVariants.{Settled}
use Rattle.tap_link.proofs.Least.{least_settled_is}
use Rattle.tap_table.specs.Table.{IsTable, TableValue, kind_in, links_near, name_cmp, place_of}
use Rattle.tap_table.proofs.Fitting.{slot_of_other}
use Rattle.tap_table.proofs.Found.{kind_of_target, link_found, link_to, slot_is_own, target_is_name, target_is_other}
use Rattle.tap_table.proofs.Near.{number_near}
use Rattle.tap_table.proofs.Primaries.{primary_near}
use Rattle.tap_table.proofs.Slots.{number_back, place_inside}
use Rattle.tap_join.specs.declared.sought.Sought.TheVariants.{Forward, Surrogate}
use Rattle.tap_join.specs.Seek.{sought, sought_by}

-- the node to which a core node sends a seeker on: it is settled in the table, and shares more digits with the seeker than
-- the owner does
pub record IsForward (t : TableValue) (joiner to : List ℕ) : Type 0 where
  pub settled : kind_in t to ≡ Some Settled
  pub is_name : IsName t.settings to
  pub other : to ≢ t.owner
  pub nearer : lcp t.owner joiner + 1 ≤ lcp to joiner

module _ (t : TableValue) (valid : IsTable t) (joiner : List ℕ) (is_name : IsName t.settings joiner) (apart : joiner ≢ t.owner) where
  -- the primary of the seeker's slot is such a node
  of_primary : (first : List ℕ) → primary_near t joiner ≡ Some first → IsForward t joiner first
  of_primary first found =
      let number = number_near t joiner in
      let least = least_settled_is name_cmp nat_list_cmp_total (links_near t joiner) first (valid.sets number).ascending found in
      let link = link_found (links_near t joiner) first Settled least.settled in
      let entry = link_to first Settled in
      let first_is = target_is_name t valid number entry link.0 link.1 in
      let other = target_is_other t valid number entry link.0 link.1 in
      let inside = place_inside t.settings t.owner joiner valid.owner is_name apart in
      let place : place_of t.owner first ≡ place_of t.owner joiner =
      sym (slot_is_own t valid number entry link.0 link.1) ∙ number_back t.settings.base (place_of t.owner joiner) inside.1 in
      let same = slot_of_other t.settings t.owner first valid.owner first_is other ∙ ap Some place
      ∙ sym (slot_of_other t.settings t.owner joiner valid.owner is_name apart) in
      let near = near_in_slot t.owner joiner first (valid.owner.len ∙ sym is_name.len) (is_name.len ∙ sym first_is.len)
      (λ own. apart (sym own)) same in
      let swap = lcp-sym joiner first in
      record {
        settled = kind_of_target t valid number entry link.0 link.1;
        is_name = first_is;
        other = other;
        nearer = omega (arith, near, swap);
      }

  -- a seeker goes on to such a node alone
  pub forward_is : (to : List ℕ) → sought t joiner ≡ Forward to → IsForward t joiner to
  forward_is to is = by_primary (primary_near t joiner) refl
    where
      by_primary : (found : Option (List ℕ)) → primary_near t joiner ≡ found → IsForward t joiner to
      by_primary None none =
          let wrong : Surrogate (lcp t.owner joiner) ≡ Forward to = ap (λ f. sought_by f (lcp t.owner joiner)) (sym none) ∙ is in cc
      by_primary (Some first) found =
          let same : Forward first ≡ Forward to = ap (λ f. sought_by f (lcp t.owner joiner)) (sym found) ∙ is in
          let named : first ≡ to = cc in
          of_primary to (found ∙ ap Some named)

  -- its surrogate has no primary in its slot, and shares the prefix with it
  pub surrogate_is : (prefix : ℕ) → sought t joiner ≡ Surrogate prefix → (prefix ≡ lcp t.owner joiner) × (primary_near t joiner ≡ None)
  surrogate_is prefix is = by_primary (primary_near t joiner) refl
    where
      by_primary : (found : Option (List ℕ)) → primary_near t joiner ≡ found
          → (prefix ≡ lcp t.owner joiner) × (primary_near t joiner ≡ None)
      by_primary None none =
          let same : Surrogate (lcp t.owner joiner) ≡ Surrogate prefix = ap (λ f. sought_by f (lcp t.owner joiner)) (sym none) ∙ is in
          let shared : lcp t.owner joiner ≡ prefix = cc in
          (sym shared, none)
      by_primary (Some first) found =
          let wrong : Forward first ≡ Surrogate prefix = ap (λ f. sought_by f (lcp t.owner joiner)) (sym found) ∙ is in cc
