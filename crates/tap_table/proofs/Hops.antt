-- What a next hop is: told level by level, and what holds of its node.
-- Cited above: hop_exactly, hop_is, same_hops
use Rattle.std.proofs.Common.{◌≡◌, ◌≢◌, ◌↔◌, ℕ, ◌+◌, ◌-◌, ◌<◌, ◌≤◌, zero, suc, Bool, true, false, Option, None, Some, List, [], ◌∷◌, length, get_or, drop, arith, ap, sym, refl, subst, ◌∙◌, inl, inr, eqb, is_some}
use Rattle.std.specs.Prelude.{◌||◌}
use Rattle.std.proofs.lemmas.Bool.{cases_Bool, cases_eq, eq-eqb, eqb-false, eqb-true}
use Rattle.std.proofs.lemmas.Cmp.{nat_list_cmp_total}
use Rattle.std.proofs.lemmas.List.{drop_all, drop_more}
use Rattle.tap_name.specs.declared.slot.Slot.{Slot}
use Rattle.tap_name.specs.Cyclic.{first_from, next_digit}
use Rattle.tap_name.specs.Name.{IsName}
use Rattle.tap_name.specs.Prefix.{lcp}
use Rattle.tap_name.proofs.Cyclic.{first_cyclic-below}
use Rattle.tap_name.proofs.Prefixes.{lcp-is}
use Rattle.tap_link.specs.declared.kind.Kind.TheVariants.{Settled}
use Rattle.tap_link.proofs.Least.{least_settled_is}
use Rattle.tap_table.specs.declared.next.Next.TheVariants.{Hop, Root}
use Rattle.tap_table.specs.Next.{HopsTo, IsHop, can_take, hop_to, next_from, primary_at, taken_digit}
use Rattle.tap_table.specs.Table.{IsTable, TableValue, links_at, name_cmp, place_of, slot_number}
use Rattle.tap_table.proofs.Found.{kind_of_target, link_found, link_to, slot_is_own, target_is_name, target_is_other}
use Rattle.tap_table.proofs.Slots.{number_back}

-- a hop names the primary, and the next level
hop_of : (found : Option (List ℕ)) (level next : ℕ) (to : List ℕ) → hop_to found level ≡ Hop to next → (found ≡ Some to) × (level ≡ next)
hop_of None level next to is = cc
hop_of (Some name) level next to is =
    let same : name ≡ to = cc in
    let at : level ≡ next = cc in
    (ap Some same, at)

module _ (t : TableValue) (object to : List ℕ) (next : ℕ) where
  -- the digit that a message takes at a level
  abbrev taken : ℕ → ℕ
  taken level = taken_digit t level (get_or object level 0)

  abbrev own : ℕ → ℕ
  own level = get_or t.owner level 0

  -- one level of the search
  further : (level : ℕ) → level < length object → eqb (own level) (taken level) ≡ true
      → next_from t level (drop level object) ≡ next_from t (level + 1) (drop (level + 1) object)
  further level within same = let parts = drop_more object level 0 within in rw (parts, same) refl

  leaves : (level : ℕ) → level < length object → eqb (own level) (taken level) ≡ false
      → next_from t level (drop level object) ≡ hop_to (primary_at t level (taken level)) (level + 1)
  leaves level within other = let parts = drop_more object level 0 within in rw (parts, other) refl

  hops_to : (left level : ℕ) → left + level ≡ length object → next_from t level (drop level object) ≡ Hop to next
      → HopsTo t level object to next
  hops_to zero level len is =
      let none : drop level object ≡ [] = drop_all level object (omega arith) in
      let root : next_from t level (drop level object) ≡ Root = rw none refl in
      let wrong : Root ≡ Hop to next = sym root ∙ is in
      cc
  hops_to (suc left) level len is =
      let within : level < length object = omega arith in
      elim (cases_Bool (eqb (own level) (taken level))) [
        | inl same ↦
            let rest = hops_to left (level + 1) (omega arith) (sym (further level within same) ∙ is) in
            record {
              last = rest.last;
              next_is = rest.next_is;
              from = omega (arith, rest.from);
              within = rest.within;
              own = λ at from before. elim (cases_eq at level) [
                | inl here ↦ rw here (sym (eqb-true (own level) (taken level) same))
                | inr ne ↦ rest.own at (omega arith) before
              ];
              other = rest.other;
              primary = rest.primary;
            }
        | inr other ↦
            let hop = hop_of (primary_at t level (taken level)) (level + 1) next to (sym (leaves level within other) ∙ is) in
            record {
              last = level;
              next_is = sym hop.1;
              from = omega arith;
              within = within;
              own = λ at from before. absurd (omega arith);
              other = λ same. eqb-false (own level) (taken level) other (sym same);
              primary = hop.0;
            }
      ]

  hops_from : (left level : ℕ) → left + level ≡ length object → HopsTo t level object to next
      → next_from t level (drop level object) ≡ Hop to next
  hops_from zero level len hops = absurd (omega (arith, hops.from, hops.within))
  hops_from (suc left) level len hops =
      let within : level < length object = omega arith in
      elim (cases_eq level hops.last) [
        | inl here ↦
            let Differs : ℕ → Type 0 = λ l. taken l ≢ own l in
            let differs : taken level ≢ own level = subst Differs (sym here) hops.other in
            let Primary : ℕ → Type 0 = λ l. primary_at t l (taken l) ≡ Some to in
            let primary : primary_at t level (taken level) ≡ Some to = subst Primary (sym here) hops.primary in
            let test : eqb (own level) (taken level) ≡ false = elim (cases_Bool (eqb (own level) (taken level))) [
              | inl same ↦ absurd (differs (sym (eqb-true (own level) (taken level) same)))
              | inr e ↦ e
            ] in
            let at : level + 1 ≡ next = omega (arith, hops.next_is) in
            leaves level within test ∙ rw primary (ap (Hop to) at)
        | inr ne ↦
            let same = eq-eqb (own level) (taken level) (sym (hops.own level (omega arith) (omega (arith, ne, hops.from)))) in
            further level within same ∙ hops_from left (level + 1) (omega arith) (record {
              last = hops.last;
              next_is = hops.next_is;
              from = omega (arith, ne, hops.from);
              within = hops.within;
              own = λ at from before. hops.own at (omega arith) before;
              other = hops.other;
              primary = hops.primary;
            })
      ]

  -- a message hops so exactly where it is told so level by level
  pub hop_exactly : (level : ℕ) → level ≤ length object
      → (next_from t level (drop level object) ≡ Hop to next) ↔ HopsTo t level object to next
  hop_exactly level inside =
      let len : (length object - level) + level ≡ length object = omega arith in
      (hops_to (length object - level) level len, hops_from (length object - level) level len)

  -- its node is settled in the table, and shares what its level says
  pub hop_is : (level : ℕ) → IsTable t → IsName t.settings object → HopsTo t level object to next → IsHop t level to next
  hop_is level valid is_name hops =
      let digit = taken hops.last in
      let slot : Slot = record { level = hops.last; digit = digit } in
      let number = slot_number t.settings.base slot in
      let links = links_at t slot in
      let first = least_settled_is name_cmp nat_list_cmp_total links to (valid.sets number).ascending hops.primary in
      let (i, got) = link_found links to Settled first.settled in
      let wanted = is_name.below hops.last 0 hops.within in
      let below = first_cyclic-below t.settings.base (can_take t hops.last) (get_or object hops.last 0) wanted in
      let place : place_of t.owner to ≡ slot =
      sym (slot_is_own t valid number (link_to to Settled) i got) ∙ number_back t.settings.base slot below in
      let level_is : lcp t.owner to ≡ hops.last = lcp-is t.owner to ∙ ap (λ (s : Slot). s.level) place in
      record {
        above = omega (arith, hops.next_is, hops.from);
        within = omega (arith, hops.next_is, hops.within, is_name.len);
        settled = kind_of_target t valid number (link_to to Settled) i got;
        is_name = target_is_name t valid number (link_to to Settled) i got;
        other = target_is_other t valid number (link_to to Settled) i got;
        shared = omega (arith, level_is, hops.next_is);
      }

-- tables of one owner with the same primaries give the same hops
module _ (t u : TableValue) (owner : t.owner ≡ u.owner) (base : t.settings.base ≡ u.settings.base)
    (primaries : (level digit : ℕ) → primary_at t level digit ≡ primary_at u level digit) where
  same_test : (level digit : ℕ) → can_take t level digit ≡ can_take u level digit
  same_test level digit =
      let own : List ℕ → Bool = λ name. eqb (get_or name level 0) digit || is_some (primary_at t level digit) in
      ap own owner ∙ ap (λ found. eqb (get_or u.owner level 0) digit || is_some found) (primaries level digit)

  same_first : (level left digit : ℕ)
      → first_from u.settings.base (can_take t level) left digit ≡ first_from u.settings.base (can_take u level) left digit
  same_first level zero digit = refl
  same_first level (suc left) digit =
      rw (same_test level digit, same_first level left (next_digit u.settings.base digit)) refl

  same_taken : (level wanted : ℕ) → taken_digit t level wanted ≡ taken_digit u level wanted
  same_taken level wanted =
      ap (λ b. first_from b (can_take t level) b wanted) base ∙ same_first level u.settings.base wanted

  pub same_hops : (level : ℕ) (digits : List ℕ) → next_from t level digits ≡ next_from u level digits
  same_hops level [] = refl
  same_hops level (wanted ∷ more) =
      let taken = taken_digit u level wanted in
      let own : get_or t.owner level 0 ≡ get_or u.owner level 0 = ap (λ n. get_or n level 0) owner in
      let digit = same_taken level wanted in
      rw (digit, own, primaries level taken, same_hops (level + 1) more) refl
