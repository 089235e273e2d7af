-- How many links the sets of a table have, after a change of one of them.
use Rattle.std.proofs.Common.{◌≡◌, inl, inr, ℕ, ◌+◌, ◌-◌, ◌*◌, ◌<◌, ◌≤◌, List, [], ◌∷◌, length, get_or, replicate, set, All, arith, ap, subst, ◌∙◌}
use Rattle.std.proofs.lemmas.Bool.{cases_lt, cases_order}
use Rattle.std.proofs.lemmas.Cmp.{nat_list_cmp_total}
use Rattle.std.proofs.lemmas.Grind.{get_or-set_at}
use Rattle.std.proofs.lemmas.List.{get_or-replicate, get_or-set_other, get_or_default, get_or_past, length-replicate, length-set, nil_from_length}
use Rattle.std.proofs.lemmas.List.Elements.{All-get_or, All-head, All-replicate, All-set, All-tail}
use Rattle.std.proofs.lemmas.List.Folds.{sum_by-replicate}
use Rattle.std.proofs.lemmas.List.Sums.{get_or-le-sum_by, sum_by-cons, sum_by-set}
use Rattle.tap_link.specs.LinkSet.{IsLinkSet, LinkSetValue}
use Rattle.tap_link.specs.LinkSet.{pinned as set_pinned, offered as set_offered, released as set_released, forgotten as set_forgotten, marked as set_marked, removed as set_removed}
use Rattle.tap_link.proofs.Sizes.{length-forgotten, length-marked, length-offered_le, length-pinned_le, length-released, length-removed}
use Rattle.tap_table.specs.Sets.{AreCounted, AreEmptyFrom, all_links, most_links_of_slot, most_slots_of_table}
use Rattle.tap_table.specs.Table.{name_cmp}

sum_le : (sets : List (LinkSetValue (List ℕ))) → All (λ s. length s.links ≤ most_links_of_slot) sets
    → all_links sets ≤ length sets * most_links_of_slot
sum_le [] few = omega arith
sum_le (s ∷ sets) few =
    let rest = sum_le sets (All-tail (λ s. length s.links ≤ most_links_of_slot) s sets few) in
    let here = All-head (λ s. length s.links ≤ most_links_of_slot) s sets few in
    let sum = sum_by-cons (λ (s : LinkSetValue (List ℕ)). length s.links) s sets in
    omega (arith, rest, here, sum)

-- the links of all sets are counted in 64 bits
pub links_fit : (sets : List (LinkSetValue (List ℕ))) (links from : ℕ) → AreCounted sets links from → links ≤ 640 * most_links_of_slot
links_fit sets links from are = omega (arith, sum_le sets are.few, are.count, are.slots)

-- sets without links
empty_from_start : (n width : ℕ) → AreEmptyFrom (replicate n (record { width = width; links = [] })) 0
empty_from_start n width number past =
    let none : LinkSetValue (List ℕ) = record { width = width; links = [] } in
    let out : LinkSetValue (List ℕ) = record { width = 0; links = [] } in
    elim (cases_lt number n) [
      | inl inside ↦ ap (λ (s : LinkSetValue (List ℕ)). s.links) (get_or-replicate n number none out inside)
      | inr outside ↦
          let len = length-replicate n none in
          ap (λ (s : LinkSetValue (List ℕ)). s.links) (get_or_past (replicate n none) number out (omega (arith, len, outside)))
    ]

pub counted_empty : (sets : List (LinkSetValue (List ℕ))) (n width : ℕ) → n ≤ most_slots_of_table
    → sets ≡ replicate n (record { width = width; links = [] }) → AreCounted sets 0 0
counted_empty sets n width few is =
    let none : LinkSetValue (List ℕ) = record { width = width; links = [] } in
    rw is (record {
      slots = omega (arith, length-replicate n none);
      few = All-replicate (λ s. length s.links ≤ most_links_of_slot) n none (omega arith);
      count = omega (arith, sum_by-replicate (λ (s : LinkSetValue (List ℕ)). length s.links) n none);
      empty = empty_from_start n width;
    })

module _ (sets : List (LinkSetValue (List ℕ))) (links number from : ℕ) (old : LinkSetValue (List ℕ)) (are : AreCounted sets links from)
    (within : number < length sets) (here : old ≡ get_or sets number old) where
  few_before : length old.links ≤ most_links_of_slot
  few_before =
      let at = All-get_or (λ s. length s.links ≤ most_links_of_slot) sets number old within are.few in
      let same = ap (λ (s : LinkSetValue (List ℕ)). length s.links) here in
      omega (arith, at, same)

  pub few_slots : number < most_slots_of_table
  few_slots = omega (arith, within, are.slots)

  -- from a number on there is no link after another set in the place, if that is before it or empty
  empty_after : (new : LinkSetValue (List ℕ)) (to : ℕ) → from ≤ to → (to ≤ number → new.links ≡ []) → AreEmptyFrom (set sets number new) to
  empty_after new to further none k past =
      let out : LinkSetValue (List ℕ) = record { width = 0; links = [] } in
      elim (cases_order k number) [
        | inl same ↦
            ap (λ (s : LinkSetValue (List ℕ)). s.links) (get_or-set_at sets number k new out same within)
            ∙ none (omega (arith, same, past))
        | inr (inl before) ↦
            ap (λ (s : LinkSetValue (List ℕ)). s.links) (get_or-set_other sets number k new out (λ same. omega (arith, same, before)))
            ∙ are.empty k (omega (arith, further, past))
        | inr (inr later) ↦
            ap (λ (s : LinkSetValue (List ℕ)). s.links) (get_or-set_other sets number k new out (λ same. omega (arith, same, later)))
            ∙ are.empty k (omega (arith, further, past))
      ]

  -- the sets and their count after another set in the place, and that the count fits
  after_set : (new : LinkSetValue (List ℕ)) (before now to : ℕ) → before ≡ length old.links → now ≡ length new.links
      → length new.links ≤ most_links_of_slot → AreEmptyFrom (set sets number new) to
      → AreCounted (set sets number new) (links - before + now) to
  after_set new before now to before_is now_is small empty =
      let sum = sum_by-set (λ (s : LinkSetValue (List ℕ)). length s.links) sets number new old within in
      let one = get_or-le-sum_by (λ (s : LinkSetValue (List ℕ)). length s.links) sets number old within in
      let same = ap (λ (s : LinkSetValue (List ℕ)). length s.links) here in
      let len = length-set sets number new in
      record {
        slots = omega (arith, len, are.slots);
        few = All-set (λ s. length s.links ≤ most_links_of_slot) sets number new small are.few;
        count = omega (arith, sum, one, same, are.count);
        empty = empty;
      }

  pub counted_after : (new : LinkSetValue (List ℕ)) (before now to : ℕ) → before ≡ length old.links → now ≡ length new.links
      → length new.links ≤ most_links_of_slot → number < to → from ≤ to → AreCounted (set sets number new) (links - before + now) to
  counted_after new before now to before_is now_is small past further =
      after_set new before now to before_is now_is small (empty_after new to further (λ under. absurd (omega (arith, under, past))))

  pub fits_after : (new : LinkSetValue (List ℕ)) (before now : ℕ) → before ≡ length old.links → now ≡ length new.links
      → length new.links ≤ most_links_of_slot → links - before + now ≤ 640 * most_links_of_slot
  fits_after new before now before_is now_is small =
      let to = from + number + 1 in
      links_fit (set sets number new) (links - before + now) to
      (counted_after new before now to before_is now_is small (omega arith) (omega arith))

  -- the same after a set that has no more links than the one before it
  module _ (new : LinkSetValue (List ℕ)) (before now : ℕ) (before_is : before ≡ length old.links) (now_is : now ≡ length new.links)
      (fewer : length new.links ≤ length old.links) where
    still_few : length new.links ≤ most_links_of_slot
    still_few = omega (arith, fewer, few_before)

    still_empty : from ≤ number → new.links ≡ []
    still_empty past =
        let out : LinkSetValue (List ℕ) = record { width = 0; links = [] } in
        let at = here ∙ get_or_default sets number old out within in
        let none = ap (λ (s : LinkSetValue (List ℕ)). length s.links) at ∙ ap length (are.empty number past) in
        nil_from_length new.links (omega (arith, fewer, none))

    pub counted_fewer : AreCounted (set sets number new) (links - before + now) from
    counted_fewer = after_set new before now from before_is now_is still_few (empty_after new from (omega arith) still_empty)

    -- and no fewer
    pub counted_as_many : length new.links ≡ length old.links → AreCounted (set sets number new) links from
    counted_as_many as_many =
        let one = get_or-le-sum_by (λ (s : LinkSetValue (List ℕ)). length s.links) sets number old within in
        let same = ap (λ (s : LinkSetValue (List ℕ)). length s.links) here in
        let all : links - before + now ≡ links = omega (arith, one, same, as_many, before_is, now_is, are.count) in
        subst (λ n. AreCounted (set sets number new) n from) all counted_fewer

    pub fits_fewer : links - before + now ≤ 640 * most_links_of_slot
    fits_fewer = fits_after new before now before_is now_is still_few

-- a set that has lost a link, or none, has no more than before
module _ (old new : LinkSetValue (List ℕ)) (name : List ℕ) (valid : IsLinkSet name_cmp old) where
  pub fewer_released : new ≡ set_released name_cmp old name → length new.links ≤ length old.links
  fewer_released is =
      let len = length-released name_cmp nat_list_cmp_total old name valid.ascending in
      let same = ap (λ (s : LinkSetValue (List ℕ)). length s.links) is in
      omega (arith, len, same)

  pub fewer_forgotten : new ≡ set_forgotten name_cmp old name → length new.links ≤ length old.links
  fewer_forgotten is =
      let len = length-forgotten name_cmp nat_list_cmp_total old name valid.ascending in
      let same = ap (λ (s : LinkSetValue (List ℕ)). length s.links) is in
      omega (arith, len, same)

  pub fewer_removed : new ≡ set_removed name_cmp old name → length new.links ≤ length old.links
  fewer_removed is =
      let len = length-removed name_cmp nat_list_cmp_total old name valid.ascending in
      let same = ap (λ (s : LinkSetValue (List ℕ)). length s.links) is in
      omega (arith, len, same)

-- a set with room for a link more is small enough after it
pub few_pinned : (old new : LinkSetValue (List ℕ)) (name : List ℕ) → length old.links < most_links_of_slot
    → new ≡ set_pinned name_cmp old name → length new.links ≤ most_links_of_slot
few_pinned old new name small is =
    let len = length-pinned_le name_cmp old name in
    let same = ap (λ (s : LinkSetValue (List ℕ)). length s.links) is in
    omega (arith, len, same)

pub few_offered : (old new : LinkSetValue (List ℕ)) (name : List ℕ) → length old.links < most_links_of_slot
    → new ≡ set_offered name_cmp old name → length new.links ≤ most_links_of_slot
few_offered old new name small is =
    let len = length-offered_le name_cmp old name in
    let same = ap (λ (s : LinkSetValue (List ℕ)). length s.links) is in
    omega (arith, len, same)

-- a set of which a link was marked has as many
module _ (old new : LinkSetValue (List ℕ)) (name : List ℕ) (is : new ≡ set_marked name_cmp old name) where
  pub as_many_marked : length new.links ≡ length old.links
  as_many_marked =
      ap (λ (s : LinkSetValue (List ℕ)). length s.links) is ∙ length-marked name_cmp old name
