-- Which sets of a table have a primary, after a change of one of them.
use Rattle.std.proofs.Common.{◌≡◌, ℕ, ◌≤◌, Bool, false, zero, suc, List, [], ◌∷◌, length, map, replicate, set, refl, sym, ap, ◌∙◌}
use Rattle.std.proofs.lemmas.List.{length-map, map-set}
use Rattle.tap_link.specs.LinkSet.{LinkSetValue}
use Rattle.tap_table.specs.Sets.{SetsAreKept, has_primary, most_slots_of_table}
use Rattle.tap_table.proofs.Counted.{counted_empty}

-- sets without links have none
none_at_first : (n width : ℕ) → replicate n false ≡ map has_primary (replicate n (record { width = width; links = [] }))
none_at_first zero width = refl
none_at_first (suc n) width = ap (λ rest. false ∷ rest) (none_at_first n width)

pub kept_empty : (sets : List (LinkSetValue (List ℕ))) (with_primary : List Bool) (n width : ℕ) → n ≤ most_slots_of_table
    → sets ≡ replicate n (record { width = width; links = [] }) → with_primary ≡ replicate n false → SetsAreKept sets 0 0 with_primary
kept_empty sets with_primary n width few is none = record {
  counted = counted_empty sets n width few is;
  primaries = none ∙ none_at_first n width ∙ ap (map has_primary) (sym is);
}

module _ (sets : List (LinkSetValue (List ℕ))) (with_primary : List Bool) (are : with_primary ≡ map has_primary sets) where
  pub noted_length : length with_primary ≡ length sets
  noted_length = ap length are ∙ length-map sets has_primary

  -- it is noted of the set in the place
  pub noted_after : (number : ℕ) (new : LinkSetValue (List ℕ)) (has : Bool) → has ≡ has_primary new
      → set with_primary number has ≡ map has_primary (set sets number new)
  noted_after number new has is =
      ap (λ all. set all number has) are ∙ ap (set (map has_primary sets) number) is ∙ sym (map-set has_primary sets number new)
