-- The link sets of the slots of a table, by the slots' numbers, and how many links they have.
use Rattle.std.specs.Prelude.{◌≡◌, ℕ, ◌≤◌, Bool, List, [], length, map, sum_by, is_some, All}
use Rattle.std.specs.List.{slice_index_or}
use Rattle.tap_link.specs.LinkSet.{LinkSetValue, least_settled}

-- No slot has more links than this many, and no table more slots: then the links of all slots are counted in 64 bits.
abbrev pub most_links_of_slot : ℕ
most_links_of_slot = 18014398509481984

abbrev pub most_slots_of_table : ℕ
most_slots_of_table = 640

-- the set of a number
abbrev pub set_in : List (LinkSetValue (List ℕ)) → ℕ → LinkSetValue (List ℕ)
set_in sets number = slice_index_or sets number (record { width = 0; links = [] })

-- how many links all sets have
abbrev pub all_links : List (LinkSetValue (List ℕ)) → ℕ
all_links sets = sum_by (λ s. length s.links) sets

-- from this number on no set has a link
abbrev pub AreEmptyFrom : List (LinkSetValue (List ℕ)) → ℕ → Type 0
AreEmptyFrom sets from = (number : ℕ) → from ≤ number → (set_in sets number).links ≡ []

-- so many links the sets have, and no more than can be counted; from a number on none has any
pub record AreCounted (sets : List (LinkSetValue (List ℕ))) (links empty_from : ℕ) : Type 0 where
  pub slots : length sets ≤ most_slots_of_table
  pub few : All (λ s. length s.links ≤ most_links_of_slot) sets
  pub count : links ≡ all_links sets
  pub empty : AreEmptyFrom sets empty_from

-- a set has a primary: a link that is settled and not leaving
abbrev pub has_primary : LinkSetValue (List ℕ) → Bool
has_primary s = is_some (least_settled s.links)

-- what is kept of the sets: how many links they have, and which of them have a primary
pub record SetsAreKept (sets : List (LinkSetValue (List ℕ))) (links empty_from : ℕ) (with_primary : List Bool) : Type 0 where
  pub counted : AreCounted sets links empty_from
  pub primaries : with_primary ≡ map has_primary sets
