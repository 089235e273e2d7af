-- The places of a link set.
use Rattle.std.specs.Prelude.{◌≡◌, ℕ, ◌<◌, ◌≤◌, List, [], ◌∷◌, length, map, slice_index_or, Option, None, Some}
use Rattle.std.specs.declared.cmp.Ordering.{Ordering}
use Rattle.std.specs.declared.cmp.Ordering.TheVariants.{Less, Equal, Greater}
use Rattle.smallvec.specs.SmallVec.{SmallVec}
use Rattle.tap_link.specs.Entry.{LinkEntry}

module _ {X : Type 0} where
  -- what stands in the places
  abbrev pub present : List (Option X) → List X
  present [] = []
  present (None ∷ places) = present places
  present (Some x ∷ places) = x ∷ present places

  -- each place in use has something in it, and four places need no memory
  pub record IsFull (places : SmallVec (Option X)) : Type 0 where
    pub full : places.items ≡ map Some (present places.items)
    pub inline : 4 ≤ places.capacity

module _ {K : Type 0} (cmp : K → K → Ordering) (links : List (LinkEntry K)) (target : K) where
  -- the target goes here: what stands before is below it, and what stands from here on is above it
  pub record IsGapFor (at : ℕ) : Type 0 where
    pub within : at ≤ length links
    pub below : (k : ℕ) (d : LinkEntry K) → k < at → cmp target (slice_index_or links k d).target ≡ Greater
    pub above : (k : ℕ) (d : LinkEntry K) → at ≤ k → k < length links → cmp target (slice_index_or links k d).target ≡ Less

  -- the link here names the target: what stands before is below it, and what stands after it is above it
  pub record StandsAt (at : ℕ) : Type 0 where
    pub within : at < length links
    pub below : (k : ℕ) (d : LinkEntry K) → k < at → cmp target (slice_index_or links k d).target ≡ Greater
    pub here : (d : LinkEntry K) → cmp target (slice_index_or links at d).target ≡ Equal
    pub above : (k : ℕ) (d : LinkEntry K) → at < k → k < length links → cmp target (slice_index_or links k d).target ≡ Less
