-- The next hop towards an object.
use Rattle.std.specs.Prelude.{◌≡◌, ◌≢◌, ◌==◌, ◌||◌, ℕ, ◌+◌, ◌<◌, ◌≤◌, Bool, if◌then◌else◌, List, [], ◌∷◌, length, slice_index, Option, None, Some, is_some}
use Rattle.tap_name.specs.declared.slot.Slot.{Slot}
use Rattle.tap_name.specs.Cyclic.{first_cyclic}
use Rattle.tap_name.specs.Name.{IsName}
use Rattle.tap_name.specs.Prefix.{lcp}
use Rattle.tap_link.specs.declared.kind.Kind.TheVariants.{Settled}
use Rattle.tap_link.specs.LinkSet.{least_settled}
use Rattle.tap_table.specs.declared.next.Next.{Next}
use Rattle.tap_table.specs.declared.next.Next.TheVariants.{Root, Hop}
use Rattle.tap_table.specs.Table.{TableValue, kind_in, links_at}

-- the primary of the slot of a level and a digit: the least target that is settled and not leaving
abbrev pub primary_at : TableValue → ℕ → ℕ → Option (List ℕ)
primary_at t level digit = let slot : Slot = record { level = level; digit = digit } in least_settled (links_at t slot)

-- a digit that a message may take at a level: the owner's own, or one whose slot has a primary
abbrev pub can_take : TableValue → ℕ → ℕ → Bool
can_take t level digit = slice_index t.owner level == digit || is_some (primary_at t level digit)

-- the first such digit, cyclically from the one that the object has there
abbrev pub taken_digit : TableValue → ℕ → ℕ → ℕ
taken_digit t level wanted = first_cyclic t.settings.base (can_take t level) wanted

abbrev pub hop_to : Option (List ℕ) → ℕ → Next
hop_to None level = Root
hop_to (Some name) level = Hop name level

-- the next hop, from a level on at which these digits of the object are left: at the owner's own digit the next
-- level follows, and at another one the message hops to its primary, which goes on at the next level
abbrev pub next_from : TableValue → ℕ → List ℕ → Next
next_from t level [] = Root
next_from t level (wanted ∷ more) =
    let digit = taken_digit t level wanted in
    (if slice_index t.owner level == digit
    then next_from t (level + 1) more
    else hop_to (primary_at t level digit) (level + 1))

-- A message hops to this node, which goes on at this level: the last level whose digit was tried is the one below. At the
-- levels before, the owner's own digit is taken; at the last one another, and the node is that slot's primary.
pub record HopsTo (t : TableValue) (level : ℕ) (object to : List ℕ) (next : ℕ) : Type 0 where
  pub last : ℕ
  pub next_is : next ≡ last + 1
  pub from : level ≤ last
  pub within : last < length object
  pub own : (at : ℕ) → level ≤ at → at < last → taken_digit t at (slice_index object at) ≡ slice_index t.owner at
  pub other : taken_digit t last (slice_index object last) ≢ slice_index t.owner last
  pub primary : primary_at t last (taken_digit t last (slice_index object last)) ≡ Some to

-- what holds of each hop from a level on: its level is above that one, and its node is settled in the table, a name of the
-- settings, not the owner, and shares one digit less with the owner than its level says
pub record IsHop (t : TableValue) (level : ℕ) (to : List ℕ) (next : ℕ) : Type 0 where
  pub above : level < next
  pub within : next ≤ t.settings.digits
  pub settled : kind_in t to ≡ Some Settled
  pub is_name : IsName t.settings to
  pub other : to ≢ t.owner
  pub shared : lcp t.owner to + 1 ≡ next

-- at each level from this one on, the owner's own digit is taken
abbrev pub TakesOwnFrom : TableValue → ℕ → List ℕ → Type 0
TakesOwnFrom t level object =
    (at : ℕ) → level ≤ at → at < length object → taken_digit t at (slice_index object at) ≡ slice_index t.owner at
