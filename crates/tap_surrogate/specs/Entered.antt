-- A walk with the level at which it enters each node: the level from which it goes on there.
use Rattle.std.specs.Prelude.{◌≡◌, ℕ, ◌+◌, ◌<◌, ◌≤◌, if◌then◌else◌, List, [], ◌∷◌, length, map, drop, All, Option, None, Some}
use Rattle.std.specs.List.{AllAdjacentBelow}
use Rattle.std.specs.Option.{is_some}
use Rattle.tap_name.specs.Prefix.{lcp}
use Rattle.tap_name.specs.Settings.{SettingsValue}
use Rattle.tap_table.specs.declared.next.Next.{Next}
use Rattle.tap_table.specs.declared.next.Next.TheVariants.{Root, Hop}
use Rattle.tap_table.specs.Next.{next_from}
use Rattle.tap_table.specs.Table.{TableValue}
use Rattle.tap_surrogate.specs.Nodes.{Nodes}
use Rattle.tap_surrogate.specs.Tables.{Tables}
use Rattle.tap_surrogate.specs.Walk.{hop}

-- a node of a walk, and the level at which the walk enters it
pub record Entered : Type 0 where
  pub node : List ℕ
  pub level : ℕ

-- where a walk stands after a level: at the node to which it hopped, if it did
abbrev pub after_level : Entered → ℕ → Option (List ℕ) → Entered
after_level at level None = at
after_level at level (Some to) = record { node = to; level = level + 1 }

-- the nodes of a walk from one that it has entered, before a level at which these digits of the object are left
abbrev pub entered_on : ℕ → Tables → Entered → ℕ → List ℕ → List Entered
entered_on base tables at level [] = at ∷ []
entered_on base tables at level (wanted ∷ more) =
    let to = hop base tables at.node level wanted in
    let rest = entered_on base tables (after_level at level to) (level + 1) more
    in (if is_some to then at ∷ rest else rest)

-- the nodes of the walk of an object from one that it enters on
abbrev pub entered_from : ℕ → Tables → Entered → List ℕ → List Entered
entered_from base tables at object = entered_on base tables at at.level (drop at.level object)

-- the nodes of the walk of an object from a node, which it enters at level 0
abbrev pub walk_entered : ℕ → Tables → List ℕ → List ℕ → List Entered
walk_entered base tables from object = entered_from base tables (record { node = from; level = 0 }) object

-- The walk enters one node after another: at a greater level, one more than the number of digits that they share.
pub record IsEnteredAfter (before after : Entered) : Type 0 where
  pub rises : before.level < after.level
  pub shares : after.level ≡ lcp before.node after.node + 1

-- These are the nodes of a path, each entered after the one before it, at a level of the settings.
pub record AreEntered (p : SettingsValue) (path : List (List ℕ)) (entered : List Entered) : Type 0 where
  pub nodes : map (λ e. e.node) entered ≡ path
  pub in_turn : AllAdjacentBelow IsEnteredAfter entered (length entered)
  pub levels : All (λ e. e.level ≤ p.digits) entered

-- A walk does what a next hop says: at the root it stays, and after a hop it goes on where the hop leads, from the hop's level.
abbrev pub WalkFollows : ℕ → Tables → Entered → List ℕ → Next → Type 0
WalkFollows base tables at object Root = entered_from base tables at object ≡ at ∷ []
WalkFollows base tables at object (Hop to level) =
    entered_from base tables at object ≡ at ∷ entered_from base tables (record { node = to; level = level }) object

-- the next hop of a message from where it stands, by the table of the node there
abbrev pub next_in : Option TableValue → ℕ → List ℕ → Next
next_in None level object = Root
next_in (Some table) level object = next_from table level (drop level object)

abbrev pub next_of : Nodes → List ℕ → Entered → Next
next_of nodes object at = next_in (nodes.table_of at.node) at.level object

-- a chain of next hops: each leads to where the next one starts, and the last one stays
abbrev pub IsChain : (Entered → Next) → List Entered → Type 0
IsChain next [] = Unit {0}
IsChain next (at ∷ []) = next at ≡ Root
IsChain next (at ∷ after ∷ more) = (next at ≡ Hop after.node after.level) × IsChain next (after ∷ more)
