-- A walk: the nodes that surrogate routing passes from one node to the root of an object.
use Rattle.std.specs.Prelude.{◌==◌, ◌||◌, ℕ, ◌+◌, ◌-◌, if◌then◌else◌, List, [], ◌∷◌, length, slice_index, Option, None, unwrap_or}
use Rattle.std.specs.Option.{is_some}
use Rattle.std.specs.List.{last_or}
use Rattle.tap_name.specs.Cyclic.{first_cyclic}
use Rattle.tap_surrogate.specs.Tables.{Tables, least_link}

-- the digit that a walk takes at a level: the first one, cyclically from the object's, that is the
-- node's own or whose slot has a link to a core node
abbrev pub walked_digit : ℕ → Tables → List ℕ → ℕ → ℕ → ℕ
walked_digit base tables node level wanted =
    first_cyclic base
    (λ digit. slice_index node level == digit || is_some (least_link tables node level digit)) wanted

-- the hop of a walk at a level: none if the digit that is taken is the node's own, else to the
-- least core node in its slot
abbrev pub hop : ℕ → Tables → List ℕ → ℕ → ℕ → Option (List ℕ)
hop base tables node level wanted =
    let digit = walked_digit base tables node level wanted
    in (if slice_index node level == digit then None else least_link tables node level digit)

-- the nodes of a walk from where it stands, before a level at which these digits of the object are
-- left: a hop leaves the node behind
abbrev pub walk_on : ℕ → Tables → List ℕ → ℕ → List ℕ → List (List ℕ)
walk_on base tables node level [] = node ∷ []
walk_on base tables node level (wanted ∷ more) =
    let to = hop base tables node level wanted in
    let rest = walk_on base tables (unwrap_or to node) (level + 1) more
    in (if is_some to then node ∷ rest else rest)

-- the nodes of the walk of an object from a node, which comes first
abbrev pub walk : ℕ → Tables → List ℕ → List ℕ → List (List ℕ)
walk base tables from object = walk_on base tables from 0 object

-- the hops of a walk of these nodes
abbrev pub hops : List (List ℕ) → ℕ
hops path = length path - 1

-- where a walk of these nodes ends
abbrev pub walk_end : List (List ℕ) → Option (List ℕ)
walk_end path = last_or None path
