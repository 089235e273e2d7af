-- The primaries that a Leave may change: whether another node is the primary of the slot in which a name stands, and the level.
use Rattle.std.specs.Prelude.{◌≡◌, ℕ, ◌==◌, nat_eq, not, Bool, false, if◌then◌else◌, List, Option, None, Some, IfSome}
use Rattle.std.specs.Cmp.Lexicographic.{pointwise}
use Rattle.tap_link.specs.LinkSet.{least_settled}
use Rattle.tap_table.specs.Table.{TableValue, links_near, place_of}

-- a node that isn't the one of this name
abbrev pub is_another : List ℕ → Option (List ℕ) → Bool
is_another name None = false
is_another name (Some first) = not (pointwise nat_eq first name)

abbrev pub has_other_primary : TableValue → List ℕ → Bool
has_other_primary t name = is_another name (least_settled (links_near t name))

-- the level of the slot of a leaver, if its replacement, if there is one, stands at this level too
abbrev pub level_of_leave : TableValue → List ℕ → Option (List ℕ) → Option ℕ
level_of_leave t leaver None = Some (place_of t.owner leaver).level
level_of_leave t leaver (Some next) =
    if (place_of t.owner next).level == (place_of t.owner leaver).level then Some (place_of t.owner leaver).level else None

-- the level of the slot of a leaver, in which its replacement stands too, if there is one
pub record IsLevelOfLeave (t : TableValue) (leaver : List ℕ) (replacement : Option (List ℕ)) (level : ℕ) : Type 0 where
  pub leaver_is : level ≡ (place_of t.owner leaver).level
  pub replacement_is : IfSome replacement (λ next. (place_of t.owner next).level ≡ (place_of t.owner leaver).level)
