-- What a holder does at the notice of a leaving node.
use Rattle.std.specs.Prelude.{ℕ, ◌||◌, nat_eq, is_some, if◌then◌else◌, List, Option, None, Some, Bool}
use Rattle.std.specs.Cmp.Lexicographic.{pointwise}
use Rattle.tap_link.specs.LinkSet.{least_settled}
use Rattle.tap_table.specs.declared.tie.Tie.{Tie}
use Rattle.tap_table.specs.Table.{links_near}
use Rattle.tap_table.specs.Ties.{TiesValue, marked, offer_tells, offered}

-- some link of the slot in which a name stands is settled and not leaving
abbrev pub has_settled_near : TiesValue → List ℕ → Bool
has_settled_near ties name = is_some (least_settled (links_near ties.table name))

-- the replacement that a holder takes which has marked the leaver: the one given, unless another link of the leaver's slot
-- is settled and not leaving, or the replacement is the holder itself
abbrev pub taken_in : TiesValue → List ℕ → Option (List ℕ) → Option (List ℕ)
taken_in ties leaver None = None
taken_in ties leaver (Some name) = if has_settled_near ties leaver || pointwise nat_eq name ties.table.owner then None else Some name

-- the ties after an offer, if there is one, and the word for its node
abbrev pub offered_if : TiesValue → Option (List ℕ) → TiesValue
offered_if ties None = ties
offered_if ties (Some name) = offered ties name

abbrev pub offer_tells_if : TiesValue → ℕ → Option (List ℕ) → Option Tie
offer_tells_if ties stamp None = None
offer_tells_if ties stamp (Some name) = offer_tells ties stamp name

-- the ties after the notice: the link to the leaver is marked, and the replacement is offered if it is wanted
abbrev pub told_leave : TiesValue → List ℕ → Option (List ℕ) → TiesValue
told_leave ties leaver replacement = let after = marked ties leaver in offered_if after (taken_in after leaver replacement)

-- and what the replacement is told
abbrev pub told_leave_tells : TiesValue → ℕ → List ℕ → Option (List ℕ) → Option Tie
told_leave_tells ties stamp leaver replacement =
    let after = marked ties leaver in offer_tells_if after stamp (taken_in after leaver replacement)
