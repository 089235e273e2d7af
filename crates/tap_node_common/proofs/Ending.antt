-- The words and the holders of a node that ends are for names.
-- Cited above: ended_named, holders_named, IsToName, told_named
use Rattle.std.proofs.Common.{ℕ, ◌+◌, Bool, List, [], ◌∷◌, filter, All, true, false}
use Rattle.std.specs.Prelude.{IfSome}
use Rattle.std.proofs.lemmas.List.Elements.{All-cons, All-filter, All-head, All-map, All-nil, All-tail}
use Rattle.tap_name.specs.Name.{IsName}
use Rattle.tap_name.specs.Settings.{SettingsValue}
use Rattle.tap_name.proofs.Membership.{among_at}
use Rattle.tap_table.specs.ByName.{targets_by_name}
use Rattle.tap_table.specs.declared.tie.Tie.{Tie}
use Rattle.tap_table.specs.Table.{IsTable, TableValue}
use Rattle.tap_table.specs.Ties.{AreTies, TiesValue, holders_on, off_ties, tie_where}
use Rattle.tap_table.proofs.Found.{linked_is_name}
use Rattle.tap_table.proofs.Targets.{target_is_linked}

module _ (p : SettingsValue) where
  -- a word for a name
  abbrev pub IsToName : Tie → Type 0
  IsToName word = IsName p word.to

  pub told_named : (told : Bool) (to : List ℕ) (version : ℕ) (on : Bool) → IsName p to → IfSome (tie_where told to version on) IsToName
  told_named true to version on is_name = is_name
  told_named false to version on is_name = tt

  pub off_named : (last : ℕ) (names : List (List ℕ)) → All (IsName p) names → All IsToName (off_ties last names)
  off_named last [] are = All-nil IsToName
  off_named last (name ∷ names) are =
      All-cons IsToName _ (off_ties (last + 1) names) (All-head (IsName p) name names are)
      (off_named (last + 1) names (All-tail (IsName p) name names are))

-- the words of a node that ends are for its targets
pub targets_named : (t : TableValue) → IsTable t → All (IsName t.settings) (targets_by_name t)
targets_named t valid = λ k d within.
    let found = target_is_linked t valid _ (among_at (targets_by_name t) k d within) in linked_is_name t valid _ found.0 found.1

pub ended_named : (t : TableValue) (last : ℕ) → IsTable t → All (IsToName t.settings) (off_ties last (targets_by_name t))
ended_named t last valid = off_named t.settings last (targets_by_name t) (targets_named t valid)

-- its holders
pub holders_named : (ties : TiesValue) → AreTies ties → All (IsName ties.table.settings) (holders_on ties)
holders_named ties are =
    All-map (IsName ties.table.settings) (λ e. e.key) (filter (λ e. e.value) ties.holders)
    (All-filter (λ e. e.value) (λ e. IsName ties.table.settings e.key) ties.holders are.names)
