-- The links of a node in both directions, and the words for the nodes that it has links to.
use Rattle.std.specs.Prelude.{◌≢◌, ℕ, ◌+◌, ◌&&◌, Bool, true, false, not, if◌then◌else◌, List, [], ◌∷◌, map, filter, All, Option, None, Some}
use Rattle.std.specs.Option.{is_none}
use Rattle.tap_name.specs.Name.{IsName}
use Rattle.tap_register.specs.declared.registers.Entry.{Entry}
use Rattle.tap_register.specs.Registers.{IsAscending, applied, entry_of}
use Rattle.tap_link.specs.LinkSet.{is_pinned}
use Rattle.tap_table.specs.declared.tie.Tie.{Tie}
use Rattle.tap_table.specs.Table.{IsTable, TableValue, has_room_near, kind_in, name_cmp}
use Rattle.tap_table.specs.Table.{pinned as table_pinned, offered as table_offered, released as table_released, forgotten as table_forgotten, marked as table_marked, removed as table_removed}

-- the table, and the newest word of each holder, ascending
pub record TiesValue : Type 0 where
  pub table : TableValue
  pub holders : List (Entry (List ℕ) Bool)

-- what ties keep
pub record AreTies (ties : TiesValue) : Type 0 where
  pub table : IsTable ties.table
  pub ascending : IsAscending name_cmp ties.holders
  -- each holder is a name of the settings, and not the owner
  pub names : All (λ e. IsName ties.table.settings e.key) ties.holders
  pub others : All (λ e. e.key ≢ ties.table.owner) ties.holders

-- the holders that have a link to the owner
abbrev pub holders_on : TiesValue → List (List ℕ)
holders_on ties = map (λ e. e.key) (filter (λ e. e.value) ties.holders)

-- whether the newest word of a node, if it gave any, is that it has a link to the owner
abbrev pub says_on : Option (Entry (List ℕ) Bool) → Bool
says_on None = false
says_on (Some entry) = entry.value

abbrev pub is_on : TiesValue → List ℕ → Bool
is_on ties name = says_on (entry_of name_cmp ties.holders name)

-- The ties after each call that changes them: the table changes as by its own call, and the holders stay.
abbrev pub pinned : TiesValue → List ℕ → TiesValue
pinned ties name = record ties { table = table_pinned ties.table name }

abbrev pub offered : TiesValue → List ℕ → TiesValue
offered ties name = record ties { table = table_offered ties.table name }

abbrev pub released : TiesValue → List ℕ → TiesValue
released ties name = record ties { table = table_released ties.table name }

abbrev pub forgotten : TiesValue → List ℕ → TiesValue
forgotten ties name = record ties { table = table_forgotten ties.table name }

abbrev pub marked : TiesValue → List ℕ → TiesValue
marked ties name = record ties { table = table_marked ties.table name }

abbrev pub removed : TiesValue → List ℕ → TiesValue
removed ties name = record ties { table = table_removed ties.table name }

-- the ties after the word of a holder: it counts if it is newer than all of this holder's, and the table stays
abbrev pub held_word : TiesValue → List ℕ → ℕ → Bool → TiesValue
held_word ties holder version on = record ties { holders = applied name_cmp ties.holders holder version on }

-- the word for a node, if there is one
abbrev pub tie_where : Bool → List ℕ → ℕ → Bool → Option Tie
tie_where told to version on = if told then Some (record { to = to; version = version; on = on }) else None

-- What each call tells the node that it is about, with the number after the stamp's last: that there is a link if one
-- was added, and that there is none any more if a release dropped the pin.
abbrev pub pin_tells : TiesValue → ℕ → List ℕ → Option Tie
pin_tells ties stamp name = tie_where (is_none (kind_in ties.table name)) name (stamp + 1) true

abbrev pub offer_tells : TiesValue → ℕ → List ℕ → Option Tie
offer_tells ties stamp name =
    tie_where (is_none (kind_in ties.table name) && has_room_near ties.table name) name (stamp + 1) true

abbrev pub release_tells : TiesValue → ℕ → List ℕ → Option Tie
release_tells ties stamp name =
    tie_where (is_pinned (kind_in ties.table name) && not (has_room_near ties.table name)) name (stamp + 1) false

-- the stamp after a word, if one was given: it stands at that word's number
abbrev pub stamp_after : ℕ → Option Tie → ℕ
stamp_after stamp None = stamp
stamp_after stamp (Some tie) = tie.version

-- the words for these nodes that there is no link any more, with the numbers after this one
abbrev pub off_ties : ℕ → List (List ℕ) → List Tie
off_ties last [] = []
off_ties last (name ∷ names) = record { to = name; version = last + 1; on = false } ∷ off_ties (last + 1) names
