-- The casts that a node has met, and what a further copy of one makes it do.
use Rattle.std.specs.Prelude.{ℕ, if◌then◌else◌, List, Option}
use Rattle.std.specs.BTreeMap.{insert_entry}
use Rattle.std.specs.Map.{lookup}
use Rattle.std.specs.Option.{is_none}
use Rattle.std.specs.Ordering.{is_eq, nat_cmp}
use Rattle.tap_table.specs.Levels.{is_kept, sent_from}
use Rattle.tap_table.specs.Table.{TableValue}
use Rattle.tap_cast.specs.declared.casts.CastTurn.{CastTurn}
use Rattle.tap_cast.specs.declared.casts.CastTurn.TheVariants.{Already, Now}
use Rattle.tap_cast.specs.Targets.{cast_targets}

-- the number of a cast
abbrev pub CastNumber : Type 0
CastNumber = ℕ

-- the casts, ascending by number, each with its level
abbrev pub CastsValue : Type 0
CastsValue = List (ℕ × ℕ)

-- the level of a cast, if the node has met it
abbrev pub level_of_cast : CastsValue → ℕ → Option ℕ
level_of_cast casts cast = lookup (λ other. is_eq (nat_cmp cast other)) casts

-- what a cast at a level makes a node do
abbrev pub turn_of : CastsValue → TableValue → ℕ → ℕ → CastTurn
turn_of casts t cast level =
    let kept = level_of_cast casts cast in
    (if is_kept kept level then Already else Now (is_none kept) (cast_targets t level (sent_from t.settings.digits kept)))

-- the casts after it: its level is kept, unless a level at most this one is
abbrev pub with_cast : CastsValue → ℕ → ℕ → CastsValue
with_cast casts cast level = if is_kept (level_of_cast casts cast) level then casts else insert_entry nat_cmp casts cast level
