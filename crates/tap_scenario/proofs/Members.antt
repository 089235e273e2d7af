-- the members of a table
use Rattle.std.proofs.Common.{◌≡◌, ◌&&◌, ℕ, nat_le, true, false, List, length, Option, None, Some, Ok, Err, refl}
use Rattle.std.specs.Option.{ok_or, option_and_then}
use Rattle.toml.specs.declared.value.Value.{Value}
use Rattle.toml.specs.Data.{Members as Table}
use Rattle.toml.specs.View.{items_view}
use Rattle.tap_name.specs.Names.{are_distinct}
use Rattle.tap_name.specs.Settings.{SettingsValue}
use Rattle.tap_scenario.specs.declared.fault.Key.TheVariants.{Members}
use Rattle.tap_scenario.specs.declared.fault.Fault.TheVariants.{BadValue}
use Rattle.tap_scenario.specs.Document.{read_at, members_of_table}
use Rattle.tap_scenario.specs.Scenario.{most_members}
use Rattle.tap_scenario.specs.Value.{are_strings, texts_of, array_of_strings, names_of_texts, distinct_names}
use Rattle.tap_scenario.proofs.Arrays.{length-texts_of}

-- there are not as many as members can be
pub members_of_table-count : (p : SettingsValue) (table : Table) (values : List Value)
    → read_at Members array_of_strings table ≡ Ok (texts_of (items_view values)) → are_strings (items_view values) ≡ true
    → (nat_le 1 (length values) && nat_le (length values) most_members) ≡ false → members_of_table p table ≡ Err (BadValue Members)
members_of_table-count p table values is strings count =
    let len = length-texts_of values strings in rw (is, len, count) refl

-- there are as many, and each is a name
pub members_of_table-names : (p : SettingsValue) (table : Table) (values : List Value) (names : List (List ℕ))
    → read_at Members array_of_strings table ≡ Ok (texts_of (items_view values)) → are_strings (items_view values) ≡ true
    → (nat_le 1 (length values) && nat_le (length values) most_members) ≡ true
    → ok_or (names_of_texts p (texts_of (items_view values))) (BadValue Members) ≡ Ok names → are_distinct names ≡ true
    → members_of_table p table ≡ Ok names
members_of_table-names p table values names is strings count read distinct =
    let len = length-texts_of values strings in rw (is, len, count) (go (names_of_texts p (texts_of (items_view values))) read)
  where
    go : (o : Option (List (List ℕ))) → ok_or o (BadValue Members) ≡ Ok names
        → ok_or (option_and_then distinct_names o) (BadValue Members) ≡ Ok names
    go None e = absurd (cc)
    go (Some found) e = let same : found ≡ names = cc in rw (same, distinct) refl
