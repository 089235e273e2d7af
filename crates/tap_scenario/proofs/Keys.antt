-- the keys of a table
use Rattle.std.proofs.Common.{◌≡◌, ◌&&◌, List, [], ◌∷◌, String, Global, string_bytes, refl, ap}
use Rattle.std.specs.List.{list_all}
use Rattle.std.specs.Map.{keys_of}
use Rattle.toml.specs.declared.value.Value.{Value}
use Rattle.toml.specs.View.{members_view}
use Rattle.tap_scenario.specs.Key.{is_known, has_known_keys}

pub known_keys : (entries : List (String Global × Value))
    → list_all (λ key. is_known (string_bytes key)) (keys_of entries) ≡ has_known_keys (members_view entries)
known_keys [] = refl
known_keys (entry ∷ others) = ap (λ rest. is_known (string_bytes entry.0) && rest) (known_keys others)
