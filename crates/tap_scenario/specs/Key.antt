-- the keys of a scenario's text
use Rattle.std.specs.Prelude.{ℕ, Bool, true, ◌&&◌, bytes_eq, List, [], ◌∷◌, codes, find, Option, None, Some, is_none, if◌then◌else◌}
use Rattle.std.specs.List.{list_any}
use Rattle.std.specs.Option.{option_or}
use Rattle.toml.specs.Data.{Data, Members as Table, no_members, member, get_member}
use Rattle.tap_scenario.specs.declared.fault.Key.{Key}
use Rattle.tap_scenario.specs.declared.fault.Key.TheVariants.{Base, Digits, Width, Frames, Carrier, Members, Steps, Unknown}

-- how a key is written
abbrev pub text_of_key : Key → List ℕ
text_of_key Base = codes "base"
text_of_key Digits = codes "digits"
text_of_key Width = codes "width"
text_of_key Frames = codes "frames"
text_of_key Carrier = codes "carrier"
text_of_key Members = codes "members"
text_of_key Steps = codes "steps"
text_of_key Unknown = codes "unknown"

-- the keys that a scenario may have
abbrev pub known_keys : List Key
known_keys = Base ∷ Digits ∷ Width ∷ Frames ∷ Carrier ∷ Members ∷ Steps ∷ []

-- the keys that it has to have, in the order in which they are missed
abbrev pub needed_keys : List Key
needed_keys = Base ∷ Digits ∷ Width ∷ Members ∷ Steps ∷ []

-- the value under a key
abbrev pub value_at : Key → Table → Option Data
value_at key table = get_member (text_of_key key) table

-- the first key that a scenario has to have and the table lacks
abbrev pub missing_key : Table → Option Key
missing_key table = find (λ key. is_none (value_at key table)) needed_keys

-- whether a text is a key that a scenario may have
abbrev pub is_known : List ℕ → Bool
is_known text = list_any (λ key. bytes_eq text (text_of_key key)) known_keys

-- whether each key of the table is one that a scenario may have
abbrev pub has_known_keys : Table → Bool
has_known_keys no_members = true
has_known_keys (member text value others) = is_known text && has_known_keys others

-- the first key that is wrong: one that is missing, or else one too many
abbrev pub wrong_key : Table → Option Key
wrong_key table = option_or (missing_key table) (if has_known_keys table then None else Some Unknown)
