-- What the words of a command line ask for.
--
-- Rule: docs/FORMATS.md, "The words".
use Rattle.std.specs.Prelude.{ℕ, ◌^◌, ◌&&◌, nat_le, nat_lt, Bool, false, List, [], ◌∷◌, length, codes, Option, None, Some, if◌then◌else◌, option_and_then, unwrap_or}
use Rattle.std.specs.List.{list_all}
use Rattle.std.specs.Option.{option_map}
use Rattle.std.specs.Char.{digit_value}
use Rattle.std.specs.Str.{bytes_eq}
use Rattle.std.specs.Str.Parse.{digits_value, without_leading_plus}
use Rattle.clap.specs.Words.{Kinds, Row, Text, matches_of, one_of}
use Rattle.tap_words.specs.Command.{command_app, faults}
use Rattle.tap_words.specs.declared.asked.Asked.{Asked}

-- for how many joins a scenario may be made
abbrev pub most_joins : ℕ
most_joins = 100

-- ---- what a text says

-- whether the text is `true`
abbrev pub bool_of : Option Text → Bool
bool_of None = false
bool_of (Some text) = bytes_eq text (codes "true")

-- the number below 2^64 that a text writes, with a plus sign or leading zeros or without
abbrev pub number_in_text : Text → Option ℕ
number_in_text text =
    let digits = without_leading_plus text in
    if (nat_lt 0 (length digits) && list_all (λ digit. nat_lt (digit_value digit) 10) digits)
    && nat_lt (digits_value 10 digits) (2 ^ 64)
    then Some (digits_value 10 digits) else None

abbrev pub number_of : Option Text → Option ℕ
number_of text = option_and_then number_in_text text

-- the number of joins, if it is within its limits, or if there is none
abbrev pub joins_within : Option ℕ → Option (Option ℕ)
joins_within None = Some None
joins_within (Some joins) = if nat_le 1 joins && nat_le joins most_joins then Some (Some joins) else None

-- ---- what the words say

-- what the command has found in the words asks for, if the number of joins is within its limits
abbrev pub asked_of_rows : List Row → Option Asked
asked_of_rows rows =
    option_map (λ make. record {
      brief = bool_of (one_of (codes "brief") rows);
      make = make;
      seed = unwrap_or (number_of (one_of (codes "seed") rows)) 1;
    }) (joins_within (number_of (one_of (codes "make") rows)))

-- nothing, if the command refuses them
abbrev pub asked_unless : Kinds → List Row → Option Asked
asked_unless [] rows = asked_of_rows rows
asked_unless (kind ∷ kinds) rows = None

-- What the words ask for, if they are accepted: if the command takes them, and the number of joins is within its limits.
unfoldable pub asked_by : List Text → Option Asked
asked_by words = asked_unless (faults words) (matches_of command_app words)
