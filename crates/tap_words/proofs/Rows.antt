-- What the command keeps of plain words: a row for each choice, in their order.
use Rattle.std.proofs.Common.{◌≡◌, ◌++◌, ◌∙◌, List, None, Some, [], append-nil, ap, false, inl, inr, map, refl, true, ◌∷◌}
use Rattle.std.specs.Prelude.{codes, decimal}
use Rattle.std.specs.List.{list_any}
use Rattle.std.specs.Str.{bytes_eq}
use Rattle.std.proofs.lemmas.Bool.{cases_Bool}
use Rattle.clap.specs.Walk.{Row, at_row, has_row, more_values, with_values, without}
use Rattle.clap.specs.Words.{Text}
use Rattle.clap.specs.declared.parser.matches.ValueSource.TheVariants.{CommandLine}
use Rattle.clap.specs.declared.builder.value_parser.Reading.TheVariants.{AsWritten}
use Rattle.tap_words.specs.Plain.{Choice, are_alike}
use Rattle.tap_words.specs.Plain.Choice.{brief, make, seed}

-- ---- the row of a choice

-- a row that the words gave, with one value
abbrev pub given_row : Text → Text → Row
given_row id value = record { id = id; values = value ∷ []; count = None; source = Some CommandLine; reading = AsWritten }

abbrev pub id_of : Choice → Text
id_of brief = codes "brief"
id_of (make joins) = codes "make"
id_of (seed number) = codes "seed"

abbrev pub value_of : Choice → Text
value_of brief = codes "true"
value_of (make joins) = decimal joins
value_of (seed number) = decimal number

abbrev pub row_of_choice : Choice → Row
row_of_choice choice = given_row (id_of choice) (value_of choice)

abbrev pub rows_of_choices : List Choice → List Row
rows_of_choices choices = map row_of_choice choices

-- two choices have one id exactly if they are of one kind
same_id : (choice other : Choice) → bytes_eq (id_of other) (id_of choice) ≡ are_alike choice other
same_id brief brief = refl
same_id brief (make joins) = refl
same_id brief (seed number) = refl
same_id (make joins) brief = refl
same_id (make joins) (make others) = refl
same_id (make joins) (seed number) = refl
same_id (seed number) brief = refl
same_id (seed number) (make joins) = refl
same_id (seed number) (seed other) = refl

pub has_row-among : (choice : Choice) (choices : List Choice)
    → has_row (id_of choice) (rows_of_choices choices) ≡ list_any (are_alike choice) choices
has_row-among choice [] = refl
has_row-among choice (other ∷ choices) = rw (same_id choice other, has_row-among choice choices) refl

-- ---- a row more

-- where no row has the id, the new one stands at the end
pub at_row-new : (id : Text) (change : Row → List Row) (missing rows : List Row) → has_row id rows ≡ false
    → at_row id change missing rows ≡ rows ++ missing
at_row-new id change missing [] new = refl
at_row-new id change missing (row ∷ rows) new =
    elim (cases_Bool (bytes_eq row.id id)) [
      | inl here ↦ absurd (let bad : true ≡ false = rw here at new in cc)
      | inr other ↦ let others = rw other at new in rw other (ap (λ l. row ∷ l) (at_row-new id change missing rows others))
    ]

pub row_added : (id value : Text) (rows : List Row) → has_row id rows ≡ false
    → with_values id AsWritten CommandLine (value ∷ []) (without id rows) ≡ rows ++ given_row id value ∷ []
row_added id value rows new =
    let same : without id rows ≡ rows = at_row-new id (λ row. []) [] rows new ∙ append-nil rows in
    rw same (at_row-new id (more_values CommandLine (value ∷ [])) (given_row id value ∷ []) rows new)
