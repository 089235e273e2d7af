-- What the command makes of what it holds after plain words.
use Rattle.std.proofs.Common.{◌≡◌, ◌++◌, ◌∙◌, Bool, List, None, Option, Some, [], All, append-nil, arith, false, fold, inl, inr, refl, subst, sym, true, ℕ, ◌∷◌}
use Rattle.std.specs.Prelude.{codes, unwrap_or}
use Rattle.std.proofs.lemmas.Bool.{cases_Bool, le-leb}
use Rattle.std.proofs.lemmas.List.Elements.{All-head, All-tail}
use Rattle.clap.proofs.OnLiterals.{clap_on_literals}
use Rattle.clap.specs.Faults.{check_fault, default_fault, defaults_fault}
use Rattle.clap.specs.Simple.{filled, help_rule, with_index}
use Rattle.clap.specs.Walk.{has_row, is_empty, more_values, one_of, with_default}
use Rattle.clap.specs.Words.{Row, Rule}
use Rattle.clap.specs.declared.parser.matches.ValueSource.TheVariants.{DefaultValue}
use Rattle.clap.specs.declared.builder.value_parser.Reading.TheVariants.{AsWritten}
use Rattle.tap_words.specs.Command.{brief_rule, command_app, make_rule, seed_rule}
use Rattle.tap_words.specs.Plain.{Choice, IsInLimits, asked_by_choices, brief_among, joins_among, seed_among}
use Rattle.tap_words.specs.Plain.Choice.{brief, make, seed}
use Rattle.tap_words.specs.Words.{asked_of_rows, bool_of, joins_within, number_of}
use Rattle.tap_words.proofs.Numbers.{number_in-decimal}
use Rattle.tap_words.proofs.Rows.{at_row-new, has_row-among, rows_of_choices}
use Rattle.tap_words.proofs.Walks.{none_of, shape}

-- ---- the rules of the command, as it builds them

abbrev pub brief_built : Rule
brief_built = with_index 1 (filled brief_rule)

abbrev make_built : Rule
make_built = with_index 1 (filled make_rule)

abbrev seed_built : Rule
seed_built = with_index 1 (filled seed_rule)

abbrev help_built : Rule
help_built = with_index 1 (filled help_rule)

abbrev rules_built : List Rule
rules_built = brief_built ∷ make_built ∷ seed_built ∷ help_built ∷ []

are_built : shape.rules ≡ rules_built
unfolding command_app
are_built = refl

-- ---- nothing is at fault at the end

no_default_fault : (rows : List Row) (rule : Rule) → is_empty rule.defaults ≡ true → default_fault rows rule ≡ []
no_default_fault rows rule empty =
    elim (cases_Bool (has_row rule.id rows)) [
      | inl given ↦ rw given refl
      | inr absent ↦ rw (absent, empty) refl
    ]

brief_default : (rows : List Row) → default_fault rows brief_built ≡ []
brief_default rows =
    elim (cases_Bool (has_row (codes "brief") rows)) [
      | inl given ↦ rw given refl
      | inr absent ↦ rw absent refl
    ]

built_defaults : (rows : List Row) → defaults_fault rows rules_built ≡ []
unfolding defaults_fault
built_defaults rows =
    let first = with_default rows brief_built in
    let second = with_default first make_built in
    let third = with_default second seed_built in
    none_of _ _ (brief_default rows)
    (none_of _ _ (no_default_fault first make_built refl)
    (none_of _ _ (no_default_fault second seed_built refl) (none_of _ _ (no_default_fault third help_built refl) refl)))

pub no_defaults : (rows : List Row) → defaults_fault rows shape.rules ≡ []
no_defaults rows = rw are_built (built_defaults rows)

pub no_checks : (rows : List Row) → check_fault shape rows false ≡ []
unfolding clap_on_literals command_app
no_checks rows = refl

-- ---- the rows at the end: those of the choices, and the default of the flag

same_without_default : (rows : List Row) (rule : Rule) → rule.defaults ≡ [] → with_default rows rule ≡ rows
same_without_default rows rule none =
    elim (cases_Bool (has_row rule.id rows)) [
      | inl given ↦ rw given refl
      | inr absent ↦ rw (absent, none) refl
    ]

pub rows_at_end : (rows : List Row) → fold with_default rows shape.rules ≡ with_default rows brief_built
rows_at_end rows =
    rw are_built (rw (
      same_without_default (with_default rows brief_built) make_built refl,
      same_without_default (with_default rows brief_built) seed_built refl,
      same_without_default (with_default rows brief_built) help_built refl,
    ) refl)

-- the flag's own default
abbrev unflagged : Row
unflagged =
    record { id = codes "brief"; values = codes "false" ∷ []; count = None; source = Some DefaultValue; reading = AsWritten }

with_unflagged : (choices : List Choice) → brief_among choices ≡ false
    → with_default (rows_of_choices choices) brief_built ≡ rows_of_choices choices ++ unflagged ∷ []
with_unflagged choices none =
    let absent : has_row (codes "brief") (rows_of_choices choices) ≡ false = has_row-among brief choices ∙ none in
    rw absent (at_row-new (codes "brief") (more_values DefaultValue (codes "false" ∷ [])) (unflagged ∷ []) (rows_of_choices choices) absent)

flagged : (choices : List Choice) → brief_among choices ≡ true
    → with_default (rows_of_choices choices) brief_built ≡ rows_of_choices choices
flagged choices some =
    let given : has_row (codes "brief") (rows_of_choices choices) ≡ true = has_row-among brief choices ∙ some in rw given refl

-- ---- what the rows say

flag_found : (choices : List Choice) (more : List Row) → brief_among choices ≡ true
    → bool_of (one_of (codes "brief") (rows_of_choices choices ++ more)) ≡ true
flag_found [] more some = absurd cc
flag_found (brief ∷ choices) more some = refl
flag_found (make joins ∷ choices) more some = flag_found choices more some
flag_found (seed number ∷ choices) more some = flag_found choices more some

flag_missing : (choices : List Choice) → brief_among choices ≡ false
    → bool_of (one_of (codes "brief") (rows_of_choices choices ++ unflagged ∷ [])) ≡ false
flag_missing [] none = refl
flag_missing (brief ∷ choices) none = absurd cc
flag_missing (make joins ∷ choices) none = flag_missing choices none
flag_missing (seed number ∷ choices) none = flag_missing choices none

joins_found : (choices : List Choice) (more : List Row) → All IsInLimits choices → one_of (codes "make") more ≡ None
    → number_of (one_of (codes "make") (rows_of_choices choices ++ more)) ≡ joins_among choices
joins_found [] more plain none = rw none refl
joins_found (brief ∷ choices) more plain none = joins_found choices more (All-tail IsInLimits brief choices plain) none
joins_found (make joins ∷ choices) more plain none =
    let within = All-head IsInLimits (make joins) choices plain in number_in-decimal joins (omega (arith, within.1))
joins_found (seed number ∷ choices) more plain none = joins_found choices more (All-tail IsInLimits (seed number) choices plain) none

seed_found : (choices : List Choice) (more : List Row) → All IsInLimits choices → one_of (codes "seed") more ≡ None
    → number_of (one_of (codes "seed") (rows_of_choices choices ++ more)) ≡ seed_among choices
seed_found [] more plain none = rw none refl
seed_found (brief ∷ choices) more plain none = seed_found choices more (All-tail IsInLimits brief choices plain) none
seed_found (make joins ∷ choices) more plain none = seed_found choices more (All-tail IsInLimits (make joins) choices plain) none
seed_found (seed number ∷ choices) more plain none = number_in-decimal number (All-head IsInLimits (seed number) choices plain)

joins_fit : (choices : List Choice) → All IsInLimits choices → joins_within (joins_among choices) ≡ Some (joins_among choices)
joins_fit [] plain = refl
joins_fit (brief ∷ choices) plain = joins_fit choices (All-tail IsInLimits brief choices plain)
joins_fit (make joins ∷ choices) plain =
    let within = All-head IsInLimits (make joins) choices plain in rw (le-leb 1 joins within.0, le-leb joins 100 within.1) refl
joins_fit (seed number ∷ choices) plain = joins_fit choices (All-tail IsInLimits (seed number) choices plain)

-- what these numbers and this flag ask for
says : (rows : List Row) (flag : Bool) (joins number : Option ℕ) → bool_of (one_of (codes "brief") rows) ≡ flag
    → number_of (one_of (codes "make") rows) ≡ joins → joins_within joins ≡ Some joins
    → number_of (one_of (codes "seed") rows) ≡ number
    → asked_of_rows rows ≡ Some (record { brief = flag; make = joins; seed = unwrap_or number 1 })
says rows flag joins number b m fits s = rw (m, fits, b, s) refl

pub choices_said : (choices : List Choice) → All IsInLimits choices
    → asked_of_rows (with_default (rows_of_choices choices) brief_built) ≡ Some (asked_by_choices choices)
choices_said choices plain =
    elim (cases_Bool (brief_among choices)) [
      | inl some ↦
          let Says : List Row → Type 0 = λ rows. asked_of_rows rows ≡ Some (asked_by_choices choices) in
          let rows = rows_of_choices choices ++ [] in
          let said : Says rows = says rows (brief_among choices) (joins_among choices) (seed_among choices)
          (flag_found choices [] some ∙ sym some) (joins_found choices [] plain refl) (joins_fit choices plain) (seed_found choices [] plain refl) in
          subst Says (append-nil (rows_of_choices choices) ∙ sym (flagged choices some)) said
      | inr none ↦
          let Says : List Row → Type 0 = λ rows. asked_of_rows rows ≡ Some (asked_by_choices choices) in
          let rows = rows_of_choices choices ++ unflagged ∷ [] in
          let said : Says rows = says rows (brief_among choices) (joins_among choices) (seed_among choices)
          (flag_missing choices none ∙ sym none) (joins_found choices (unflagged ∷ []) plain refl) (joins_fit choices plain)
          (seed_found choices (unflagged ∷ []) plain refl) in
          subst Says (sym (with_unflagged choices none)) said
    ]
