-- the lines of the beginning of a run and of its steps
use Rattle.std.specs.Prelude.{ℕ, List, ◌++◌, codes}
use Rattle.std.specs.List.{flat_map}
use Rattle.tap_name.specs.Settings.{SettingsValue}
use Rattle.tap_scenario.specs.Step.{text_of_step}
use Rattle.tap_scenario.specs.declared.step.Step.{Step}
use Rattle.tap_report.specs.Shapes.{name_after, number_after, line}

-- the first line of a beginning
abbrev pub begin_line : SettingsValue → ℕ → List ℕ
begin_line settings frames =
    number_after (codes "begin base ") settings.base ++ number_after (codes " digits ") settings.digits
    ++ number_after (codes " width ") settings.width ++ number_after (codes " frames ") frames

-- its further lines, one for each member
abbrev pub member_line : List ℕ → List ℕ
member_line name = line (name_after (codes "member ") name)

abbrev pub member_lines : List (List ℕ) → List ℕ
member_lines members = flat_map member_line members

-- the line of a step that begins
abbrev pub step_line : ℕ → Step → List ℕ
step_line index step = number_after (codes "step ") index ++ codes " " ++ text_of_step step
