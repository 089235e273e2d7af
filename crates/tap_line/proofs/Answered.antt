-- what reading a text answers, if memory isn't refused
use Rattle.std.proofs.Common.{◌≡◌, ◌≢◌, ◌↔◌, ℕ, Bool, List, None, Some, IfOk, Result, Ok, Err, refl, ap, sym, ◌∙◌}
use Rattle.tap_name.specs.Settings.{AreWithinLimits, SettingsValue}
use Rattle.tap_line.specs.declared.fault.LineFault.{LineFault}
use Rattle.tap_line.specs.declared.fault.LineFault.TheVariants.{NoLine, NoMemory}
use Rattle.tap_line.specs.declared.line.Line.{Line}
use Rattle.tap_line.specs.Line.{IsLine, text_of_line}
use Rattle.tap_line.specs.Reading.{line_of_text}
use Rattle.tap_line.proofs.Exact.{lines_are_read_back}

-- what is answered is the line whose text this is
pub line_answered : (p : SettingsValue) (carrier : Bool) (text : List ℕ) (answer : Result Line LineFault) → AreWithinLimits p
    → IfOk answer (λ found. line_of_text p carrier text ≡ Some found) → (answer ≡ Err NoLine → line_of_text p carrier text ≡ None)
    → answer ≢ Err NoMemory → (it : Line) → (answer ≡ Ok it) ↔ ((text ≡ text_of_line p it) × IsLine p carrier it)
line_answered p carrier text (Ok found) limits ok none told it = (
  λ same. let found_is : Some found ≡ Some it = cc in (lines_are_read_back.any_line p carrier text it limits).0 (ok ∙ found_is),
  λ is.
      let both : Some found ≡ Some it = sym ok ∙ (lines_are_read_back.any_line p carrier text it limits).1 is in
      let same : found ≡ it = cc in
      ap Ok same,
)
line_answered p carrier text (Err NoLine) limits ok none told it = (
  λ same. absurd (cc),
  λ is. let both : None ≡ Some it = sym (none refl) ∙ (lines_are_read_back.any_line p carrier text it limits).1 is in absurd (cc),
)
line_answered p carrier text (Err NoMemory) limits ok none told it = absurd (told refl)
